-- The theorems of an import's text: what does not count, what refuses the day and where, what it pays, which bytes are read, and bounded memory.
use mathlib.Core.Path.{◌≡◌, sym, ap, ◌∙◌}
use mathlib.Core.Bool.{true, false}
use mathlib.Core.List.{List, [], ◌∷◌, ◌++◌}
use mathlib.Core.Logic.Iff
use mathlib.Core.Logic.{◌↔◌}
use Prim.Native.Nat.{ℕ, suc, ◌<◌, ◌≤◌}
use native.Mathlib.Omega.{arith}
use lib.IntN.{ℤ, pos}
use lib.Signed.{◌≤ℤ◌}
use lib.ListN.{take}
use Rattle.exact.specs.Whole.{eq_z}
use Rattle.exact.proofs.Sums.{sum_zeros}
use Rattle.tariff.specs.Units.{cents_of}
use Rattle.tariff.specs.Reply.{FORM, RANGE, ORDER, clear, fault, ◌then◌}
use Rattle.tariff.specs.Import.{Spot, outside, in_hour, paid, refused}
use Rattle.tariff.specs.Sheet.{LONGEST_DAY}
use Rattle.tariff.specs.ImportDemand.{FirstRefused}
use Rattle.tariff.proofs.Checks.{then_first, then_second, unless_clear}
use Rattle.tariff.proofs.Imports.{unrefused, first_refused, head_refused, surplus_refused}
use Rattle.lines.specs.Line.{is_at, line_feed}
use Rattle.lines.specs.Pieces.{PIECE, rest_after, first_piece, piece, is_some}
use Rattle.intake.specs.Intake.{kept_of, at_first}
use Rattle.imports.specs.Import.{head_line, head_place, cts_in, hours_in, head_in_range, head_fault, import_body, import_block_at, import_reply}
use Rattle.imports.specs.Demand.{block_in, fault_in, part_in, surplus_in, FirstBroken, Surplus, PaidBy, SameHead, ImportBlocksApart}
use Rattle.imports.proofs.Closing.{decided, piece_decides, closed_or_ended}
use Rattle.imports.proofs.Forms.{block_form, line1, line2, ranges, head_order, from_line1, from_line2, from_ranges, second_first}
use Rattle.imports.proofs.Uncounted.{blocks_alike}
use Rattle.imports.proofs.Heads.{hours_few}
use Rattle.imports.proofs.Replies.{refused_by_lem, paid_by, same_body, same_piece, replies_alike}
use Rattle.imports.proofs.KeptImport.{kept_settled, append_settled}
use Rattle.imports.proofs.Payments.{sum_least, cents_least, block_least, block_nothing}

-- ---- which intervals count

-- An interval that does not count may say anything in its range: two texts, each block of which differs in at most one such interval, of
-- the same length, have one reply. Their first two lines say the same, and bytes follow the last block of both or of neither.
pub uncounted_changes_no_reply :
    (s t : List ℕ)
    → SameHead s t
    → ((k : ℕ) → k < hours_in s → ImportBlocksApart (cts_in s) (block_in s k) (block_in t k))
    → surplus_in s ≡ surplus_in t
    → import_reply s ≡ import_reply t
uncounted_changes_no_reply s t o blocks e = replies_alike s t o each e
  where
    each : (k : ℕ) → k < hours_in s → (fault_in s k ≡ fault_in t k) × (part_in s k ≡ part_in t k)
    each k u = rw (← o.cts, ← o.hours) (blocks_alike (cts_in s) (hours_in s) (block_in s k) (block_in t k) k (blocks k u))

-- ---- what refuses the day

-- Where the first two lines are not refused, the first refused block refuses the day, with its hour; and only it does so with an hour.
pub refused_by_the_first_block :
    (s : List ℕ) (number hour place : ℕ)
    → (import_reply s ≡ refused number (in_hour hour place)) ↔ ((head_fault s ≡ clear) × FirstRefused (fault_in s) (hours_in s) hour number place)
refused_by_the_first_block s number hour place =
    Iff.trans (refused_by_lem s number (in_hour hour place)) (first_refused (head_fault s) (fault_in s) (hours_in s) (surplus_in s) number hour place)

-- It does so whatever follows it: a text whose first two lines have the same fault or none and the same count, and whose blocks are the same
-- up to that one, is refused alike.
pub whatever_follows :
    (s t : List ℕ) (number hour place : ℕ)
    → head_fault s ≡ head_fault t
    → hours_in s ≡ hours_in t
    → ((j : ℕ) → j ≤ hour → piece j (import_body s) ≡ piece j (import_body t))
    → import_reply s ≡ refused number (in_hour hour place)
    → import_reply t ≡ refused number (in_hour hour place)
whatever_follows s t number hour place h n same e =
    let p = (refused_by_the_first_block s number hour place).0 e in
    let f = p.1 in
    (refused_by_the_first_block t number hour place).1 (
      sym h ∙ p.0,
      record { below = rw n at f.below; before = λ j u. sym (blocks j (omega arith)) ∙ f.before j u; refuses = sym (blocks hour (omega arith)) ∙ f.refuses },
    )
  where
    blocks : (j : ℕ) → j ≤ hour → fault_in s j ≡ fault_in t j
    blocks j u = rw (← n) (same_piece (hours_in s) (import_body s) (import_body t) j (same j u))

-- FORM is given with an hour exactly when a line of its block is not as printed, at the first such line, and neither the first two lines
-- nor a block before it is refused.
pub form_exactly_when_broken :
    (s : List ℕ) (hour line : ℕ)
    → (import_reply s ≡ refused FORM (in_hour hour line)) ↔ FirstBroken s hour line
form_exactly_when_broken s hour line =
    let it = refused_by_the_first_block s FORM hour line in
    let form = block_form (hours_in s) (rest_after hour (import_body s)) hour line in (
      λ e. let p = it.0 e in record { head = p.0; below = p.1.below; before = p.1.before; breaks = form.0 p.1.refuses },
      λ b. it.1 (b.head, record { below = b.below; before = b.before; refuses = form.1 b.breaks }),
    )

-- A refusal without an hour, unless it is ORDER, is that of the first two lines; and theirs refuses the day.
pub refused_by_the_head :
    (s : List ℕ) (number place : ℕ)
    → (number ≡ ORDER → ⊥)
    → (import_reply s ≡ refused number (outside place)) ↔ (head_fault s ≡ fault number place)
refused_by_the_head s number place never =
    Iff.trans (refused_by_lem s number (outside place)) (head_refused (head_fault s) (fault_in s) (hours_in s) (surplus_in s) number place never)

-- Theirs is FORM at 1 exactly when line 1 is not as printed; FORM at 2 exactly when line 1 is and no empty line stands behind it; and RANGE
-- at 1 exactly when both are as printed and `import`, `cts` or `hours` is outside its range.
pub head_form_at_1 : (s : List ℕ) → (head_fault s ≡ fault FORM 1) ↔ (is_at (head_line s) ≡ false)
unfolding head_fault
head_form_at_1 s = (λ e. (from_line1 s (then_first (line1 s) (line2 s then ranges s) FORM 1 later e)).0, λ e. rw e)
  where
    later : (line2 s then ranges s) ≡ fault FORM 1 → ⊥
    later e =
        let p = then_second (line2 s) (ranges s) FORM 1 (λ f. let w = (from_line2 s f).2 in omega arith) e in
        let w = (from_ranges s p.1).1 in
        omega arith

pub head_form_at_2 : (s : List ℕ) → (head_fault s ≡ fault FORM 2) ↔ ((is_at (head_line s) ≡ true) × (is_at (head_place s) ≡ false))
unfolding head_fault
head_form_at_2 s = (
  λ e.
      let p = then_second (line1 s) (line2 s then ranges s) FORM 2 (λ f. let w = (from_line1 s f).2 in omega arith) e in
      let q = then_first (line2 s) (ranges s) FORM 2 (λ f. let w = (from_ranges s f).1 in omega arith) p.1 in
      (unless_clear (is_at (head_line s)) FORM 1 p.0, (from_line2 s q).0),
  λ p. rw (p.0, p.1),
)

pub head_range_at_1 : (s : List ℕ) → (head_fault s ≡ fault RANGE 1) ↔ ((is_at (head_place s) ≡ true) × (head_in_range s ≡ false))
unfolding head_fault head_place
head_range_at_1 s = (
  λ e.
      let p = then_second (line1 s) (line2 s then ranges s) RANGE 1 (λ f. let w = (from_line1 s f).1 in omega arith) e in
      let q = then_second (line2 s) (ranges s) RANGE 1 (λ f. let w = (from_line2 s f).1 in omega arith) p.1 in
      (unless_clear (is_at (head_place s)) FORM 2 q.0, (from_ranges s q.1).0),
  λ p. rw (second_first (head_line s) (line_feed s) p.0, p.0, p.1),
)

-- ORDER without an hour, at 0, is given exactly when neither the first two lines nor a block is refused and bytes follow the last block.
pub surplus_exactly_when_bytes_follow : (s : List ℕ) → (import_reply s ≡ refused ORDER (outside 0)) ↔ Surplus s
surplus_exactly_when_bytes_follow s =
    let it = Iff.trans (refused_by_lem s ORDER (outside 0)) (surplus_refused (head_fault s) (fault_in s) (hours_in s) (surplus_in s) (head_order s)) in (
      λ e. let p = it.0 e in record { head = p.0; blocks = p.1; follow = p.2 },
      λ o. it.1 (o.head, o.blocks, o.follow),
    )

-- ---- what the day pays

-- It is paid exactly when nothing refuses it: to the import that line 1 names, the sum of its blocks' parts, which becomes cents once.
pub paid_exactly_when_unrefused : (s : List ℕ) (name g c : ℤ) → (import_reply s ≡ paid name g c) ↔ PaidBy s name g c
paid_exactly_when_unrefused s name g c =
    let it = paid_by s name g c in
    let day = unrefused (head_fault s) (fault_in s) (hours_in s) (surplus_in s) in (
      λ e.
          let p = it.0 e in
          let d = day.0 p.0 in
          record { head = d.0; blocks = d.1; ends = d.2; name = p.1; grains = p.2; cents = p.3 },
      λ o. it.1 (day.1 (o.head, o.blocks, o.ends), o.name, o.grains, o.cents),
    )

-- Neither its sum nor its payment is negative.
pub never_negative : (s : List ℕ) (name g c : ℤ) → import_reply s ≡ paid name g c → (pos 0 ≤ℤ g) × (pos 0 ≤ℤ c)
never_negative s name g c e =
    let o = (paid_exactly_when_unrefused s name g c).0 e in
    (rw o.grains (sum_least (part_in s) (hours_in s) (λ k u. block_least (cts_in s) (block_in s k))), rw o.cents (cents_least g))

-- A CTS import that is not refused is paid 0.
pub cts_pays_nothing :
    (s : List ℕ) (name g c : ℤ)
    → eq_z (cts_in s) (pos 0) ≡ false
    → import_reply s ≡ paid name g c
    → (g ≡ pos 0) × (c ≡ pos 0)
unfolding cents_of
cts_pays_nothing s name g c n e =
    let o = (paid_exactly_when_unrefused s name g c).0 e in
    let none : g ≡ pos 0 = o.grains ∙ sum_zeros (part_in s) (hours_in s) (λ k u. block_nothing (cts_in s) (block_in s k) n) in
    (none, o.cents ∙ ap cents_of none)

-- And it goes through every check: of two texts that differ in their first two lines only, and are neither refused for these nor of days of
-- different length, one is refused as the other is.
pub cts_asks_every_check :
    (s t : List ℕ)
    → head_fault s ≡ clear
    → head_fault t ≡ clear
    → hours_in s ≡ hours_in t
    → import_body s ≡ import_body t
    → (number : ℕ) (spot : Spot)
    → import_reply s ≡ refused number spot
    → import_reply t ≡ refused number spot
cts_asks_every_check s t hs ht hours body number spot e =
    (refused_by_lem t number spot).1 (sym (same_body s t (hs ∙ sym ht) hours body) ∙ (refused_by_lem s number spot).0 e)

-- ---- which bytes are read

-- What stands behind a block's empty line is not read: the block is decided by the bytes up to it.
pub behind_the_close : (s : List ℕ) → import_block_at (first_piece s) 0 ≡ import_block_at s 0
behind_the_close = piece_decides

-- The end of input closes a block as an empty line does.
pub the_end_closes : (front behind : List ℕ) → import_block_at (front ++ (10 ∷ 10 ∷ behind)) 0 ≡ import_block_at (front ++ (10 ∷ [])) 0
the_end_closes = closed_or_ended

-- A block is decided by its first 10,640 bytes: a program that reads no more of a block of any length has its exact answer.
pub first_bytes_decide : (s : List ℕ) → import_block_at (take PIECE s) 0 ≡ import_block_at s 0
first_bytes_decide = decided

-- ---- bounded memory

-- An import is settled alike from what is kept of its text, of any length: the first two lines and each block up to its first 10,640 bytes
-- and its empty line, and at least a byte of what follows, however many pieces more are kept.
pub a_kept_import_is_settled_alike : (pieces : ℕ) (s : List ℕ) → hours_in s < pieces → import_reply (kept_of (at_first pieces) s) ≡ import_reply s
a_kept_import_is_settled_alike = kept_settled

-- So a piece more than the longest day has hours is enough for every text: no day has more.
pub no_day_is_longer : (s : List ℕ) → hours_in s ≤ LONGEST_DAY
no_day_is_longer = hours_few

-- Where a byte stands behind the last block, those that follow it settle nothing: a program may stop reading there.
pub behind_a_surplus_byte_nothing_settles : (s t : List ℕ) → is_some (rest_after (suc (hours_in s)) s) ≡ true → import_reply (s ++ t) ≡ import_reply s
behind_a_surplus_byte_nothing_settles = append_settled
