-- The reply to an import's text, by what is found of its day; and two texts whose days are alike.
use mathlib.Core.Path.{◌≡◌, sym, ap, ◌∙◌}
use mathlib.Core.List.{List}
use mathlib.Core.Logic.{◌↔◌}
use Prim.Native.Nat.{ℕ, ◌<◌}
use lib.IntN.{ℤ}
use Rattle.exact.specs.Whole.{sum_to}
use Rattle.exact.proofs.Sums.{sum_same}
use Rattle.tariff.specs.Units.{cents_of}
use Rattle.tariff.specs.Reply.{Finding, clear, fault, put_in}
use Rattle.tariff.specs.Import.{Spot, in_hour, import_day_fault, paid, refused, import_reply_by}
use Rattle.tariff.proofs.Checks.{first_same}
use Rattle.tariff.proofs.Imports.{refused_when, import_rounded_once}
use Rattle.lines.specs.Pieces.{rest_after, piece, is_some}
use Rattle.imports.specs.Import.{name_in, hours_in, head_fault, import_body, ImportBlock, import_block_at, block_verdict, reply_under, import_reply}
use Rattle.imports.specs.Demand.{fault_in, part_in, surplus_in, SameHead}
use Rattle.imports.proofs.Closing.{piece_decides}

module _ (s : List ℕ) where
  abbrev pub day_in : Finding Spot
  day_in = import_day_fault (head_fault s) (fault_in s) (hours_in s) (surplus_in s)

  pub refused_by_lem : (number : ℕ) (spot : Spot) → (import_reply s ≡ refused number spot) ↔ (day_in ≡ fault number spot)
  unfolding import_reply reply_under
  refused_by_lem = refused_when (name_in s) (part_in s) (hours_in s) day_in

  pub paid_by : (who g c : ℤ) → (import_reply s ≡ paid who g c) ↔ ((day_in ≡ clear) × (who ≡ name_in s) × (g ≡ sum_to (part_in s) (hours_in s)) × (c ≡ cents_of g))
  unfolding import_reply reply_under
  paid_by = import_rounded_once (name_in s) (part_in s) (hours_in s) day_in

-- ---- two texts

-- what is found of a day reads no more of the first two lines than their verdict and the count
pub same_body : (s t : List ℕ) → head_fault s ≡ head_fault t → hours_in s ≡ hours_in t → import_body s ≡ import_body t → day_in s ≡ day_in t
same_body s t e h body =
    λ i. import_day_fault (e i) (λ k. block_verdict (h i) (import_block_at (rest_after k (body i)) 0) k) (h i) (is_some (rest_after (h i) (body i)))

-- a block's piece decides its verdict
pub same_piece : (hours : ℕ) (a b : List ℕ) (k : ℕ) → piece k a ≡ piece k b
    → block_verdict hours (import_block_at (rest_after k a) 0) k ≡ block_verdict hours (import_block_at (rest_after k b) 0) k
same_piece hours a b k e =
    ap (λ (block : ImportBlock). block_verdict hours block k)
    (sym (piece_decides (rest_after k a)) ∙ ap (λ (l : List ℕ). import_block_at l 0) e ∙ piece_decides (rest_after k b))

-- the same first two lines, verdicts, parts, and bytes behind the last block or none, have one reply
pub replies_alike :
    (s t : List ℕ)
    → SameHead s t
    → ((k : ℕ) → k < hours_in s → (fault_in s k ≡ fault_in t k) × (part_in s k ≡ part_in t k))
    → surplus_in s ≡ surplus_in t
    → import_reply s ≡ import_reply t
unfolding import_reply reply_under import_day_fault import_reply_by
replies_alike s t o blocks e =
    let faults = first_same (λ k. put_in (in_hour k) (fault_in s k)) (λ k. put_in (in_hour k) (fault_in t k)) (hours_in s) (λ k u. rw (blocks k u).0) in
    let parts = sum_same (part_in s) (part_in t) (hours_in s) (λ k u. (blocks k u).1) in
    rw (o.fault, o.name, e, faults, parts, o.hours)
