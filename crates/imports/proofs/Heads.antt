-- The first two lines of an import: what the code tells of them, that the place behind them is in the text, and the reply under them.
use Rattle.text.specs.Text.{Next}
use Rattle.std.specs.Prelude.{Bool, ◌&&◌, if◌then◌else◌, None, Some, Result, Ok, Err}
use mathlib.Core.Path.{◌≡◌, refl, sym, ◌∙◌, ap}
use mathlib.Core.Bool.{true, false}
use mathlib.Core.List.{List}
use Prim.Native.Nat.{ℕ, ◌≤◌}
use lib.IntN.{ℤ, pos}
use lib.ListN.{length, drop}
use Rattle.exact.proofs.Apart.{impossible}
use Rattle.exact.proofs.Unique.{one}
use Rattle.tariff.specs.declared.Check.{Check}
use Rattle.tariff.specs.Reply.{FORM, RANGE, Found, clear, fault, ◌then◌}
use Rattle.tariff.specs.Import.{outside, import_day_fault, ImportReply, refused, import_reply_by}
use Rattle.tariff.specs.Sheet.{USUAL_DAY, LONGEST_DAY, hours_by, is_count, is_mark, is_name}
use Rattle.tariff.proofs.Counts as counts
use Rattle.tariff.proofs.Demands.{one_finding}
use Rattle.keys.specs.Keys.{IMPORT}
use Rattle.lines.specs.Line.{is_at, place_in, value_in, line_feed, line_at}
use Rattle.lines.proofs.Along.{never_at}
use Rattle.lines.proofs.Ended.{feed_inside}
use Rattle.imports.specs.declared.head.FirstLine.{FirstLine}
use Rattle.imports.specs.declared.head.Head.{Head}
use Rattle.imports.specs.Import.{head_line, head_place, name_in, cts_in, count_in, hours_in, head_in_range, head_fault, reply_under, import_reply}
use Rattle.imports.specs.Read.{line_by, line_read, HeadSaid, HeadRead}

-- what line 1 says, and where it ends
record LineSaid (s : List ℕ) (l : FirstLine) : Type 0 where
  place : head_line s ≡ Some l.next
  name : l.name ≡ name_in s
  cts : l.cts ≡ cts_in s
  count : l.count ≡ count_in s

module _ (s : List ℕ) where
  -- ---- line 1 with its third pair, and without

  pub line_long : {next : ℕ} → line_at IMPORT 3 s 0 ≡ Some next
      → Some (record { name = name_in s; cts = cts_in s; count = value_in IMPORT s 0 2; next = next }) ≡ line_read s
  unfolding count_in
  line_long {next} e = rw (e, e)

  pub line_short : line_at IMPORT 3 s 0 ≡ None → line_by (line_at IMPORT 2 s 0) (name_in s) (cts_in s) (pos USUAL_DAY) ≡ line_read s
  unfolding count_in
  line_short e = rw e

  -- ---- both lines

  no_line : None ≡ line_read s → head_line s ≡ None
  no_line = go (head_line s)
    where
      go : (a : Next) → None ≡ line_by a (name_in s) (cts_in s) (count_in s) → a ≡ None
      go (Some next) e = impossible cc
      go None e = refl

  pub no_line1 : None ≡ line_read s → head_fault s ≡ fault FORM 1
  unfolding head_fault
  no_line1 e = rw (no_line e)

  module _ {l : FirstLine} (e : Some l ≡ line_read s) where
    line_said : LineSaid s l
    line_said = go (head_line s) refl e
      where
        go : (a : Next) → head_line s ≡ a → Some l ≡ line_by a (name_in s) (cts_in s) (count_in s) → LineSaid s l
        go (Some next) q e =
            let same : l ≡ record { name = name_in s; cts = cts_in s; count = count_in s; next = next } = cc in
            record {
              place = q ∙ ap (λ (x : FirstLine). Some x.next) (sym same);
              name = ap (λ (x : FirstLine). x.name) same;
              cts = ap (λ (x : FirstLine). x.cts) same;
              count = ap (λ (x : FirstLine). x.count) same;
            }
        go None q e = impossible cc

    pub no_line2 : line_feed s l.next ≡ None → head_fault s ≡ fault FORM 2
    unfolding head_fault head_place
    no_line2 f = rw (line_said.place, f)

    module _ {next : ℕ} (f : line_feed s l.next ≡ Some next) where
      place_lem : head_place s ≡ Some next
      unfolding head_place
      place_lem = rw (line_said.place, f)

      abbrev lies : Bool
      lies = is_name l.name && is_mark l.cts && is_count l.count

      lies_is : lies ≡ head_in_range s
      lies_is = rw (line_said.name, line_said.cts, line_said.count)

      pub out_of_range : lies ≡ false → head_fault s ≡ fault RANGE 1
      unfolding head_fault
      out_of_range g = rw (line_said.place, place_lem, ← lies_is, g)

      pub head_said : lies ≡ true → {hours : ℕ} → hours ≡ hours_by l.count → HeadSaid s (record { name = l.name; cts = l.cts; hours = hours; next = next })
      unfolding head_fault hours_in
      head_said g h =
          let said = line_said in
          record {
            sound = rw (said.place, place_lem, ← lies_is, g);
            name = said.name;
            cts = said.cts;
            hours = h ∙ ap hours_by said.count;
            next = rw place_lem;
          }

  -- ---- how many hours the day has by line 1, or where it is not as printed

  pub hours_said : {l : FirstLine} → Some l ≡ line_read s → hours_by l.count ≡ hours_in s
  unfolding hours_in
  hours_said e = ap hours_by (line_said e).count

  pub usual_hours : None ≡ line_read s → hours_by (pos USUAL_DAY) ≡ hours_in s
  unfolding hours_in count_in
  usual_hours e = go (line_at IMPORT 3 s 0) refl
    where
      go : (a : Next) → line_at IMPORT 3 s 0 ≡ a → hours_by (pos USUAL_DAY) ≡ hours_by (if is_at (line_at IMPORT 3 s 0) then value_in IMPORT s 0 2 else pos USUAL_DAY)
      go (Some next) q = absurd (never_at (let none = no_line e in sym (rw (q, q) at none)))
      go None q = rw q

-- no two different heads are read of one text
pub one_head : (s : List ℕ) (r t : Result Head Check) → HeadRead s r → HeadRead s t → r ≡ t
one_head s (Ok r) (Ok t) p q =
    let name = one r.name t.name p.name q.name in
    let cts = one r.cts t.cts p.cts q.cts in
    let hours = one r.hours t.hours p.hours q.hours in
    let next = one r.next t.next p.next q.next in
    λ i. Ok (record { name = name i; cts = cts i; hours = hours i; next = next i })
one_head s (Ok r) (Err d) p q = let never = sym p.sound ∙ q in impossible cc
one_head s (Err c) (Ok t) p q = let never = sym q.sound ∙ p in impossible cc
one_head s (Err c) (Err d) p q =
    let found : ◌≡◌ {A = Found} (Err c) (Err d) = one_finding (Err c) (Err d) _ (sym p) (sym q) in
    let same : c ≡ d = cc in
    ap (λ (k : Check). Err k) same

-- ---- the place behind them is in the text

pub head_inside : (s : List ℕ) → place_in (head_place s) ≤ length s
unfolding head_place
head_inside s = feed_inside s (head_line s)

-- ---- no day has more hours than the longest

pub hours_few : (s : List ℕ) → hours_in s ≤ LONGEST_DAY
unfolding hours_in
hours_few s = counts.hours_few (count_in s)

-- ---- the reply under them

module _ (s : List ℕ) where
  pub head_refuses : (number place : ℕ) → head_fault s ≡ fault number place → refused number (outside place) ≡ import_reply s
  unfolding import_reply reply_under import_reply_by import_day_fault
  head_refuses number place e = rw e

  pub head_passes : (name cts : ℤ) (hours next : ℕ) (r : ImportReply) → head_fault s ≡ clear → name ≡ name_in s → cts ≡ cts_in s → hours ≡ hours_in s
      → next ≡ place_in (head_place s) → r ≡ reply_under clear name cts hours (drop next s) → r ≡ import_reply s
  unfolding import_reply
  head_passes name cts hours next r e a b c p q = q ∙ rw (e, a, b, c, p)
