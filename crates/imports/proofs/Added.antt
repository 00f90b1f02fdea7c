-- The blocks of an import's day, added up one after the other: what each way out of the loop says of the whole day.
use Rattle.std.specs.Prelude.{Err, Ok}
use mathlib.Core.Path.{◌≡◌, refl, sym, ◌∙◌, ap}
use mathlib.Core.List.{List}
use Prim.Native.Nat.{ℕ, ◌+◌, ◌*◌, ◌<◌, ◌≤◌}
use native.Mathlib.Numerals.{add-one}
use native.Mathlib.Omega.{arith}
use lib.IntN.{ℤ, pos, ◌+ℤ◌}
use lib.ListN.{length, drop}
use Rattle.exact.specs.Whole.{Within, sum_to}
use Rattle.exact.proofs.Range.{within_zero, within_add, within_more}
use Rattle.tariff.specs.declared.Check.{Check}
use Rattle.tariff.specs.declared.Grains.{Grains}
use Rattle.tariff.specs.Units.{cents_of}
use Rattle.tariff.specs.Reply.{ORDER, Finding, Verdict, clear, fault, put_in, number_of, place_of, first_of, Worth}
use Rattle.tariff.specs.Import.{Spot, outside, in_hour, import_day_fault, paid, refused, import_reply_by, worth_by, worth_told}
use Rattle.tariff.proofs.Checks.{never_clear, first_clear, FirstFault, fault_first}
use Rattle.tariff.proofs.ImportGrains.{part_within}
use Rattle.lines.specs.Cut.{behind}
use Rattle.lines.specs.Pieces.{rest_after}
use Rattle.lines.proofs.Pieces.{some_left, none_left}
use Rattle.imports.specs.Import.{ImportBlock, broken, read, import_block_at, block_verdict, block_part, reply_under}
use Rattle.imports.specs.Read.{block_worth, handed_on}

-- ---- what a block is worth

worth_verdict : (v : Verdict) (part : ℤ) → (worth_by v part).0 ≡ v
worth_verdict clear part = refl
worth_verdict (fault number place) part = refl

part_bound : (b : ImportBlock) (cts : ℤ) (hours k : ℕ) → block_verdict hours b k ≡ clear → Within 108000000000000000 (block_part cts b)
part_bound (broken line) cts hours k e = absurd (never_clear e)
part_bound (read h) cts hours k e = part_within cts hours h k e

module _ (cts : ℤ) (hours : ℕ) (s : List ℕ) (at : ℕ) where
  abbrev block : ℕ → ImportBlock
  block k = import_block_at (rest_after k (drop at s)) 0

  abbrev each : ℕ → Finding Spot
  each k = put_in (in_hour k) (block_verdict hours (block k) k)

  -- after k blocks: none is refused, the sum of their parts, and the place behind them
  pub record Added (g : ℤ) (i k : ℕ) : Type 0 where
    pub passed : first_of each k ≡ clear
    pub grains : g ≡ sum_to (λ j. block_part cts (block j)) k
    pub within : Within (108000000000000000 * k) g
    pub rest : drop i s ≡ rest_after k (drop at s)
    pub inside : i ≤ length s

  pub none_added : at ≤ length s → Added (pos 0) at 0
  unfolding first_of sum_to rest_after
  none_added h = record { passed = refl; grains = refl; within = within_zero 0; rest = refl; inside = h }

  module _ (g : ℤ) (i k : ℕ) (o : Added g i k) (a : Worth) (e : worth_told a ≡ block_worth cts hours (import_block_at (drop i s) 0) k) where
    here : worth_told a ≡ block_worth cts hours (block k) k
    here = e ∙ ap (λ (l : List ℕ). block_worth cts hours (import_block_at l 0) k) o.rest

    verdict_here : block_verdict hours (block k) k ≡ (worth_told a).0
    verdict_here = sym (ap (λ (w : Verdict × ℤ). w.0) here ∙ worth_verdict (block_verdict hours (block k) k) (block_part cts (block k)))

    module _ (x : Grains) (q : a ≡ Ok x) where
      clear_here : block_verdict hours (block k) k ≡ clear
      clear_here = verdict_here ∙ ap (λ (w : Worth). (worth_told w).0) q

      part_here : x.0 ≡ block_part cts (block k)
      part_here = sym (ap (λ (w : Worth). (worth_told w).1) q) ∙ ap (λ (w : Verdict × ℤ). w.1) here ∙ rw clear_here

      pub here_within : Within 108000000000000000 x.0
      here_within = rw part_here (part_bound (block k) cts hours k clear_here)

      pub one_added : (next : ℕ) → drop next s ≡ behind (drop i s) → next ≤ length s → Added (g +ℤ x.0) next (k + 1)
      unfolding first_of sum_to rest_after
      one_added next r h =
          record {
            passed = rw (add-one k, o.passed, clear_here);
            grains = rw (add-one k, o.grains, part_here);
            within = within_more (omega arith) (within_add o.within here_within);
            rest = rw (add-one k) (r ∙ ap behind o.rest);
            inside = h;
          }

    -- the first that is refused refuses the day, with its hour
    pub one_refused : (name : ℤ) (check : Check) → k < hours → a ≡ Err check
        → handed_on (worth_told a).0 k ≡ reply_under clear name cts hours (drop at s)
    unfolding reply_under import_reply_by import_day_fault
    one_refused name check l q =
        let told = ap (λ (w : Worth). (worth_told w).0) q in
        let first : FirstFault each hours (number_of check) (in_hour k (place_of check)) =
        record { at = k; below = l; before = first_clear each k o.passed; gives = rw (verdict_here, told) } in
        rw (told, fault_first each hours (number_of check) (in_hour k (place_of check)) first)

  -- none is refused: bytes that follow them are a surplus, and else the day is paid
  module _ (g : ℤ) (i : ℕ) (o : Added g i hours) (name : ℤ) where
    pub all_surplus : i < length s → refused ORDER (outside 0) ≡ reply_under clear name cts hours (drop at s)
    unfolding reply_under import_reply_by import_day_fault
    all_surplus h = rw (← o.rest, some_left s i h, o.passed)

    pub all_paid : (c : ℤ) → length s ≤ i → c ≡ cents_of g → paid name g c ≡ reply_under clear name cts hours (drop at s)
    unfolding reply_under import_reply_by import_day_fault
    all_paid c h e = rw (← o.rest, none_left s i h, o.passed, e, o.grains)
