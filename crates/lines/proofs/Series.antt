-- The lines of a block, read one after the other into an array: what each way out of a turn of the loop says of all of them.
use Rattle.text.specs.Text.{Next}
use mathlib.Core.Path.{◌≡◌, refl, sym, ◌∙◌, ap}
use mathlib.Core.Bool.{true, false}
use mathlib.Core.List.{List}
use Prim.Native.Nat.{ℕ, zero, suc, ◌+◌, ◌-◌, ◌<◌, ◌≤◌}
use native.Mathlib.Numerals.{add-one}
use native.Mathlib.Nat.{add-zero, add-suc}
use native.Mathlib.Omega.{arith}
use lib.ListN.{set, replicate}
use Rattle.std.specs.Prelude.{if◌then◌else◌, None, Some}
use Rattle.exact.specs.Whole.{up_to}
use Rattle.exact.proofs.Apart.{impossible}
use Rattle.exact.proofs.Parts.{by_test}
use Rattle.lines.specs.Line.{closes, filled}
use Rattle.lines.specs.Series.{series_place, series_from, series_in, Series, line_count, broken_line, series_after, series_at}
use Rattle.lines.proofs.Fill.{fill_next}

-- ---- each line, from its place
module _ (line : List ℕ → ℕ → Next) (s : List ℕ) (from : ℕ) where
  pub place_first : series_place line s from 0 ≡ Some from
  unfolding series_place
  place_first = refl

  module _ (i at : ℕ) (p : series_place line s from i ≡ Some at) where
    pub place_next : series_place line s from (i + 1) ≡ line s at
    unfolding series_place
    place_next = rw (add-one i, p)

    pub place_said : {A : Type 0} (say : List ℕ → ℕ → A) (blank : A) → series_in line say blank s from i ≡ say s at
    unfolding series_in
    place_said say blank = ap (series_from say blank s) p

  -- behind a line that is not there is none
  pub series_wrong : (i d : ℕ) → series_place line s from i ≡ None → series_place line s from (i + d) ≡ None
  unfolding series_place
  series_wrong i zero e = rw add-zero e
  series_wrong i (suc d) e = rw (add-suc i d, series_wrong i d e)

-- ---- one turn

module _ (line : List ℕ → ℕ → Next) (before : ℕ) (s : List ℕ) (at i : ℕ) where
  closed : (left : ℕ) → closes s at ≡ true → series_at line before left s at i ≡ line_count i
  unfolding series_at
  closed zero e = rw e
  closed (suc left) e = rw (e, series_at)

  module _ (e : closes s at ≡ false) where
    many : series_at line before 0 s at i ≡ broken_line (i + before)
    unfolding series_at
    many = rw e

    broken : (left : ℕ) → line s at ≡ None → series_at line before (suc left) s at i ≡ broken_line (i + before)
    unfolding series_at
    broken left f = rw (e, series_at, f)

    goes_on : (left next : ℕ) → line s at ≡ Some next → series_at line before (suc left) s at i ≡ series_at line before left s next (i + 1)
    unfolding series_at
    goes_on left next f = rw (e, series_at, f)

-- ---- what is found of lines from a place on: up to `most` of them one behind the other, where the block closes; or a line not as printed

module _ (line : List ℕ → ℕ → Next) (first_line most : ℕ) (s : List ℕ) (from : ℕ) where
  pub data Found : Series → Type 0 where
    all : (n end : ℕ) → n ≤ most → series_place line s from n ≡ Some end → closes s end ≡ true → Found (line_count n)
    broken_at : (i : ℕ) → Found (broken_line (i + first_line))

  series_from_lem : (left at i : ℕ) → i + left ≤ most → series_place line s from i ≡ Some at → Found (series_at line first_line left s at i)
  unfolding series_at
  series_from_lem zero at i u p =
      by_test (closes s at) (λ b. Found (if b then line_count i else broken_line (i + first_line))) (λ c. all i at (omega arith) p c) (λ c. broken_at i)
  series_from_lem (suc left) at i u p =
      let rest : ℕ → Series = λ next. series_at line first_line left s next (i + 1) in
      by_test (closes s at) (λ b. Found (if b then line_count i else series_after (line s at) (i + first_line) rest))
      (λ c. all i at (omega arith) p c)
      (λ c. go rest (λ next e. series_from_lem left next (i + 1) (omega arith) (place_next line s from i at p ∙ e)) (line s at) refl)
    where
      go : (rest : ℕ → Series) → ((next : ℕ) → line s at ≡ Some next → Found (rest next)) → (a : Next) → line s at ≡ a
          → Found (series_after a (i + first_line) rest)
      go rest later (Some next) e = later next e
      go rest later None e = broken_at i

  pub series_found : Found (series_at line first_line most s from 0)
  series_found = series_from_lem most from 0 (omega arith) (place_first line s from)

  -- no more are counted than are looked for
  pub series_few : (n : ℕ) → series_at line first_line most s from 0 ≡ line_count n → n ≤ most
  series_few n = go series_found
    where
      go : {r : Series} → Found r → r ≡ line_count n → n ≤ most
      go (all k end l p c) e = let same : k ≡ n = cc in omega arith
      go (broken_at i) e = impossible cc

  -- lines count from 1
  pub series_line : 0 < first_line → series_at line first_line most s from 0 ≡ broken_line 0 → ⊥
  series_line u = go series_found
    where
      go : {r : Series} → Found r → r ≡ broken_line 0 → ⊥
      go (all n end l p c) e = impossible cc
      go (broken_at i) e = let z : i + first_line ≡ 0 = cc in omega arith

-- ---- the loop

module _ {A : Type 0} (line : List ℕ → ℕ → Next) (before most : ℕ) (say : List ℕ → ℕ → A) (blank : A) (s : List ℕ) (at : ℕ) where
  -- what the code has read after n lines, up to the place i
  pub record ReadTo (array : List A) (i n : ℕ) : Type 0 where
    pub few : n ≤ most
    pub place : series_place line s at n ≡ Some i
    pub rest : series_at line before most s at 0 ≡ series_at line before (most - n) s i n
    pub series : array ≡ filled n most (series_in line say blank s at) blank

  pub series_begin : (v : A) → v ≡ blank → ReadTo (replicate most v) at 0
  unfolding up_to
  series_begin v e =
      let all : most - 0 ≡ most = omega arith in
      record { few = omega arith; place = place_first line s at; rest = rw all; series = rw all (ap (replicate most) e) }

  -- what is found: the lines that are counted, or the first that is not as printed
  abbrev found : Series
  found = series_at line before most s at 0

  module _ (array : List A) (i n : ℕ) (h : ReadTo array i n) where
    pub series_end : closes s i ≡ true → found ≡ line_count n
    series_end e = h.rest ∙ closed line before s i n (most - n) e

    module _ (e : closes s i ≡ false) where
      pub series_over : most ≤ n → found ≡ broken_line (most + before)
      series_over u =
          let all : n ≡ most = let l = h.few in omega arith in
          let none : most - n ≡ 0 = omega arith in
          h.rest ∙ rw (none, all) (many line before s i most e)

      module _ (u : n < most) where
        left_one : most - n ≡ suc (most - (n + 1))
        left_one = omega arith

        pub series_break : line s i ≡ None → found ≡ broken_line (n + before)
        series_break f = h.rest ∙ rw left_one (broken line before s i n e _ f)

        pub series_next : (next : ℕ) (v : A) → line s i ≡ Some next → v ≡ say s i → ReadTo (set array n v) next (n + 1)
        series_next next v f p =
            record {
              few = omega arith;
              place = place_next line s at n i h.place ∙ f;
              rest = h.rest ∙ rw left_one (goes_on line before s i n e _ next f);
              series = fill_next (series_in line say blank s at) blank n most u h.series (p ∙ sym (place_said line s at n i h.place say blank));
            }
