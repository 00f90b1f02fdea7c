-- The text of an hour's record is read to that record.
use Rattle.tariff.specs.Units.{MaybeKw}
use Rattle.std.specs.Prelude.{Some, None}
use mathlib.Core.Path.{◌≡◌, refl, ap, ◌∙◌}
use mathlib.Core.Bool.{Bool, true, false}
use mathlib.Core.List.{List, [], ◌∷◌}
use Prim.Native.Nat.{ℕ, zero, suc, ◌+◌, ◌≤◌, ◌<◌}
use native.Mathlib.Decide.{dec_lt}
use native.Mathlib.Numerals.{add-one}
use native.Mathlib.Nat.{add-zero, not-suc-le-zero}
use native.Mathlib.Omega.{arith}
use lib.Dec.{T, leb}
use lib.IntN.{ℤ, pos}
use lib.ListN.{length, get_or}
use Rattle.exact.specs.Whole.{up_to, Within}
use Rattle.exact.proofs.Apart.{impossible}
use Rattle.exact.proofs.Parts.{false-eq_z}
use Rattle.exact.proofs.Range.{within_lit}
use Rattle.exact.proofs.Sums.{up_same}
use Rattle.tariff.specs.declared.Kw.{Kw}
use Rattle.tariff.specs.declared.Interval.{Interval}
use Rattle.tariff.specs.declared.Hour.{Hour}
use Rattle.tariff.specs.Sheet.{is_power, is_capacity, given_in, interval_in_range}
use Rattle.tariff.specs.Hour.{interval}
use Rattle.tariff.proofs.Ranges.{AheadFits, IntervalFits, interval_fits, eop_fits, uol_fits, power_within, capacity_within}
use Rattle.text.specs.Number.{missing}
use Rattle.keys.specs.Keys.{AHEAD, INTERVAL, may_miss}
use Rattle.lines.specs.Line.{value_in, closes}
use Rattle.lines.specs.Series.{series_place, series_in, line_count, series_at}
use Rattle.records.specs.Records.{ahead_of, maybe_of, interval_of}
use Rattle.blocks.specs.Block.{interval_line, interval_said, interval_at}
use Rattle.text.specs.Decimal.{number}
use Rattle.lines.specs.Print.{fields, line}
use Rattle.sheet.specs.Print.{maybe_text, ahead_texts, amount_texts, intervals_text}
use Rattle.lines.proofs.Holds.{Holds, holds_split, after_both, Says, number_said, missing_said}
use Rattle.lines.proofs.Prints.{AllSay, nothing, ◌and◌, say_at, line_said}

-- ---- the numbers of a line, and the record that they make
abbrev maybe_value : MaybeKw → ℤ
maybe_value None = missing
maybe_value (Some k) = k.0

-- what is missing has no range, and what is not, the range of power at most
Small : MaybeKw → Type 0
Small m = (k : Kw) → m ≡ Some k → Within 2000000 k.0

maybe_said : (k : ℕ) → may_miss k ≡ true → (m : MaybeKw) → Small m → Says k (maybe_text m) (maybe_value m)
unfolding Small
maybe_said k may None w = missing_said k may
maybe_said k may (Some z) w = number_said k z.0 (within_lit tt (w z refl))

maybe_back : (m : MaybeKw) → Small m → maybe_of (maybe_value m) ≡ m
unfolding Small
maybe_back None w = refl
maybe_back (Some k) w = let u : Within 2000000 k.0 = w k refl in rw (false-eq_z k.0 missing (λ z. let q = rw z at u in omega arith))

-- both numbers of an interval that may be missing
record Smalls (v : Interval) : Type 0 where
  pub eop : Small v.eop
  pub uol : Small v.uol

smalls : (v : Interval) → interval_in_range v ≡ true → Smalls v
unfolding Small
smalls v e = record { eop = go is_power (λ z. power_within) v.eop (eop_fits v e); uol = go is_capacity (λ z. capacity_within) v.uol (uol_fits v e) }
  where
    go : (in_range : ℤ → Bool) → ((z : ℤ) → in_range z ≡ true → Within 2000000 z) → (m : MaybeKw) → given_in in_range m ≡ true → (k : Kw) → m ≡ Some k → Within 2000000 k.0
    go in_range within None e k q = impossible cc
    go in_range within (Some z) e k q = let same : z ≡ k = cc in rw (← same) (within z.0 e)

abbrev pub ahead_values : Hour → List ℤ
ahead_values h =
    let a = h.ahead in
    h.hour ∷ a.en.0 ∷ a.reg.0 ∷ a.r1.0 ∷ a.r2.0 ∷ a.r3.0 ∷ a.breg.0 ∷ a.b1.0 ∷ a.b2.0 ∷ a.b3.0 ∷ []

abbrev values : Interval → List ℤ
values v =
    v.s.0 ∷ v.en.0 ∷ v.ae.0 ∷ v.co.0 ∷ maybe_value v.eop ∷ v.pen.0 ∷ v.lim.0 ∷ maybe_value v.uol ∷ v.r1.0 ∷ v.r2.0 ∷ v.r3.0
    ∷ v.p1.0 ∷ v.p2.0 ∷ v.p3.0 ∷ v.reg.0 ∷ v.preg.0 ∷ v.breg.0 ∷ v.mv.0 ∷ v.pmv.0 ∷ v.bmv.0 ∷ []

says : {N : ℕ} (k : ℕ) (z : ℤ) → T (leb N 9999999) → Within N z → Says k (number z) z
says k z t w = number_said k z (within_lit t w)

pub ahead_say : (h : Hour) → Within 24 h.hour → AheadFits h.ahead → AllSay AHEAD (ahead_texts h) (ahead_values h)
ahead_say h w f =
    says _ _ tt w and says _ _ tt f.en and says _ _ tt f.reg and says _ _ tt f.r1 and says _ _ tt f.r2 and says _ _ tt f.r3
    and says _ _ tt f.breg and says _ _ tt f.b1 and says _ _ tt f.b2 and says _ _ tt f.b3 and nothing

interval_say : (v : Interval) → IntervalFits v → Smalls v → AllSay INTERVAL (amount_texts v) (values v)
interval_say v f e =
    says _ _ tt f.s and says _ _ tt f.en and says _ _ tt f.ae and says _ _ tt f.co and maybe_said _ refl v.eop e.eop and says _ _ tt f.pen
    and says _ _ tt f.lim and maybe_said _ refl v.uol e.uol and says _ _ tt f.r1 and says _ _ tt f.r2 and says _ _ tt f.r3
    and says _ _ tt f.p1 and says _ _ tt f.p2 and says _ _ tt f.p3 and says _ _ tt f.reg and says _ _ tt f.preg
    and says _ _ tt f.breg and says _ _ tt f.mv and says _ _ tt f.pmv and says _ _ tt f.bmv and nothing

-- a record sees the first numbers only
pub ahead_back : (h : Hour) (f : ℕ → ℤ) → ((j : ℕ) → j < 10 → f j ≡ get_or (ahead_values h) j (pos 0)) → ahead_of f ≡ h.ahead
unfolding up_to
ahead_back h f e = ap (λ (l : List ℤ). ahead_of (λ n. get_or l n (pos 0))) (up_same f (λ j. get_or (ahead_values h) j (pos 0)) 10 e)

interval_back : (v : Interval) (f : ℕ → ℤ) → Smalls v → ((j : ℕ) → j < 20 → f j ≡ get_or (values v) j (pos 0)) → interval_of f ≡ v
unfolding up_to
interval_back v f u e = ap (λ (l : List ℤ). interval_of (λ n. get_or l n (pos 0))) (up_same f (λ j. get_or (values v) j (pos 0)) 20 e) ∙ rw (maybe_back v.eop u.eop, maybe_back v.uol u.uol)

-- ---- interval lines
module _ (h : Hour) (fits : (i : ℕ) → i < h.n → interval_in_range (interval h i) ≡ true) (s : List ℕ) (at : ℕ) where
  abbrev place : ℕ → ℕ
  place n = at + length (intervals_text n h)

  pub record Row (i : ℕ) : Type 0 where
    pub begun : closes s (place i) ≡ false
    pub next : interval_line s (place i) ≡ Some (place (suc i))
    pub same : interval_said s (place i) ≡ interval h i

  row_begun : (v : Interval) (i : ℕ) → Holds s i (line INTERVAL 20 (amount_texts v)) → closes s i ≡ false
  unfolding closes line fields
  row_begun v i o = rw o.0

  row_said : (n : ℕ) → n < h.n → Holds s (place n) (line INTERVAL 20 (amount_texts (interval h n))) → Row n
  unfolding intervals_text
  row_said n l o =
      let v = interval h n in
      let u = smalls v (fits n l) in
      let say = say_at INTERVAL (amount_texts v) (values v) (interval_say v (interval_fits v (fits n l)) u) in
      let r = line_said INTERVAL (amount_texts v) (λ j. get_or (values v) j (pos 0)) s (place n) 20 say (omega arith) o in
      record {
        begun = row_begun v (place n) o;
        next = r.place ∙ ap Some (after_both at (intervals_text n h) (line INTERVAL 20 (amount_texts v)));
        same = interval_back v (value_in INTERVAL s (place n)) u r.values;
      }

  pub series_said : (n : ℕ) → n ≤ h.n → Holds s at (intervals_text n h) → (i : ℕ) → i < n → Row i
  unfolding intervals_text
  series_said zero l o i u = absurd (not-suc-le-zero u)
  series_said (suc n) l o i u = go (series_said n (omega arith) r.0 i) (dec_lt i n)
    where
      r : Holds s at (intervals_text n h) × Holds s (place n) (line INTERVAL 20 (amount_texts (interval h n)))
      r = holds_split s at (intervals_text n h) _ o

      go : (i < n → Row i) → Dec (i < n) → Row i
      go before (yes p) = before p
      go before (no p) = let e : i ≡ n = omega arith in rw e (row_said n l r.1)

  module _ (row : (i : ℕ) → i < h.n → Row i) where
    place_said : (n : ℕ) → n ≤ h.n → series_place interval_line s at n ≡ Some (place n)
    unfolding series_place intervals_text
    place_said zero l = rw add-zero
    place_said (suc n) l = rw (place_said n (omega arith)) (row n l).next

    pub each_said : (i : ℕ) → i < h.n → interval_at s at i ≡ interval h i
    unfolding series_in
    each_said i l = rw (place_said i (omega arith)) (row i l).same

    pub series_counted : (d left i : ℕ) → i + d ≡ h.n → d ≤ left → closes s (place h.n) ≡ true
        → series_at interval_line 4 left s (place i) i ≡ line_count h.n
    unfolding series_at
    series_counted zero zero i e l c = let q : i ≡ h.n = omega arith in rw (q, c)
    series_counted zero (suc left) i e l c = let q : i ≡ h.n = omega arith in rw (q, c)
    series_counted (suc d) zero i e l c = absurd (not-suc-le-zero l)
    series_counted (suc d) (suc left) i e l c =
        let r = row i (omega arith) in
        rw (r.begun, r.next, add-one i) (series_counted d left (suc i) (omega arith) (omega arith) c)
