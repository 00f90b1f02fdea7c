-- The window of three joined days: the last two hours of the day before, then the day's own hours, then those of the day after. Its
-- spread, at the hours of the middle day, marks those that are reached.
use mathlib.Core.Path.{◌≡◌, refl, sym, ◌∙◌, ap}
use mathlib.Core.Bool.{Bool, true}
use Prim.Native.Nat.{ℕ, ◌+◌, ◌-◌, ◌/◌, ◌%◌, ◌^◌, ◌<◌, ◌≤◌}
use native.Mathlib.Omega.{arith}
use lib.Bits.{bit_and, bit_or}
use Rattle.tariff.specs.declared.MarkedDay.{MarkedDay}
use Rattle.tariff.specs.Sheet.{LONGEST_DAY}
use Rattle.tariff.specs.Eligible.{marked, reaches, joined, reached}
use Rattle.marks.specs.Word.{word}
use Rattle.marks.specs.Alone.{marked_near}
use Rattle.marks.proofs.Marked.{marked_cut, cut_inside, marked_earlier}
use Rattle.marks.proofs.Rows.{marked_word, masked}
use Rattle.marks.proofs.Some.{agree}
use Rattle.marks.proofs.Near.{near_by, near_from}
use Rattle.marks.proofs.Spread.{later, later_has, later_from, earlier_has, in_first, in_second, in_either}
use Rattle.marks.proofs.Joined.{hours_of_all, of_before, of_own, of_after, by_day, reached_by, reached_from}

-- as the code joins the rows of days of which the first has l hours and the second n
abbrev pub window : (l b n o a : ℕ) → ℕ
window l b n o a = bit_or (bit_or (later 2 b / 2 ^ l) (later 2 o)) (later (n + 2) a)

-- a word for each day, which marks the hours whose marks reach
module _ (before own after : MarkedDay) (b o a : ℕ) (last : before.hours ≤ LONGEST_DAY) (hours : own.hours ≤ LONGEST_DAY)
    (of_b : (h : ℕ) → marked b h ≡ reaches before.marks h) (of_o : (h : ℕ) → marked o h ≡ reaches own.marks h) (of_a : (h : ℕ) → marked a h ≡ reaches after.marks h) where
  abbrev l : ℕ
  l = before.hours

  abbrev n : ℕ
  n = own.hours

  abbrev x : ℕ
  x = after.hours

  abbrev days : ℕ → Bool
  days = joined before own after

  -- the three parts of the window, each cut to its day
  abbrev early : ℕ
  early = later 2 (b % 2 ^ l) / 2 ^ l

  abbrev mid : ℕ
  mid = later 2 (o % 2 ^ n)

  abbrev late : ℕ
  late = later (n + 2) (a % 2 ^ x)

  abbrev cut : ℕ
  cut = bit_or (bit_or early mid) late

  -- hour k of the days stands at bit k + 2 - l of the window
  window_has : (k g : ℕ) → k + 2 ≡ g + l → g < n + 4 → k < hours_of_all before own after → days k ≡ true → marked cut g ≡ true
  window_has k g e v u d =
      by_day before own after k u
      (λ w. in_first g (bit_or early mid) late (in_first g early mid
      (earlier_has (later 2 (b % 2 ^ l)) g l (l + g) refl
      (later_has (b % 2 ^ l) (l + g) (omega arith) 2 k (omega arith)
      (marked_cut b l k w ∙ of_b k ∙ sym (of_before before own after k w) ∙ d)))))
      (λ j f w. in_first g (bit_or early mid) late (in_second g early mid
      (later_has (o % 2 ^ n) g (omega arith) 2 j (omega arith)
      (marked_cut o n j w ∙ of_o j ∙ sym (of_own before own after k j f w) ∙ d))))
      (λ j f w. in_second g (bit_or early mid) late
      (later_has (a % 2 ^ x) g (omega arith) (n + 2) j (omega arith)
      (marked_cut a x j w ∙ of_a j ∙ sym (of_after before own after k j f) ∙ d)))

  module _ {P : Type 0} (g : ℕ) (v : g < n + 4) (found : (k : ℕ) → k + 2 ≡ g + l → k < hours_of_all before own after → days k ≡ true → P) where
    from_before_lem : marked early g ≡ true → P
    from_before_lem e =
        let d = sym (marked_earlier (later 2 (b % 2 ^ l)) l g) ∙ e in
        let r = later_from (b % 2 ^ l) (l + g) (cut_inside _ 32 (l + g) d) 2 d in
        let w = cut_inside b l (l + g - 2) r.1 in
        found (l + g - 2) (omega arith) (omega arith)
        (of_before before own after (l + g - 2) w ∙ sym (of_b (l + g - 2)) ∙ sym (marked_cut b l (l + g - 2) w) ∙ r.1)

    from_own : marked mid g ≡ true → P
    from_own e =
        let r = later_from (o % 2 ^ n) g (omega arith) 2 e in
        let w = cut_inside o n (g - 2) r.1 in
        found (l + (g - 2)) (omega arith) (omega arith)
        (of_own before own after (l + (g - 2)) (g - 2) refl w ∙ sym (of_o (g - 2)) ∙ sym (marked_cut o n (g - 2) w) ∙ r.1)

    from_after_lem : marked late g ≡ true → P
    from_after_lem e =
        let r = later_from (a % 2 ^ x) g (omega arith) (n + 2) e in
        let j = g - (n + 2) in
        let w = cut_inside a x j r.1 in
        found (l + n + j) (omega arith) (omega arith)
        (of_after before own after (l + n + j) j refl ∙ sym (of_a j) ∙ sym (marked_cut a x j w) ∙ r.1)

    window_from : marked cut g ≡ true → P
    window_from e = in_either g (bit_or early mid) late e (λ d. in_either g early mid d from_before_lem from_own) from_after_lem

  window_at : (h : ℕ) → h < n → marked_near (n + 4) cut (2 + h) ≡ reached before own after h
  window_at h u = agree _ _ out back
    where
      out : marked_near (n + 4) cut (2 + h) ≡ true → reached before own after h ≡ true
      out e =
          near_from (marked cut) (n + 4) (2 + h) e
          (λ g v d above below. window_from g v (λ k f w t. reached_by before own after h k w t (omega arith) (omega arith)) d)

      back : reached before own after h ≡ true → marked_near (n + 4) cut (2 + h) ≡ true
      back e =
          reached_from before own after h e
          (λ k w t above below.
          let g = k + 2 - l in
          near_by (marked cut) (n + 4) (2 + h) g (omega arith) (window_has k g (omega arith) (omega arith) w t) (omega arith) (omega arith))

  -- as the code has it, with its masks
  pub window_word : {early mid late day s : ℕ} → early ≡ b % 2 ^ l → mid ≡ o % 2 ^ n → late ≡ a % 2 ^ x → day ≡ 2 ^ n - 1
      → s ≡ word (n + 4) (marked_near (n + 4) (window l early n mid late))
      → bit_and (s / 2 ^ 2) day ≡ word n (reached before own after)
  window_word {s = s} cut_b cut_o cut_a mask e =
      ap (bit_and (s / 2 ^ 2)) mask
      ∙ masked (s / 2 ^ 2) n (reached before own after)
      (λ h u.
      marked_earlier s 2 h
      ∙ ap (λ (y : ℕ). marked y (2 + h)) (e ∙ (λ i. word (n + 4) (marked_near (n + 4) (window l (cut_b i) n (cut_o i) (cut_a i)))))
      ∙ marked_word (marked_near (n + 4) cut) (n + 4) (2 + h) (omega arith)
      ∙ window_at h u)
