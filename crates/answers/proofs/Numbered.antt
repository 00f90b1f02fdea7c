-- Numbered lines, one more at a time.
use mathlib.Core.Path.{◌≡◌, refl, sym, ◌∙◌, ap}
use mathlib.Core.List.{List, [], ◌∷◌, ◌++◌, append_assoc, append-nil}
use Prim.Native.Nat.{ℕ, zero, suc, ◌+◌, ◌<◌}
use native.Mathlib.Numerals.{add-one}
use native.Mathlib.Omega.{arith}
use lib.IntN.{ℤ, pos}
use lib.ListN.{length, get_or, take}
use Rattle.std.proofs.lemmas.List.{take_min, take_all}
use Rattle.tariff.specs.declared.Answer.{Answer}
use Rattle.tariff.specs.declared.Answer.TheVariants.{Paid}
use Rattle.tariff.proofs.HourAnswers.{told_at_lem, told_length}
use Rattle.tariff.specs.Reply.{Reply, told}
use Rattle.tariff.specs.Total.{told_all}
use Rattle.answers.specs.Answers.{numbered, interval_line, hour_line}

module _ {A : Type 0} (line : ℕ → A → List ℕ) where
  pub numbered_none : (k : ℕ) → numbered line k [] ≡ []
  unfolding numbered
  numbered_none k = refl

  pub numbered_more : (k i m : ℕ) (l : List A) (d : A) → m ≡ k + i → i < length l → numbered line k (take (i + 1) l) ≡ numbered line k (take i l) ++ line m (get_or l i d)
  unfolding numbered
  numbered_more k i m [] d e h = absurd (omega arith)
  numbered_more k zero m (x ∷ l) d e h = append-nil (line k x) ∙ ap (λ (n : ℕ). line n x) (omega arith)
  numbered_more k (suc i) m (x ∷ l) d e h =
      ap (λ (n : ℕ). numbered line k (take n (x ∷ l))) (add-one (suc i))
      ∙ ap (λ (n : ℕ). line k x ++ numbered line (suc k) (take n l)) (sym (add-one i))
      ∙ ap (λ (t : List ℕ). line k x ++ t) (numbered_more (suc k) i m l d (omega arith) (omega arith))
      ∙ sym (append_assoc (line k x) (numbered line (suc k) (take i l)) (line m (get_or l i d)))

pub intervals_more : (i : ℕ) (l : List ℤ) → i < length l → numbered interval_line 1 (take (i + 1) l) ≡ numbered interval_line 1 (take i l) ++ interval_line (i + 1) (get_or l i (pos 0))
intervals_more i l h = numbered_more interval_line 1 i (i + 1) l (pos 0) (omega arith) h

-- ---- the hours of a day, as they are told

-- past the last hour
abbrev none : Answer
none = Paid (record { 0 = pos 0 }) (record { 0 = pos 0 })

pub told_none : told_all [] ≡ []
unfolding told_all
told_none = refl

pub told_front : (n : ℕ) (l : List Answer) → take n (told_all l) ≡ told_all (take n l)
unfolding told_all
told_front zero l = refl
told_front (suc n) [] = refl
told_front (suc n) (x ∷ l) = ap {B = List Reply} (λ r. told x ∷ r) (told_front n l)

pub hours_more : (k : ℕ) (l : List Answer) → k < length l → numbered hour_line 0 (told_all (take (k + 1) l)) ≡ numbered hour_line 0 (told_all (take k l)) ++ hour_line k (told (get_or l k none))
hours_more k l h =
    ap (numbered hour_line 0) (sym (told_front (k + 1) l))
    ∙ numbered_more hour_line 0 k k (told_all l) (told none) (omega arith) (omega (arith, told_length l (length l) refl))
    ∙ ap (λ (a : Reply). numbered hour_line 0 (take k (told_all l)) ++ hour_line k a) (told_at_lem l k none h)
    ∙ ap (λ (r : List Reply). numbered hour_line 0 r ++ hour_line k (told (get_or l k none))) (told_front k l)

pub ruleset numbers = (numbered_none, intervals_more, told_none, told_front, hours_more, take_min, take_all)
