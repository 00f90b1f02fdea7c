-- Rows of digits, hour by hour as the code reads them, and runs of digits.
use mathlib.Core.Path.{◌≡◌, sym, ◌∙◌, ap, refl}
use mathlib.Core.Bool.{Bool, true}
use mathlib.Core.List.{List, [], ◌∷◌}
use Prim.Native.Nat.{ℕ, suc, ◌+◌, ◌-◌, ◌≤◌, ◌<◌}
use native.Mathlib.Numerals.{one-add}
use native.Mathlib.Omega.{arith}
use borrow.Author.Tests.{lt-ltb}
use lib.Dec.{ltb}
use lib.ListN.{length, take, drop, length-drop}
use Rattle.std.proofs.lemmas.List.{length-take}
use Rattle.std.specs.Prelude.{if◌then◌else◌, None, Some}
use Rattle.std.specs.Char.{is_ascii_digit}
use Rattle.std.specs.List.{prefix_len, take_while}
use Rattle.std.proofs.lemmas.Bool.Decides.{nat_tests}
use Rattle.exact.proofs.Parts.{by_test}
use Rattle.tariff.specs.Sheet.{all_to}
use Rattle.tariff.proofs.Tests.{all_not, all_none, all_next}
use Rattle.text.specs.Number.{digit_at, digit_said, is_numeral}
use Rattle.text.proofs.Numbers.{not_said, said_is, said_below}
use Rattle.header.specs.Layout.{digits_at, run_of, behind_run}

-- a digit for each hour
module _ (s : List ℕ) (at : ℕ) where
  abbrev pub is_digit : ℕ → Bool
  is_digit h = ltb (digit_at s (at + h)) 10

  pub digit_is : (h i d : ℕ) → i ≡ at + h → Some d ≡ digit_said s i → is_digit h ≡ true
  digit_is h i d p e = let below = said_below s i d e in ap (λ (k : ℕ). ltb (digit_at s k) 10) (sym p) ∙ lt-ltb _ 10 (omega (arith, said_is s i d e))

  pub no_digit : (h hours i : ℕ) → h < hours → i ≡ at + h → None ≡ digit_said s i → digits_at hours s at ≡ None
  unfolding digits_at
  no_digit h hours i u p e = rw (all_not is_digit hours h u (ap (λ (k : ℕ). ltb (digit_at s k) 10) (sym p) ∙ ap (λ (d : ℕ). ltb d 10) (not_said s i e)))

  pub digits_end : (h hours i : ℕ) → h ≡ hours → i ≡ at + h → all_to is_digit h ≡ true → digits_at hours s at ≡ Some i
  unfolding digits_at
  digits_end h hours i same p e = rw (← same, e, p)

pub ruleset digits_steps = (digit_is, no_digit, digits_end, all_none, all_next)

-- a run is the digits in front
numeral_is : (b : ℕ) → is_numeral b ≡ is_ascii_digit b
numeral_is b = grind (arith, nat_tests)

run_is : (t : List ℕ) → length (take_while is_ascii_digit t) ≡ run_of t
unfolding run_of
run_is [] = refl
run_is (b ∷ t) =
    rw (numeral_is b)
    (by_test (is_ascii_digit b)
    (λ (x : Bool). length (take (if x then 1 + prefix_len is_ascii_digit t else 0) (b ∷ t)) ≡ (if x then suc (run_of t) else 0))
    (λ e. rw one-add (ap suc (run_is t)))
    (λ e. refl))

pub run_behind : (s : List ℕ) (at : ℕ) → behind_run s at ≡ Some (at + length (take_while is_ascii_digit (drop at s)))
run_behind s at = ap (λ (n : ℕ). Some (at + n)) (sym (run_is (drop at s)))

-- it ends inside the text, or at a place past its end
pub run_inside : (s : List ℕ) (at : ℕ) → length (take_while is_ascii_digit (drop at s)) ≤ length s - at
run_inside s at = let few = length-take (prefix_len is_ascii_digit (drop at s)) (drop at s) in omega (arith, length-drop at s)
