-- A text that is taken in past so many pieces has a byte behind them.
use mathlib.Core.Path.{◌≡◌, refl, sym, ◌∙◌, ap}
use mathlib.Core.Bool.{Bool, true}
use mathlib.Core.List.{List, [], ◌∷◌}
use Prim.Native.Nat.{ℕ, zero, suc, ◌+◌, ◌-◌, ◌<◌, min}
use native.Mathlib.Omega.{arith}
use Rattle.std.proofs.lemmas.Grind.{common_steps}
use Rattle.lines.specs.Pieces.{rest_after, is_some}
use Rattle.lines.proofs.Behind.{behind_in, behind_is}
use Rattle.lines.proofs.Pieces.{rest_behind}
use Rattle.intake.specs.declared.Intake.{Intake}
use Rattle.intake.specs.Intake.{after, kept, after_all, at_first, goes_past}

-- of `left` pieces more than m are closed, or m and a byte of the next is taken in
abbrev Past : (left m : ℕ) → Intake → Type 0
Past left m j = m < left - j.left + min 1 j.run

is_past : (i : Intake) (pieces needed : ℕ) → goes_past i pieces needed ≡ true → Past pieces needed i
unfolding goes_past
is_past i pieces needed e = grind (arith, common_steps)

-- what stands behind m pieces, in the first of which a line begins here or not
abbrev rest_from : (start : Bool) → (m : ℕ) → List ℕ → List ℕ
rest_from start zero s = s
rest_from start (suc m) s = rest_after m (behind_in start s)

rest_from_lem : (m : ℕ) (s : List ℕ) → rest_from true m s ≡ rest_after m s
unfolding rest_after
rest_from_lem zero s = refl
rest_from_lem (suc m) s = ap (rest_after m) (sym (behind_is s)) ∙ rest_behind m s

module _ (store : List ℕ) where
  past_from : (s : List ℕ) (i : Intake) (m : ℕ) → (m ≡ 0 → i.run ≡ 0) → Past i.left m (after_all store i s) → is_some (rest_from i.start m s) ≡ true
  unfolding after_all behind_in after kept
  past_from [] i zero none = λ u. let r = none refl in absurd (let z : ⊥ = omega arith in z)
  past_from [] i (suc m) none = λ u. absurd (let z : ⊥ = omega arith in z)
  past_from (b ∷ t) i zero none = λ u. refl
  past_from (b ∷ t) i (suc m) none = λ u.
      let on = past_from t (after i b) (suc m) in
      let shut = past_from t (after i b) m in
      grind (arith, common_steps, rest_from_lem m t)

  pub past_some : (pieces needed : ℕ) (s : List ℕ) → goes_past (after_all store (at_first pieces) s) pieces needed ≡ true → is_some (rest_after needed s) ≡ true
  past_some pieces needed s e =
      ap is_some (sym (rest_from_lem needed s))
      ∙ past_from s (at_first pieces) needed (λ z. refl) (is_past (after_all store (at_first pieces) s) pieces needed e)
