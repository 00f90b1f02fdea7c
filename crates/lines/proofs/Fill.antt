-- An array that is filled from the front.
use mathlib.Core.Path.{◌≡◌, sym, ◌∙◌}
use mathlib.Core.List.{List, [], ◌∷◌, append_assoc}
use Prim.Native.Nat.{ℕ, zero, suc, ◌+◌, ◌-◌, ◌≤◌, ◌<◌}
use native.Mathlib.Numerals.{add-one}
use native.Mathlib.Nat.{add-zero, add-suc}
use native.Mathlib.Omega.{arith}
use lib.ListN.{get_or, set, get_or-append}
use lib.Seq.{append_snoc, set_at}
use Rattle.exact.specs.Whole.{up_to}
use Rattle.exact.proofs.Sums.{up_length, up_at, up_same}
use Rattle.lines.specs.Line.{filled}

pub filled_same {ℓ} : {A : Type ℓ} (f g : ℕ → A) (d : A) (n total : ℕ) → ((j : ℕ) → j < n → f j ≡ g j) → filled n total f d ≡ filled n total g d
filled_same f g d n total h = rw (up_same f g n h)

module _ {A : Type 0} (f : ℕ → A) (d : A) where
  pub filled_at : (n total j : ℕ) → j < n → f j ≡ get_or (filled n total f d) j d
  filled_at n total j h = sym (get_or-append (up_to f n) _ d j (let e = up_length f n in omega arith) ∙ up_at f d n j h)

  -- one more
  fill_more : (i total : ℕ) → i < total → set (filled i total f d) i (f i) ≡ filled (i + 1) total f d
  unfolding up_to
  fill_more i total h =
      let here : total - i ≡ suc (total - (i + 1)) = omega arith in
      rw (here, add-one i) (set_at (up_to f i) d _ (f i) i (up_length f i) ∙ sym (append_assoc (up_to f i) (f i ∷ []) _))

  pub fill_next : {l : List A} {x : A} (i total : ℕ) → i < total → l ≡ filled i total f d → x ≡ f i → set l i x ≡ filled (i + 1) total f d
  fill_next i total h p q = (λ k. set (p k) i (q k)) ∙ fill_more i total h

  -- k more, where f is d
  fill_blank : (i total : ℕ) → i < total → f i ≡ d → filled i total f d ≡ filled (suc i) total f d
  unfolding up_to
  fill_blank i total h e =
      let here : total - i ≡ suc (total - suc i) = omega arith in
      rw (here, e) (sym (append_snoc (up_to f i) d _))

  pub fill_rest : (n total k : ℕ) → n + k ≤ total → ((j : ℕ) → n ≤ j → f j ≡ d) → filled n total f d ≡ filled (n + k) total f d
  fill_rest n total zero h e = rw add-zero
  fill_rest n total (suc k) h e =
      rw (add-suc n k) (fill_rest n total k (omega arith) e ∙ fill_blank (n + k) total (omega arith) (e (n + k) (omega arith)))
