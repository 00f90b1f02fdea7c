-- What "no two different replies satisfy a contract" says of a contract, and the law that shows it of one that says what its reply is.
use mathlib.Core.Path.{◌≡◌, sym, ◌∙◌}

pub one : {A : Type 0} {d : A} (x y : A) → x ≡ d → y ≡ d → x ≡ y
one x y p q = p ∙ sym q

-- A function's contract, the `Post` of its `Reads`, is a claim of its arguments, its reply and its parameters at exit.
module _ {K : Type 0} {A R E : K → Type 0} where
  abbrev pub OneReply : ((κ : K) → A κ → R κ → E κ → Type 0) → Type 0
  OneReply Post = (κ : K) (a : A κ) (r s : R κ) (u v : E κ) → Post κ a r u → Post κ a s v → r ≡ s

  -- the same of what is lent: `state` is its state at exit
  abbrev pub OneState : {L : Type 0} → ((κ : K) → E κ → L) → ((κ : K) → A κ → R κ → E κ → Type 0) → Type 0
  OneState state Post = (κ : K) (a : A κ) (r s : R κ) (u v : E κ) → Post κ a r u → Post κ a s v → state κ u ≡ state κ v
