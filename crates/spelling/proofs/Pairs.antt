-- Two numbers that are read are the same exactly in both their parts: what is said, and the place behind it.
use mathlib.Core.Path.{◌≡◌, ap}
use Rattle.std.specs.Prelude.{Option, None, Some}

-- what is read, or `other` where nothing is
abbrev read_or : {A B : Type 0} → A × B → Option (A × B) → A × B
read_or other (Some both) = both
read_or other None = other

module _ {A B : Type 0} {a c : A} {b d : B} (e : ◌≡◌ {A = Option (A × B)} (Some (a, b)) (Some (c, d))) where
  pub same_said : a ≡ c
  same_said = ap (λ (p : A × B). p.0) (ap (read_or (a, b)) e)

  pub same_behind : b ≡ d
  same_behind = ap (λ (p : A × B). p.1) (ap (read_or (a, b)) e)
