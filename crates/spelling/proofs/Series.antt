-- The lines of a block that are all alike: those that are counted are spelt as they are printed, where each is.
use Rattle.text.specs.Text.{Next}
use Rattle.std.specs.Prelude.{None, Some}
use mathlib.Core.Path.{◌≡◌, refl}
use mathlib.Core.List.{List, [], ◌++◌}
use Prim.Native.Nat.{ℕ, zero, suc, ◌≤◌, ◌<◌}
use native.Mathlib.Omega.{arith}
use lib.ListN.{get_or}
use Rattle.lines.specs.Line.{and_then, filled}
use Rattle.lines.specs.Series.{series_place, series_in}
use Rattle.lines.proofs.Along.{never_at}
use Rattle.lines.proofs.Fill.{filled_at}
use Rattle.lines.proofs.Series.{place_said}
use Rattle.spelling.specs.Spelt.{Spelt}
use Rattle.spelling.proofs.Places.{none_spelt, both_spelt}

-- `text` is the printed text of what a row says
module _ {A : Type 0} (line : List ℕ → ℕ → Next) (say : List ℕ → ℕ → A) (blank : A) (text : A → List ℕ) (s : List ℕ) (from : ℕ)
    (spelt : (at next : ℕ) → line s at ≡ Some next → Spelt s at (text (say s at)) next) where
  -- n lines in an array that is filled with them, and the text of the first m
  module _ (n most : ℕ) (texts : ℕ → List ℕ) (none : texts 0 ≡ [])
      (more : (m : ℕ) → texts (suc m) ≡ texts m ++ text (get_or (filled n most (series_in line say blank s from) blank) m blank)) where
    series_more : (m end : ℕ) (a : Next) → m < n → series_place line s from m ≡ a → ((at : ℕ) → series_place line s from m ≡ Some at → Spelt s from (texts m) at)
        → and_then a (line s) ≡ Some end → Spelt s from (texts (suc m)) end
    series_more m end (Some at) l p before e =
        rw (more m, ← filled_at (series_in line say blank s from) blank n most m l, place_said line s from m at p say blank) (both_spelt (before at p) (spelt at end e))
    series_more m end None l p before e = absurd (never_at e)

    pub series_spelt : (m end : ℕ) → m ≤ n → series_place line s from m ≡ Some end → Spelt s from (texts m) end
    unfolding series_place
    series_spelt zero end l = λ e. rw none (none_spelt s from end (cc))
    series_spelt (suc m) end l = series_more m end (series_place line s from m) l refl (λ at. series_spelt m at (omega arith))
