-- The text is cut at its empty lines.
use Rattle.std.specs.Prelude.{if◌then◌else◌, ◌≡◌, refl, Bool, true, false, List, [], ◌∷◌, ℕ, ◌+◌, eqb, drop, None, Some}
use Rattle.text.specs.Text.{LF, bytes, Next}

-- the place behind the first empty line of the bytes t, which begin at place i of a text; `start` says that a line begins there
unfoldable pub empty_in : (start : Bool) → List ℕ → ℕ → Next
empty_in start [] i = None
empty_in start (b ∷ t) i =
    let begun = empty_in true t (i + 1) in
    let inside = empty_in false t (i + 1) in
    if eqb b LF then (if start then Some (i + 1) else begun) else inside

abbrev pub behind_place : Next → List ℕ → List ℕ
behind_place (Some i) s = drop i s
behind_place None s = []

-- what stands behind the first empty line, or nothing
unfoldable pub behind : List ℕ → List ℕ
behind s = behind_place (empty_in true s 0) s

-- ---- examples: an empty line between two lines, at once, and none
between : behind (bytes "hour=7\nda=0 n=0\n\nhour=8\n") ≡ bytes "hour=8\n"
unfolding behind empty_in
between = refl

at_once : behind (bytes "\n\nhour=8\n") ≡ bytes "\nhour=8\n"
unfolding behind empty_in
at_once = refl

no_more : behind (bytes "hour=7\nda=0 n=0\n") ≡ []
unfolding behind empty_in
no_more = refl
