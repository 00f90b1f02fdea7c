-- A text that comes in parts is squeezed part by part: how far, and what stands of a part.
use Rattle.std.specs.Prelude.{if◌then◌else◌, ◌≡◌, refl, Bool, true, false, ◌&&◌, List, [], ◌∷◌, ◌++◌, ℕ, ◌+◌, ◌-◌, ltb, leb, eqb, replicate}
use Rattle.text.specs.Text.{LF, ZERO, bytes}
use Rattle.text.specs.Number.{is_numeral}
use Rattle.lines.specs.Squeezed.{RUN, squeezed_from}
use Rattle.intake.specs.declared.squeeze.Squeeze.{Squeeze}

-- at its beginning, with so many headers. A text without one stands as it is
abbrev pub squeeze_first : (headers : ℕ) → Squeeze
squeeze_first headers = record { headers = headers; start = true; run = 0 }

abbrev pub squeezed_by : Squeeze → List ℕ → List ℕ
squeezed_by p s = squeezed_from p.headers p.start p.run s

-- ---- byte by byte

-- a header is still to close
abbrev pub in_header : Squeeze → Bool
in_header p = ltb 0 p.headers

-- what stands of the next byte
unfoldable pub standing : Squeeze → ℕ → List ℕ
standing p b = if in_header p && (is_numeral b && leb RUN p.run) then [] else b ∷ []

-- how far the text is then squeezed: an empty line closes a header
unfoldable pub squeeze_next : Squeeze → ℕ → Squeeze
squeeze_next p b =
    if in_header p
    then
    (if p.start && eqb b LF
    then squeeze_first (p.headers - 1)
    else
    (if is_numeral b
    then record { headers = p.headers; start = false; run = (if ltb p.run RUN then p.run + 1 else p.run) }
    else record { headers = p.headers; start = eqb b LF; run = 0 }))
    else p

unfoldable pub squeeze_after : Squeeze → List ℕ → Squeeze
squeeze_after p [] = p
squeeze_after p (b ∷ t) = squeeze_after (squeeze_next p b) t

-- ---- examples

-- behind 30 digits two more stand
run_goes_on : squeezed_by (squeeze_after (squeeze_first 1) (bytes "x1=" ++ replicate 30 ZERO)) (bytes "1234\n") ≡ bytes "12\n"
unfolding squeezed_from squeeze_after squeeze_next
run_goes_on = refl

-- a line feed that begins a part closes the header where a line began
header_closes : squeeze_after (squeeze_after (squeeze_first 1) (bytes "x1=0\n")) (bytes "\nx") ≡ squeeze_first 0
unfolding squeeze_after squeeze_next
header_closes = refl

-- then the next one begins
next_begins : squeeze_after (squeeze_first 3) (bytes "x1=0\n\n") ≡ squeeze_first 2
unfolding squeeze_after squeeze_next
next_begins = refl

-- where nothing is squeezed a long run stands
import_stands : squeezed_by (squeeze_first 0) (replicate 40 ZERO) ≡ replicate 40 ZERO
unfolding squeezed_from
import_stands = refl
