-- A text whose headers, its first pieces, have no long run of digits: of each run the first 32 stand. No number has as many, and no row of a day's
-- marks; where a row may have any number of digits, none of them is read. So it is judged alike, and a header that is as printed has a bounded length.
use Rattle.std.specs.Prelude.{if◌then◌else◌, ◌≡◌, refl, Bool, true, false, ◌&&◌, List, [], ◌∷◌, ◌++◌, ℕ, zero, suc, ltb, eqb, replicate}
use Rattle.text.specs.Text.{LF, ZERO, bytes}
use Rattle.text.specs.Number.{is_numeral}

abbrev pub RUN : ℕ
RUN = 32

-- `headers` says how many are still to close, `start` that a line begins here, and `run` how many digits stand in front. An empty line closes a
-- header, and behind that of the last one a text stands as it is
unfoldable pub squeezed_from : (headers : ℕ) → (start : Bool) → (run : ℕ) → List ℕ → List ℕ
squeezed_from zero start run s = s
squeezed_from (suc n) start run [] = []
squeezed_from (suc n) start run (b ∷ t) =
    if start && eqb b LF
    then b ∷ squeezed_from n true 0 t
    else
    (if is_numeral b
    then (if ltb run RUN then b ∷ squeezed_from (suc n) false (suc run) t else squeezed_from (suc n) false run t)
    else b ∷ squeezed_from (suc n) (eqb b LF) 0 t)

abbrev pub squeezed : (headers : ℕ) → List ℕ → List ℕ
squeezed headers = squeezed_from headers true 0

-- ---- examples

-- a short run stands
short : squeezed 1 (bytes "x1=010\n\n") ≡ bytes "x1=010\n\n"
unfolding squeezed_from
short = refl

-- of 40 zeros 32 do, and the next run begins anew
long : squeezed 1 (bytes "x1=" ++ replicate 40 ZERO ++ bytes "\nx2=7\n") ≡ bytes "x1=" ++ replicate 32 ZERO ++ bytes "\nx2=7\n"
unfolding squeezed_from
long = refl

-- behind the empty line all do
behind : squeezed 1 (bytes "x1=0\n\n" ++ replicate 40 ZERO) ≡ bytes "x1=0\n\n" ++ replicate 40 ZERO
unfolding squeezed_from
behind = refl

-- of two headers the second is squeezed as the first is, and behind its empty line all stand
two : squeezed 2 (bytes "x1=0\n\nx1=" ++ replicate 40 ZERO ++ bytes "\n\n" ++ replicate 40 ZERO) ≡ bytes "x1=0\n\nx1=" ++ replicate 32 ZERO ++ bytes "\n\n" ++ replicate 40 ZERO
unfolding squeezed_from
two = refl

-- one that is lacking is an empty line alone
lacking : squeezed 2 (bytes "\nx1=" ++ replicate 40 ZERO ++ bytes "\n\n" ++ replicate 40 ZERO) ≡ bytes "\nx1=" ++ replicate 32 ZERO ++ bytes "\n\n" ++ replicate 40 ZERO
unfolding squeezed_from
lacking = refl
