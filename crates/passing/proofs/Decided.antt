-- The front of a sheet that was taken in decides how its header is judged, whatever follows: it has closed, or enough bytes of it stand.
use mathlib.Core.Path.{◌≡◌, refl, sym, ◌∙◌, ap}
use mathlib.Core.Bool.{Bool, true, false, ◌&&◌}
use mathlib.Core.List.{List, [], ◌∷◌, ◌++◌, append-nil}
use Prim.Native.Nat.{ℕ, ◌+◌}
use native.Mathlib.Omega.{arith}
use lib.Dec.{eqb}
use lib.ListN.{length, take}
use lib.Seq.{take-append-le}
use Rattle.std.specs.Prelude.{if◌then◌else◌, Some}
use Rattle.exact.proofs.Parts.{by_test}
use Rattle.io.specs.Counts.{IsPrefixLen}
use Rattle.tariff.specs.Reply.{shown, Found}
use Rattle.text.specs.Text.{LF}
use Rattle.text.specs.Number.{is_numeral}
use Rattle.lines.specs.Line.{is_at, place_in}
use Rattle.lines.specs.Cut.{empty_in}
use Rattle.lines.specs.Pieces.{PIECE}
use Rattle.lines.specs.Squeezed.{squeezed}
use Rattle.lines.proofs.Behind.{one_byte}
use Rattle.lines.proofs.Squeezed.{no_feed}
use Rattle.header.proofs.HeaderLines.{is_at_lem}
use Rattle.header.proofs.HeaderAlike.{SameHeader, same_turned, same_then}
use Rattle.header.proofs.HeaderAlong.{closed_append}
use Rattle.header.proofs.HeaderLocal.{bytes_header}
use Rattle.header.proofs.HeaderSqueezed.{squeezed_header}
use Rattle.intake.specs.Squeeze.{squeeze_first, squeeze_next, squeeze_after}
use Rattle.intake.specs.declared.Front.{Front}
use Rattle.intake.specs.Front.{Decides, FrontTaken}
use Rattle.intake.specs.Front.Decides.{closed, long}
use Rattle.intake.proofs.Squeezes.{split}
use Rattle.archive.specs.declared.Way.{Way}
use Rattle.archive.specs.Move.{move_fault}
use Rattle.archive.proofs.ByHeader.{same_fault}
use Rattle.passing.specs.Passed.{Passed}

-- ---- a header that has closed has its empty line
has_closed : (s : List ℕ) (start : Bool) (run i : ℕ) → (squeeze_after (record { headers = 1; start = start; run = run }) s).headers ≡ 0 → is_at (empty_in start s i) ≡ true
unfolding squeeze_after squeeze_next
has_closed [] start run i = λ e. absurd (omega (arith, e))
has_closed (b ∷ t) start run i =
    rw (one_byte start b t i)
    (by_test (start && eqb b LF) (λ x. Closes → is_at (if x then Some (i + 1) else empty_in (eqb b LF) t (i + 1)) ≡ true)
    (λ e c. refl)
    (λ on.
    by_test (is_numeral b) (λ x. Closes → is_at (empty_in (eqb b LF) t (i + 1)) ≡ true)
    (λ d c. rw (no_feed b d) (has_closed t false _ (i + 1) (rw (on, d) at c)))
    (λ d c. has_closed t (eqb b LF) 0 (i + 1) (rw (on, d) at c))))
  where
    Closes : Type 0
    Closes = (squeeze_after (squeeze_next (record { headers = 1; start = start; run = run }) b) t).headers ≡ 0

module _ (text rest : List ℕ) where
  pub front_decides : Decides text (length (squeezed 1 text)) → SameHeader (squeezed 1 text) (text ++ rest)
  front_decides (closed e) =
      let found = is_at_lem (empty_in true text 0) (has_closed text true 0 0 e) in
      same_then (squeezed_header 0 text) (same_turned (closed_append text rest (place_in (empty_in true text 0)) found))
  front_decides (long l) =
      let parts = (split text rest (squeeze_first 1)).0 in
      bytes_header 0 (squeezed 1 text) (text ++ rest) (sym (rw parts (take-append-le PIECE (squeezed 1 text) _ l)))

-- ---- so the answer to it is that to every sheet that begins so
pub passed : (way : Way) (last : List ℕ) (r : Front) (found : Found) → IsPrefixLen r.n last → FrontTaken last r → shown found ≡ move_fault way (take r.n last) → Passed way found
passed way last r found counts taken e =
    record {
      text = taken.text;
      ended = r.ended;
      found = λ rest end. e ∙ ap (move_fault way) taken.holds ∙ same_fault way (go r.ended refl rest end);
    }
  where
    long_enough : r.n ≡ length (squeezed 1 taken.text)
    long_enough = counts.1 ∙ ap length taken.holds

    go : (ended : Bool) → r.ended ≡ ended → (rest : List ℕ) → (r.ended ≡ true → rest ≡ []) → SameHeader (squeezed 1 taken.text) (taken.text ++ rest)
    go true is rest end = rw (end is, append-nil taken.text) (squeezed_header 0 taken.text)
    go false is rest end = front_decides taken.text rest (rw long_enough at (taken.enough is))
