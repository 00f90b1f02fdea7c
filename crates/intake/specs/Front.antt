-- The front of a sheet that is only judged and passed on: what came of it is squeezed, and all of it stands. A header that is not refused has no long
-- run of digits, so that nothing of such a sheet is left out.
use Rattle.std.specs.Prelude.{◌≡◌, false, List, ℕ, ◌≤◌, take}
use Rattle.lines.specs.Pieces.{PIECE}
use Rattle.lines.specs.Squeezed.{squeezed}
use Rattle.intake.specs.declared.Part.{Part}
use Rattle.intake.specs.declared.Front.{Front}
use Rattle.intake.specs.declared.squeeze.Squeeze.{Squeeze}
use Rattle.intake.specs.Squeeze.{squeeze_first, squeezed_by, squeeze_after}

-- a part of a text came, perhaps none: it stands squeezed at the front of the row
pub record PartCame (p : Squeeze) (last : List ℕ) (r : Part) : Type 0 where
  pub part : List ℕ
  pub holds : take r.n last ≡ squeezed_by p part
  pub state : r.squeezed ≡ squeeze_after p part

-- the part of a text that came decides its header: that has closed, or so many bytes of it stand
pub data Decides (text : List ℕ) (n : ℕ) : Type 0 where
  closed : (squeeze_after (squeeze_first 1) text).headers ≡ 0 → Decides text n
  long : PIECE ≤ n → Decides text n

-- some text came: it stands squeezed, and decides its header where the input's end was not met
pub record FrontTaken (last : List ℕ) (r : Front) : Type 0 where
  pub text : List ℕ
  pub holds : take r.n last ≡ squeezed 1 text
  pub enough : r.ended ≡ false → Decides text r.n
