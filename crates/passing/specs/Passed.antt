-- What is answered to a sheet that comes on standard input. Which bytes come cannot be said: the answer is that to some text.
use Rattle.std.specs.Prelude.{◌≡◌, Bool, true, List, [], ◌++◌, ℕ}
use Rattle.tariff.specs.Reply.{shown, Found}
use Rattle.archive.specs.declared.Way.{Way}
use Rattle.archive.specs.Move.{move_fault}

-- a text came and the input ended or not: the answer is that to every sheet that begins so, and where the input ended to that text
pub record Passed (way : Way) (r : Found) : Type 0 where
  pub text : List ℕ
  pub ended : Bool
  pub found : (rest : List ℕ) → (ended ≡ true → rest ≡ []) → shown r ≡ move_fault way (text ++ rest)
