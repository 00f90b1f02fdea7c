-- How a program is used, and whether it is asked to say so.
use Rattle.std.specs.Prelude.{Bool, true, false, List, ℕ, Option, Result, Ok, Err, flat_map, MatchOption, OnOk}
use Rattle.std.specs.Borrow.{Bor}
use Rattle.std.specs.Io.KnownBytes.{Appends, Keeps}
use Rattle.std.specs.declared.env.FillError.{FillError}
use Rattle.std.specs.declared.env.FillError.TheVariants.{NotPresent, TooLong}

-- a look for an argument found one. What is longer than the room for it is an argument too
abbrev pub is_there : Result ℕ FillError → Bool
is_there (Ok n) = true
is_there (Err TooLong) = true
is_there (Err NotPresent) = false

-- the lines, one behind the other
abbrev pub usage_text : List (Bor (List ℕ)) → List ℕ
usage_text lines = flat_map (λ line. line.now) lines

-- what came of saying it, if it was asked for: without a failure the usage stands behind what the writer held. Else nothing was written
abbrev pub Said : {E : Type 0} → Option (Result (Unit {0}) E) → (old new : Option (List ℕ)) → (usage : List ℕ) → Type 0
Said said old new usage = MatchOption said (Keeps old new) (λ r. OnOk r (Appends old new usage))
