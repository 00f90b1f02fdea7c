-- A sheet in both forms, archive's examples, of which the page of request 2 is said: none of its conditions is empty.
use mathlib.Core.Path.{◌≡◌, refl}
use mathlib.Core.List.{List, ◌++◌}
use Prim.Native.Nat.{ℕ}
use lib.ListN.{length}
use Rattle.lines.specs.Squeezed.{squeezed}
use Rattle.intake.specs.Squeeze.{squeeze_next, squeeze_after}
use Rattle.intake.specs.Front.{Decides}
use Rattle.intake.specs.Front.Decides.{closed}
use Rattle.ledger.specs.Stored.{lacking, day_input}
use Rattle.ledger.proofs.MidnightDemands.{an_empty_line_is_one_piece}
use Rattle.archive.specs.declared.Way.TheVariants.{Up, Down}
use Rattle.archive.specs.Move.{move_fault, Moves}
use Rattle.archive.specs.Examples.{one, two, goes_up}
use Rattle.printed.specs.Printed.{day_text}
use Rattle.demands.proofs.MoveDemands.{a_moved_sheet_comes_back, a_moved_sheet_is_printed_alike, the_front_and_the_rest_are_the_moved_sheet}

moved_comes_back : Moves Down two one
moved_comes_back = a_moved_sheet_comes_back Up one two goes_up

moved_printed_alike : day_text (day_input lacking one lacking) ≡ day_text (day_input lacking two lacking)
moved_printed_alike = a_moved_sheet_is_printed_alike Up one two goes_up lacking lacking an_empty_line_is_one_piece an_empty_line_is_one_piece

one_decides : Decides one (length (squeezed 1 one))
unfolding squeeze_after squeeze_next
one_decides = closed refl

read_in_parts : (more : List ℕ) → move_fault Up (squeezed 1 one) ≡ move_fault Up (one ++ more)
read_in_parts more = (the_front_and_the_rest_are_the_moved_sheet Up one more one_decides).0
