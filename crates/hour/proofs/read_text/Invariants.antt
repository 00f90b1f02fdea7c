-- `read_text`: no block has ended in front of the first n bytes, or with them. The rest of the room goes down.
use Rattle.std.proofs.Common.{◌≡◌, ◌≤◌, ◌-◌, ℕ, false, length}
use Rattle.lines.specs.Line.{ends_empty}
use Rattle.hour.proofs.read_text.Given as goal

abbrev pub invariant-loop-n : goal.invariant-loop-n
invariant-loop-n l = record { within : l.n ≤ length l.text; unended : (m : ℕ) → m ≤ l.n → ends_empty l.text m ≡ false }

abbrev pub decreases-loop-n : goal.decreases-loop-n
decreases-loop-n l = length l.text - l.n
