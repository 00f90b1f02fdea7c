-- `write_lines`: unless one of them failed, the lines so far stand behind what the writer held.
use Rattle.std.proofs.Common.{take, OnOk}
use Rattle.std.specs.Io.KnownBytes.{Appends}
use Rattle.program.specs.Usage.{usage_text}
use Rattle.program.proofs.write_lines.Given as goal

abbrev pub invariant-loop-line : goal.invariant-loop-line
invariant-loop-line g l = OnOk l.all (Appends (g.W.Write.contents l.initial.to) (g.W.Write.contents l.to) (usage_text (take l.line-index l.lines)))
