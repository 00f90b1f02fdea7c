-- `heads::line_at` reads a line: a number, a row of marks, a run of digits, or nothing but its end.
use mathlib.Core.Path.{sym, ◌∙◌, ap}
use Rattle.text.specs.Text.{Next}
use Rattle.lines.specs.Line.{and_then, line_feed}
use Rattle.header.proofs.HeaderLines.{number_line_lem, row_line, run_line, no_row, no_run, close_line}
use Rattle.header.proofs.heads.line_at.Goals as goal
use Rattle.header.proofs.heads.line_at.Goals.{in-Number, in-Row+in_ok-key_number-in-Row, in-Run+in_ok-key_number-in-Run, in-Close}

pub returns-in_err-key_number-in-Row : goal.returns-in_err-key_number-in-Row
returns-in_err-key_number-in-Row c = rw c.from_residual.ensures (sym (no_row _ _ _ c.in-Row.is c.in_err-key_number-in-Row.ensures))

pub returns-in_err-key_number-in-Run : goal.returns-in_err-key_number-in-Run
returns-in_err-key_number-in-Run c =
    rw c.from_residual-in_err-key_number-in-Run.ensures (sym (no_run _ _ _ c.in-Run.is c.in_err-key_number-in-Run.ensures))

pub returns : goal.returns
returns c =
    elim c.match-line.branch [
      | in-Number w ↦ number_line_lem _ _ _ _ w.in-Number.is c.requires w.fields_at.ensures w.next-is c.line_end.ensures
      | in-Row+in_ok-key_number-in-Row w ↦ row_line _ _ _ w.in-Row.is w.in_ok-key_number-in-Row.ensures (w.next-is ∙ w.digits_at-next.ensures) c.line_end.ensures
      | in-Run+in_ok-key_number-in-Run w ↦ run_line _ _ _ w.in-Run.is w.in_ok-key_number-in-Run.ensures (w.next-is ∙ w.run_at.ensures) c.line_end.ensures
      | in-Close w ↦ c.line_end.ensures ∙ ap (λ (x : Next). and_then x (line_feed c.args.s.now)) w.next-is ∙ sym (close_line _ _ _ w.in-Close.is)
    ]
