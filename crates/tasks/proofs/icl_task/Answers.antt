-- `icl_task` asks only numbers in their ranges for what was withdrawn.
use mathlib.Core.Path.{sym}
use Rattle.tariff.proofs.Ranges.{icl_ahead_fits, icl_interval_fits}
use Rattle.tasks.proofs.icl_task.Goals as goal

pub withdrawn-capped-requires : goal.withdrawn-capped-requires
withdrawn-capped-requires c =
    let ahead = icl_ahead_fits c.args.dasi c.args.dasw (sym c.if-not-icl_ahead_in_range.ensures) in
    let fits = icl_interval_fits c.args.v (sym c.if-not-icl_interval_in_range.ensures) in
    (ahead.1, fits.aew, fits.pout, fits.s)
