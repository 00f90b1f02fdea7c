-- `heads::row_at` is what stands behind a row's key, as long as the day has hours.
use mathlib.Core.Path.{◌≡◌, ◌∙◌, ap}
use Prim.Native.Nat.{◌+◌, ◌≤◌}
use native.Mathlib.Omega.{arith}
use borrow.Author.Rules.{rules}
use lib.ListN.{length}
use Rattle.lines.specs.Line.{place_in}
use Rattle.header.proofs.HeaderLines.{or_zero}
use Rattle.header.proofs.Said.{row_key, start_inside, row_read}
use Rattle.header.proofs.heads.row_at.Goals as goal
use Rattle.header.proofs.heads.row_at.Goals.{After-unwrap_or-start}

start : (c : After-unwrap_or-start) → c.unwrap_or-start.result ≡ place_in (row_key c.args.hours c.args.key c.args.s.now c.args.at c.requires)
start c = c.unwrap_or-start.ensures ∙ or_zero c.key_number.result ∙ ap place_in c.key_number.ensures

inside : (c : After-unwrap_or-start) → c.unwrap_or-start.result + c.args.hours ≤ length c.args.s.now
inside c = start_inside _ _ _ _ c.requires _ (start c)

pub overflow_add-result : goal.overflow_add-result
overflow_add-result c = omega (arith, inside c)

pub slice_bounds-result-end : goal.slice_bounds-result-end
slice_bounds-result-end c = let h = inside c in search rules

pub returns : goal.returns
returns c = row_read _ _ _ _ c.requires _ (start (goal.at.returns c).After-unwrap_or-start)
