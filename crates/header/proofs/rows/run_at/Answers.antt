use mathlib.Core.Path.{◌≡◌, sym, ◌∙◌}
use native.Mathlib.Omega.{arith}
use lib.ListN.{length, drop}
use Rattle.std.proofs.lemmas.Slice.{between_to_end}
use Rattle.header.proofs.Digits.{run_behind}
use Rattle.header.proofs.rows.run_at.Goals as goal

pub returns-in-Some : goal.returns-in-Some
returns-in-Some c =
    let rest : c.in-Some.rest.now ≡ drop c.args.at c.args.s.now =
    c.in-Some.ensures.lookup.0.2 ∙ between_to_end c.args.s.now c.args.at (length c.args.s.now) (omega arith) in
    rw (c.run_of.ensures, rest) (sym (run_behind c.args.s.now c.args.at))
