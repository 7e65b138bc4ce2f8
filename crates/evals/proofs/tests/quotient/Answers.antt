-- `quotient` meets its contract: its table holds a quotient.
use mir.Facts.{to_z-of_z}
use Rattle.evals.proofs.Tables.{quotient-holds, zeros-in}
use Rattle.evals.proofs.tests.quotient.Goals as goal

pub eval_node-requires : goal.eval_node-requires
eval_node-requires c =
    rw (c.literal.ensures, c.literal-2.ensures, c.cell.ensures, to_z-of_z c.ranges.x, to_z-of_z c.ranges.y) (quotient-holds c.args.x c.args.y c.requires.0 c.requires.1)

pub invariant_of-context : goal.invariant_of-context
invariant_of-context c =
    record { in_range = zeros-in }
