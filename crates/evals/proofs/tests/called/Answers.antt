-- `called` meets its contract: its table holds a call with two arguments.
use mir.Facts.{to_z-of_z}
use Rattle.evals.proofs.Tables.{arguments-hold, call-holds, zeros-in}
use Rattle.evals.proofs.tests.called.Goals as goal

pub arguments_known-requires : goal.arguments_known-requires
arguments_known-requires c =
    rw (c.literal.ensures, c.literal-2.ensures, c.literal-3.ensures, c.cell.ensures, c.cell-2.ensures, c.cell-3.ensures, to_z-of_z c.ranges.x, to_z-of_z c.ranges.y, to_z-of_z c.ranges.z) (arguments-hold c.args.x c.args.y c.args.z c.requires.0 c.requires.1 c.requires.2)

pub arguments_given-requires : goal.arguments_given-requires
arguments_given-requires c =
    rw (c.literal.ensures, c.literal-2.ensures, c.literal-3.ensures, c.cell.ensures, c.cell-2.ensures, c.cell-3.ensures, to_z-of_z c.ranges.x, to_z-of_z c.ranges.y, to_z-of_z c.ranges.z) (call-holds c.args.x c.args.y c.args.z c.requires.0 c.requires.1 c.requires.2)

pub invariant_of-context : goal.invariant_of-context
invariant_of-context c =
    record { in_range = zeros-in }
