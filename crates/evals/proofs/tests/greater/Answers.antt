-- `greater` meets its contract: its table holds a condition.
use mir.Facts.{to_z-of_z}
use Rattle.evals.proofs.Tables.{greater-holds, zeros-in}
use Rattle.evals.proofs.tests.greater.Goals as goal

pub holds-requires : goal.holds-requires
holds-requires c =
    rw (c.literal.ensures, c.literal-2.ensures, c.literal-3.ensures, c.cell.ensures, c.cell-2.ensures, to_z-of_z c.ranges.x, to_z-of_z c.ranges.y, to_z-of_z c.ranges.z) (greater-holds c.args.x c.args.y c.args.z c.requires.0 c.requires.1 c.requires.2)

pub invariant_of-context : goal.invariant_of-context
invariant_of-context c =
    record { in_range = zeros-in }
