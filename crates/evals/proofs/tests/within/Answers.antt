-- `within` meets its contract: its table holds a range to a quotient.
use mir.Facts.{to_z-of_z}
use Rattle.evals.proofs.Tables.{ends-hold, zeros-in}
use Rattle.evals.proofs.tests.within.Goals as goal

pub ends_known-requires : goal.ends_known-requires
ends_known-requires c =
    rw (c.literal.ensures, c.literal-2.ensures, c.literal-3.ensures, c.cell.ensures, c.cell-2.ensures, to_z-of_z c.ranges.x, to_z-of_z c.ranges.y, to_z-of_z c.ranges.z) (ends-hold c.args.x c.args.y c.args.z c.requires.0 c.requires.1 c.requires.2)

pub in_set-requires : goal.in_set-requires
in_set-requires c =
    rw (c.literal.ensures, c.literal-2.ensures, c.literal-3.ensures, c.cell.ensures, c.cell-2.ensures, to_z-of_z c.ranges.x, to_z-of_z c.ranges.y, to_z-of_z c.ranges.z) (ends-hold c.args.x c.args.y c.args.z c.requires.0 c.requires.1 c.requires.2)

pub invariant_of-context : goal.invariant_of-context
invariant_of-context c =
    record { in_range = zeros-in }
