-- `items` meets its contract: its table holds a channel of three items.
use mir.Facts.{to_z-of_z}
use Rattle.evals.proofs.Tables.{items-hold, zeros-in}
use Rattle.evals.proofs.tests.items.Goals as goal

pub channel_of-requires : goal.channel_of-requires
channel_of-requires c =
    rw (c.literal.ensures, c.literal-2.ensures, c.literal-3.ensures, c.cell.ensures, c.cell-2.ensures, c.cell-3.ensures, to_z-of_z c.ranges.x, to_z-of_z c.ranges.y, to_z-of_z c.ranges.z) (items-hold c.args.x c.args.y c.args.z c.requires.0 c.requires.1 c.requires.2)

pub invariant_of-context : goal.invariant_of-context
invariant_of-context c =
    record { in_range = zeros-in }
