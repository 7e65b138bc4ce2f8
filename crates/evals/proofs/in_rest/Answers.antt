-- `in_rest` meets its contract: its table holds a range without a number.
use mir.Facts.{to_z-of_z}
use Rattle.evals.proofs.Tables.{rest-holds, zeros-in}
use Rattle.evals.proofs.in_rest.Goals as goal

pub in_set_lent-requires : goal.in_set_lent-requires
in_set_lent-requires c =
    rw (c.literal.ensures, c.literal-2.ensures, c.cell-range.ensures, c.literal-3.ensures, c.cell-without.ensures, to_z-of_z c.ranges.x, to_z-of_z c.ranges.y, to_z-of_z c.ranges.z) (rest-holds c.args.x c.args.y c.requires.0 c.requires.1 c.args.z c.requires.2)

pub invariant_of-context : goal.invariant_of-context
invariant_of-context c =
    record { in_range = zeros-in }
