-- `gated` meets its contract: its table holds a gated branch.
use mir.Facts.{to_z-of_z}
use Rattle.evals.proofs.Tables.{two_in, gated-holds}
use Rattle.evals.proofs.tests.gated.Goals as goal

pub offer_of-requires : goal.offer_of-requires
offer_of-requires c =
    rw (c.cell.ensures, c.literal.ensures, c.cell-2.ensures, c.cell-3.ensures, c.cell-4.ensures, c.cell-5.ensures, c.cell-6.ensures, c.cell-7.ensures, c.number_cell.ensures, c.cell-8.ensures, c.cell-9.ensures) gated-holds

pub invariant_of-context : goal.invariant_of-context
invariant_of-context c =
    rw (to_z-of_z c.ranges.i, to_z-of_z c.ranges.y) (record { in_range = two_in c.args.i c.args.y c.requires.0 c.requires.1 })
