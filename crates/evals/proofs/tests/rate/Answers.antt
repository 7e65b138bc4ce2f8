-- `rate` meets its contract: its table holds a rate.
use Rattle.evals.proofs.Tables.{rate-holds, zeros-in}
use Rattle.evals.proofs.tests.rate.Goals as goal

pub rate_of-requires : goal.rate_of-requires
rate_of-requires c =
    rw c.number_cell.ensures (rate-holds c.args.n c.requires.0 c.requires.1)

pub invariant_of-context : goal.invariant_of-context
invariant_of-context c =
    record { in_range = zeros-in }
