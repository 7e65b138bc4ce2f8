-- `rate` meets its contract: its table holds a rate.
use Rattle.evals.proofs.Tables.{rate-holds, zeros-in}
use Rattle.evals.proofs.rate.Goals as goal

pub rate_of_lent-requires : goal.rate_of_lent-requires
rate_of_lent-requires c =
    rw c.number_cell.ensures (rate-holds c.args.n c.requires.0 c.requires.1)

pub invariant_of-context : goal.invariant_of-context
invariant_of-context c =
    record { in_range = zeros-in }
