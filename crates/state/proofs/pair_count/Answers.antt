-- A count of a state that passed is below the limit.
use native.Mathlib.Omega.{arith}
use Rattle.state.proofs.Read.{pairs_below}
use Rattle.state.proofs.pair_count.Goals as goal

pub counted-requires : goal.counted-requires
counted-requires c = (omega (arith, c.requires.long), pairs_below c.args.state.now c.requires)
