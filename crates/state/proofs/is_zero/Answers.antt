-- The test on bits is that of the number.
use native.Mathlib.Omega.{arith}
use lib.IntN.{pos}
use Rattle.value.proofs.Kit.{same_bits, ok-fits}
use Rattle.state.specs.Test.{is_zero}
use Rattle.state.proofs.is_zero.Goals as goal

pub returns : goal.returns
unfolding is_zero
returns c = same_bits c.args.z (pos 0) c.ranges.z (ok-fits (pos 0) (omega arith))
