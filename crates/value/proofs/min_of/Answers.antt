use Rattle.std.proofs.Common.{arith}
use mir.Facts.{to_z-of_z}
use Rattle.value.specs.Arithmetic.{min_of}
use Rattle.value.proofs.min_of.Goals as goal

pub returns : goal.returns
unfolding min_of
returns c = grind (arith, to_z-of_z)
