use Rattle.std.proofs.Common.{arith}
use mir.Facts.{to_z-of_z}
use Rattle.value.specs.Arithmetic.{max_of}
use Rattle.value.proofs.max_of.Goals as goal

pub returns : goal.returns
unfolding max_of
returns c = grind (arith, to_z-of_z)
