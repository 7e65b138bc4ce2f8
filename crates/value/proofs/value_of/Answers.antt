-- The two tests of the range are those of `value_of`.
use Rattle.std.proofs.Common.{arith}
use Rattle.std.proofs.lemmas.Int.{ints}
use mir.Facts.{to_z-of_z}
use Rattle.value.specs.Range.{value_of}
use Rattle.value.proofs.value_of.Goals as goal

pub returns-then-z-lt-LEAST : goal.returns-then-z-lt-LEAST
unfolding value_of
returns-then-z-lt-LEAST c = grind (arith, ints, to_z-of_z)

pub returns : goal.returns
unfolding value_of
returns c = grind (arith, ints, to_z-of_z)
