-- By the cases of the values.
use native.Mathlib.Omega.{arith}
use Rattle.value.proofs.Kit.{back}
use Rattle.eval.specs.Shown.{listed_values}
use Rattle.eval.proofs.offer.listed_values.Goals as goal

pub returns-in-One : goal.returns-in-One
unfolding listed_values
returns-in-One c = rw (c.in-One.is, back c.in-One.a (omega arith))

pub returns-in-Two : goal.returns-in-Two
unfolding listed_values
returns-in-Two c = rw (c.in-Two.is, back c.in-Two.a (omega arith), back c.in-Two.b (omega arith))
