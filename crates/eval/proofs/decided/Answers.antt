-- `eval::decided` meets its contract. By the cases of the answer.
use Rattle.eval.specs.Skips.{skips}
use Rattle.eval.proofs.decided.Goals as goal

pub returns-in-Some-true : goal.returns-in-Some-true
unfolding skips
returns-in-Some-true c = rw (c.in-Some-true.is, c.in-Some-true.field-0-test)

pub returns-in-Some-false : goal.returns-in-Some-false
unfolding skips
returns-in-Some-false c = rw (c.in-Some-false.is, c.in-Some-false.field-0-test)

pub returns-in-None : goal.returns-in-None
unfolding skips
returns-in-None c = rw c.in-None.is
