-- The ranges of `allowed`.
use Rattle.std.proofs.Common.{arith}
use Rattle.std.proofs.lemmas.Bool.Decides.{nat_tests}
use Rattle.token.specs.Bytes.{within}
use Rattle.token.specs.Questions.{allowed}
use Rattle.token.proofs.is_allowed.Goals as goal

pub returns-then-b-le126 : goal.returns-then-b-le126
unfolding allowed within
returns-then-b-le126 c = grind (arith, nat_tests)

pub returns-in_default : goal.returns-in_default
unfolding allowed within
returns-in_default c = grind (arith, nat_tests)

pub returns-in_default-2 : goal.returns-in_default-2
unfolding allowed within
returns-in_default-2 c = grind (arith, nat_tests)

pub returns-in-9-to-10 : goal.returns-in-9-to-10
unfolding allowed within
returns-in-9-to-10 c = grind (arith, nat_tests)

pub returns-in-9-to-10-2 : goal.returns-in-9-to-10-2
unfolding allowed within
returns-in-9-to-10-2 c = grind (arith, nat_tests)
