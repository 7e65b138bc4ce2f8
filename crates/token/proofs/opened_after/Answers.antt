-- Each arm of the bracket count is a case of `opened`.
use Rattle.std.proofs.Common.{arith}
use Rattle.std.proofs.lemmas.Bool.Decides.{nat_tests}
use Rattle.token.specs.Questions.{opened}
use Rattle.token.proofs.opened_after.Goals as goal

pub returns-in-40 : goal.returns-in-40
unfolding opened
returns-in-40 c = grind (arith, nat_tests)

pub returns-in-41 : goal.returns-in-41
unfolding opened
returns-in-41 c = grind (arith, nat_tests)

pub returns-in_default : goal.returns-in_default
unfolding opened
returns-in_default c = grind (arith, nat_tests)
