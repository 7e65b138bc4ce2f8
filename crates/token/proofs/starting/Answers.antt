-- The two tests of `starts`.
use Rattle.std.proofs.Common.{arith}
use Rattle.std.proofs.lemmas.Bool.Decides.{nat_tests}
use Rattle.token.specs.Bytes.{starts}
use Rattle.token.proofs.starting.Goals as goal

pub returns-then-b-eq47 : goal.returns-then-b-eq47
unfolding starts
returns-then-b-eq47 c = grind (arith, nat_tests)

pub returns-else-b-eq47 : goal.returns-else-b-eq47
unfolding starts
returns-else-b-eq47 c = grind (arith, nat_tests)
