-- Each arm says what the second byte is, and `pairs` computes from that.
use Rattle.std.proofs.Common.{arith}
use Rattle.std.proofs.lemmas.Bool.Decides.{nat_tests}
use Rattle.token.specs.Bytes.{within}
use Rattle.token.specs.Token.{pairs}
use Rattle.token.proofs.paired.Goals as goal

pub returns-then-a-eq33 : goal.returns-then-a-eq33
unfolding pairs within
returns-then-a-eq33 c = grind (arith, nat_tests)

pub returns-then-a-ge60 : goal.returns-then-a-ge60
unfolding pairs within
returns-then-a-ge60 c = grind (arith, nat_tests)

pub returns-else-a-ge60 : goal.returns-else-a-ge60
unfolding pairs within
returns-else-a-ge60 c = grind (arith, nat_tests)

pub returns-in-62 : goal.returns-in-62
unfolding pairs within
returns-in-62 c = grind (arith, nat_tests)

pub returns-in-46 : goal.returns-in-46
unfolding pairs within
returns-in-46 c = grind (arith, nat_tests)

pub returns-in_default : goal.returns-in_default
unfolding pairs within
returns-in_default c = grind (arith, nat_tests)
