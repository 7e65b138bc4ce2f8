-- Each arm is one kind of token.
use Rattle.std.proofs.Common.{arith}
use Rattle.std.proofs.lemmas.Bool.Decides.{nat_tests}
use Rattle.token.specs.Contents.{content_of}
use Rattle.token.proofs.content_of.Goals as goal

pub returns-in-1 : goal.returns-in-1
unfolding content_of
returns-in-1 c = rw c.in-1.is c.name_content.ensures

pub returns-in-2 : goal.returns-in-2
unfolding content_of
returns-in-2 c = rw (c.in-2.is, c.value.ensures)

pub returns-in-3 : goal.returns-in-3
unfolding content_of
returns-in-3 c = rw c.in-3.is c.decimal_content.ensures

pub returns-in_default : goal.returns-in_default
unfolding content_of
returns-in_default c = grind (arith, nat_tests)
