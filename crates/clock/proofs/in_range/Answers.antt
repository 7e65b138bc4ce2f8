-- The two tests are those of `is_in_range`.
use Rattle.std.proofs.Common.{arith}
use Rattle.std.proofs.lemmas.Bool.Decides.{nat_tests}
use Rattle.clock.specs.Clock.{is_in_range}
use Rattle.clock.proofs.in_range.Goals as goal

pub returns-then-clock-le-LIMIT : goal.returns-then-clock-le-LIMIT
unfolding is_in_range
returns-then-clock-le-LIMIT c = grind (arith, nat_tests)

pub returns-else-clock-le-LIMIT : goal.returns-else-clock-le-LIMIT
unfolding is_in_range
returns-else-clock-le-LIMIT c = grind (arith, nat_tests)
