-- The two tests of 25 are those of `forwarded`; no sum wraps.
use Rattle.std.proofs.Common.{arith}
use Rattle.std.proofs.lemmas.Bool.Decides.{nat_tests}
use Rattle.clock.specs.Clock.{forwarded}
use Rattle.clock.proofs.forward.Goals as goal

pub returns-then-next-gt-LIMIT : goal.returns-then-next-gt-LIMIT
unfolding forwarded
returns-then-next-gt-LIMIT c = grind (arith, nat_tests)

pub returns-then-clock-more : goal.returns-then-clock-more
unfolding forwarded
returns-then-clock-more c = grind (arith, nat_tests)

pub returns : goal.returns
unfolding forwarded
returns c = grind (arith, nat_tests)
