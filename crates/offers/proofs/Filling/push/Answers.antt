-- `offers::Filling::push` meets its contract: there is a row left or there is none.
use native.Mathlib.Omega.{arith}
use Rattle.offers.specs.Collect.{put, full}
use Rattle.offers.proofs.Filling.push.Goals as goal

pub returns-then-self-clause-pushed : goal.returns-then-self-clause-pushed
returns-then-self-clause-pushed c = full (omega arith)

pub returns-clause-pushed : goal.returns-clause-pushed
returns-clause-pushed c = put (omega arith)
