use mathlib.Core.Path.{refl}
use Rattle.eval.specs.Shown.{bare_offer}
use Rattle.eval.proofs.offer.wait_offer.Goals as goal

pub returns : goal.returns
unfolding bare_offer
returns c = refl
