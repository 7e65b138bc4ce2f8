-- `Spot::after` gives the place that it says.
use mathlib.Core.Path.{refl}
use Rattle.syntax.proofs.spot.Spot.after.Goals as goal

pub returns : goal.returns
returns c = (_, refl)
