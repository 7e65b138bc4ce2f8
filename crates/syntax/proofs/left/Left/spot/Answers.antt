-- `Left::spot` gives the place that it says.
use mathlib.Core.Path.{refl}
use Rattle.syntax.proofs.left.Left.spot.Goals as goal

pub returns : goal.returns
returns c = (_, refl)
