-- The remainder, from its definition.
use mathlib.Core.Path.{refl}
use Rattle.model.specs.Scope.{locals_in}
use Rattle.state.proofs.locals_in.Goals as goal

pub returns : goal.returns
unfolding locals_in
returns c = refl
