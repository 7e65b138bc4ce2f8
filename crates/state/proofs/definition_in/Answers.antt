-- The quotient, from its definition.
use mathlib.Core.Path.{refl}
use native.Mathlib.Omega.{arith}
use Rattle.model.specs.Scope.{definition_in}
use Rattle.state.proofs.definition_in.Goals as goal

pub returns : goal.returns
unfolding definition_in
returns c = (refl, omega (arith, c.ranges.scope))
