use Rattle.settle.proofs.Parameters.{first-known}
use mathlib.Core.Path.{refl}
use Rattle.settle.proofs.walk_begun.Goals as goal

pub returns : goal.returns
returns c =
    λ h heard. first-known h heard _ (c.parameters_of.ensures h) refl refl
