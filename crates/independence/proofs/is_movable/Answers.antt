-- The weight, then the kind.
use mathlib.Core.Path.{ap, ◌∙◌}
use mathlib.Core.Bool.{not}
use borrow.Author.Tests.{eq-eqb}
use Rattle.independence.proofs.Tests.{no-weight, by-weight}
use Rattle.independence.proofs.is_movable.Goals as goal

pub returns-then-e-ne0 : goal.returns-then-e-ne0
returns-then-e-ne0 c = c.is_quiet.ensures ∙ by-weight c.args.e c.if-e-ne0.true

pub returns-else-e-ne0 : goal.returns-else-e-ne0
returns-else-e-ne0 c = ap not (eq-eqb _ _ c.if-e-ne0.false) ∙ no-weight c.args.e c.if-e-ne0.false
