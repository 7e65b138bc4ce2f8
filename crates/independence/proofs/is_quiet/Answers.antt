-- A launch, or else a kill.
use mathlib.Core.Path.{ap, ◌∙◌}
use mathlib.Core.Bool.{not}
use borrow.Author.Tests.{eq-eqb}
use Rattle.independence.proofs.Tests.{by-launch, by-kill}
use Rattle.independence.proofs.is_quiet.Goals as goal

pub returns-then-e-ne-LAUNCH : goal.returns-then-e-ne-LAUNCH
returns-then-e-ne-LAUNCH c = by-kill c.args.e c.if-e-ne-LAUNCH.true

pub returns-else-e-ne-LAUNCH : goal.returns-else-e-ne-LAUNCH
returns-else-e-ne-LAUNCH c = ap not (eq-eqb _ _ c.if-e-ne-LAUNCH.false) ∙ by-launch c.args.e c.if-e-ne-LAUNCH.false
