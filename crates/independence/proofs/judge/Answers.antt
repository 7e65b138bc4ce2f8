-- Both entries movable, no process shared.
use mathlib.Core.Path.{sym, ap, ◌∙◌}
use mathlib.Core.Bool.{not}
use Rattle.independence.proofs.Tests.{first-stays, second-stays, both-move}
use Rattle.independence.proofs.judge.Goals as goal

pub returns-then-not-is_movable : goal.returns-then-not-is_movable
returns-then-not-is_movable c = first-stays _ _ (sym c.if-not-is_movable.true ∙ c.is_movable.ensures)

pub returns-then-is_movable : goal.returns-then-is_movable
returns-then-is_movable c = ap not c.overlap.ensures ∙ both-move _ _ (sym c.if-not-is_movable.false ∙ c.is_movable.ensures) (sym c.if-is_movable.true ∙ c.is_movable-2.ensures)

pub returns-else-is_movable : goal.returns-else-is_movable
returns-else-is_movable c = c.if-is_movable.false ∙ second-stays _ _ (sym c.if-not-is_movable.false ∙ c.is_movable.ensures) (sym c.if-is_movable.false ∙ c.is_movable-2.ensures)
