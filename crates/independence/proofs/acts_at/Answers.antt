-- The place itself, a handshake's partner, or neither.
use mathlib.Core.Path.{◌∙◌}
use borrow.Author.Tests.{eq-eqb, ne_eqb}
use Rattle.independence.proofs.Tests.{at_place, at-partner, at_none}
use Rattle.independence.proofs.acts_at.Goals as goal

pub returns-then-at-e : goal.returns-then-at-e
returns-then-at-e c = eq-eqb _ _ c.if-at-e.true ∙ at_place c.args.e c.args.at c.if-at-e.true

pub returns-then-e-eq-HANDSHAKE : goal.returns-then-e-eq-HANDSHAKE
returns-then-e-eq-HANDSHAKE c = at-partner c.args.e c.args.at c.if-at-e.false c.if-e-eq-HANDSHAKE.true

pub returns-else-e-eq-HANDSHAKE : goal.returns-else-e-eq-HANDSHAKE
returns-else-e-eq-HANDSHAKE c = ne_eqb _ _ c.if-e-eq-HANDSHAKE.false ∙ at_none c.args.e c.args.at c.if-at-e.false c.if-e-eq-HANDSHAKE.false
