-- The place, then a handshake's partner.
use mathlib.Core.Path.{sym, ◌∙◌}
use borrow.Author.Tests.{ne_eqb}
use Rattle.independence.proofs.Tests.{by_place, by-partner, by-none}
use Rattle.independence.proofs.overlap.Goals as goal

pub returns-then-acts_at : goal.returns-then-acts_at
returns-then-acts_at c = c.if-acts_at.true ∙ by_place c.args.e _ (sym c.if-acts_at.true ∙ c.acts_at.ensures)

pub returns-then-e-eq-HANDSHAKE : goal.returns-then-e-eq-HANDSHAKE
returns-then-e-eq-HANDSHAKE c = by-partner c.args.e _ (sym c.if-acts_at.false ∙ c.acts_at.ensures) c.if-e-eq-HANDSHAKE.true c.acts_at-then-e-eq-HANDSHAKE.ensures

pub returns-else-e-eq-HANDSHAKE : goal.returns-else-e-eq-HANDSHAKE
returns-else-e-eq-HANDSHAKE c = ne_eqb _ _ c.if-e-eq-HANDSHAKE.false ∙ by-none c.args.e _ (sym c.if-acts_at.false ∙ c.acts_at.ensures) c.if-e-eq-HANDSHAKE.false
