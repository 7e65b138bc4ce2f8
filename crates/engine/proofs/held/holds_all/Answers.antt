-- The clock's range, then the three buffers.
use mathlib.Core.Path.{sym, ◌∙◌}
use Rattle.engine.proofs.Stored.{out_of_range, in-range}
use Rattle.engine.proofs.held.holds_all.Goals as goal

pub holds-requires : goal.holds-requires
holds-requires c =
    c.requires

pub returns-then-in_range : goal.returns-then-in_range
returns-then-in_range c =
    c.holds.ensures ∙ sym (in-range c.args.model.now c.args.state.now c.args.saves.now c.args.clock (sym c.in_range.ensures ∙ c.if-in_range.true))

pub returns-else-in_range : goal.returns-else-in_range
returns-else-in_range c =
    c.if-in_range.false ∙ sym (out_of_range c.args.model.now c.args.state.now c.args.saves.now c.args.clock (sym c.in_range.ensures ∙ c.if-in_range.false))
