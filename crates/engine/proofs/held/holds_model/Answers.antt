-- Both tests, the state's first.
use mathlib.Core.Path.{sym, ◌∙◌}
use Rattle.engine.proofs.held.holds_model.Goals as goal

pub returns-then-is_state : goal.returns-then-is_state
returns-then-is_state c =
    rw (sym c.is_state.ensures ∙ c.if-is_state.true) c.is_saves.ensures

pub returns-else-is_state : goal.returns-else-is_state
returns-else-is_state c =
    rw (sym c.is_state.ensures ∙ c.if-is_state.false) c.if-is_state.false
