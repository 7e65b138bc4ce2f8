-- The state's test, then the clock's.
use mathlib.Core.Path.{sym, ap, ap₂, ◌∙◌}
use mathlib.Core.List.{[], ◌∷◌}
use lib.IntN.{ℤ}
use Rattle.value.proofs.Kit.{back}
use Rattle.state.specs.Test.{is_state}
use Rattle.saves.specs.Kept.{is_clock}
use Rattle.saves.proofs.Clocks.{kept-fails, kept-rest, state-there, clock-there}
use Rattle.saves.proofs.is_kept.Goals as goal

pub returns-then-is_state : goal.returns-then-is_state
returns-then-is_state c =
    let r = c.args.row.now in
    let s = is_state c.args.shape.scopes.now c.args.shape.channels in
    c.is_clock.ensures ∙ ap₂ (λ (y z : ℤ). is_clock (y ∷ z ∷ [])) (back _ c.is_clock-arg-1.given) (back _ c.is_clock-arg-then-is_state-1.given) ∙ ap is_clock (sym (clock-there r c.told-row))
    ∙ sym (kept-rest _ _ _ (ap s (sym (state-there r c.told-row)) ∙ sym c.is_state.ensures ∙ c.if-is_state.true))

pub returns-else-is_state : goal.returns-else-is_state
returns-else-is_state c =
    let s = is_state c.args.shape.scopes.now c.args.shape.channels in
    c.if-is_state.false ∙ sym (kept-fails _ _ _ (ap s (sym (state-there c.args.row.now c.told-row)) ∙ sym c.is_state.ensures ∙ c.if-is_state.false))
