-- Question 1 by the lengths, then so many states.
use mathlib.Core.Path.{refl, sym, ◌∙◌}
use Rattle.machine.specs.Machine.{carry'}
use Rattle.state.proofs.Tests.{refused, passed}
use Rattle.engine.proofs.Underway.{search-long, search-right, carry-wrong}
use Rattle.engine.proofs.searches.carry_on.Goals as goal

pub returns-then-not-are_search_long : goal.returns-then-not-are_search_long
returns-then-not-are_search_long c =
    let a = c.args in
    rw c.bare.ensures (carry-wrong a.model.now a.state.now a.search.now a.number (sym c.are_search_long.ensures ∙ refused _ c.if-not-are_search_long.true-raw))

pub carry_lent-requires : goal.carry_lent-requires
carry_lent-requires c =
    search-long _ _ _ (sym c.are_search_long.ensures ∙ passed _ c.if-not-are_search_long.false-raw)

pub returns : goal.returns
returns c =
    let a = c.args in
    rw (search-right a.model.now a.state.now a.search.now (carry' a.number) refl refl (sym c.are_search_long.ensures ∙ passed _ c.if-not-are_search_long.false-raw)) c.carry_lent.ensures
