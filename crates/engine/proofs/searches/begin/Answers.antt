-- Question 1 by the lengths, then the beginning, by its number.
use mathlib.Core.Path.{refl, sym, ap, subst, ◌∙◌}
use Rattle.machine.specs.Machine.{begin'}
use Rattle.state.proofs.Tests.{refused, passed}
use Rattle.carrying.specs.Turns.{number_of}
use Rattle.engine.proofs.Underway.{search-long, search-right, begin-wrong, begun-gives}
use Rattle.engine.proofs.searches.begin.Goals as goal

pub returns-then-not-are_search_long : goal.returns-then-not-are_search_long
returns-then-not-are_search_long c =
    let a = c.args in
    rw c.bare.ensures (begin-wrong a.model.now a.state.now a.search.now a.name.now a.depth (sym c.are_search_long.ensures ∙ refused _ c.if-not-are_search_long.true-raw))

pub begin_lent-requires : goal.begin_lent-requires
begin_lent-requires c =
    search-long _ _ _ (sym c.are_search_long.ensures ∙ passed _ c.if-not-are_search_long.false-raw)

pub returns-in-Ok : goal.returns-in-Ok
returns-in-Ok c =
    let a = c.args in
    let w = sym c.are_search_long.ensures ∙ passed _ c.if-not-are_search_long.false-raw in
    rw (search-right a.model.now a.state.now a.search.now (begin' a.name.now a.depth) refl refl w, c.bare-in-Ok.ensures) (begun-gives _ _ _ 0 (sym (ap number_of c.in-Ok.is)) c.begin_lent.ensures)

pub returns-in-Err : goal.returns-in-Err
returns-in-Err c =
    let a = c.args in
    let w = sym c.are_search_long.ensures ∙ passed _ c.if-not-are_search_long.false-raw in
    rw (search-right a.model.now a.state.now a.search.now (begin' a.name.now a.depth) refl refl w, c.bare-in-Err.ensures) (begun-gives _ _ _ _ (c.number.ensures ∙ sym (ap number_of c.in-Err.is)) c.begin_lent.ensures)
