-- Question 1 by the lengths, then the search.
use mathlib.Core.Path.{sym, ◌∙◌}
use Rattle.state.proofs.Tests.{refused, passed}
use Rattle.engine.proofs.Lengths.{parts-long}
use Rattle.engine.proofs.Searched.{search-wrong, search-right}
use Rattle.engine.proofs.searches.search.Goals as goal

pub returns-then-not-are_parts_long : goal.returns-then-not-are_parts_long
returns-then-not-are_parts_long c =
    let a = c.args in
    rw c.bare.ensures (search-wrong a.model.now a.state.now a.name.now a.depth (sym c.are_parts_long.ensures ∙ refused _ c.if-not-are_parts_long.true-raw))

pub search_lent-requires : goal.search_lent-requires
search_lent-requires c =
    parts-long _ _ (sym c.are_parts_long.ensures ∙ passed _ c.if-not-are_parts_long.false-raw)

pub returns : goal.returns
returns c =
    let a = c.args in
    rw (search-right a.model.now a.state.now a.name.now a.depth (sym c.are_parts_long.ensures ∙ passed _ c.if-not-are_parts_long.false-raw)) c.search_lent.ensures
