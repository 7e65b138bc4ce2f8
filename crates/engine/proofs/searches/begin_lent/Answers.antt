-- The text that the model buffer holds, or 11.
use Rattle.machine.specs.Machine.{begin'}
use Rattle.buffers.specs.Parts.{lent_search}
use Rattle.store.specs.Text.{TextOf}
use Rattle.carrying.proofs.Turns.{none-begins}
use Rattle.engine.proofs.Underway.{under-held}
use Rattle.engine.proofs.searches.begin_lent.Goals as goal

pub begin_text-requires : goal.begin_text-requires
begin_text-requires c =
    (c.requires.1, c.requires.2)

pub returns-in_default : goal.returns-in_default
returns-in_default c =
    let a = c.args in
    let q = begin' a.name.now a.depth in
    rw (under-held a.model.now a.state.now a.search.now q (rw c.in_default.is at c.find_text.ensures)) (none-begins (lent_search a.model.now a.state.now a.search.now) a.name.now a.depth)

pub returns : goal.returns
returns c =
    let a = c.args in
    let q = begin' a.name.now a.depth in
    let h : TextOf a.model.now c.in-Some.text.now = rw c.in-Some.is at c.find_text.ensures in
    rw (under-held a.model.now a.state.now a.search.now q h.holds) (c.begin_text.ensures a.model.now)
