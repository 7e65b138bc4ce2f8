-- The text that the model buffer holds, or 11.
use Rattle.machine.specs.Machine.{carry'}
use Rattle.buffers.specs.Parts.{lent_search}
use Rattle.store.specs.Text.{TextOf}
use Rattle.carrying.proofs.Turns.{none-carries}
use Rattle.engine.proofs.Underway.{under-held}
use Rattle.engine.proofs.searches.carry_lent.Goals as goal

pub carry_text-requires : goal.carry_text-requires
carry_text-requires c =
    (c.requires.1, c.requires.2)

pub returns-in_default : goal.returns-in_default
returns-in_default c =
    let a = c.args in
    let q = carry' a.number in
    rw (c.bare.ensures, under-held a.model.now a.state.now a.search.now q (rw c.in_default.is at c.find_text.ensures)) (none-carries (lent_search a.model.now a.state.now a.search.now) a.number)

pub returns : goal.returns
returns c =
    let a = c.args in
    let q = carry' a.number in
    let h : TextOf a.model.now c.in-Some.text.now = rw c.in-Some.is at c.find_text.ensures in
    rw (under-held a.model.now a.state.now a.search.now q h.holds) (c.carry_text.ensures a.model.now)
