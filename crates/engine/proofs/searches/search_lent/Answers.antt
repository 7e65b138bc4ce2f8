-- The text that the model buffer holds, or 11.
use mathlib.Core.List.{[]}
use Rattle.machine.specs.Machine.{search'}
use Rattle.buffers.specs.Parts.{lent_two}
use Rattle.store.specs.Text.{TextOf}
use Rattle.searching.proofs.Results.{none-run}
use Rattle.engine.proofs.Lengths.{held-answers}
use Rattle.engine.proofs.searches.search_lent.Goals as goal

pub returns-in_default : goal.returns-in_default
returns-in_default c =
    let K = c.args.model.now in
    let Z = c.args.state.now in
    let q = search' c.args.name.now c.args.depth in
    rw (c.bare.ensures, held-answers K Z q [] (rw c.in_default.is at c.find_text.ensures)) (none-run q (lent_two K Z))

pub returns : goal.returns
returns c =
    let K = c.args.model.now in
    let Z = c.args.state.now in
    let q = search' c.args.name.now c.args.depth in
    let h : TextOf c.args.model.now c.in-Some.text.now = rw c.in-Some.is at c.find_text.ensures in
    rw (held-answers K Z q [] h.holds) (c.search_text.ensures K)
