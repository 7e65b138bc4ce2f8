-- Question 1 by the lengths, then 11, then the answer over the tables.
use mathlib.Core.Path.{◌≡◌, sym, ◌∙◌}
use Rattle.std.proofs.lemmas.Result.{err_from_is_err_and}
use Rattle.engine.specs.declared.Refusal.TheVariants.{NotHeld}
use Rattle.state.proofs.Tests.{refused, passed}
use Rattle.buffers.specs.Parts.{lent_two}
use Rattle.simulation.specs.Comes.{Reads}
use Rattle.engine.proofs.Drawn.{tables-of}
use Rattle.engine.proofs.Lengths.{all-long, asked-wrong, asked-right, held-answers}
use Rattle.engine.proofs.Shows.{none-gives}
use Rattle.engine.proofs.queries.ask.Goals as goal

pub returns-then-not-are_long : goal.returns-then-not-are_long
returns-then-not-are_long g c =
    let q = g.Q.Query in
    let l = g.met.Q.Query in
    (asked-wrong c.args.model.now c.args.state.now q.request q.OUTPUT l.lends l.writes c.args.output.now (rw c.OUTPUT.ensures at (sym c.are_long.ensures ∙ refused _ c.if-not-are_long.true-raw)))

pub read-requires : goal.read-requires
read-requires g c =
    (all-long _ _ _ _ (rw c.OUTPUT.ensures at (sym c.are_long.ensures ∙ passed _ c.if-not-are_long.false-raw))).0

pub returns-in_err-settled : goal.returns-in_err-settled
unfolding Reads
returns-in_err-settled g c =
    let q = g.Q.Query in
    let l = g.met.Q.Query in
    let B = c.args.model.now in
    let Z = c.args.state.now in
    let L = c.args.output.now in
    let e = rw c.in_err-settled.ensures.ok_part at c.read.ensures in
    let p = err_from_is_err_and c.from_residual.result c.from_residual.ensures.1 in
    let v = rw c.in_err-settled.ensures.ok_part at c.in_err-settled.ensures.value in
    let d : c.in_err-settled.field-0.0 ≡ NotHeld = cc v in
    rw (p.1, p.2, d, asked-right B Z q.request q.OUTPUT l.lends l.writes L (rw c.OUTPUT.ensures at (sym c.are_long.ensures ∙ passed _ c.if-not-are_long.false-raw)), held-answers B Z q.request L e) (none-gives q.request (lent_two B Z) L)

pub answer-requires : goal.answer-requires
unfolding Reads
answer-requires g c =
    let r = rw c.in_ok-settled.ensures.ok_part at c.read.ensures in
    let k = all-long _ _ _ _ (rw c.OUTPUT.ensures at (sym c.are_long.ensures ∙ passed _ c.if-not-are_long.false-raw)) in
    ((r.0, tables-of _ _ _ _ _ _ _ r.0 r.2), k.1, k.2)

pub returns : goal.returns
unfolding Reads
returns g c =
    let q = g.Q.Query in
    let l = g.met.Q.Query in
    let B = c.args.model.now in
    let Z = c.args.state.now in
    let L = c.args.output.now in
    let r = rw c.in_ok-settled.ensures.ok_part at c.read.ensures in
    rw (asked-right B Z q.request q.OUTPUT l.lends l.writes L (rw c.OUTPUT.ensures at (sym c.are_long.ensures ∙ passed _ c.if-not-are_long.false-raw)), held-answers B Z q.request L r.1) (c.answer.ensures r.0 B (tables-of _ _ _ _ _ _ _ r.0 r.2))
