-- `eval::offer::offer_of_lent` meets its contract: the gate, then the rest. From what the node says.
use mathlib.Core.Path.{ap, ◌∙◌}
use Rattle.state.proofs.Tests.{refused, passed}
use lib.ListN.{length}
use Rattle.tree.specs.Node.{kind_of, left_of}
use Rattle.eval.proofs.Offers.{ungated-prefix, opened, ungated-shown, gated-parts, gate-yes, gate-no, gate-missing}
use Rattle.eval.proofs.offer.offer_of_lent.Goals as goal

pub prefix_offer-requires : goal.prefix_offer-requires
prefix_offer-requires c =
    let s = c in
    let T = s.args.context.now.nodes.now in
    let L = s.args.context.now.locals.now in
    let k = s.args.k in
    let is = c.kind_of.ensures ∙ ap kind_of c.cell_at-cell.ensures in
    ungated-prefix T k c.kind_of.result is c.if-kind_of-ne-GATE.true s.requires.0 (length L) s.requires.1

pub returns-in_err-offer : goal.returns-in_err-offer
unfolding opened
returns-in_err-offer c =
    let T = c.args.context.now.nodes.now in
    let L = c.args.context.now.locals.now in
    let k = c.args.k in
    let is = c.kind_of.ensures ∙ ap kind_of c.cell_at-cell.ensures in
    rw c.from_residual.ensures (rw c.in_err-offer.was at (ungated-shown T k c.kind_of.result is c.if-kind_of-ne-GATE.true L c.prefix_offer.result c.prefix_offer.ensures))

pub returns-then-kind_of-ne-GATE : goal.returns-then-kind_of-ne-GATE
unfolding opened
returns-then-kind_of-ne-GATE c =
    let T = c.args.context.now.nodes.now in
    let L = c.args.context.now.locals.now in
    let k = c.args.k in
    let is = c.kind_of.ensures ∙ ap kind_of c.cell_at-cell.ensures in
    rw c.in_ok-offer.was at (ungated-shown T k c.kind_of.result is c.if-kind_of-ne-GATE.true L c.prefix_offer.result c.prefix_offer.ensures)

pub holds_lent-requires : goal.holds_lent-requires
holds_lent-requires c =
    let T = c.args.context.now.nodes.now in
    let L = c.args.context.now.locals.now in
    let k = c.args.k in
    let is = c.kind_of.ensures ∙ ap kind_of c.cell_at-cell.ensures in
    let e = c.left_of.ensures ∙ ap left_of c.cell_at-cell.ensures in
    let f = gated-parts T k c.kind_of.result is c.if-kind_of-ne-GATE.false c.requires.0 (length L) c.requires.1 in
    rw e f.1

pub returns-in_err-open : goal.returns-in_err-open
returns-in_err-open c =
    let T = c.args.context.now.nodes.now in
    let L = c.args.context.now.locals.now in
    let k = c.args.k in
    let is = c.kind_of.ensures ∙ ap kind_of c.cell_at-cell.ensures in
    let e = c.left_of.ensures ∙ ap left_of c.cell_at-cell.ensures in
    rw c.from_residual-in_err-open.ensures (gate-missing T k c.kind_of.result is c.if-kind_of-ne-GATE.false L (rw (e, c.in_err-open.was) at c.holds_lent.ensures))

pub returns-then-not-open : goal.returns-then-not-open
returns-then-not-open c =
    let T = c.args.context.now.nodes.now in
    let L = c.args.context.now.locals.now in
    let k = c.args.k in
    let is = c.kind_of.ensures ∙ ap kind_of c.cell_at-cell.ensures in
    let e = c.left_of.ensures ∙ ap left_of c.cell_at-cell.ensures in
    gate-no T k c.kind_of.result is c.if-kind_of-ne-GATE.false L (rw (e, c.in_ok-open.was, refused _ c.if-not-open.true-raw) at c.holds_lent.ensures)

pub overflow_sub-k : goal.overflow_sub-k
overflow_sub-k c =
    let T = c.args.context.now.nodes.now in
    let L = c.args.context.now.locals.now in
    let k = c.args.k in
    let is = c.kind_of.ensures ∙ ap kind_of c.cell_at-cell.ensures in
    let f = gated-parts T k c.kind_of.result is c.if-kind_of-ne-GATE.false c.requires.0 (length L) c.requires.1 in
    f.0

pub prefix_offer-requires-2 : goal.prefix_offer-requires-2
prefix_offer-requires-2 c =
    let T = c.args.context.now.nodes.now in
    let L = c.args.context.now.locals.now in
    let k = c.args.k in
    let is = c.kind_of.ensures ∙ ap kind_of c.cell_at-cell.ensures in
    let f = gated-parts T k c.kind_of.result is c.if-kind_of-ne-GATE.false c.requires.0 (length L) c.requires.1 in
    f.2

pub returns-in_err-offer-2 : goal.returns-in_err-offer-2
unfolding opened
returns-in_err-offer-2 c =
    let T = c.args.context.now.nodes.now in
    let L = c.args.context.now.locals.now in
    let k = c.args.k in
    let is = c.kind_of.ensures ∙ ap kind_of c.cell_at-cell.ensures in
    let e = c.left_of.ensures ∙ ap left_of c.cell_at-cell.ensures in
    rw c.from_residual-in_err-offer-2.ensures (rw c.in_err-offer-2.was at (gate-yes T k c.kind_of.result is c.if-kind_of-ne-GATE.false L c.prefix_offer-2.result (rw (e, c.in_ok-open.was, passed _ c.if-not-open.false-raw) at c.holds_lent.ensures) c.prefix_offer-2.ensures))

pub returns : goal.returns
unfolding opened
returns c =
    let T = c.args.context.now.nodes.now in
    let L = c.args.context.now.locals.now in
    let k = c.args.k in
    let is = c.kind_of.ensures ∙ ap kind_of c.cell_at-cell.ensures in
    let e = c.left_of.ensures ∙ ap left_of c.cell_at-cell.ensures in
    rw c.in_ok-offer-2.was at (gate-yes T k c.kind_of.result is c.if-kind_of-ne-GATE.false L c.prefix_offer-2.result (rw (e, c.in_ok-open.was, passed _ c.if-not-open.false-raw) at c.holds_lent.ensures) c.prefix_offer-2.ensures)
