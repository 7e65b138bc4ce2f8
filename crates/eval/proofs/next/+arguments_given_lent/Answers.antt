use mathlib.Core.Path.{ap, ◌∙◌}
use native.Mathlib.Omega.{arith}
use lib.ListN.{length}
use Rattle.tree.specs.Node.{kind_of, left_of}
use Rattle.eval.proofs.Continuations.{group-held, group-given, item-held, items-given, first-ungiven, call-held, call-given, others-given}
use Rattle.eval.proofs.next.+arguments_given_lent.Goals as goal

pub overflow_sub-k : goal.overflow_sub-k
overflow_sub-k t c =
    let s = c in
    let T = s.args.context.now.nodes.now in
    let L = s.args.context.now.locals.now in
    let k = s.args.k in
    let is = c.kind_of-kind.ensures ∙ ap kind_of c.cell_at-cell.ensures in
    (group-held T k c.kind_of-kind.result is c.if-kind-eq-GROUP.true s.requires.0 (length L) s.requires.1).0

pub arguments_given_lent-requires : goal.arguments_given_lent-requires
arguments_given_lent-requires t c =
    let s = c in
    let T = s.args.context.now.nodes.now in
    let L = s.args.context.now.locals.now in
    let k = s.args.k in
    let is = c.kind_of-kind.ensures ∙ ap kind_of c.cell_at-cell.ensures in
    let f = group-held T k c.kind_of-kind.result is c.if-kind-eq-GROUP.true s.requires.0 (length L) s.requires.1 in
    (omega (arith, s.decreases, f.0), (s.requires.0, f.1))

pub returns-then-kind-eq-GROUP : goal.returns-then-kind-eq-GROUP
returns-then-kind-eq-GROUP t c =
    let s = c in
    let T = s.args.context.now.nodes.now in
    let L = s.args.context.now.locals.now in
    let k = s.args.k in
    let is = c.kind_of-kind.ensures ∙ ap kind_of c.cell_at-cell.ensures in
    group-given T k c.kind_of-kind.result is c.if-kind-eq-GROUP.true L c.arguments_given_lent.result c.arguments_given_lent.ensures

pub arguments_given_lent-requires-then-kind-eq-ITEM : goal.arguments_given_lent-requires-then-kind-eq-ITEM
arguments_given_lent-requires-then-kind-eq-ITEM t c =
    let s = c in
    let T = s.args.context.now.nodes.now in
    let L = s.args.context.now.locals.now in
    let k = s.args.k in
    let is = c.kind_of-kind.ensures ∙ ap kind_of c.cell_at-cell.ensures in
    let e = c.left_of.ensures ∙ ap left_of c.cell_at-cell.ensures in
    let f = item-held T k c.kind_of-kind.result is c.if-kind-eq-ITEM.true s.requires.0 (length L) s.requires.1 in
    (rw (e, ← s.decreases) f.1, (s.requires.0, rw e f.2))

pub overflow_sub-k-then-arguments_given_lent : goal.overflow_sub-k-then-arguments_given_lent
overflow_sub-k-then-arguments_given_lent t c =
    let s = c in
    let T = s.args.context.now.nodes.now in
    let L = s.args.context.now.locals.now in
    let k = s.args.k in
    let is = c.kind_of-kind.ensures ∙ ap kind_of c.cell_at-cell.ensures in
    (item-held T k c.kind_of-kind.result is c.if-kind-eq-ITEM.true s.requires.0 (length L) s.requires.1).0

pub arguments_given_lent-requires-then-arguments_given_lent : goal.arguments_given_lent-requires-then-arguments_given_lent
arguments_given_lent-requires-then-arguments_given_lent t c =
    let s = c in
    let T = s.args.context.now.nodes.now in
    let L = s.args.context.now.locals.now in
    let k = s.args.k in
    let is = c.kind_of-kind.ensures ∙ ap kind_of c.cell_at-cell.ensures in
    let f = item-held T k c.kind_of-kind.result is c.if-kind-eq-ITEM.true s.requires.0 (length L) s.requires.1 in
    (omega (arith, s.decreases, f.0), (s.requires.0, f.3))

pub returns-then-arguments_given_lent : goal.returns-then-arguments_given_lent
returns-then-arguments_given_lent t c =
    let s = c in
    let T = s.args.context.now.nodes.now in
    let L = s.args.context.now.locals.now in
    let k = s.args.k in
    let is = c.kind_of-kind.ensures ∙ ap kind_of c.cell_at-cell.ensures in
    let e = c.left_of.ensures ∙ ap left_of c.cell_at-cell.ensures in
    items-given T k c.kind_of-kind.result is c.if-kind-eq-ITEM.true L c.arguments_given_lent-then-arguments_given_lent.result (rw (e, c.if-arguments_given_lent.true) at c.arguments_given_lent-then-kind-eq-ITEM.ensures) c.arguments_given_lent-then-arguments_given_lent.ensures

pub returns-else-arguments_given_lent : goal.returns-else-arguments_given_lent
returns-else-arguments_given_lent t c =
    let s = c in
    let T = s.args.context.now.nodes.now in
    let L = s.args.context.now.locals.now in
    let k = s.args.k in
    let is = c.kind_of-kind.ensures ∙ ap kind_of c.cell_at-cell.ensures in
    let e = c.left_of.ensures ∙ ap left_of c.cell_at-cell.ensures in
    rw c.if-arguments_given_lent.false (first-ungiven T k c.kind_of-kind.result is c.if-kind-eq-ITEM.true L (rw (e, c.if-arguments_given_lent.false) at c.arguments_given_lent-then-kind-eq-ITEM.ensures))

pub overflow_sub-k-then-kind-eq-CALL_WITH : goal.overflow_sub-k-then-kind-eq-CALL_WITH
overflow_sub-k-then-kind-eq-CALL_WITH t c =
    let s = c in
    let T = s.args.context.now.nodes.now in
    let L = s.args.context.now.locals.now in
    let k = s.args.k in
    let is = c.kind_of-kind.ensures ∙ ap kind_of c.cell_at-cell.ensures in
    (call-held T k c.kind_of-kind.result is c.if-kind-eq-CALL_WITH.true s.requires.0 (length L) s.requires.1).0

pub arguments_known_lent-requires : goal.arguments_known_lent-requires
arguments_known_lent-requires t c =
    let s = c in
    let T = s.args.context.now.nodes.now in
    let L = s.args.context.now.locals.now in
    let k = s.args.k in
    let is = c.kind_of-kind.ensures ∙ ap kind_of c.cell_at-cell.ensures in
    let f = call-held T k c.kind_of-kind.result is c.if-kind-eq-CALL_WITH.true s.requires.0 (length L) s.requires.1 in
    f.1

pub returns-then-kind-eq-CALL_WITH : goal.returns-then-kind-eq-CALL_WITH
returns-then-kind-eq-CALL_WITH t c =
    let s = c in
    let T = s.args.context.now.nodes.now in
    let L = s.args.context.now.locals.now in
    let k = s.args.k in
    let is = c.kind_of-kind.ensures ∙ ap kind_of c.cell_at-cell.ensures in
    call-given T k c.kind_of-kind.result is c.if-kind-eq-CALL_WITH.true L c.arguments_known_lent.result c.arguments_known_lent.ensures

pub returns : goal.returns
returns t c =
    let s = c in
    let T = s.args.context.now.nodes.now in
    let L = s.args.context.now.locals.now in
    let k = s.args.k in
    let is = c.kind_of-kind.ensures ∙ ap kind_of c.cell_at-cell.ensures in
    others-given T k c.kind_of-kind.result is L c.if-kind-eq-GROUP.false c.if-kind-eq-ITEM.false c.if-kind-eq-CALL_WITH.false
