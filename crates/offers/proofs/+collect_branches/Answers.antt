use mathlib.Core.Path.{ap, ◌∙◌}
use native.Mathlib.Omega.{arith}
use borrow.Author.Rules.{rules}
use lib.ListN.{length}
use Rattle.std.proofs.lemmas.Result.{err_from_is_err_and}
use Rattle.tree.specs.Node.{kind_of, left_of}
use Rattle.offers.proofs.Branched.{lone-part, lone-collects, more_parts, more-stops, more-collects, one-row}
use Rattle.offers.proofs.+collect_branches.Goals as goal

pub collect_branch-requires : goal.collect_branch-requires
collect_branch-requires t c =
    let T = c.args.context.now.nodes.now in let L = c.args.context.now.locals.now in let k = c.args.k in let kind = c.kind_of-kind.result in let is = c.kind_of-kind.ensures ∙ ap kind_of c.cell_at-cell.ensures in
    let f = lone-part T k kind is c.if-kind-ne-CHOICE.true (length L) c.args.branch c.requires.0 in
    (f.0, omega (arith, c.requires.2, c.requires.1, f.1), c.requires.1, f.1)

pub returns-then-kind-ne-CHOICE-clause-collects : goal.returns-then-kind-ne-CHOICE-clause-collects
returns-then-kind-ne-CHOICE-clause-collects t c =
    let T = c.args.context.now.nodes.now in let L = c.args.context.now.locals.now in let k = c.args.k in let kind = c.kind_of-kind.result in let is = c.kind_of-kind.ensures ∙ ap kind_of c.cell_at-cell.ensures in
    lone-collects T k kind is c.if-kind-ne-CHOICE.true L c.args.place c.args.branch c.args.filling.now.count c.args.filling.now.rows.now _ _ _ c.collect_branch.ensures.collects

pub collect_branch-requires-2 : goal.collect_branch-requires-2
collect_branch-requires-2 t c =
    let T = c.args.context.now.nodes.now in let L = c.args.context.now.locals.now in let k = c.args.k in let kind = c.kind_of-kind.result in let is = c.kind_of-kind.ensures ∙ ap kind_of c.cell_at-cell.ensures in
    let f = more_parts T k kind is c.if-kind-ne-CHOICE.false (length L) c.args.branch c.requires.0 in
    let e = c.left_of-left.ensures ∙ ap left_of c.cell_at-cell.ensures in
    (rw e f.1, omega (arith, c.requires.2, c.requires.1, f.3), c.requires.1, f.3)

pub overflow_add-branch : goal.overflow_add-branch
overflow_add-branch t c =
    let T = c.args.context.now.nodes.now in let L = c.args.context.now.locals.now in let k = c.args.k in let kind = c.kind_of-kind.result in let is = c.kind_of-kind.ensures ∙ ap kind_of c.cell_at-cell.ensures in
    let f = more_parts T k kind is c.if-kind-ne-CHOICE.false (length L) c.args.branch c.requires.0 in
    let l = f.3 in search rules

pub overflow_sub-k : goal.overflow_sub-k
overflow_sub-k t c =
    let T = c.args.context.now.nodes.now in let L = c.args.context.now.locals.now in let k = c.args.k in let kind = c.kind_of-kind.result in let is = c.kind_of-kind.ensures ∙ ap kind_of c.cell_at-cell.ensures in
    let f = more_parts T k kind is c.if-kind-ne-CHOICE.false (length L) c.args.branch c.requires.0 in
    f.0

pub collect_branches-requires : goal.collect_branches-requires
collect_branches-requires t c =
    let T = c.args.context.now.nodes.now in let L = c.args.context.now.locals.now in let k = c.args.k in let kind = c.kind_of-kind.result in let is = c.kind_of-kind.ensures ∙ ap kind_of c.cell_at-cell.ensures in
    let f = more_parts T k kind is c.if-kind-ne-CHOICE.false (length L) c.args.branch c.requires.0 in
    let e = c.left_of-left.ensures ∙ ap left_of c.cell_at-cell.ensures in
    let o = one-row T L c.args.place c.args.branch c.args.filling.now.count c.args.filling.now.rows.now (rw (e, c.in_ok-collect_branch.was) at c.collect_branch-2.ensures.collects f.1.1.part f.1.1.at) in
    (omega (arith, c.decreases, f.0), (f.2, c.requires.1, omega (arith, c.requires.2, o)))

pub returns-clause-collects : goal.returns-clause-collects
returns-clause-collects t c =
    let T = c.args.context.now.nodes.now in let L = c.args.context.now.locals.now in let k = c.args.k in let kind = c.kind_of-kind.result in let is = c.kind_of-kind.ensures ∙ ap kind_of c.cell_at-cell.ensures in
    let e = c.left_of-left.ensures ∙ ap left_of c.cell_at-cell.ensures in
    more-collects T k kind is c.if-kind-ne-CHOICE.false L c.args.place c.args.branch c.args.filling.now.count c.args.filling.now.rows.now _ _ _ _ _ (rw (e, c.in_ok-collect_branch.was) at c.collect_branch-2.ensures.collects) c.collect_branches.ensures.collects

pub returns-in_err-collect_branch-clause-collects : goal.returns-in_err-collect_branch-clause-collects
returns-in_err-collect_branch-clause-collects t c =
    let T = c.args.context.now.nodes.now in let L = c.args.context.now.locals.now in let k = c.args.k in let kind = c.kind_of-kind.result in let is = c.kind_of-kind.ensures ∙ ap kind_of c.cell_at-cell.ensures in
    let e = c.left_of-left.ensures ∙ ap left_of c.cell_at-cell.ensures in
    let p = err_from_is_err_and c.from_residual.result c.from_residual.ensures.1 in
    rw (p.1, p.2) (more-stops T k kind is c.if-kind-ne-CHOICE.false L c.args.place c.args.branch c.args.filling.now.count c.args.filling.now.rows.now _ _ _ (rw (e, c.in_err-collect_branch.was) at c.collect_branch-2.ensures.collects))
