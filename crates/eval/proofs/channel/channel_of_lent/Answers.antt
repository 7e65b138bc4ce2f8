-- One, two or three items: from what the node says.
use mathlib.Core.Path.{refl, sym, ap, ◌∙◌}
use Rattle.value.proofs.Kit.{back}
use Rattle.eval.proofs.Shapes.{lacks-first, lacks-second, lacks-third, one-made, two_made, three_made}
use native.Mathlib.Omega.{arith}
use lib.ListN.{length}
use Rattle.tree.specs.Node.{kind_of, left_of, third_of}
use Rattle.eval.proofs.Channels.{one-part, one-is, first_part, first_lacks, two-part, two_is, three-parts, three-is, second_lacks}
use Rattle.eval.proofs.channel.channel_of_lent.Goals as goal

pub item_of-requires : goal.item_of-requires
item_of-requires c =
    let T = c.args.context.now.nodes.now in
    let L = c.args.context.now.locals.now in
    let k = c.args.k in
    let is = c.kind_of-kind.ensures ∙ ap kind_of c.cell_at-cell.ensures in
    (c.requires.0, one-part T k c.kind_of-kind.result is c.if-kind-lt-TWO_ITEMS.true c.requires.0 (length L) c.requires.1)

pub returns-in_err-a : goal.returns-in_err-a
returns-in_err-a c =
    let T = c.args.context.now.nodes.now in
    let L = c.args.context.now.locals.now in
    let k = c.args.k in
    let is = c.kind_of-kind.ensures ∙ ap kind_of c.cell_at-cell.ensures in
    one-is T k c.kind_of-kind.result is c.if-kind-lt-TWO_ITEMS.true L c.item_of.result _ c.item_of.ensures (λ o e. c.from_residual.ensures ∙ lacks-first o _ (sym c.in_err-a.was ∙ e))

pub returns-then-kind-lt-TWO_ITEMS : goal.returns-then-kind-lt-TWO_ITEMS
returns-then-kind-lt-TWO_ITEMS c =
    let T = c.args.context.now.nodes.now in
    let L = c.args.context.now.locals.now in
    let k = c.args.k in
    let is = c.kind_of-kind.ensures ∙ ap kind_of c.cell_at-cell.ensures in
    one-is T k c.kind_of-kind.result is c.if-kind-lt-TWO_ITEMS.true L c.item_of.result _ c.item_of.ensures
    (λ o e. rw (back c.value.result (omega arith), c.kind.ensures.0, c.value.ensures) (one-made c.in_ok-a.a o (sym c.in_ok-a.was ∙ e) _ refl))

pub item_of-requires-2 : goal.item_of-requires-2
item_of-requires-2 c =
    let T = c.args.context.now.nodes.now in
    let L = c.args.context.now.locals.now in
    let k = c.args.k in
    let is = c.kind_of-kind.ensures ∙ ap kind_of c.cell_at-cell.ensures in
    let e = c.left_of.ensures ∙ ap left_of c.cell_at-cell.ensures in
    (c.requires.0, rw e (first_part T k c.kind_of-kind.result is (λ h. omega (arith, c.if-kind-lt-TWO_ITEMS.false)) c.requires.0 (length L) c.requires.1).1)

pub returns-in_err-a-2 : goal.returns-in_err-a-2
returns-in_err-a-2 c =
    let T = c.args.context.now.nodes.now in
    let L = c.args.context.now.locals.now in
    let k = c.args.k in
    let is = c.kind_of-kind.ensures ∙ ap kind_of c.cell_at-cell.ensures in
    let e = c.left_of.ensures ∙ ap left_of c.cell_at-cell.ensures in
    rw c.from_residual-in_err-a-2.ensures (first_lacks T k c.kind_of-kind.result is (λ h. omega (arith, c.if-kind-lt-TWO_ITEMS.false)) L (rw (e, c.in_err-a-2.was) at c.item_of-2.ensures))

pub overflow_sub-k : goal.overflow_sub-k
overflow_sub-k c =
    let T = c.args.context.now.nodes.now in
    let L = c.args.context.now.locals.now in
    let k = c.args.k in
    let is = c.kind_of-kind.ensures ∙ ap kind_of c.cell_at-cell.ensures in
    (first_part T k c.kind_of-kind.result is (λ h. omega (arith, c.if-kind-lt-TWO_ITEMS.false)) c.requires.0 (length L) c.requires.1).0

pub item_of-requires-then-kind-eq-TWO_ITEMS : goal.item_of-requires-then-kind-eq-TWO_ITEMS
item_of-requires-then-kind-eq-TWO_ITEMS c =
    let T = c.args.context.now.nodes.now in
    let L = c.args.context.now.locals.now in
    let k = c.args.k in
    let is = c.kind_of-kind.ensures ∙ ap kind_of c.cell_at-cell.ensures in
    (c.requires.0, two-part T k c.kind_of-kind.result is c.if-kind-eq-TWO_ITEMS.true c.requires.0 (length L) c.requires.1)

pub returns-in_err-b : goal.returns-in_err-b
returns-in_err-b c =
    let T = c.args.context.now.nodes.now in
    let L = c.args.context.now.locals.now in
    let k = c.args.k in
    let is = c.kind_of-kind.ensures ∙ ap kind_of c.cell_at-cell.ensures in
    let e = c.left_of.ensures ∙ ap left_of c.cell_at-cell.ensures in
    two_is T k c.kind_of-kind.result is c.if-kind-eq-TWO_ITEMS.true L c.item_of-2.result c.item_of-then-kind-eq-TWO_ITEMS.result _ (rw e at c.item_of-2.ensures) c.item_of-then-kind-eq-TWO_ITEMS.ensures
    (λ o p q r. c.from_residual-in_err-b.ensures ∙ lacks-second o p _ (sym c.in_err-b.was ∙ r))

pub returns-then-kind-eq-TWO_ITEMS : goal.returns-then-kind-eq-TWO_ITEMS
returns-then-kind-eq-TWO_ITEMS c =
    let T = c.args.context.now.nodes.now in
    let L = c.args.context.now.locals.now in
    let k = c.args.k in
    let is = c.kind_of-kind.ensures ∙ ap kind_of c.cell_at-cell.ensures in
    let e = c.left_of.ensures ∙ ap left_of c.cell_at-cell.ensures in
    two_is T k c.kind_of-kind.result is c.if-kind-eq-TWO_ITEMS.true L c.item_of-2.result c.item_of-then-kind-eq-TWO_ITEMS.result _ (rw e at c.item_of-2.ensures) c.item_of-then-kind-eq-TWO_ITEMS.ensures
    (λ o p q r. rw (back c.value-then-kind-eq-TWO_ITEMS.result (omega arith), back c.value-then-kind-eq-TWO_ITEMS-2.result (omega arith), c.kind-then-kind-eq-TWO_ITEMS.ensures.0, c.kind-then-kind-eq-TWO_ITEMS-2.ensures.0, c.value-then-kind-eq-TWO_ITEMS.ensures, c.value-then-kind-eq-TWO_ITEMS-2.ensures)
    (two_made c.in_ok-a-2.a c.in_ok-b.b o p (sym c.in_ok-a-2.was ∙ q) (sym c.in_ok-b.was ∙ r) _ refl))

pub item_of-requires-3 : goal.item_of-requires-3
item_of-requires-3 c =
    let T = c.args.context.now.nodes.now in
    let L = c.args.context.now.locals.now in
    let k = c.args.k in
    let is = c.kind_of-kind.ensures ∙ ap kind_of c.cell_at-cell.ensures in
    let d = c.third_of.ensures ∙ ap third_of c.cell_at-cell.ensures in
    (c.requires.0, rw d (three-parts T k c.kind_of-kind.result is (λ h. omega (arith, c.if-kind-lt-TWO_ITEMS.false)) c.if-kind-eq-TWO_ITEMS.false c.requires.0 (length L) c.requires.1).0)

pub returns-in_err-b-2 : goal.returns-in_err-b-2
returns-in_err-b-2 c =
    let T = c.args.context.now.nodes.now in
    let L = c.args.context.now.locals.now in
    let k = c.args.k in
    let is = c.kind_of-kind.ensures ∙ ap kind_of c.cell_at-cell.ensures in
    let d = c.third_of.ensures ∙ ap third_of c.cell_at-cell.ensures in
    rw c.from_residual-in_err-b-2.ensures (second_lacks T k c.kind_of-kind.result is (λ h. omega (arith, c.if-kind-lt-TWO_ITEMS.false)) c.if-kind-eq-TWO_ITEMS.false L (rw (d, c.in_err-b-2.was) at c.item_of-3.ensures))

pub overflow_sub-k-2 : goal.overflow_sub-k-2
overflow_sub-k-2 c =
    let T = c.args.context.now.nodes.now in
    let L = c.args.context.now.locals.now in
    let k = c.args.k in
    let is = c.kind_of-kind.ensures ∙ ap kind_of c.cell_at-cell.ensures in
    (first_part T k c.kind_of-kind.result is (λ h. omega (arith, c.if-kind-lt-TWO_ITEMS.false)) c.requires.0 (length L) c.requires.1).0

pub item_of-requires-4 : goal.item_of-requires-4
item_of-requires-4 c =
    let T = c.args.context.now.nodes.now in
    let L = c.args.context.now.locals.now in
    let k = c.args.k in
    let is = c.kind_of-kind.ensures ∙ ap kind_of c.cell_at-cell.ensures in
    (c.requires.0, (three-parts T k c.kind_of-kind.result is (λ h. omega (arith, c.if-kind-lt-TWO_ITEMS.false)) c.if-kind-eq-TWO_ITEMS.false c.requires.0 (length L) c.requires.1).1)

pub returns-in_err-c : goal.returns-in_err-c
returns-in_err-c c =
    let T = c.args.context.now.nodes.now in
    let L = c.args.context.now.locals.now in
    let k = c.args.k in
    let is = c.kind_of-kind.ensures ∙ ap kind_of c.cell_at-cell.ensures in
    let e = c.left_of.ensures ∙ ap left_of c.cell_at-cell.ensures in
    let d = c.third_of.ensures ∙ ap third_of c.cell_at-cell.ensures in
    three-is T k c.kind_of-kind.result is (λ h. omega (arith, c.if-kind-lt-TWO_ITEMS.false)) c.if-kind-eq-TWO_ITEMS.false L c.item_of-2.result c.item_of-3.result c.item_of-4.result _ (rw e at c.item_of-2.ensures) (rw d at c.item_of-3.ensures) c.item_of-4.ensures
    (λ o p q r s t. c.from_residual-in_err-c.ensures ∙ lacks-third o p q _ (sym c.in_err-c.was ∙ t))

pub returns : goal.returns
returns c =
    let T = c.args.context.now.nodes.now in
    let L = c.args.context.now.locals.now in
    let k = c.args.k in
    let is = c.kind_of-kind.ensures ∙ ap kind_of c.cell_at-cell.ensures in
    let e = c.left_of.ensures ∙ ap left_of c.cell_at-cell.ensures in
    let d = c.third_of.ensures ∙ ap third_of c.cell_at-cell.ensures in
    three-is T k c.kind_of-kind.result is (λ h. omega (arith, c.if-kind-lt-TWO_ITEMS.false)) c.if-kind-eq-TWO_ITEMS.false L c.item_of-2.result c.item_of-3.result c.item_of-4.result _ (rw e at c.item_of-2.ensures) (rw d at c.item_of-3.ensures) c.item_of-4.ensures
    (λ o p q r s t. rw (back c.value-2.result (omega arith), back c.value-3.result (omega arith), back c.value-4.result (omega arith), c.kind-2.ensures.0, c.kind-3.ensures.0, c.kind-4.ensures.0, c.value-2.ensures, c.value-3.ensures, c.value-4.ensures)
    (three_made c.in_ok-a-2.a c.in_ok-b-2.b c.in_ok-c.c o p q (sym c.in_ok-a-2.was ∙ r) (sym c.in_ok-b-2.was ∙ s) (sym c.in_ok-c.was ∙ t) _ refl))
