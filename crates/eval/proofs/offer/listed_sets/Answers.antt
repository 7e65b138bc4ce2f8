-- `eval::offer::listed_sets` meets its contract: one set, or two. From what the node says.
use mathlib.Core.Path.{ap, ◌∙◌}
use native.Mathlib.Omega.{arith}
use Rattle.value.proofs.Kit.{back}
use lib.ListN.{length}
use Rattle.tree.specs.Node.{kind_of, left_of}
use Rattle.tables.specs.Settled.{Set}
use Rattle.model.specs.Good.{GoodSet}
use Rattle.eval.proofs.Lists.{one-part, two-parts, set-low}
use Prim.Native.Nat.{◌-◌}
use lib.ListN.{get_or}
use Rattle.eval.proofs.Ends.{one-listed, one-lacks, two-listed, two-lack, second-lacks, set-numbered}
use Rattle.eval.proofs.offer.listed_sets.Goals as goal

pub set_of-requires : goal.set_of-requires
set_of-requires c =
    let s = c in
    let T = s.args.context.now.nodes.now in
    let L = s.args.context.now.locals.now in
    let k = s.args.k in
    let is = c.kind_of.ensures ∙ ap kind_of c.cell_at-cell.ensures in
    one-part T k c.kind_of.result is (Set T) (GoodSet (length L)) c.if-kind_of-ne-PAIR.true s.requires

pub returns-in_err-set : goal.returns-in_err-set
returns-in_err-set c ss h =
    let T = c.args.context.now.nodes.now in
    let L = c.args.context.now.locals.now in
    let k = c.args.k in
    let is = c.kind_of.ensures ∙ ap kind_of c.cell_at-cell.ensures in
    rw c.from_residual.ensures (one-lacks T k c.kind_of.result is L c.if-kind_of-ne-PAIR.true (rw c.in_err-set.was at c.set_of.ensures) ss h)

pub numbers-a-requires : goal.numbers-a-requires
numbers-a-requires c =
    let T = c.args.context.now.nodes.now in
    let L = c.args.context.now.locals.now in
    let k = c.args.k in
    let is = c.kind_of.ensures ∙ ap kind_of c.cell_at-cell.ensures in
    set-numbered T L c.in_ok-set.set (omega (arith, c.well_formed)) k (one-part T k c.kind_of.result is (Set T) (GoodSet (length L)) c.if-kind_of-ne-PAIR.true c.requires) (rw c.in_ok-set.was at c.set_of.ensures)

pub returns-then-kind_of-ne-PAIR : goal.returns-then-kind_of-ne-PAIR
returns-then-kind_of-ne-PAIR c ss h =
    let T = c.args.context.now.nodes.now in
    let L = c.args.context.now.locals.now in
    let k = c.args.k in
    let is = c.kind_of.ensures ∙ ap kind_of c.cell_at-cell.ensures in
    rw (back c.numbers-a.result.0 (omega arith), back c.numbers-a.result.1 (omega arith))
    (one-listed T k c.kind_of.result is L c.in_ok-set.set _ _ c.numbers-a.ensures c.if-kind_of-ne-PAIR.true (rw c.in_ok-set.was at c.set_of.ensures) ss h)

pub set_of-requires-2 : goal.set_of-requires-2
set_of-requires-2 c =
    let T = c.args.context.now.nodes.now in
    let L = c.args.context.now.locals.now in
    let k = c.args.k in
    let is = c.kind_of.ensures ∙ ap kind_of c.cell_at-cell.ensures in
    let e = c.left_of.ensures ∙ ap left_of c.cell_at-cell.ensures in
    let f = two-parts T k c.kind_of.result is (Set T) (GoodSet (length L)) (set-low T k c.kind_of.result is) c.if-kind_of-ne-PAIR.false c.requires in
    rw e f.1

pub returns-in_err-first : goal.returns-in_err-first
returns-in_err-first c ss h =
    let T = c.args.context.now.nodes.now in
    let L = c.args.context.now.locals.now in
    let k = c.args.k in
    let is = c.kind_of.ensures ∙ ap kind_of c.cell_at-cell.ensures in
    let e = c.left_of.ensures ∙ ap left_of c.cell_at-cell.ensures in
    rw c.from_residual-in_err-first.ensures (two-lack T k c.kind_of.result is L c.if-kind_of-ne-PAIR.false (rw (e, c.in_err-first.was) at c.set_of-2.ensures) ss h)

pub overflow_sub-k : goal.overflow_sub-k
overflow_sub-k c =
    let T = c.args.context.now.nodes.now in
    let L = c.args.context.now.locals.now in
    let k = c.args.k in
    let is = c.kind_of.ensures ∙ ap kind_of c.cell_at-cell.ensures in
    let f = two-parts T k c.kind_of.result is (Set T) (GoodSet (length L)) (set-low T k c.kind_of.result is) c.if-kind_of-ne-PAIR.false c.requires in
    f.0

pub set_of-requires-3 : goal.set_of-requires-3
set_of-requires-3 c =
    let T = c.args.context.now.nodes.now in
    let L = c.args.context.now.locals.now in
    let k = c.args.k in
    let is = c.kind_of.ensures ∙ ap kind_of c.cell_at-cell.ensures in
    let f = two-parts T k c.kind_of.result is (Set T) (GoodSet (length L)) (set-low T k c.kind_of.result is) c.if-kind_of-ne-PAIR.false c.requires in
    f.2

pub returns-in_err-second : goal.returns-in_err-second
returns-in_err-second c ss h =
    let T = c.args.context.now.nodes.now in
    let L = c.args.context.now.locals.now in
    let k = c.args.k in
    let is = c.kind_of.ensures ∙ ap kind_of c.cell_at-cell.ensures in
    let e = c.left_of.ensures ∙ ap left_of c.cell_at-cell.ensures in
    rw c.from_residual-in_err-second.ensures (second-lacks T k c.kind_of.result is L c.in_ok-first.first c.if-kind_of-ne-PAIR.false (rw (e, c.in_ok-first.was) at c.set_of-2.ensures) (rw c.in_err-second.was at c.set_of-3.ensures) ss h)

pub numbers-a-requires-2 : goal.numbers-a-requires-2
numbers-a-requires-2 c =
    let T = c.args.context.now.nodes.now in
    let L = c.args.context.now.locals.now in
    let k = c.args.k in
    let is = c.kind_of.ensures ∙ ap kind_of c.cell_at-cell.ensures in
    let e = c.left_of.ensures ∙ ap left_of c.cell_at-cell.ensures in
    let f = two-parts T k c.kind_of.result is (Set T) (GoodSet (length L)) (set-low T k c.kind_of.result is) c.if-kind_of-ne-PAIR.false c.requires in
    set-numbered T L c.in_ok-first.first (omega (arith, c.well_formed)) (left_of (get_or T k 0)) f.1 (rw (e, c.in_ok-first.was) at c.set_of-2.ensures)

pub numbers-c-requires : goal.numbers-c-requires
numbers-c-requires c =
    let T = c.args.context.now.nodes.now in
    let L = c.args.context.now.locals.now in
    let k = c.args.k in
    let is = c.kind_of.ensures ∙ ap kind_of c.cell_at-cell.ensures in
    let e = c.left_of.ensures ∙ ap left_of c.cell_at-cell.ensures in
    let f = two-parts T k c.kind_of.result is (Set T) (GoodSet (length L)) (set-low T k c.kind_of.result is) c.if-kind_of-ne-PAIR.false c.requires in
    set-numbered T L c.in_ok-second.second (omega (arith, c.well_formed)) (k - 1) f.2 (rw c.in_ok-second.was at c.set_of-3.ensures)

pub returns : goal.returns
returns c ss h =
    let T = c.args.context.now.nodes.now in
    let L = c.args.context.now.locals.now in
    let k = c.args.k in
    let is = c.kind_of.ensures ∙ ap kind_of c.cell_at-cell.ensures in
    let e = c.left_of.ensures ∙ ap left_of c.cell_at-cell.ensures in
    rw (back c.numbers-a-2.result.0 (omega arith), back c.numbers-a-2.result.1 (omega arith), back c.numbers-c.result.0 (omega arith), back c.numbers-c.result.1 (omega arith))
    (two-listed T k c.kind_of.result is L c.in_ok-first.first c.in_ok-second.second _ _ _ _ c.numbers-a-2.ensures c.numbers-c.ensures c.if-kind_of-ne-PAIR.false (rw (e, c.in_ok-first.was) at c.set_of-2.ensures) (rw c.in_ok-second.was at c.set_of-3.ensures) ss h)
