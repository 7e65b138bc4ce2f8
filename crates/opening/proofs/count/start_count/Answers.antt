use mathlib.Core.Path.{sym, ◌∙◌}
use native.Mathlib.Omega.{arith}
use borrow.Author.Rules.{rules}
use Rattle.opening.proofs.Counting.{left-all, left-inside-line, left-next, next-item, left-last, counts-many, counts_all}
use Rattle.opening.proofs.count.start_count.Goals as goal

pub loop-count-init : goal.loop-count-init
loop-count-init c =
    (omega arith, λ m g. left-all c.args.nodes.now g)

pub offset_bounds-nodes-at : goal.offset_bounds-nodes-at
offset_bounds-nodes-at c =
    let l = left-inside-line c.args.nodes.now c.requires.1 (c.loop-count.invariant.1 c.requires.0 c.requires.1) in search rules

pub bounds-nodes-at : goal.bounds-nodes-at
bounds-nodes-at c =
    left-inside-line c.args.nodes.now c.requires.1 (c.loop-count.invariant.1 c.requires.0 c.requires.1)

pub offset_bounds-nodes-at-in-loop-count : goal.offset_bounds-nodes-at-in-loop-count
offset_bounds-nodes-at-in-loop-count c =
    let l = left-inside-line c.args.nodes.now c.requires.1 (c.loop-count.invariant.1 c.requires.0 c.requires.1) in search rules

pub bounds-nodes-at-in-loop-count : goal.bounds-nodes-at-in-loop-count
bounds-nodes-at-in-loop-count c =
    left-inside-line c.args.nodes.now c.requires.1 (c.loop-count.invariant.1 c.requires.0 c.requires.1)

pub item_processes-count-requires : goal.item_processes-count-requires
item_processes-count-requires c =
    (c.requires.0.definitions, (left-next c.args.nodes.now c.requires.1 (c.loop-count.invariant.1 c.requires.0 c.requires.1) (sym c.kind_of.ensures ∙ c.loop-count-test.true)).start, next-item c.args.nodes.now c.requires.1 (c.loop-count.invariant.1 c.requires.0 c.requires.1) (sym c.kind_of.ensures ∙ c.loop-count-test.true) c.left_of.ensures)

pub returns-then-count-gt-PROCESSES : goal.returns-then-count-gt-PROCESSES
returns-then-count-gt-PROCESSES c =
    λ m g. counts-many c.args.nodes.now g ((left-next c.args.nodes.now g (c.loop-count.invariant.1 m g) (sym c.kind_of.ensures ∙ c.loop-count-test.true)).rest _ (c.item_processes-count.ensures.value m.definitions (left-next c.args.nodes.now g (c.loop-count.invariant.1 m g) (sym c.kind_of.ensures ∙ c.loop-count-test.true)).start (next-item c.args.nodes.now g (c.loop-count.invariant.1 m g) (sym c.kind_of.ensures ∙ c.loop-count-test.true) c.left_of.ensures))) c.if-count-gt-PROCESSES.true

pub overflow_sub-at : goal.overflow_sub-at
overflow_sub-at c =
    let l = (left-next c.args.nodes.now c.requires.1 (c.loop-count.invariant.1 c.requires.0 c.requires.1) (sym c.kind_of.ensures ∙ c.loop-count-test.true)).above in omega arith

pub loop-count-smaller : goal.loop-count-smaller
loop-count-smaller c =
    let l = (left-next c.args.nodes.now c.requires.1 (c.loop-count.invariant.1 c.requires.0 c.requires.1) (sym c.kind_of.ensures ∙ c.loop-count-test.true)).above in omega arith

pub loop-count-preserved : goal.loop-count-preserved
loop-count-preserved c =
    (omega arith, λ m g. ((left-next c.args.nodes.now g (c.loop-count.invariant.1 m g) (sym c.kind_of.ensures ∙ c.loop-count-test.true)).rest _ (c.item_processes-count.ensures.value m.definitions (left-next c.args.nodes.now g (c.loop-count.invariant.1 m g) (sym c.kind_of.ensures ∙ c.loop-count-test.true)).start (next-item c.args.nodes.now g (c.loop-count.invariant.1 m g) (sym c.kind_of.ensures ∙ c.loop-count-test.true) c.left_of.ensures))))

pub item_processes-requires : goal.item_processes-requires
item_processes-requires c =
    (c.requires.0.definitions, (left-last c.args.nodes.now c.requires.1 (c.loop-count.invariant.1 c.requires.0 c.requires.1) (λ e. c.loop-count-test.false (c.kind_of.ensures ∙ e))).start, (left-last c.args.nodes.now c.requires.1 (c.loop-count.invariant.1 c.requires.0 c.requires.1) (λ e. c.loop-count-test.false (c.kind_of.ensures ∙ e))).item)

pub returns : goal.returns
returns c =
    λ m g. counts_all ((left-last c.args.nodes.now g (c.loop-count.invariant.1 m g) (λ e. c.loop-count-test.false (c.kind_of.ensures ∙ e))).sum _ (c.item_processes.ensures.value m.definitions (left-last c.args.nodes.now g (c.loop-count.invariant.1 m g) (λ e. c.loop-count-test.false (c.kind_of.ensures ∙ e))).start (left-last c.args.nodes.now g (c.loop-count.invariant.1 m g) (λ e. c.loop-count-test.false (c.kind_of.ensures ∙ e))).item))
