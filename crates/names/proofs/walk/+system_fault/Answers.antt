use Rattle.model.specs.Sites.{definitions}
use Rattle.names.specs.Walks.{start_faults}
use Rattle.names.proofs.Settled.{root_in}
use Rattle.names.proofs.Lines.{last-start, next_start, next-at, last-judged, next-judged}
use mathlib.Core.Path.{sym, ◌∙◌}
use native.Mathlib.Omega.{arith}
use Rattle.names.proofs.walk.+system_fault.Goals as goal

pub offset_bounds-context-root : goal.offset_bounds-context-root
offset_bounds-context-root t c =
    omega (arith, root_in c.requires.0.0, c.requires.1)

pub bounds-context-root : goal.bounds-context-root
bounds-context-root t c =
    omega (arith, root_in c.requires.0.0, c.requires.1)

pub start_fault-requires : goal.start_fault-requires
start_fault-requires t c =
    let x = (last-start c.args.context.now.nodes.now c.requires.0.1 c.args.from c.args.root (λ e. c.if-kind_of-ne-SYSTEM.true (c.kind_of.ensures ∙ e)) c.requires.0.2) in
    ((c.requires.0.0, x.0, x.1), c.requires.1)

pub returns-then-kind_of-ne-SYSTEM : goal.returns-then-kind_of-ne-SYSTEM
returns-then-kind_of-ne-SYSTEM t c =
    λ h s o. let x = (last-start c.args.context.now.nodes.now s c.args.from c.args.root (λ e. c.if-kind_of-ne-SYSTEM.true (c.kind_of.ensures ∙ e)) o) in
    last-judged (start_faults c.args.context.now.question h.word (definitions h.model)) s x.0 c.start_fault.result x.2 (c.start_fault.ensures h x.0 x.1)

pub start_fault-first-requires : goal.start_fault-first-requires
start_fault-first-requires t c =
    let x = (next_start c.args.context.now.nodes.now c.requires.0.1 c.args.from c.args.root (sym c.kind_of.ensures ∙ c.if-kind_of-ne-SYSTEM.false) c.requires.0.2) in
    ((c.requires.0.0, x.first, (next-at c.args.context.now.nodes.now c.requires.0.1 c.args.from c.args.root x c.left_of-left.result c.left_of-left.ensures).0), omega (arith, x.below, c.left_of-left.ensures, c.requires.1))

pub overflow_add-left : goal.overflow_add-left
overflow_add-left t c =
    omega (arith, (next_start c.args.context.now.nodes.now c.requires.0.1 c.args.from c.args.root (sym c.kind_of.ensures ∙ c.if-kind_of-ne-SYSTEM.false) c.requires.0.2).below, c.left_of-left.ensures, c.requires.1, root_in c.requires.0.0)

pub overflow_sub-root : goal.overflow_sub-root
overflow_sub-root t c =
    omega (arith, (next_start c.args.context.now.nodes.now c.requires.0.1 c.args.from c.args.root (sym c.kind_of.ensures ∙ c.if-kind_of-ne-SYSTEM.false) c.requires.0.2).below)

pub system_fault-others-requires : goal.system_fault-others-requires
system_fault-others-requires t c =
    let x = (next_start c.args.context.now.nodes.now c.requires.0.1 c.args.from c.args.root (sym c.kind_of.ensures ∙ c.if-kind_of-ne-SYSTEM.false) c.requires.0.2) in
    (omega (arith, x.below, c.decreases), ((c.requires.0.0, x.rest, (next-at c.args.context.now.nodes.now c.requires.0.1 c.args.from c.args.root x c.left_of-left.result c.left_of-left.ensures).1), omega (arith, c.requires.1)))

pub returns : goal.returns
returns t c =
    λ h s o. let x = (next_start c.args.context.now.nodes.now s c.args.from c.args.root (sym c.kind_of.ensures ∙ c.if-kind_of-ne-SYSTEM.false) o) in
    next-judged (start_faults c.args.context.now.question h.word (definitions h.model)) s x.first x.rest c.start_fault-first.result c.system_fault-others.result c.earlier.result x.starts-are (c.start_fault-first.ensures h x.first (next-at c.args.context.now.nodes.now s c.args.from c.args.root x c.left_of-left.result c.left_of-left.ensures).0) (c.system_fault-others.ensures h x.rest (next-at c.args.context.now.nodes.now s c.args.from c.args.root x c.left_of-left.result c.left_of-left.ensures).1) c.earlier.ensures
