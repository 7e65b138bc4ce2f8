use Rattle.names.proofs.Settled.{root_in}
use Rattle.names.proofs.Lines.{line_of, line_at, last_line, next-line, last-at, next-line-at, line-room, last-room, last-line-judged, next-rooms, next-line-judged}
use mathlib.Core.Path.{sym, ◌∙◌}
use native.Mathlib.Omega.{arith}
use Rattle.names.proofs.walk.+lines_fault.Goals as goal

pub offset_bounds-context-root : goal.offset_bounds-context-root
offset_bounds-context-root t c =
    omega (arith, root_in c.requires.0.0.world, c.requires.1)

pub bounds-context-root : goal.bounds-context-root
bounds-context-root t c =
    omega (arith, root_in c.requires.0.0.world, c.requires.1)

pub definition_fault-first-requires : goal.definition_fault-first-requires
definition_fault-first-requires t c =
    let x = (line_of c.args.context.now.nodes.now c.requires.0.1 c.args.from c.args.root c.requires.0.2) in
    ((c.requires.0.0, x.name, x.params, x.body, line_at c.args.context.now.nodes.now c.requires.0.1 c.args.from c.args.root x c.left_of-left.result c.left_of-left.ensures, line-room c.requires.0.0 c.requires.0.1 c.args.from c.args.root x c.requires.0.3), omega (arith, x.below, c.left_of-left.ensures, c.requires.1))

pub overflow_add-left : goal.overflow_add-left
overflow_add-left t c =
    omega (arith, (line_of c.args.context.now.nodes.now c.requires.0.1 c.args.from c.args.root c.requires.0.2).below, c.left_of-left.ensures, c.requires.1, root_in c.requires.0.0.world)

pub overflow_sub-root : goal.overflow_sub-root
overflow_sub-root t c =
    omega (arith, (line_of c.args.context.now.nodes.now c.requires.0.1 c.args.from c.args.root c.requires.0.2).below)

pub system_fault-requires : goal.system_fault-requires
system_fault-requires t c =
    let x = (last_line c.args.context.now.nodes.now c.requires.0.1 c.args.from c.args.root (sym c.kind_of.ensures ∙ c.if-kind_of-eq-LAST.true) c.requires.0.2) in
    ((c.requires.0.0.world, x.system, (last-at c.args.context.now.nodes.now c.requires.0.1 c.args.from c.args.root x c.left_of-left.result c.left_of-left.ensures).1), omega (arith, c.requires.1))

pub returns-then-kind_of-eq-LAST : goal.returns-then-kind_of-eq-LAST
returns-then-kind_of-eq-LAST t c =
    λ h d o room. let x = (last_line c.args.context.now.nodes.now d c.args.from c.args.root (sym c.kind_of.ensures ∙ c.if-kind_of-eq-LAST.true) o) in
    last-line-judged h d c.args.from c.args.root x c.definition_fault-first.result c.system_fault.result c.earlier.result (c.definition_fault-first.ensures h x.name x.params x.body (last-at c.args.context.now.nodes.now d c.args.from c.args.root x c.left_of-left.result c.left_of-left.ensures).0 (last-room h d c.args.from c.args.root x room)) (c.system_fault.ensures h.world x.system (last-at c.args.context.now.nodes.now d c.args.from c.args.root x c.left_of-left.result c.left_of-left.ensures).1) c.earlier.ensures

pub overflow_add-left-2 : goal.overflow_add-left-2
overflow_add-left-2 t c =
    omega (arith, (line_of c.args.context.now.nodes.now c.requires.0.1 c.args.from c.args.root c.requires.0.2).below, c.left_of-left.ensures, c.requires.1, root_in c.requires.0.0.world)

pub overflow_sub-root-2 : goal.overflow_sub-root-2
overflow_sub-root-2 t c =
    omega (arith, (line_of c.args.context.now.nodes.now c.requires.0.1 c.args.from c.args.root c.requires.0.2).below)

pub lines_fault-others-requires : goal.lines_fault-others-requires
lines_fault-others-requires t c =
    let x = (next-line c.args.context.now.nodes.now c.requires.0.1 c.args.from c.args.root (λ e. c.if-kind_of-eq-LAST.false (c.kind_of.ensures ∙ e)) c.requires.0.2) in
    (omega (arith, (line_of c.args.context.now.nodes.now c.requires.0.1 c.args.from c.args.root c.requires.0.2).below, c.decreases), ((c.requires.0.0, x.rest, (next-line-at c.args.context.now.nodes.now c.requires.0.1 c.args.from c.args.root x c.left_of-left.result c.left_of-left.ensures).1, (next-rooms c.requires.0.0 c.requires.0.1 c.args.from c.args.root x c.requires.0.3).1), omega (arith, c.requires.1)))

pub returns : goal.returns
returns t c =
    λ h d o room. let x = (next-line c.args.context.now.nodes.now d c.args.from c.args.root (λ e. c.if-kind_of-eq-LAST.false (c.kind_of.ensures ∙ e)) o) in
    next-line-judged h d c.args.from c.args.root x c.definition_fault-first.result c.lines_fault-others.result c.earlier-2.result (c.definition_fault-first.ensures h x.name x.params x.body (next-line-at c.args.context.now.nodes.now d c.args.from c.args.root x c.left_of-left.result c.left_of-left.ensures).0 (next-rooms h d c.args.from c.args.root x room).0) (c.lines_fault-others.ensures h x.rest (next-line-at c.args.context.now.nodes.now d c.args.from c.args.root x c.left_of-left.result c.left_of-left.ensures).1 (next-rooms h d c.args.from c.args.root x room).1) c.earlier-2.ensures
