use mathlib.Core.Path.{ap, ◌∙◌}
use Prim.Native.Nat.{◌-◌}
use lib.ListN.{get_or}
use native.Mathlib.Omega.{arith}
use Rattle.tree.specs.Node.{kind_of, token_of, left_of}
use Rattle.eval.proofs.Continuations.{group-some, group-counts, items-some, counts-most, items-count, sum-counts, some-body, call-counts, least}
use Rattle.eval.proofs.next.+count_processes.Goals as goal

pub overflow_sub-k : goal.overflow_sub-k
overflow_sub-k t c =
    let s = c in
    let T = s.args.tables.nodes.now in
    let R = s.args.tables.root in
    let N = s.args.tables.variables in
    let k = s.args.k in
    let is = c.kind_of-kind.ensures ∙ ap kind_of c.cell_at-cell.ensures in
    (group-some T R N k c.kind_of-kind.result is c.if-kind-eq-GROUP.true s.requires).0

pub count_processes-requires : goal.count_processes-requires
count_processes-requires t c =
    let s = c in
    let T = s.args.tables.nodes.now in
    let R = s.args.tables.root in
    let N = s.args.tables.variables in
    let k = s.args.k in
    let is = c.kind_of-kind.ensures ∙ ap kind_of c.cell_at-cell.ensures in
    let f = group-some T R N k c.kind_of-kind.result is c.if-kind-eq-GROUP.true s.requires in
    (omega (arith, s.decreases, f.0), f.1)

pub returns-then-kind-eq-GROUP : goal.returns-then-kind-eq-GROUP
returns-then-kind-eq-GROUP t c =
    let s = c in
    let T = s.args.tables.nodes.now in
    let R = s.args.tables.root in
    let N = s.args.tables.variables in
    let k = s.args.k in
    let is = c.kind_of-kind.ensures ∙ ap kind_of c.cell_at-cell.ensures in
    group-counts T R N k c.kind_of-kind.result is c.count_processes.result c.if-kind-eq-GROUP.true c.count_processes.ensures

pub count_processes-a-requires : goal.count_processes-a-requires
count_processes-a-requires t c =
    let s = c in
    let T = s.args.tables.nodes.now in
    let R = s.args.tables.root in
    let N = s.args.tables.variables in
    let k = s.args.k in
    let is = c.kind_of-kind.ensures ∙ ap kind_of c.cell_at-cell.ensures in
    let e = c.left_of.ensures ∙ ap left_of c.cell_at-cell.ensures in
    let f = items-some T R N k c.kind_of-kind.result is c.if-kind-eq-ITEM.true s.requires in
    (rw (e, ← s.decreases) f.1, rw e f.2)

pub overflow_sub-k-then-kind-eq-ITEM : goal.overflow_sub-k-then-kind-eq-ITEM
overflow_sub-k-then-kind-eq-ITEM t c =
    let s = c in
    let T = s.args.tables.nodes.now in
    let R = s.args.tables.root in
    let N = s.args.tables.variables in
    let k = s.args.k in
    let is = c.kind_of-kind.ensures ∙ ap kind_of c.cell_at-cell.ensures in
    (items-some T R N k c.kind_of-kind.result is c.if-kind-eq-ITEM.true s.requires).0

pub count_processes-b-requires : goal.count_processes-b-requires
count_processes-b-requires t c =
    let s = c in
    let T = s.args.tables.nodes.now in
    let R = s.args.tables.root in
    let N = s.args.tables.variables in
    let k = s.args.k in
    let is = c.kind_of-kind.ensures ∙ ap kind_of c.cell_at-cell.ensures in
    let f = items-some T R N k c.kind_of-kind.result is c.if-kind-eq-ITEM.true s.requires in
    (omega (arith, s.decreases, f.0), f.3)

pub overflow_add-a : goal.overflow_add-a
overflow_add-a t c =
    let s = c in
    let T = s.args.tables.nodes.now in
    let R = s.args.tables.root in
    let N = s.args.tables.variables in
    let k = s.args.k in
    let is = c.kind_of-kind.ensures ∙ ap kind_of c.cell_at-cell.ensures in
    let e = c.left_of.ensures ∙ ap left_of c.cell_at-cell.ensures in
    let f = items-some T R N k c.kind_of-kind.result is c.if-kind-eq-ITEM.true s.requires in
    let p = counts-most T R N (left_of (get_or T k 0)) c.count_processes-a.result f.2 (rw e at c.count_processes-a.ensures) in
    let q = counts-most T R N (k - 1) c.count_processes-b.result f.3 c.count_processes-b.ensures in
    omega arith

pub returns-then-kind-eq-ITEM : goal.returns-then-kind-eq-ITEM
returns-then-kind-eq-ITEM t c =
    let s = c in
    let T = s.args.tables.nodes.now in
    let R = s.args.tables.root in
    let N = s.args.tables.variables in
    let k = s.args.k in
    let is = c.kind_of-kind.ensures ∙ ap kind_of c.cell_at-cell.ensures in
    let e = c.left_of.ensures ∙ ap left_of c.cell_at-cell.ensures in
    items-count T R N k c.kind_of-kind.result is c.count_processes-a.result c.count_processes-b.result c.min.result c.if-kind-eq-ITEM.true (rw e at c.count_processes-a.ensures) c.count_processes-b.ensures (c.min.ensures ∙ least _)

pub returns-then-kind-eq-SUM : goal.returns-then-kind-eq-SUM
returns-then-kind-eq-SUM t c =
    let s = c in
    let T = s.args.tables.nodes.now in
    let R = s.args.tables.root in
    let N = s.args.tables.variables in
    let k = s.args.k in
    let is = c.kind_of-kind.ensures ∙ ap kind_of c.cell_at-cell.ensures in
    sum-counts T R N k c.kind_of-kind.result is c.if-kind-eq-SUM.true

pub body_of-requires : goal.body_of-requires
body_of-requires t c =
    let s = c in
    let T = s.args.tables.nodes.now in
    let R = s.args.tables.root in
    let N = s.args.tables.variables in
    let k = s.args.k in
    let is = c.kind_of-kind.ensures ∙ ap kind_of c.cell_at-cell.ensures in
    let o = c.token_of.ensures ∙ ap token_of c.cell_at-cell.ensures in
    let b = some-body T R N k c.kind_of-kind.result is c.if-kind-eq-GROUP.false c.if-kind-eq-ITEM.false c.if-kind-eq-SUM.false s.requires in
    rw o b.above

pub count_sums-requires : goal.count_sums-requires
count_sums-requires t c =
    let s = c in
    let T = s.args.tables.nodes.now in
    let R = s.args.tables.root in
    let N = s.args.tables.variables in
    let k = s.args.k in
    let is = c.kind_of-kind.ensures ∙ ap kind_of c.cell_at-cell.ensures in
    let o = c.token_of.ensures ∙ ap token_of c.cell_at-cell.ensures in
    let b = some-body T R N k c.kind_of-kind.result is c.if-kind-eq-GROUP.false c.if-kind-eq-ITEM.false c.if-kind-eq-SUM.false s.requires in
    (b.definition.sums, rw (c.body_of.ensures, o) b.sums)

pub returns : goal.returns
returns t c =
    let s = c in
    let T = s.args.tables.nodes.now in
    let R = s.args.tables.root in
    let N = s.args.tables.variables in
    let k = s.args.k in
    let is = c.kind_of-kind.ensures ∙ ap kind_of c.cell_at-cell.ensures in
    let o = c.token_of.ensures ∙ ap token_of c.cell_at-cell.ensures in
    rw (c.min-2.ensures ∙ least _) (call-counts T R N k c.kind_of-kind.result is c.if-kind-eq-GROUP.false c.if-kind-eq-ITEM.false c.if-kind-eq-SUM.false c.count_sums.result (rw (c.body_of.ensures, o) at c.count_sums.ensures.value))
