use mathlib.Core.Path.{ap, ◌∙◌}
use native.Mathlib.Omega.{arith}
use Rattle.tree.specs.Node.{kind_of, left_of}
use Rattle.step.proofs.Chain.{last-root, first-root, later-chain', later-root'}
use Rattle.step.proofs.+branch_root.Goals as goal

pub returns-then-kind_of-ne-CHOICE : goal.returns-then-kind_of-ne-CHOICE
returns-then-kind_of-ne-CHOICE t c =
    let s = c in
    let T = s.args.nodes.now in
    let k = s.args.k in
    let is = c.kind_of.ensures ∙ ap kind_of c.cell_at-cell.ensures in
    last-root T k c.kind_of.result is c.if-kind_of-ne-CHOICE.true s.args.j

pub returns-then-j-eq0 : goal.returns-then-j-eq0
returns-then-j-eq0 t c =
    let s = c in
    let T = s.args.nodes.now in
    let k = s.args.k in
    let is = c.kind_of.ensures ∙ ap kind_of c.cell_at-cell.ensures in
    let e = c.left_of.ensures ∙ ap left_of c.cell_at-cell.ensures in
    let z = c.if-j-eq0.true in
    rw (e, z) (first-root T k c.kind_of.result is c.if-kind_of-ne-CHOICE.false)

pub overflow_sub-k : goal.overflow_sub-k
overflow_sub-k t c =
    let s = c in
    let T = s.args.nodes.now in
    let k = s.args.k in
    let is = c.kind_of.ensures ∙ ap kind_of c.cell_at-cell.ensures in
    (later-chain' T k c.kind_of.result is c.if-kind_of-ne-CHOICE.false s.args.j c.if-j-eq0.false s.requires).0

pub overflow_sub-j : goal.overflow_sub-j
overflow_sub-j t c = omega (arith, c.if-j-eq0.false)

pub branch_root-requires : goal.branch_root-requires
branch_root-requires t c =
    let s = c in
    let T = s.args.nodes.now in
    let k = s.args.k in
    let is = c.kind_of.ensures ∙ ap kind_of c.cell_at-cell.ensures in
    let f = later-chain' T k c.kind_of.result is c.if-kind_of-ne-CHOICE.false s.args.j c.if-j-eq0.false s.requires in
    (omega (arith, s.decreases, f.0), f.1)

pub returns : goal.returns
returns t c =
    let s = c in
    let T = s.args.nodes.now in
    let k = s.args.k in
    let is = c.kind_of.ensures ∙ ap kind_of c.cell_at-cell.ensures in
    later-root' T k c.kind_of.result is c.if-kind_of-ne-CHOICE.false s.args.j c.branch_root.result c.if-j-eq0.false c.branch_root.ensures
