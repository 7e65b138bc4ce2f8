use Rattle.std.proofs.Common.{ap, ◌∙◌, arith}
use Rattle.tree.specs.Node.{kind_of, left_of}
use Rattle.naming.proofs.Marking.{left-start, above-so, next-needs, last-needs, left-next, left_end}
use Rattle.naming.proofs.mark_branches.Goals as goal

pub loop-marks-init : goal.loop-marks-init
loop-marks-init c = λ bs h. left-start c.args.nodes.now c.args.marks.now c.args.root bs h

pub mark_branch-requires : goal.mark_branch-requires
mark_branch-requires c =
    next-needs c.args.nodes.now c.args.marks.now c.loop-marks.marks c.loop-marks.k c.kind_of.result (c.kind_of.ensures ∙ ap kind_of c.cell_at.ensures) c.requires.0 (c.loop-marks.invariant c.requires.0 c.requires.1)
    c.left_of.result (c.left_of.ensures ∙ ap left_of c.cell_at-in-loop-marks.ensures) c.loop-marks-test.true 4096 c.requires.2

pub overflow_sub-k : goal.overflow_sub-k
overflow_sub-k c =
    above-so c.args.nodes.now c.args.marks.now c.loop-marks.marks c.loop-marks.k c.kind_of.result (c.kind_of.ensures ∙ ap kind_of c.cell_at.ensures) c.requires.0 (c.loop-marks.invariant c.requires.0 c.requires.1)
    c.loop-marks-test.true

pub loop-marks-smaller : goal.loop-marks-smaller
loop-marks-smaller c =
    let a = above-so c.args.nodes.now c.args.marks.now c.loop-marks.marks c.loop-marks.k c.kind_of.result (c.kind_of.ensures ∙ ap kind_of c.cell_at.ensures) c.requires.0 (c.loop-marks.invariant c.requires.0 c.requires.1) c.loop-marks-test.true in
    omega (arith, a)

pub loop-marks-preserved : goal.loop-marks-preserved
loop-marks-preserved c =
    λ bs h.
    left-next c.args.nodes.now c.args.marks.now c.loop-marks.marks c.loop-marks.k c.kind_of.result (c.kind_of.ensures ∙ ap kind_of c.cell_at.ensures) bs (c.loop-marks.invariant bs h)
    c.left_of.result (c.left_of.ensures ∙ ap left_of c.cell_at-in-loop-marks.ensures) c.loop-marks-test.true _ c.mark_branch.ensures

pub mark_branch-requires-2 : goal.mark_branch-requires-2
mark_branch-requires-2 c =
    last-needs c.args.nodes.now c.args.marks.now c.loop-marks.marks c.loop-marks.k c.kind_of.result (c.kind_of.ensures ∙ ap kind_of c.cell_at.ensures) c.requires.0 (c.loop-marks.invariant c.requires.0 c.requires.1)
    c.loop-marks-test.false 4096 c.requires.2

pub returns : goal.returns
returns c =
    λ bs h.
    left_end c.args.nodes.now c.args.marks.now c.loop-marks.marks c.loop-marks.k c.kind_of.result (c.kind_of.ensures ∙ ap kind_of c.cell_at.ensures) bs (c.loop-marks.invariant bs h)
    c.loop-marks-test.false _ c.mark_branch-2.ensures
