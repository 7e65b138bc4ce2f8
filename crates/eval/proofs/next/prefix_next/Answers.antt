-- `eval::next::prefix_next` meets its contract: the node before, or none. From what the node says.
use mathlib.Core.Path.{ap, ◌∙◌}
use Rattle.tree.specs.Node.{kind_of}
use Rattle.eval.proofs.Continuations.{dot-above, dot-next, stop-next}
use Rattle.eval.proofs.next.prefix_next.Goals as goal

pub overflow_sub-result : goal.overflow_sub-result
overflow_sub-result c =
    let s = c in
    let T = s.args.nodes.now in
    let k = s.args.k in
    let is = c.kind_of.ensures ∙ ap kind_of c.cell_at.ensures in
    dot-above T k c.kind_of.result is c.if-kind_of-eq-DOT.true s.requires

pub returns-then-kind_of-eq-DOT : goal.returns-then-kind_of-eq-DOT
returns-then-kind_of-eq-DOT c =
    let s = c in
    let T = s.args.nodes.now in
    let k = s.args.k in
    let is = c.kind_of.ensures ∙ ap kind_of c.cell_at.ensures in
    dot-next T k c.kind_of.result is c.if-kind_of-eq-DOT.true

pub returns : goal.returns
returns c =
    let s = c in
    let T = s.args.nodes.now in
    let k = s.args.k in
    let is = c.kind_of.ensures ∙ ap kind_of c.cell_at.ensures in
    stop-next T k c.kind_of.result is c.if-kind_of-eq-DOT.false
