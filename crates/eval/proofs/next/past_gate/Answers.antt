-- `eval::next::past_gate` meets its contract: behind the gate, if the node says that there is one.
use Rattle.tree.specs.Node.{kind_of}
use Rattle.eval.proofs.Continuations.{no-gate, gate}
use mathlib.Core.Path.{ap, ◌∙◌}
use Rattle.eval.proofs.next.past_gate.Goals as goal

pub returns-then-kind_of-ne-GATE : goal.returns-then-kind_of-ne-GATE
returns-then-kind_of-ne-GATE c =
    no-gate c.args.nodes.now c.args.k c.kind_of.result (c.kind_of.ensures ∙ ap kind_of c.cell_at.ensures) c.if-kind_of-ne-GATE.true

pub overflow_sub-result : goal.overflow_sub-result
overflow_sub-result c =
    (gate c.args.nodes.now c.args.k c.kind_of.result (c.kind_of.ensures ∙ ap kind_of c.cell_at.ensures) c.if-kind_of-ne-GATE.false c.requires.0 c.requires.1).0

pub returns : goal.returns
returns c b a =
    (gate c.args.nodes.now c.args.k c.kind_of.result (c.kind_of.ensures ∙ ap kind_of c.cell_at.ensures) c.if-kind_of-ne-GATE.false b a).1
