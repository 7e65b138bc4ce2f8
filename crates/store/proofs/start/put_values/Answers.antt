-- `store::start::put_values` meets its contract: an item without values has none to write.
use mathlib.Core.Path.{ap, sym, ◌∙◌}
use native.Mathlib.Omega.{arith}
use Rattle.tree.specs.Node.{kind_of}
use Rattle.store.proofs.Nodes.{item-third, values-put}
use Rattle.store.proofs.start.put_values.Goals as goal

pub returns-then-kind_of-eq-START_WITH : goal.returns-then-kind_of-eq-START_WITH
returns-then-kind_of-eq-START_WITH c =
    let T = c.args.nodes.now in
    let k = c.args.k in
    let is = c.kind_of.ensures ∙ ap kind_of c.cell_at.ensures in
    values-put T k (sym is ∙ c.if-kind_of-eq-START_WITH.true) c.args.values.now _ c.told-values (omega (arith, item-third T k c.requires.0 c.requires.1, c.requires.3)) c.put_wholes.ensures
