-- `eval::next::Rows::put_call` meets its contract: the values, then a process for each sum. From what the node says.
use mathlib.Core.Path.{ap, ◌∙◌}
use lib.ListN.{length}
use Rattle.tree.specs.Node.{third_of}
use Rattle.eval.proofs.Puts.{values-are}
use Rattle.eval.proofs.next.Rows.put_call.Goals as goal

pub returns-clause-written : goal.returns-clause-written
returns-clause-written c d es ns e z =
    let s = c in
    let L = s.args.locals.now in
    let r = s.args.self.now in
    let x = c.third_of-count.ensures ∙ ap third_of c.cell_at.ensures in
    let v = values-are s.args.tables.nodes.now _ (length L) s.args.k s.args.body (length r.fresh.now) r.next s.requires.0 L _ c.put_arguments.ensures d es e in
    rw (x, v) at (c.put_sums.ensures.written ns z)
