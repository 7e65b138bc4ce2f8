-- `tree::node` meets its contract: past the table's end `set` changes nothing.
use mathlib.Core.Path.{sym}
use native.Mathlib.Omega.{arith}
use lib.Seq.{set_out}
use Rattle.tree.proofs.node.Goals as goal

pub returns-else-k-nodes : goal.returns-else-k-nodes
returns-else-k-nodes c = sym (set_out _ _ _ (omega arith))
