-- `eval::eval_node_lent` meets its contract: each kind of node in turn, the parts by the function itself. The measure is the root: parts have smaller ones.
use Rattle.eval.proofs.+eval_node_lent.Given as goal

abbrev pub decreases-eval_node_lent : goal.decreases-eval_node_lent
decreases-eval_node_lent l = l.k
