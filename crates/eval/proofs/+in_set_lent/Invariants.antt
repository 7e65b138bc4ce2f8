-- `eval::in_set_lent` meets its contract: each kind of set in turn, joined sets by the function itself. The measure is the root: parts have smaller ones.
use Rattle.eval.proofs.+in_set_lent.Given as goal

abbrev pub decreases-in_set_lent : goal.decreases-in_set_lent
decreases-in_set_lent l = l.k
