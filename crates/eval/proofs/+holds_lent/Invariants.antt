-- `eval::holds_lent` meets its contract: a comparison, or the left side and, where that does not decide, the right one. The measure is the root: parts have smaller ones.
use Rattle.eval.proofs.+holds_lent.Given as goal

abbrev pub decreases-holds_lent : goal.decreases-holds_lent
decreases-holds_lent l = l.k
