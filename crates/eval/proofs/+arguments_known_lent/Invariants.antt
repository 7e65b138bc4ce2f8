-- `eval::arguments_known_lent` meets its contract: the first argument, and the rest by the function itself. The measure is the root: parts have smaller ones.
use Rattle.eval.proofs.+arguments_known_lent.Given as goal

abbrev pub decreases-arguments_known_lent : goal.decreases-arguments_known_lent
decreases-arguments_known_lent l = l.k
