-- `eval::ends_known_lent` meets its contract: each kind of set in turn, joined sets by the function itself. The measure is the root: parts have smaller ones.
use Rattle.eval.proofs.+ends_known_lent.Given as goal

abbrev pub decreases-ends_known_lent : goal.decreases-ends_known_lent
decreases-ends_known_lent l = l.k
