-- `eval::next::arguments_given_lent` meets its contract: groups and items by the function itself. The measure is the root: parts have smaller ones.
use Rattle.eval.proofs.next.+arguments_given_lent.Given as goal

abbrev pub decreases-arguments_given_lent : goal.decreases-arguments_given_lent
decreases-arguments_given_lent l = l.k
