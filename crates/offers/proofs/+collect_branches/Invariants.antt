-- `offers::collect_branches` meets its contract: the first branch, and the rest by the function itself. The measure is the root: parts have smaller ones.
use Rattle.offers.proofs.+collect_branches.Given as goal

abbrev pub decreases-collect_branches : goal.decreases-collect_branches
decreases-collect_branches l = l.k
