-- `eval::next::count_processes` meets its contract: groups and items by the function itself. The measure is the root: parts have smaller ones.
use Rattle.eval.proofs.next.+count_processes.Given as goal

abbrev pub decreases-count_processes : goal.decreases-count_processes
decreases-count_processes l = l.k
