-- The walk over the system line meets its contract: the last item, or an item and those after it; the root falls.
use Rattle.names.proofs.walk.+system_fault.Given as goal

abbrev pub decreases-system_fault : goal.decreases-system_fault
decreases-system_fault l = l.root
