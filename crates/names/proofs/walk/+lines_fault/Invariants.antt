-- The walk over definitions meets its contract: the last one with the system line, or one and those after it; the root falls.
use Rattle.names.proofs.walk.+lines_fault.Given as goal

abbrev pub decreases-lines_fault : goal.decreases-lines_fault
decreases-lines_fault l = l.root
