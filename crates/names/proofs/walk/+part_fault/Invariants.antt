-- The walk meets its contract: each return is a law of Walking.antt, by what stands at the root; the root falls.
use Rattle.names.proofs.walk.+part_fault.Given as goal

abbrev pub decreases-part_fault : goal.decreases-part_fault
decreases-part_fault l = l.part.root
