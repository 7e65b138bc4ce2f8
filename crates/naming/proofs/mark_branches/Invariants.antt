-- The loop's invariant: of the branches those from node k down are left. The measure is that node.
use Rattle.std.proofs.Common.{List}
use Rattle.model.specs.Resolved
use Rattle.tables.specs.Settled as Settled
use Rattle.naming.proofs.Marking.{Left}
use Rattle.naming.proofs.mark_branches.Given as goal

abbrev pub invariant-loop-marks : goal.invariant-loop-marks
invariant-loop-marks l = (bs : List Resolved.Branch) → Settled.Branches l.nodes bs l.root → Left l.nodes l.initial.marks l.marks l.k bs

abbrev pub decreases-loop-marks : goal.decreases-loop-marks
decreases-loop-marks l = l.k
