-- `step::branch_root` meets its contract: the laws of Chain at each node. The measure is the root, which falls.
use Rattle.step.proofs.+branch_root.Given as goal

abbrev pub decreases-branch_root : goal.decreases-branch_root
decreases-branch_root l = l.k
