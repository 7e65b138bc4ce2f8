-- The run is gone along entry by entry; twice its length, and 1 or 0, falls.
use Prim.Native.Nat.{◌+◌, ◌*◌}
use Rattle.pieces.proofs.+resume_resume_behind.Given as goal

abbrev pub decreases-resume : goal.decreases-resume
decreases-resume l = 2 * l.more + 1

abbrev pub decreases-resume_behind : goal.decreases-resume_behind
decreases-resume_behind l = 2 * l.more
