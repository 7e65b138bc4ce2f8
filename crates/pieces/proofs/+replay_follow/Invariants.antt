-- The entries are gone along; twice their number, and 1 or 0, falls.
use Prim.Native.Nat.{◌+◌, ◌*◌}
use Rattle.pieces.proofs.+replay_follow.Given as goal

abbrev pub decreases-follow : goal.decreases-follow
decreases-follow l = 2 * l.more + 1

abbrev pub decreases-replay : goal.decreases-replay
decreases-replay l = 2 * l.n
