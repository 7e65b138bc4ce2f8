use Rattle.std.proofs.Common.{rules}
use Rattle.naming.proofs.Places.{found_none}
use Rattle.naming.proofs.WaitNames.meet_all.Goals as goal

pub loop-k-init : goal.loop-k-init
loop-k-init c = record { found = λ w h. rw c.requires.1 (found_none w _ _ _); few = search rules }
