-- A number that is 0 or more is kept by the cast.
use mathlib.Core.Path.{ap}
use lib.IntN.{pos, nat_abs}
use lib.ListN.{get_or}
use Rattle.value.proofs.Kit.{back, ok-fits}
use Rattle.resuming.proofs.Standing.{natural-cast}
use Rattle.resuming.proofs.number_at.Goals as goal

pub overflow_cast-result : goal.overflow_cast-result
overflow_cast-result c =
    let z = get_or c.args.search.now c.args.i (pos 0) in
    rw (back z c.z-1.given) (natural-cast z (ok-fits z c.z-1.given) c.requires.1)

pub returns : goal.returns
returns c =
    ap nat_abs (back (get_or c.args.search.now c.args.i (pos 0)) c.z-1.given)
