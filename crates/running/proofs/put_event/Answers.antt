-- The ticks, then the seven numbers of the entry.
use native.Mathlib.Omega.{arith}
use Prim.Native.Nat.{◌+◌, ◌-◌, ◌*◌}
use mathlib.Core.Path.{◌≡◌}
use Rattle.running.proofs.Events.{copied-event}
use Rattle.running.proofs.put_event.Goals as goal

pub returns : goal.returns
returns c =
    let n : c.args.step * 8 + 8 - (c.args.step * 8 + 1) ≡ 7 = omega arith in
    let k : c.args.c * 7 + 7 - c.args.c * 7 ≡ 7 = omega arith in
    rw (c.copy_from_slice.ensures.after, n, k) (copied-event c.args.events.now c.args.listing.now c.args.step c.args.ticks c.args.c c.requires.0 c.requires.1)
