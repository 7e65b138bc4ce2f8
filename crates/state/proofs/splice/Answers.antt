-- The tail of the processes rewritten, then the count: each as `process_replaced` says.
use Prim.Native.Nat.{◌*◌}
use native.Mathlib.Omega.{arith}
use lib.ListN.{take}
use Rattle.machine.specs.State.{process_width}
use Rattle.state.proofs.Change.{replaced}
use Rattle.state.proofs.splice.Goals as goal

pub counted-n-requires : goal.counted-n-requires
counted-n-requires c = (omega (arith, c.requires.0), c.requires.2)

pub returns : goal.returns
returns c =
    rw c.put_count.ensures (replaced c.args.state.now (take (c.args.count * process_width) c.args.fresh.now) c.rewrite.new.s c.args.place c.counted-n.result c.args.count c.requires.1 c.counted-n.ensures.0 c.rewrite.ensures)
