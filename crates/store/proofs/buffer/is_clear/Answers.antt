use mathlib.Core.Path.{refl}
use native.Mathlib.Omega.{arith}
use Rattle.store.proofs.Bytes.{zeros-on, zeros-done}
use Rattle.store.proofs.buffer.is_clear.Goals as goal

pub loop-b-init : goal.loop-b-init
loop-b-init c = refl

pub loop-b-preserved : goal.loop-b-preserved
loop-b-preserved c =
    zeros-on c.args.s.now c.loop-b.bits c.loop-b.b-index c.loop-b.invariant (omega arith)

pub returns : goal.returns
returns c =
    zeros-done c.args.s.now c.loop-b.bits c.loop-b.b-index c.loop-b.invariant (omega arith)
