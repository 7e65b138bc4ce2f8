-- A process is pushed where the test passed and there is room.
use native.Mathlib.Omega.{arith}
use Rattle.state.proofs.Read.{processes-below}
use Rattle.states.proofs.push.Goals as goal

pub push_process-requires : goal.push_process-requires
push_process-requires c =
    let h = c.is_good.ensures c.if-is_good.true in (h.long, processes-below c.args.state.now h, omega (arith, c.process_count.ensures.0, c.if-process_count-lt-PROCESS_COUNTS.true), omega (arith, c.ranges.sum.fits), omega (arith, c.if-locals-lt-DEFINITION.true), omega (arith, c.ranges.definition.fits))
