-- A process is replaced where the test passed and there is room.
use native.Mathlib.Omega.{arith}
use Rattle.state.proofs.Read.{processes-below}
use Rattle.states.proofs.replace.Goals as goal

pub splice-requires : goal.splice-requires
splice-requires c =
    let h = c.is_good.ensures c.if-not-is_good.false in
    let n = c.process_count-n.ensures in
    let room = c.if-n-count-le-PROCESS_COUNTS.true in
    (h.long, omega (arith, n.0, n.1, c.if-place-n.true), processes-below c.args.state.now h, omega (arith, n.0, c.if-place-n.true), omega (arith, n.0, n.1, c.if-place-n.true, room), omega arith)
