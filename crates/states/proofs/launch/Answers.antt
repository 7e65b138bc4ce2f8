-- A pair is launched where the test passed and there is room.
use native.Mathlib.Omega.{arith}
use Rattle.states.proofs.launch.Goals as goal

pub launch_pair-requires : goal.launch_pair-requires
launch_pair-requires c =
    (c.is_good.ensures c.if-is_good.true, λ e. omega (arith, c.pair_count.ensures.0, c.if-pair_count-lt-PAIR_COUNTS.true))
