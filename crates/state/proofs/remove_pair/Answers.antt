-- The tail of the pairs moved, then the count: each as `pair_taken` says.
use native.Mathlib.Omega.{arith}
use Rattle.state.proofs.Change.{taken}
use Rattle.state.proofs.remove_pair.Goals as goal

pub counted-n-requires : goal.counted-n-requires
counted-n-requires c = (omega (arith, c.requires.0), c.requires.2)

pub returns : goal.returns
returns c =
    rw c.put_count.ensures (taken c.args.state.now c.shift_left.new.s c.args.place c.counted-n.result c.requires.0 c.requires.1 c.counted-n.ensures.0 c.shift_left.ensures)
