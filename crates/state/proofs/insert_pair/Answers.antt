-- The tail of the pairs rewritten, then the count: each as `pair_added` says.
use native.Mathlib.Omega.{arith}
use Rattle.state.proofs.Change.{added}
use Rattle.state.proofs.insert_pair.Goals as goal

pub counted-n-requires : goal.counted-n-requires
counted-n-requires c = (omega (arith, c.requires.0), c.requires.2)

pub returns : goal.returns
returns c =
    rw c.put_count.ensures (added c.args.state.now c.args.row.now c.rewrite.new.s c.args.place c.counted-n.result c.counted-n.ensures.0 c.rewrite.ensures)
