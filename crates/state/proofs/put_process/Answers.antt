-- The sum number, the locals, then the count: each as `process_added` says.
use native.Mathlib.Omega.{arith}
use Rattle.state.proofs.Change.{pushed}
use Rattle.state.proofs.put_process.Goals as goal

pub returns : goal.returns
returns c =
    rw c.put_count.ensures (pushed c.args.state.now c.args.locals.now c.copy_from_slice.new.self c.args.sum c.counted-n.result _ c.requires.0 c.counted-n.ensures.0 (omega (arith, c.counted-n.ensures.0, c.requires.2)) c.requires.3 c.copy_from_slice.ensures.after (omega arith))
