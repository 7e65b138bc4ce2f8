-- A count that passed the test is natural.
use mathlib.Core.Path.{refl}
use native.Mathlib.Omega.{arith}
use lib.IntN.{pos}
use lib.ListN.{get_or}
use Rattle.value.proofs.Kit.{back, ok-fits}
use Rattle.state.proofs.Tests.{below-fits, below-bound}
use Rattle.state.proofs.counted.Goals as goal

pub overflow_cast-result : goal.overflow_cast-result
overflow_cast-result c =
    rw (back (get_or c.args.state.now c.args.i (pos 0)) c.result-1.given) (below-fits 257 (get_or c.args.state.now c.args.i (pos 0)) (ok-fits (get_or c.args.state.now c.args.i (pos 0)) c.result-1.given) c.requires.1)

pub returns : goal.returns
returns c =
    rw (back (get_or c.args.state.now c.args.i (pos 0)) c.result-1.given) (refl, omega (arith, below-bound 257 (get_or c.args.state.now c.args.i (pos 0)) c.requires.1))
