-- The sum number of a process of a state that passed is natural.
use mathlib.Core.Path.{refl}
use Prim.Native.Nat.{◌+◌, ◌*◌}
use native.Mathlib.Omega.{arith}
use lib.IntN.{pos}
use lib.ListN.{get_or, length}
use Rattle.machine.specs.State.{process_width}
use Rattle.value.proofs.Kit.{back, ok-fits}
use Rattle.state.specs.Read.{sum_at}
use Rattle.state.proofs.Read.{few-processes, sum_below}
use Rattle.state.proofs.Tests.{below-fits}
use Rattle.state.proofs.sum_at.Goals as goal

pub overflow_mul-from : goal.overflow_mul-from
overflow_mul-from c = omega (arith, few-processes c.args.state.now c.requires.0, c.requires.1)

pub overflow_add-from : goal.overflow_add-from
overflow_add-from c = omega (arith, few-processes c.args.state.now c.requires.0, c.requires.1)

pub offset_bounds-state-from : goal.offset_bounds-state-from
offset_bounds-state-from c = omega (arith, few-processes c.args.state.now c.requires.0, c.requires.1)

pub bounds-state-from : goal.bounds-state-from
bounds-state-from c = omega (arith, few-processes c.args.state.now c.requires.0, c.requires.1, c.requires.0.long)

pub overflow_cast-result : goal.overflow_cast-result
overflow_cast-result c =
    let s = c in
    let z = get_or s.args.state.now (2 + s.args.place * process_width) (pos 0) in
    rw (back z c.result-1.given) (below-fits (length s.requires.0.scopes) z (ok-fits z c.result-1.given) (sum_below s.args.state.now s.requires.0 s.args.place s.requires.1))

pub returns : goal.returns
unfolding sum_at
returns c = rw (back (get_or c.args.state.now (2 + c.args.place * process_width) (pos 0)) c.result-1.given) refl
