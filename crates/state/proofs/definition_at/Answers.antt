-- The definition number of a process of a state that passed is natural.
use mathlib.Core.Path.{refl}
use Prim.Native.Nat.{◌+◌, ◌*◌}
use native.Mathlib.Omega.{arith}
use lib.IntN.{pos}
use lib.ListN.{get_or}
use Rattle.model.specs.Limits.{local_limit}
use Rattle.machine.specs.State.{process_width}
use Rattle.value.proofs.Kit.{back, ok-fits}
use Rattle.state.specs.Read.{definition_number}
use Rattle.state.proofs.Read.{few-processes, definition-natural}
use Rattle.state.proofs.Tests.{positive-fits}
use Rattle.state.proofs.definition_at.Goals as goal

pub overflow_mul-from : goal.overflow_mul-from
overflow_mul-from c = omega (arith, few-processes c.args.state.now c.requires.0, c.requires.1)

pub overflow_add-from : goal.overflow_add-from
overflow_add-from c = omega (arith, few-processes c.args.state.now c.requires.0, c.requires.1)

pub overflow_add-from-2 : goal.overflow_add-from-2
overflow_add-from-2 c = omega (arith, few-processes c.args.state.now c.requires.0, c.requires.1)

pub offset_bounds-state-from : goal.offset_bounds-state-from
offset_bounds-state-from c = omega (arith, few-processes c.args.state.now c.requires.0, c.requires.1)

pub bounds-state-from : goal.bounds-state-from
bounds-state-from c = omega (arith, few-processes c.args.state.now c.requires.0, c.requires.1, c.requires.0.long)

pub overflow_cast-result : goal.overflow_cast-result
overflow_cast-result c =
    let s = c in
    let z = get_or s.args.state.now (2 + s.args.place * process_width + (1 + local_limit)) (pos 0) in
    let k = definition-natural s.args.state.now s.requires.0 s.args.place s.requires.1 in
    rw (back z c.result-1.given) (positive-fits k.0 z (ok-fits z c.result-1.given) k.1)

pub returns : goal.returns
unfolding definition_number
returns c = rw (back (get_or c.args.state.now (2 + c.args.place * process_width + (1 + local_limit)) (pos 0)) c.result-1.given) refl
