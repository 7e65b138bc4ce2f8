-- `walk::calling_fault` meets its contract: the call, and the leaves of its values.
use Rattle.names.proofs.Settled.{root_in}
use Rattle.names.specs.Settings.{faults_at}
use Rattle.names.proofs.Acts.{called-name, calling-judged}
use native.Mathlib.Omega.{arith}
use Rattle.names.proofs.walk.calling_fault.Goals as goal

pub offset_bounds-context-root : goal.offset_bounds-context-root
offset_bounds-context-root c =
    omega (arith, root_in c.requires.0.0.world, c.requires.1)

pub bounds-context-root : goal.bounds-context-root
bounds-context-root c =
    omega (arith, root_in c.requires.0.0.world, c.requires.1)

pub call_fault-called-requires : goal.call_fault-called-requires
call_fault-called-requires c =
    (c.requires.0.0.world, called-name c.args.context.now.nodes.now c.requires.0.1 c.requires.0.0.world c.requires.0.2 c.args.from c.args.root c.requires.0.3 c.requires.1 c.token_of-name.result c.token_of-name.ensures)

pub leaves_fault-requires : goal.leaves_fault-requires
leaves_fault-requires c =
    (c.requires.0.0, omega (arith, c.requires.1))

pub returns : goal.returns
unfolding faults_at
returns c =
    λ h n a t.
    calling-judged c.args.context.now.nodes.now n (faults_at h) a c.args.from c.args.root t c.token_of-name.result c.third_of.result c.token_of-name.ensures c.third_of.ensures c.call_fault-called.result c.leaves_fault.result c.earlier.result (c.call_fault-called.ensures h.world h.locals (called-name c.args.context.now.nodes.now n h.world a c.args.from c.args.root t c.requires.1 c.token_of-name.result c.token_of-name.ensures)) (c.leaves_fault.ensures h) c.earlier.ensures
