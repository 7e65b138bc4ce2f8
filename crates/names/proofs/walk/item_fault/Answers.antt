-- `walk::item_fault` meets its contract: a lone name, or the leaves of an expression.
use Rattle.names.proofs.Settled.{root_in}
use Rattle.names.specs.Settings.{faults_at}
use Rattle.names.proofs.Acts.{lone-none, not-lone}
use native.Mathlib.Omega.{arith}
use Rattle.names.proofs.walk.item_fault.Goals as goal

pub offset_bounds-context-root : goal.offset_bounds-context-root
offset_bounds-context-root c =
    omega (arith, root_in c.requires.0.setting.world, c.requires.1)

pub bounds-context-root : goal.bounds-context-root
bounds-context-root c =
    omega (arith, root_in c.requires.0.setting.world, c.requires.1)

pub returns-then-is_lone : goal.returns-then-is_lone
returns-then-is_lone c =
    λ h x hx. lone-none c.args.context.now.nodes.now c.args.context.now.kinds.now h.setting.world.word h.closes (faults_at h.setting) x c.args.from c.args.root hx c.is_lone.result c.is_lone.ensures c.if-is_lone.true

pub overflow_add-root : goal.overflow_add-root
overflow_add-root c =
    omega (arith, root_in c.requires.0.setting.world, c.requires.1)

pub leaves_fault-requires : goal.leaves_fault-requires
leaves_fault-requires c =
    (c.requires.0.setting, omega (arith, c.requires.1))

pub returns : goal.returns
returns c =
    λ h x hx. not-lone c.args.context.now.nodes.now c.args.context.now.kinds.now h.setting.world.word h.closes (faults_at h.setting) x c.args.from c.args.root hx c.is_lone.result c.is_lone.ensures c.if-is_lone.false c.leaves_fault.result (c.leaves_fault.ensures h.setting)
