-- `walk::offer_fault` meets its contract: the branch, its action and its rate.
use Rattle.names.proofs.Settled.{root_in}
use Rattle.names.specs.Settings.{faults_at}
use Rattle.names.proofs.Acts.{offer-judged}
use Rattle.model.specs.Sites.{branch, variables, definitions}
use native.Mathlib.Omega.{arith}
use Rattle.names.proofs.walk.offer_fault.Goals as goal

pub action_fault-action-requires : goal.action_fault-action-requires
action_fault-action-requires c =
    (rw c.left_of-left.ensures c.requires.0, omega (arith, c.left_of-left.ensures, c.requires.1))

pub overflow_add-left : goal.overflow_add-left
overflow_add-left c =
    omega (arith, root_in c.requires.0.0.setting.world, c.left_of-left.ensures, c.requires.1)

pub overflow_add-rate : goal.overflow_add-rate
overflow_add-rate c =
    omega (arith, root_in c.requires.0.0.setting.world, c.requires.2)

pub leaves_fault-values-requires : goal.leaves_fault-values-requires
leaves_fault-values-requires c =
    (c.requires.0.0.setting, omega (arith, c.requires.2))

pub returns : goal.returns
unfolding faults_at
returns c =
    λ h a ρ t u room.
    offer-judged c.args.context.now.nodes.now (faults_at h.setting) h.setting.world.word (branch c.args.own.before _) a ρ _ c.args.own.root u c.branch_fault-start.result c.action_fault-action.result c.leaves_fault-values.result c.earlier.result c.earlier-2.result (rw c.token_of.ensures at (c.branch_fault-start.ensures h.setting.world.word (variables h.setting.world.model) (definitions h.setting.world.model) h.setting.locals)) (c.action_fault-action.ensures h a (rw c.left_of-left.ensures t) room) (rw c.left_of-left.ensures at (c.leaves_fault-values.ensures h.setting)) c.earlier.ensures c.earlier-2.ensures
