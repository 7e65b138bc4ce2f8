-- `walk::action_fault` meets its contract: a wait, or a channel with what follows it.
use Rattle.names.proofs.Settled.{root_in}
use Rattle.names.specs.Settings.{faults_at}
use Rattle.names.proofs.Acts.{wait-none, acted-of, channel-holds, action-bound, action-judged}
use mathlib.Core.Path.{sym, ◌∙◌}
use native.Mathlib.Omega.{arith}
use Rattle.names.proofs.walk.action_fault.Goals as goal

pub offset_bounds-context-root : goal.offset_bounds-context-root
offset_bounds-context-root c =
    omega (arith, root_in c.requires.0.0.setting.world, c.requires.1)

pub bounds-context-root : goal.bounds-context-root
bounds-context-root c =
    omega (arith, root_in c.requires.0.0.setting.world, c.requires.1)

pub returns-then-kind_of-eq-WAIT : goal.returns-then-kind_of-eq-WAIT
returns-then-kind_of-eq-WAIT c =
    λ h a t room. wait-none c.args.context.now.nodes.now h.setting.world.word (faults_at h.setting) a c.args.from c.args.root (sym c.kind_of.ensures ∙ c.if-kind_of-eq-WAIT.true) t

pub channel_fault-channel-requires : goal.channel_fault-channel-requires
channel_fault-channel-requires c =
    let p = (acted-of c.args.context.now.nodes.now c.requires.0.1 c.args.from c.args.root (λ e. c.if-kind_of-eq-WAIT.false (c.kind_of.ensures ∙ e)) c.requires.0.2) in
    ((c.requires.0.0, p.channel, channel-holds c.args.context.now.nodes.now c.requires.0.0.setting.world.word c.requires.0.1 c.args.from c.args.root p c.left_of-left.result c.left_of-left.ensures), omega (arith, p.below, c.left_of-left.ensures, c.requires.1))

pub overflow_add-left : goal.overflow_add-left
overflow_add-left c =
    omega (arith, (acted-of c.args.context.now.nodes.now c.requires.0.1 c.args.from c.args.root (λ e. c.if-kind_of-eq-WAIT.false (c.kind_of.ensures ∙ e)) c.requires.0.2).below, c.left_of-left.ensures, c.requires.1, root_in c.requires.0.0.setting.world)

pub leaves_fault-values-requires : goal.leaves_fault-values-requires
leaves_fault-values-requires c =
    (c.requires.0.0.setting, omega (arith, c.requires.1))

pub binding_fault-bound-requires : goal.binding_fault-bound-requires
binding_fault-bound-requires c =
    ((c.requires.0.0.setting, c.requires.0.1, c.args.from, c.requires.0.2, action-bound c.requires.0.0.setting.world.word c.args.context.now.question c.requires.0.0.setting.locals c.requires.0.1 c.requires.0.3), c.requires.1)

pub returns : goal.returns
returns c =
    λ h a t room.
    let p = acted-of c.args.context.now.nodes.now a c.args.from c.args.root (λ e. c.if-kind_of-eq-WAIT.false (c.kind_of.ensures ∙ e)) t in
    action-judged c.args.context.now.nodes.now h.setting.world.word a c.args.from c.args.root p (faults_at h.setting) c.left_of-left.result c.left_of-left.ensures c.channel_fault-channel.result c.leaves_fault-values.result c.binding_fault-bound.result c.earlier.result c.earlier-2.result (c.channel_fault-channel.ensures h p.channel (channel-holds c.args.context.now.nodes.now h.setting.world.word a c.args.from c.args.root p c.left_of-left.result c.left_of-left.ensures)) (c.leaves_fault-values.ensures h.setting) (c.binding_fault-bound.ensures h.setting a c.args.from t (action-bound h.setting.world.word c.args.context.now.question h.setting.locals a room)) c.earlier.ensures c.earlier-2.ensures
