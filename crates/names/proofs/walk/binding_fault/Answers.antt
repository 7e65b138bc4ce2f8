-- `walk::binding_fault` meets its contract: by the number of names.
use Rattle.names.proofs.Settled.{root_in}
use Rattle.names.proofs.Acts.{none-binding, some-bound, is-binding, binding-judged}
use mathlib.Core.Path.{sym, ◌∙◌}
use native.Mathlib.Omega.{arith}
use Rattle.names.proofs.walk.binding_fault.Goals as goal

pub offset_bounds-context-root : goal.offset_bounds-context-root
offset_bounds-context-root c =
    omega (arith, root_in c.requires.0.0.world, c.requires.1)

pub bounds-context-root : goal.bounds-context-root
bounds-context-root c =
    omega (arith, root_in c.requires.0.0.world, c.requires.1)

pub returns-then-n-eq0 : goal.returns-then-n-eq0
returns-then-n-eq0 c =
    λ h a lo t room. none-binding h a lo c.args.root t c.requires.1 (sym c.third_of-n.ensures ∙ c.if-n-eq0.true)

pub overflow_sub-root : goal.overflow_sub-root
overflow_sub-root c =
    omega (arith, (some-bound c.requires.0.0 c.requires.0.1 c.requires.0.2 c.args.root c.requires.0.3 c.requires.1 c.third_of-n.result c.third_of-n.ensures c.if-n-eq0.false).above)

pub set_count-sets-requires : goal.set_count-sets-requires
set_count-sets-requires c =
    omega (arith, root_in c.requires.0.0.world, c.requires.1)

pub bound_fault-requires : goal.bound_fault-requires
bound_fault-requires c =
    is-binding c.requires.0.0 c.requires.0.1 c.requires.0.2 c.args.root c.requires.0.3 c.requires.1 c.third_of-n.result c.third_of-n.ensures c.if-n-eq0.false c.token_of.result c.token_of.ensures c.requires.0.4

pub returns : goal.returns
unfolding is-binding
returns c =
    λ h a lo t room.
    let b = some-bound h a lo c.args.root t c.requires.1 c.third_of-n.result c.third_of-n.ensures c.if-n-eq0.false in
    binding-judged h a lo c.args.root t c.requires.1 c.third_of-n.result c.third_of-n.ensures c.if-n-eq0.false c.token_of.result c.token_of.ensures c.set_count-sets.result (c.set_count-sets.ensures b.sets b.low b.holds) c.bound_fault.result (c.bound_fault.ensures (is-binding h a lo c.args.root t c.requires.1 c.third_of-n.result c.third_of-n.ensures c.if-n-eq0.false c.token_of.result c.token_of.ensures room))
