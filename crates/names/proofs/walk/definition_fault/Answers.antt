-- `walk::definition_fault` meets its contract: the parameters, then the body in their scope.
use Rattle.names.proofs.Settled.{root_in}
use Rattle.names.specs.Walks.{sums}
use Rattle.names.proofs.Lines.{stated-of, params-named, params-inside, params-few, body-place, body-room, definition-judged}
use native.Mathlib.Omega.{arith}
use Rattle.names.proofs.walk.definition_fault.Goals as goal

pub offset_bounds-context-root : goal.offset_bounds-context-root
offset_bounds-context-root c =
    omega (arith, root_in c.requires.0.0.world, c.requires.1)

pub bounds-context-root : goal.bounds-context-root
bounds-context-root c =
    omega (arith, root_in c.requires.0.0.world, c.requires.1)

pub overflow_add-first : goal.overflow_add-first
overflow_add-first c =
    omega (arith, c.token_of-first.ensures, params-inside c.requires.0.0 c.requires.0.1 c.requires.0.2 c.requires.0.3 c.args.from c.args.root (stated-of c.args.context.now.nodes.now c.requires.0.1 c.requires.0.2 c.requires.0.3 c.args.from c.args.root c.requires.0.4) c.requires.1)

pub params_fault-params-requires : goal.params_fault-params-requires
params_fault-params-requires c =
    rw (c.token_of-first.ensures, c.third_of-n.ensures) ((c.requires.0.0.world, params-named c.requires.0.0 c.requires.0.1 c.requires.0.2 c.requires.0.3 c.args.from c.args.root (stated-of c.args.context.now.nodes.now c.requires.0.1 c.requires.0.2 c.requires.0.3 c.args.from c.args.root c.requires.0.4) c.requires.1), params-inside c.requires.0.0 c.requires.0.1 c.requires.0.2 c.requires.0.3 c.args.from c.args.root (stated-of c.args.context.now.nodes.now c.requires.0.1 c.requires.0.2 c.requires.0.3 c.args.from c.args.root c.requires.0.4) c.requires.1, λ e. omega (arith, params-few c.requires.0.0 c.requires.0.1 c.requires.0.2 c.requires.0.3 c.args.from c.args.root (stated-of c.args.context.now.nodes.now c.requires.0.1 c.requires.0.2 c.requires.0.3 c.args.from c.args.root c.requires.0.4) c.requires.1 c.requires.0.5 e))

pub with_locals-scope-requires : goal.with_locals-scope-requires
with_locals-scope-requires c =
    rw (c.token_of-first.ensures, c.third_of-n.ensures) (params-inside c.requires.0.0 c.requires.0.1 c.requires.0.2 c.requires.0.3 c.args.from c.args.root (stated-of c.args.context.now.nodes.now c.requires.0.1 c.requires.0.2 c.requires.0.3 c.args.from c.args.root c.requires.0.4) c.requires.1)

pub part_fault-body-requires : goal.part_fault-body-requires
part_fault-body-requires c =
    rw c.within.ensures ((body-place c.requires.0.0 c.requires.0.1 c.requires.0.2 c.requires.0.3 c.args.from c.args.root (stated-of c.args.context.now.nodes.now c.requires.0.1 c.requires.0.2 c.requires.0.3 c.args.from c.args.root c.requires.0.4) c.requires.1 c.requires.0.5 c.no_locals.result c.with_locals-scope.result c.no_locals.ensures (rw (c.token_of-first.ensures, c.third_of-n.ensures) at c.with_locals-scope.ensures), sums c.requires.0.3, (stated-of c.args.context.now.nodes.now c.requires.0.1 c.requires.0.2 c.requires.0.3 c.args.from c.args.root c.requires.0.4).holds, body-room c.requires.0.0 c.requires.0.1 c.requires.0.2 c.requires.0.3 c.args.from c.args.root (stated-of c.args.context.now.nodes.now c.requires.0.1 c.requires.0.2 c.requires.0.3 c.args.from c.args.root c.requires.0.4) c.requires.1 c.requires.0.5 c.no_locals.result c.with_locals-scope.result c.no_locals.ensures (rw (c.token_of-first.ensures, c.third_of-n.ensures) at c.with_locals-scope.ensures)), omega (arith, c.requires.1))

pub returns : goal.returns
returns c =
    λ h n p b t room.
    definition-judged h n p b c.args.from c.args.root (stated-of c.args.context.now.nodes.now n p b c.args.from c.args.root t) c.requires.1 room c.no_locals.result c.with_locals-scope.result c.no_locals.ensures (rw (c.token_of-first.ensures, c.third_of-n.ensures) at c.with_locals-scope.ensures) c.params_fault-params.result c.part_fault-body.result c.earlier.result ((rw (c.token_of-first.ensures, c.third_of-n.ensures) at c.params_fault-params.ensures) h.world (params-named h n p b c.args.from c.args.root (stated-of c.args.context.now.nodes.now n p b c.args.from c.args.root t) c.requires.1)) ((rw c.within.ensures at c.part_fault-body.ensures) (body-place h n p b c.args.from c.args.root (stated-of c.args.context.now.nodes.now n p b c.args.from c.args.root t) c.requires.1 room c.no_locals.result c.with_locals-scope.result c.no_locals.ensures (rw (c.token_of-first.ensures, c.third_of-n.ensures) at c.with_locals-scope.ensures)) (sums b) (stated-of c.args.context.now.nodes.now n p b c.args.from c.args.root t).holds (body-room h n p b c.args.from c.args.root (stated-of c.args.context.now.nodes.now n p b c.args.from c.args.root t) c.requires.1 room c.no_locals.result c.with_locals-scope.result c.no_locals.ensures (rw (c.token_of-first.ensures, c.third_of-n.ensures) at c.with_locals-scope.ensures))) c.earlier.ensures

pub overflow_sub-part : goal.overflow_sub-part
overflow_sub-part c =
    omega (arith, (stated-of c.args.context.now.nodes.now c.requires.0.1 c.requires.0.2 c.requires.0.3 c.args.from c.args.root c.requires.0.4).above)
