-- `names::bound_fault` meets its contract: by the question.
use Rattle.token.specs.Contents.{lows_in, highs_in}
use Rattle.names.proofs.Repeats.{bound-inside, fresh-bound, bound-limits, bound-fresh, bound-even, bound-uneven}
use Rattle.names.proofs.bound_fault.Goals as goal

pub over_fault-requires : goal.over_fault-requires
over_fault-requires c =
    (bound-inside (lows_in c.args.context.now.contents.now) (highs_in c.args.context.now.contents.now) c.args.context.now.nodes.now c.args.context.now.lists c.args.context.now.scope c.args.first c.args.n c.args.sets c.requires).1

pub repeated_fault-requires : goal.repeated_fault-requires
repeated_fault-requires c =
    rw c.parsed.ensures (fresh-bound (lows_in c.args.context.now.contents.now) (highs_in c.args.context.now.contents.now) c.args.context.now.nodes.now c.args.context.now.lists c.args.context.now.scope c.args.first c.args.n c.args.sets c.in-Fresh.is c.requires)

pub returns-then-n-sets : goal.returns-then-n-sets
returns-then-n-sets c =
    bound-even (lows_in c.args.context.now.contents.now) (highs_in c.args.context.now.contents.now) c.args.context.now.nodes.now c.args.context.now.lists c.args.context.now.scope c.args.first c.args.n c.args.sets c.in-Given.is c.if-n-sets.true

pub returns-in-Limits : goal.returns-in-Limits
returns-in-Limits c =
    bound-limits (lows_in c.args.context.now.contents.now) (highs_in c.args.context.now.contents.now) c.args.context.now.nodes.now c.args.context.now.lists c.args.context.now.scope c.args.first c.args.n c.args.sets c.in-Limits.is c.over_fault.ensures

pub returns-in-Fresh : goal.returns-in-Fresh
returns-in-Fresh c =
    bound-fresh (lows_in c.args.context.now.contents.now) (highs_in c.args.context.now.contents.now) c.args.context.now.nodes.now c.args.context.now.lists c.args.context.now.scope c.args.first c.args.n c.args.sets c.in-Fresh.is (rw c.parsed.ensures at c.repeated_fault.ensures)

pub returns-else-n-sets : goal.returns-else-n-sets
returns-else-n-sets c =
    bound-uneven (lows_in c.args.context.now.contents.now) (highs_in c.args.context.now.contents.now) c.args.context.now.nodes.now c.args.context.now.lists c.args.context.now.scope c.args.first c.args.n c.args.sets c.in-Given.is c.if-n-sets.false
