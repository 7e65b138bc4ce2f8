-- `walk::params_fault` meets its contract: by the question.
use Rattle.token.specs.Contents.{lows_in, highs_in}
use Rattle.names.proofs.Lines.{params-limits, fresh-params, params-fresh, params-given}
use Rattle.names.proofs.walk.params_fault.Goals as goal

pub repeated_fault-requires : goal.repeated_fault-requires
repeated_fault-requires c =
    rw c.parsed.ensures (fresh-params (lows_in c.args.context.now.contents.now) (highs_in c.args.context.now.contents.now) c.args.context.now.nodes.now c.args.context.now.lists c.args.first c.args.n c.no_locals.result c.no_locals.ensures c.in-Fresh.is c.requires.0 c.requires.2)

pub returns-in-Limits : goal.returns-in-Limits
returns-in-Limits c =
    params-limits (lows_in c.args.context.now.contents.now) (highs_in c.args.context.now.contents.now) c.args.context.now.nodes.now c.args.context.now.lists c.args.first c.args.n c.in-Limits.is c.over_fault.ensures

pub returns-in-Fresh : goal.returns-in-Fresh
returns-in-Fresh c =
    params-fresh (lows_in c.args.context.now.contents.now) (highs_in c.args.context.now.contents.now) c.args.context.now.nodes.now c.args.context.now.lists c.args.first c.args.n c.no_locals.result c.no_locals.ensures c.in-Fresh.is (rw c.parsed.ensures at c.repeated_fault.ensures)

pub returns-in-Given : goal.returns-in-Given
returns-in-Given c =
    params-given (lows_in c.args.context.now.contents.now) (highs_in c.args.context.now.contents.now) c.args.context.now.nodes.now c.args.context.now.lists c.args.first c.args.n c.in-Given.is
