-- `walk::start_fault` meets its contract: by the question.
use Rattle.token.specs.Contents.{lows_in, highs_in}
use Rattle.token.proofs.Columns.{length-lows}
use Rattle.names.proofs.Settled.{root_in}
use Rattle.names.proofs.Lines.{setting-none, count-there, start-name, start-limits, start-fresh, start-given}
use native.Mathlib.Omega.{arith}
use Rattle.names.proofs.walk.start_fault.Goals as goal

pub offset_bounds-context-root : goal.offset_bounds-context-root
offset_bounds-context-root c =
    omega (arith, root_in c.requires.0.0, c.requires.1)

pub bounds-context-root : goal.bounds-context-root
bounds-context-root c =
    omega (arith, root_in c.requires.0.0, c.requires.1)

pub count_fault-count-requires : goal.count_fault-count-requires
count_fault-count-requires c =
    λ e. let q = count-there c.args.context.now.nodes.now c.requires.0.0 c.args.root c.requires.1 e in (q.0, omega (arith, length-lows c.args.context.now.contents.now))

pub leaves_fault-requires : goal.leaves_fault-requires
leaves_fault-requires c =
    rw c.within.ensures ((setting-none c.requires.0.0 c.no_locals.result c.no_locals.ensures, omega (arith, c.requires.1)))

pub call_fault-requires : goal.call_fault-requires
call_fault-requires c =
    (c.requires.0.0, rw c.token_of-name.ensures (start-name c.args.context.now.nodes.now c.requires.0.0 c.args.root c.requires.1 c.requires.0.1 c.args.from c.requires.0.2))

pub returns-in-Limits : goal.returns-in-Limits
returns-in-Limits c =
    start-limits (lows_in c.args.context.now.contents.now) (highs_in c.args.context.now.contents.now) c.args.context.now.nodes.now c.args.context.now.lists c.args.from c.args.root c.requires.1 c.no_locals.result c.no_locals.ensures c.count_fault-count.result c.leaves_fault.result c.earlier.result c.earlier.ensures c.args.context.now.question c.in-Limits.is c.count_fault-count.ensures (rw c.within.ensures at c.leaves_fault.ensures)

pub returns-in-Fresh : goal.returns-in-Fresh
returns-in-Fresh c =
    start-fresh (lows_in c.args.context.now.contents.now) (highs_in c.args.context.now.contents.now) c.args.context.now.nodes.now c.args.context.now.lists c.args.from c.args.root c.in-Fresh.is

pub returns-in-Given : goal.returns-in-Given
returns-in-Given c =
    start-given (lows_in c.args.context.now.contents.now) (highs_in c.args.context.now.contents.now) c.args.context.now.nodes.now c.args.context.now.lists c.args.from c.args.root c.requires.1 c.token_of-name.result c.third_of.result c.token_of-name.ensures c.third_of.ensures c.call_fault.result c.args.context.now.question c.in-Given.is c.call_fault.ensures
