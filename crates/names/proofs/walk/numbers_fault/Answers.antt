-- `walk::numbers_fault` meets its contract: by the question.
use Rattle.token.specs.Contents.{lows_in, highs_in}
use Rattle.names.proofs.Titles.{numbers-limits, numbers-free}
use Rattle.names.proofs.Lines.{setting-none}
use Rattle.names.proofs.Settled.{vs-few}
use native.Mathlib.Omega.{arith}
use Rattle.names.proofs.walk.numbers_fault.Goals as goal

pub leaves_fault-requires : goal.leaves_fault-requires
leaves_fault-requires c =
    rw c.within.ensures ((setting-none c.requires c.no_locals.result c.no_locals.ensures, omega (arith, vs-few c.requires, c.requires.gathered.variables-are)))

pub returns-in-Limits : goal.returns-in-Limits
returns-in-Limits c =
    numbers-limits (lows_in c.args.context.now.contents.now) (highs_in c.args.context.now.contents.now) c.args.context.now.nodes.now c.args.context.now.lists c.no_locals.result c.no_locals.ensures c.in-Limits.is (rw c.within.ensures at c.leaves_fault.ensures)

pub returns-in-Fresh : goal.returns-in-Fresh
returns-in-Fresh c =
    numbers-free (lows_in c.args.context.now.contents.now) (highs_in c.args.context.now.contents.now) c.args.context.now.nodes.now c.args.context.now.lists c.in-Fresh.is
