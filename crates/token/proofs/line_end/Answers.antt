-- The LF is the byte after those before it, or there is none.
use Rattle.std.proofs.Common.{arith}
use Rattle.token.proofs.Runs.{line-end, line-within}
use Rattle.token.proofs.line_end.Goals as goal

pub returns-then-at-s : goal.returns-then-at-s
returns-then-at-s c = omega (arith, line-end c.args.s.now c.args.from c.line_of.result c.requires c.line_of.ensures)

pub returns-else-at-s : goal.returns-else-at-s
returns-else-at-s c = omega (arith, line-end c.args.s.now c.args.from c.line_of.result c.requires c.line_of.ensures, line-within c.args.s.now c.args.from c.line_of.result c.requires c.line_of.ensures)

pub overflow_add-at : goal.overflow_add-at
overflow_add-at c = omega (arith, line-within c.args.s.now c.args.from c.line_of.result c.requires c.line_of.ensures)
