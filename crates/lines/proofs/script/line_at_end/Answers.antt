-- A line with no byte is no item.
use Rattle.lines.proofs.Steps.{line-done, line-cut}
use Rattle.lines.proofs.script.line_at_end.Goals as goal

pub returns-then-reading-eq-EMPTY : goal.returns-then-reading-eq-EMPTY
returns-then-reading-eq-EMPTY c = λ s qs x. line-done x c.if-reading-eq-EMPTY.true

pub returns : goal.returns
returns c = λ s qs x. line-cut x c.if-reading-eq-EMPTY.false
