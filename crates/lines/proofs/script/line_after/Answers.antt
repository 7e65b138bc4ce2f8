-- A line is counted at its LF.
use Rattle.std.proofs.Common.{◌∙◌}
use Rattle.lines.proofs.Steps.{after-break, after-other}
use Rattle.lines.proofs.script.line_after.Goals as goal

pub returns-then-b-eq10 : goal.returns-then-b-eq10
returns-then-b-eq10 c = λ s h. c.next_line.ensures ∙ after-break s c.args.b c.args.line c.if-b-eq10.true h

pub returns : goal.returns
returns c = λ s h. after-other s c.args.b c.args.line c.if-b-eq10.false h
