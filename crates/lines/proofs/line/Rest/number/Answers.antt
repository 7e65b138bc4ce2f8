-- By the cases of the rest.
use Rattle.std.proofs.Common.{sym, ap}
use Rattle.lines.specs.Line.{number_in}
use Rattle.lines.proofs.line.Rest.number.Goals as goal

pub returns-in-Number : goal.returns-in-Number
returns-in-Number c = sym (ap number_in c.in-Number.is)
