-- By the cases of what was read.
use Rattle.std.proofs.Common.{sym, ap}
use Rattle.lines.specs.Two.{paired}
use Rattle.lines.proofs.two.says.Goals as goal

pub returns-in-Both : goal.returns-in-Both
returns-in-Both c = sym (ap paired c.in-Both.is)
