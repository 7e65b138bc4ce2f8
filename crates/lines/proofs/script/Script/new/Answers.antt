-- Nothing has been read.
use Rattle.std.proofs.Common.{[], sym, subst}
use Rattle.lines.specs.Script.{Stands}
use Rattle.lines.proofs.Steps.{starts}
use Rattle.lines.proofs.script.Script.new.Goals as goal

pub returns : goal.returns
returns c = subst (Stands [] []) (sym c.begin.ensures) starts
