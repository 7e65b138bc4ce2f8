-- The reading of the new line is empty.
use Rattle.std.proofs.Common.{ap}
use Rattle.lines.specs.declared.line.Reading.{Reading}
use Rattle.lines.specs.declared.script.Part.TheVariants.{InLine}
use Rattle.lines.proofs.script.begin.Goals as goal

pub returns : goal.returns
returns c = ap (λ (r : Reading). record { line = c.args.line; from = c.args.line; part = InLine r }) c.new.ensures
