-- By the part that the script stands in.
use Rattle.std.proofs.Common.{subst}
use Rattle.lines.specs.Script.{Begun, Cut}
use Rattle.lines.proofs.script.Script.at_end.Goals as goal

pub returns-in-InLine : goal.returns-in-InLine
returns-in-InLine c = λ s qs h. c.line_at_end.ensures s qs (subst (Begun s qs c.args.self.from) c.in-InLine.is h.begun)

pub returns-in-InText : goal.returns-in-InText
returns-in-InText c = λ s qs h. Cut.in-text (subst (Begun s qs c.args.self.from) c.in-InText.is h.begun)
