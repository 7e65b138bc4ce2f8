-- By the draw's size.
use Rattle.lines.specs.Line.{small}
use Rattle.lines.proofs.Heads.{then-is}
use Rattle.lines.proofs.line.draw_line.Goals as goal

pub returns : goal.returns
unfolding small
returns c = then-is _ _ _ c.then_some.ensures
