-- A blank, or another byte.
use Rattle.lines.proofs.Twos.{blank-on, blank-off}
use Rattle.lines.proofs.two.after_first.Goals as goal

pub returns-then-b-eq32 : goal.returns-then-b-eq32
returns-then-b-eq32 c = blank-on c.args.v c.args.b c.if-b-eq32.true

pub returns : goal.returns
returns c = blank-off c.args.v c.args.b c.if-b-eq32.false
