-- The whole word, or not.
use Rattle.lines.proofs.Twos.{digit-on, digit-off}
use Rattle.lines.proofs.two.first_digit.Goals as goal

pub returns-then-n-eq7 : goal.returns-then-n-eq7
returns-then-n-eq7 c = digit-on c.args.n c.args.d c.if-n-eq7.true

pub returns : goal.returns
returns c = digit-off c.args.n c.args.d c.if-n-eq7.false
