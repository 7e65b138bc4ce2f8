-- By the cases of the rest, and whether the byte is `t`.
use Rattle.lines.proofs.Rests.{last_letter, no-letter}
use Rattle.lines.proofs.line.RestByteByByte.with_letter.Goals as goal

pub returns-in-Nothing : goal.returns-in-Nothing
returns-in-Nothing c = last_letter c.args.self c.args.b c.in-Nothing.is c.if-b-eq116.true

pub returns-in_default : goal.returns-in_default
returns-in_default c = no-letter c.args.self c.args.b c.in-Nothing.is c.if-b-eq116.false
