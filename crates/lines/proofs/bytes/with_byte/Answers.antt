-- A byte is a digit, or below or above them.
use Rattle.std.proofs.Common.{ap, ◌∙◌, arith}
use Rattle.lines.proofs.OneByte.{below-digit, above-digit, at-digit}
use Rattle.lines.proofs.bytes.with_byte.Goals as goal
use Rattle.lines.proofs.bytes.with_byte.Goals.{in_default-via-then-b-lt48, in_default-via-else-b-lt48+else-b-lt58}

pub returns-in-48-to-57 : goal.returns-in-48-to-57
returns-in-48-to-57 g c =
    c.with_digit.ensures ∙ ap (g.R.ByteByByte.digit_next c.args.so_far) c.from.ensures ∙ at-digit g.R.ByteByByte.digit_next g.R.ByteByByte.letter_next c.args.so_far c.args.b (omega arith) (omega arith)

pub returns-in_default : goal.returns-in_default
returns-in_default g c =
    c.with_letter.ensures
    ∙ elim c.in_default.branch [
      | in_default-via-then-b-lt48 w ↦ below-digit g.R.ByteByByte.digit_next g.R.ByteByByte.letter_next c.args.so_far c.args.b (omega arith)
      | in_default-via-else-b-lt48+else-b-lt58 w ↦ above-digit g.R.ByteByByte.digit_next g.R.ByteByByte.letter_next c.args.so_far c.args.b (omega arith)
    ]
