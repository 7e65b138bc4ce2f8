-- By the blank, then by the digit.
use Rattle.std.proofs.Common.{arith}
use Rattle.lines.proofs.Heads.{seek-unparted, seek-low, seek-high, seek-digit}
use Rattle.lines.proofs.line.seek_line.Goals as goal

pub returns-then-after-ne-BLANK : goal.returns-then-after-ne-BLANK
returns-then-after-ne-BLANK c = seek-unparted _ _ c.if-after-ne-BLANK.true

pub returns-in-304-to-313 : goal.returns-in-304-to-313
returns-in-304-to-313 c = seek-digit _ _ c.if-after-ne-BLANK.false (omega arith) (omega arith)

pub returns-in_default : goal.returns-in_default
returns-in_default c = seek-low _ _ c.if-after-ne-BLANK.false (omega arith)

pub returns-in_default-2 : goal.returns-in_default-2
returns-in_default-2 c = seek-high _ _ c.if-after-ne-BLANK.false (omega arith) (omega arith)
