-- By the blank, then by the digit.
use Rattle.std.proofs.Common.{arith}
use Rattle.lines.proofs.Heads.{begin-unparted, begin-low, begin-high, begin-digit}
use Rattle.lines.proofs.line.begin_line.Goals as goal

pub returns-then-further-ne-BLANK : goal.returns-then-further-ne-BLANK
returns-then-further-ne-BLANK c = begin-unparted _ _ c.if-further-ne-BLANK.true

pub returns-in-73776-to-73785 : goal.returns-in-73776-to-73785
returns-in-73776-to-73785 c = begin-digit _ _ c.if-further-ne-BLANK.false (omega arith) (omega arith)

pub returns-in_default : goal.returns-in_default
returns-in_default c = begin-low _ _ c.if-further-ne-BLANK.false (omega arith)

pub returns-in_default-2 : goal.returns-in_default-2
returns-in_default-2 c = begin-high _ _ c.if-further-ne-BLANK.false (omega arith) (omega arith)
