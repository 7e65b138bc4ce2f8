-- By the cases of what was read.
use Rattle.std.proofs.Common.{sym, ap, ◌∙◌}
use Rattle.lines.specs.declared.two.Two.{Two}
use Rattle.lines.specs.Two.{letter_next}
use Rattle.lines.proofs.two.TwoByteByByte.with_letter.Goals as goal

pub returns-in-Word : goal.returns-in-Word
returns-in-Word c = c.in_word.ensures ∙ sym (ap (λ (t : Two). letter_next t c.args.b) c.in-Word.is)

pub returns-in-First : goal.returns-in-First
returns-in-First c = c.after_first.ensures ∙ sym (ap (λ (t : Two). letter_next t c.args.b) c.in-First.is)
