-- By the cases of the rest.
use Rattle.std.proofs.Common.{sym, ap, ◌∙◌}
use Rattle.lines.specs.declared.line.Rest.{Rest}
use Rattle.lines.specs.Line.{digit_next}
use Rattle.lines.proofs.Rests.{grown-is}
use Rattle.lines.proofs.line.RestByteByByte.with_digit.Goals as goal

pub returns-in-Nothing : goal.returns-in-Nothing
returns-in-Nothing c = sym (ap (λ (r : Rest). digit_next r c.args.d) c.in-Nothing.is)

pub returns-in-Number : goal.returns-in-Number
returns-in-Number c = grown-is _ _ _ (rw c.grow.ensures at c.map_or.ensures) ∙ sym (ap (λ (r : Rest). digit_next r c.args.d) c.in-Number.is)
