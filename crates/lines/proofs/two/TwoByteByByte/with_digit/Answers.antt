-- By the cases of what was read.
use Rattle.std.proofs.Common.{refl, sym, ap, ◌∙◌}
use Rattle.lines.specs.declared.two.Two.{Two}
use Rattle.lines.specs.declared.two.Two.TheVariants.{Both, Other}
use Rattle.lines.specs.Two.{digit_next}
use Rattle.lines.proofs.Twos.{first-is, second-is}
use Rattle.lines.proofs.two.TwoByteByByte.with_digit.Goals as goal

pub returns-in-Word : goal.returns-in-Word
returns-in-Word c = c.first_digit.ensures ∙ sym (ap (λ (t : Two). digit_next t c.args.d) c.in-Word.is)

pub returns-in-First : goal.returns-in-First
returns-in-First c = first-is _ _ _ (rw c.grow.ensures at c.map_or.ensures) ∙ sym (ap (λ (t : Two). digit_next t c.args.d) c.in-First.is)

pub returns-in-Gap : goal.returns-in-Gap
returns-in-Gap c = sym (ap (λ (t : Two). digit_next t c.args.d) c.in-Gap.is)

pub returns-in-Some : goal.returns-in-Some
returns-in-Some c = second-is c.in-Both.v c.in-Both.w c.args.d (Both c.in-Both.v c.in-Some.w) (rw (sym c.grow-in-Both.ensures ∙ c.in-Some.is) refl) ∙ sym (ap (λ (t : Two). digit_next t c.args.d) c.in-Both.is)

pub returns-in-None : goal.returns-in-None
returns-in-None c = second-is c.in-Both.v c.in-Both.w c.args.d Other (rw (sym c.grow-in-Both.ensures ∙ c.in-None.is) refl) ∙ sym (ap (λ (t : Two). digit_next t c.args.d) c.in-Both.is)
