-- By the byte's sort, and by the run where it is a letter.
use Rattle.std.proofs.Common.{◌≡◌, ◌<◌, true, refl, ◌∙◌, arith}
use denote.Enum.Bare.{sameb}
use Rattle.token.specs.contracts.Run.{the_type}
use Rattle.token.specs.declared.Run.{Run}
use Rattle.token.specs.declared.Run.TheVariants.{Name, Number}
use Rattle.token.specs.Bytes.{within, run_class}
use Rattle.token.proofs.Classes.{off, belongs-is}
use Rattle.token.proofs.goes_on.Goals as goal

digit : (r : Run) → true ≡ within (run_class r) 2 2
unfolding within
digit Name = refl
digit Number = refl

letter : (r : Run) → sameb the_type r Name ≡ within (run_class r) 2 1
unfolding within
letter Name = refl
letter Number = refl

some : (r : Run) → 0 < run_class r
some Name = omega arith
some Number = omega arith

pub returns-in-Digit : goal.returns-in-Digit
returns-in-Digit c = belongs-is (run_class c.args.run) 2 c.args.b (digit c.args.run) (rw c.in-Digit.is at c.sort.ensures)

pub returns-in-Letter : goal.returns-in-Letter
returns-in-Letter c = belongs-is (run_class c.args.run) 1 c.args.b (c.eq.ensures ∙ letter c.args.run) (rw c.in-Letter.is at c.sort.ensures)

pub returns-in_default : goal.returns-in_default
returns-in_default c = belongs-is (run_class c.args.run) _ c.args.b (off _ _ (some c.args.run) c.in_default.not-Letter c.in_default.not-Digit) c.sort.ensures
