-- `eval::offer::carries` meets its contract. By the tests.
use native.Mathlib.Omega.{arith}
use Rattle.eval.proofs.Offers.{carries-yes, carries-no}
use Rattle.eval.proofs.offer.carries.Goals as goal

pub returns-in_default : goal.returns-in_default
returns-in_default c = carries-no c.args.kind (λ e. omega arith) (λ e. omega arith) (λ e. omega arith)

pub returns-in_default-2 : goal.returns-in_default-2
returns-in_default-2 c = carries-no c.args.kind (λ e. omega arith) (λ e. omega arith) (λ e. omega arith)

pub returns-in-37 : goal.returns-in-37
returns-in-37 c = carries-yes c.args.kind (λ e f g. omega (arith, c.in-37.is, g))

pub returns-in-37-2 : goal.returns-in-37-2
returns-in-37-2 c = carries-yes c.args.kind (λ e f g. omega (arith, e, f))
