-- `names::is_left_out` meets its contract: by the kind.
use native.Mathlib.Omega.{arith}
use borrow.Author.Tests.{ne_eqb}
use Rattle.names.specs.Faults.{left_out}
use Rattle.names.proofs.is_left_out.Goals as goal

pub returns-in-1 : goal.returns-in-1
unfolding left_out
returns-in-1 c =
    rw c.in-1.is

pub returns-in-3 : goal.returns-in-3
unfolding left_out
returns-in-3 c =
    rw c.in-3.is

pub returns-in_default : goal.returns-in_default
unfolding left_out
returns-in_default c =
    simp (ne_eqb c.args.kind 1 (λ e. omega arith), ne_eqb c.args.kind 3 (λ e. omega arith))
