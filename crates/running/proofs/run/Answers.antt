-- The tables are made once, and the steps are bounded by the limit and by the room for events.
use mathlib.Core.Path.{◌≡◌}
use mathlib.Core.List.{List}
use Prim.Native.Nat.{ℕ}
use lib.IntN.{ℤ}
use borrow.Author.Rules.{rules}
use native.Mathlib.Nat.{div-mul-le_self}
use native.Mathlib.Omega.{arith}
use lib.ListN.{length}
use Rattle.model.specs.Resolved
use Rattle.machine.specs.Machine.{Run, runs_with}
use Rattle.running.specs.declared.Given.{Given}
use Rattle.running.specs.declared.Progress.{Progress}
use Rattle.running.specs.Progress.{Stands}
use Rattle.running.proofs.run.Goals as goal

-- what a run leaves in its struct it leaves where it was lent
lent : {g : Given} {z : List ℕ} {zs zs' : List ℤ} {es es' : List ℕ} {p : Progress} {m : Resolved.Model} {r : Run} → zs' ≡ zs → es' ≡ es → Stands g z zs es p m r → Stands g z zs' es' p m r
lent e f h = rw (e, f) h

pub steps-requires : goal.steps-requires
steps-requires c =
    (c.requires.0, c.requires.1, omega (arith, c.min-steps.ensures, div-mul-le_self (length c.args.events.now) 8))

pub returns : goal.returns
unfolding runs_with
returns c =
    λ m s l. lent (search rules) (search rules) (rw c.min-steps.ensures at (c.steps.ensures.stands m s l))
