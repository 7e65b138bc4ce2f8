-- By the kind of the action.
use mathlib.Core.Path.{refl}
use mathlib.Core.Logic.{⊎_elim}
use native.Mathlib.Omega.{arith}
use Rattle.std.proofs.lemmas.Bool.{ne_eqb}
use Rattle.tree.specs.Node as node
use Rattle.step.specs.Enter.{bound_of}
use Rattle.step.proofs.bound_by.Goals as goal

pub returns-in_err-offer : goal.returns-in_err-offer
unfolding bound_of
returns-in_err-offer c = rw c.in_err-offer.was c.from_residual.ensures

pub returns-in-40 : goal.returns-in-40
unfolding bound_of
returns-in-40 c = rw c.in_ok-offer.was (⊎_elim (λ e. rw e refl) (λ e. rw e refl) c.in-40.is)

pub returns-in_default : goal.returns-in_default
unfolding bound_of
returns-in_default c =
    let k = c.in_ok-offer.field-0.kind in
    rw (c.in_ok-offer.was, ne_eqb k node.bind (λ e. grind (arith, e, c.in_default)), ne_eqb k node.hand_bind (λ e. grind (arith, e, c.in_default))) refl
