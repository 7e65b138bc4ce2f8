-- What is found, offered and bound, put together by the law of what is entered.
use mathlib.Core.Path.{◌≡◌, refl, ap, ◌∙◌}
use mathlib.Core.List.{List}
use native.Mathlib.Omega.{arith}
use lib.IntN.{ℤ}
use lib.ListN.{length}
use Rattle.std.specs.Option.{option_flatten}
use Rattle.eval.specs.Shown.{ShowsGuard}
use Rattle.state.proofs.Read.{few-processes}
use Rattle.step.proofs.Tables.{passed, long, inside, few-own, own-are, own-values, offer-asks, guard-here, entered}
use Rattle.step.specs.Enter.{values_of}
use Rattle.step.proofs.Offers.{bound-shown}
use Rattle.step.proofs.enter.Goals as goal
use Rattle.step.proofs.enter.Goals.{in-Some, in-None}

pub find_branch-found-requires : goal.find_branch-found-requires
find_branch-found-requires c =
    c.requires

pub locals_at-own-requires : goal.locals_at-own-requires
locals_at-own-requires c =
    let a = c.requires.acts in (long a.lent.stands, omega (arith, inside a, few-processes _ (passed a.lent.stands)), c.find_branch-found.ensures.1)

pub invariant_of-context : goal.invariant_of-context
invariant_of-context c =
    let a = c.requires.acts in
    let d = c.find_branch-found.ensures.0 c.requires.model c.requires.state c.requires.process c.requires.branch c.requires.guard a in
    record { in_range = own-values a _ (own-are a _ d.0 _ c.locals_at-own.ensures) }

pub offer_of_lent-requires : goal.offer_of_lent-requires
offer_of_lent-requires c =
    let a = c.requires.acts in
    let d = c.find_branch-found.ensures.0 c.requires.model c.requires.state c.requires.process c.requires.branch c.requires.guard a in
    offer-asks a _ (own-are a _ d.0 _ c.locals_at-own.ensures) _ d.1

pub put_locals-requires : goal.put_locals-requires
put_locals-requires c =
    let a = c.requires.acts in
    let d = c.find_branch-found.ensures.0 c.requires.model c.requires.state c.requires.process c.requires.branch c.requires.guard a in
    let e = own-are a _ d.0 _ c.locals_at-own.ensures in
    omega (arith, ap (λ (l : List ℤ). length l) e, few-own a)

pub continuation_of-next-requires : goal.continuation_of-next-requires
continuation_of-next-requires c =
    let a = c.requires.acts in
    let d = c.find_branch-found.ensures.0 c.requires.model c.requires.state c.requires.process c.requires.branch c.requires.guard a in
    (c.requires.branch, d.1)

pub returns : goal.returns
returns c =
    λ m s p b g h.
    let d = c.find_branch-found.ensures.0 m s p b g h in
    let e = own-are h _ d.0 _ c.locals_at-own.ensures in
    let f : c.match-offer_of_lent.offer ≡ option_flatten c.offer_of_lent.result =
    elim c.match-offer_of_lent.branch [ in-Some w ↦ rw (w.in-Some.is, w.offer-is) refl | in-None w ↦ rw (w.in-None.is, w.offer-is) refl ] in
    let o : ShowsGuard c.args.tables.nodes.now p.locals g c.match-offer_of_lent.offer = rw f (guard-here h _ c.offer_of_lent.result e (c.offer_of_lent.ensures b d.1)) in
    entered h c.args.values c.bound_by.result _ _ _ e c.put_locals.ensures (ap values_of c.bound_by.ensures ∙ bound-shown c.args.tables.nodes.now p.locals c.match-offer_of_lent.offer c.args.values g o) o (c.continuation_of-next.ensures b d.1)
