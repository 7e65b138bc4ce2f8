use Rattle.listing.proofs.Added.{adds_none, adds_then}
use Rattle.listing.proofs.Pairs.{some_pair}
use Rattle.listing.proofs.Runs.{bound-start, bound-next, bound-end}
use mathlib.Core.Path.{refl, sym, ◌∙◌}
use native.Mathlib.Omega.{arith}
use Rattle.listing.proofs.list_bound.Goals as goal

pub loop-q-init : goal.loop-q-init
loop-q-init c =
    (refl, λ w t roots scopes m s sq W R. (R.low, rw (bound-start w s.pairs _ _ R c.args.asking.acting.place c.args.asking.acting.branch c.args.asking.acting.offer.rate) (adds_none _ _ c.args.filling.now.room.1)))

pub list_pair-requires : goal.list_pair-requires
list_pair-requires c =
    (c.requires.0, c.requires.1, omega (arith, c.requires.2))

pub loop-q-preserved : goal.loop-q-preserved
loop-q-preserved c =
    (c.list_pair.ensures.same ∙ c.loop-q.invariant.0, λ w t roots scopes m s sq W R. let y = some_pair W c.loop-q.q (omega (arith, c.requires.2)) in (omega arith, rw (bound-next w s.pairs _ _ R c.args.asking.acting.place c.args.asking.acting.branch c.args.asking.acting.offer.rate c.loop-q.q y.0 y.1) (adds_then (c.loop-q.invariant.1 w t roots scopes m s sq W R).1 (c.list_pair.ensures.added w t roots scopes m s y.0 sq W y.1 (sym (R.on c.loop-q.q y.0 y.1 c.loop-q.auto.q (omega arith)))))))

pub returns-clause-added : goal.returns-clause-added
returns-clause-added c =
    λ w t roots scopes m s sq W R. let a = c.loop-q.invariant.1 w t roots scopes m s sq W R in rw (← bound-end w s.pairs _ _ R c.args.asking.acting.place c.args.asking.acting.branch c.args.asking.acting.offer.rate c.loop-q.q (omega arith) a.0) a.1
