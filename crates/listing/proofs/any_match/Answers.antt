use Rattle.listing.proofs.Pairs.{some_pair}
use Rattle.listing.proofs.Runs.{run_on, run-off, any_at, run_more, run_none}
use mathlib.Core.Logic.{inl}
use mathlib.Core.Path.{sym, ◌∙◌}
use native.Mathlib.Omega.{arith}
use Rattle.listing.proofs.any_match.Goals as goal

pub loop-q-init : goal.loop-q-init
loop-q-init c =
    λ w t roots scopes m s sq W R k x e l. run-off w s.pairs _ _ R k x e (inl l)

pub pair_matches-requires : goal.pair_matches-requires
pair_matches-requires c =
    (c.requires.0, c.requires.1, omega (arith, c.requires.2))

pub returns-then-pair_matches : goal.returns-then-pair_matches
returns-then-pair_matches c =
    λ w t roots scopes m s sq W R. let y = some_pair W c.loop-q.q (omega (arith, c.requires.2)) in let M = run_on w s.pairs _ _ R c.loop-q.q y.0 y.1 c.loop-q.auto.q (omega arith) ∙ sym (c.pair_matches.ensures w t roots scopes m s y.0 sq W y.1) in sym (any_at w s.pairs c.loop-q.q y.0 y.1 (M ∙ c.if-pair_matches.true))

pub loop-q-preserved : goal.loop-q-preserved
loop-q-preserved c =
    λ w t roots scopes m s sq W R. let y = some_pair W c.loop-q.q (omega (arith, c.requires.2)) in let M = run_on w s.pairs _ _ R c.loop-q.q y.0 y.1 c.loop-q.auto.q (omega arith) ∙ sym (c.pair_matches.ensures w t roots scopes m s y.0 sq W y.1) in run_more w s.pairs _ _ R c.loop-q.q y.0 y.1 (M ∙ c.if-pair_matches.false) (c.loop-q.invariant w t roots scopes m s sq W R)

pub returns : goal.returns
returns c =
    λ w t roots scopes m s sq W R. sym (run_none w s.pairs _ _ R c.loop-q.q (omega arith) (c.loop-q.invariant w t roots scopes m s sq W R))
