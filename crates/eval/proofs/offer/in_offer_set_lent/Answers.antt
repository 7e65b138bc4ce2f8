-- `eval::offer::in_offer_set_lent` meets its contract: both ends, or the set at its root. From what the set shows.
use mir.Facts.{to_z-of_z}
use native.Mathlib.Omega.{arith}
use Rattle.value.proofs.Kit.{back}
use Rattle.rules.specs.Offers.{within}
use Rattle.eval.proofs.Ends.{rooted-at, ranged-tells}
use Rattle.eval.proofs.offer.in_offer_set_lent.Goals as goal

pub in_set_lent-requires : goal.in_set_lent-requires
in_set_lent-requires c =
    (rooted-at c.args.context.now.nodes.now c.args.context.now.locals.now c.in-Joined.root c.in-Joined.is c.requires.1).held

pub returns-in-Joined : goal.returns-in-Joined
returns-in-Joined c x h =
    let m = rooted-at c.args.context.now.nodes.now c.args.context.now.locals.now c.in-Joined.root c.in-Joined.is h in
    simp (to_z-of_z c.ranges.v) at c.in_set_lent.ensures m.set x m.at m.worth

pub returns-then-low-v : goal.returns-then-low-v
unfolding within
returns-then-low-v c x h =
    let z = to_z-of_z c.ranges.v in
    let a = back c.in-Range.low (omega arith) in
    let b = back c.in-Range.high (omega arith) in
    simp (b, z) (ranged-tells c.args.context.now.nodes.now c.args.context.now.locals.now c.in-Range.low c.in-Range.high c.args.v _ c.in-Range.is (rw (simp (a, z) at c.if-low-v.true)) h)

pub returns-else-low-v : goal.returns-else-low-v
unfolding within
returns-else-low-v c x h =
    let z = to_z-of_z c.ranges.v in
    let a = back c.in-Range.low (omega arith) in
    simp (a, z) (ranged-tells c.args.context.now.nodes.now c.args.context.now.locals.now c.in-Range.low c.in-Range.high c.args.v _ c.in-Range.is (rw (simp (a, z) at c.if-low-v.false)) h)
