-- `braced_lent` meets its contract: each return is a law of Bracing.antt.
use native.Mathlib.Omega.{arith}
use Rattle.grammar.proofs.Follows.{same, isnt}
use mathlib.Core.Logic.{inl, inr}
use Rattle.syntax.proofs.Answers.{raised}
use Rattle.syntax.proofs.Braces.{ended-fault, ended-made}
use Rattle.syntax.proofs.Bracing.{braced-check, braced-hand, braced-channel}
use Rattle.syntax.proofs.braced.braced_lent.Goals as goal
use Rattle.syntax.proofs.braced.braced_lent.Goals.{in_default-via-in-1+else-peek-eq44, in_default-via-in_default-1}

pub returns-in_err-n-in-126 : goal.returns-in_err-n-in-126
returns-in_err-n-in-126 c =
    rw (raised c.from_residual.ensures.1) (let r = braced-check c.args.spot.now.toks.now c.args.nodes.now _ c.args.spot.now.at c.args.spot.now.used _ _ _ (c.check.ensures.follows, c.check.ensures.parsed) (ended-fault _ _ c.in_err-n-in-126.was) (same c.peek.ensures c.in-126.is) in record { follows = r.0; inside = r.1 })

pub returns-in_ok-n-in-126 : goal.returns-in_ok-n-in-126
returns-in_ok-n-in-126 c =
    let r = braced-check c.args.spot.now.toks.now c.args.nodes.now _ c.args.spot.now.at c.args.spot.now.used _ _ _ (c.check.ensures.follows, c.check.ensures.parsed) (ended-made _ _ _ _ c.in_ok-n-in-126.was (rw c.after.ensures.1 at c.rated_lent.ensures.follows, (rw c.after.ensures.1 at c.rated_lent.ensures.rating, rw c.after.ensures.1 at c.rated_lent.ensures.spare))) (same c.peek.ensures c.in-126.is) in record { follows = r.0; inside = r.1 }

pub returns-in_err-n-in-64 : goal.returns-in_err-n-in-64
returns-in_err-n-in-64 c =
    rw (raised c.from_residual-in_err-n-in-64.ensures.1) (let r = braced-hand c.args.spot.now.toks.now c.args.nodes.now _ c.args.spot.now.at c.args.spot.now.used _ _ _ (c.handshake.ensures.follows, c.handshake.ensures.parsed) (ended-fault _ _ c.in_err-n-in-64.was) (same c.peek.ensures c.in-64.is) in record { follows = r.0; inside = r.1 })

pub returns-in_ok-n-in-64 : goal.returns-in_ok-n-in-64
returns-in_ok-n-in-64 c =
    let r = braced-hand c.args.spot.now.toks.now c.args.nodes.now _ c.args.spot.now.at c.args.spot.now.used _ _ _ (c.handshake.ensures.follows, c.handshake.ensures.parsed) (ended-made _ _ _ _ c.in_ok-n-in-64.was (rw c.after-in-64.ensures.1 at c.rated_lent-in-64.ensures.follows, (rw c.after-in-64.ensures.1 at c.rated_lent-in-64.ensures.rating, rw c.after-in-64.ensures.1 at c.rated_lent-in-64.ensures.spare))) (same c.peek.ensures c.in-64.is) in record { follows = r.0; inside = r.1 }

pub returns-in_err-n-in_default : goal.returns-in_err-n-in_default
returns-in_err-n-in_default c =
    rw (raised c.from_residual-in_err-n-in_default.ensures.1) (let r = braced-channel c.args.spot.now.toks.now c.args.nodes.now _ c.args.spot.now.at c.args.spot.now.used _ _ _ (c.beacon.ensures.follows, c.beacon.ensures.parsed) (ended-fault _ _ c.in_err-n-in_default.was) (isnt c.peek.ensures (omega arith)) (isnt c.peek.ensures (omega arith)) (elim c.in_default.branch [ in_default-via-in-1+else-peek-eq44 w ↦ inl (same c.peek.ensures w.in-1.is, omega arith) | in_default-via-in_default-1 w ↦ inr (isnt c.peek.ensures (omega arith)) ]) in record { follows = r.0; inside = r.1 })

pub returns-in_ok-n-in_default : goal.returns-in_ok-n-in_default
returns-in_ok-n-in_default c =
    let r = braced-channel c.args.spot.now.toks.now c.args.nodes.now _ c.args.spot.now.at c.args.spot.now.used _ _ _ (c.beacon.ensures.follows, c.beacon.ensures.parsed) (ended-made _ _ _ _ c.in_ok-n-in_default.was (rw c.after-in_default.ensures.1 at c.rated_lent-in_default.ensures.follows, (rw c.after-in_default.ensures.1 at c.rated_lent-in_default.ensures.rating, rw c.after-in_default.ensures.1 at c.rated_lent-in_default.ensures.spare))) (isnt c.peek.ensures (omega arith)) (isnt c.peek.ensures (omega arith)) (elim c.in_default.branch [ in_default-via-in-1+else-peek-eq44 w ↦ inl (same c.peek.ensures w.in-1.is, omega arith) | in_default-via-in_default-1 w ↦ inr (isnt c.peek.ensures (omega arith)) ]) in record { follows = r.0; inside = r.1 }
