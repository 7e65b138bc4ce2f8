use Rattle.grammar.proofs.Follows.{same, isnt}
use Rattle.syntax.proofs.Answers.{raised}
use Rattle.syntax.proofs.Grouping.{body-fault, body-last, body-ready, body-next-fault, body-next}
use native.Mathlib.Omega.{arith}
use Rattle.syntax.proofs.process.+body_lent.Goals as goal

pub returns-then-peek : goal.returns-then-peek
returns-then-peek t c =
    let r = body-last c.args.site.now.spot.toks.now c.args.nodes.now _ c.args.site.now.spot.at c.args.site.now.spot.used c.args.site.now.sums (c.sum_lent.ensures.follows, c.sum_lent.ensures.tallied) c.in_ok-n.was (isnt c.peek.ensures c.if-peek.true) in record { follows = r.0; tallied = r.1 }

pub returns-in_err-n : goal.returns-in_err-n
returns-in_err-n t c =
    rw (raised c.from_residual.ensures.1) (let r = body-fault c.args.site.now.spot.toks.now c.args.nodes.now _ c.args.site.now.spot.at c.args.site.now.spot.used c.args.site.now.sums (c.sum_lent.ensures.follows, c.sum_lent.ensures.tallied) c.in_err-n.was in record { follows = r.0; tallied = r.1 })

pub returns-in_err-m : goal.returns-in_err-m
returns-in_err-m t c =
    rw (raised c.from_residual-in_err-m.ensures.1) (let r = body-next-fault c.args.site.now.spot.toks.now c.args.nodes.now _ c.args.site.now.spot.at c.args.site.now.spot.used c.args.site.now.sums (c.sum_lent.ensures.follows, c.sum_lent.ensures.tallied) c.in_ok-n.was (same c.peek.ensures c.if-peek.false) _ (rw c.to.ensures.1 at c.body_lent.ensures.follows, rw c.to.ensures.1 at c.body_lent.ensures.tallied) c.in_err-m.was in record { follows = r.0; tallied = r.1 })

pub returns : goal.returns
returns t c =
    let ready = body-ready c.args.site.now.spot.toks.now c.args.nodes.now _ c.args.site.now.spot.at c.args.site.now.spot.used c.args.site.now.sums (c.sum_lent.ensures.follows, c.sum_lent.ensures.tallied) c.in_ok-n.was (same c.peek.ensures c.if-peek.false) c.args.site.now.spot.ready in let r = body-next c.args.site.now.spot.toks.now c.args.nodes.now _ c.args.site.now.spot.at c.args.site.now.spot.used c.args.site.now.sums (c.sum_lent.ensures.follows, c.sum_lent.ensures.tallied) c.in_ok-n.was (same c.peek.ensures c.if-peek.false) _ (rw c.to.ensures.1 at c.body_lent.ensures.follows, rw c.to.ensures.1 at c.body_lent.ensures.tallied) c.in_ok-m.was (record { written = c.pair.ensures; token-fits = omega arith; left-fits = omega (arith, ready.inside, ready.room, ready.few); third-fits = omega arith }) in record { follows = r.0; tallied = r.1 }
