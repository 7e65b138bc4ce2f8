-- `syntax::line::definition_lent` meets its contract: a case for each of its returns, from LineReturns.antt.
use native.Mathlib.Omega.{arith}
use Rattle.grammar.proofs.Follows.{same, isnt}
use Rattle.syntax.proofs.Answers.{raised}
use Rattle.syntax.proofs.LineReturns.{given-of, definition-params, definition-bare, definition-body, definition-open, definition-made}
use Rattle.syntax.proofs.line.definition_lent.Goals as goal

pub returns-then-peek-ne61 : goal.returns-then-peek-ne61
returns-then-peek-ne61 c =
    let r = definition-bare _ _ _ _ _ (c.params.ensures.follows, c.params.ensures.parameters) c.in_ok-n.was (isnt c.peek.ensures c.if-peek-ne61.true) in record { follows = r.0; tallied = r.1 }

pub returns-then-peek-ne59 : goal.returns-then-peek-ne59
returns-then-peek-ne59 c =
    let r = definition-open _ _ _ _ _ (c.params.ensures.follows, c.params.ensures.parameters) c.in_ok-n.was _ (same c.peek.ensures c.if-peek-ne61.false) (rw c.to.ensures.1 at c.body_lent.ensures.follows, rw c.to.ensures.1 at c.body_lent.ensures.tallied) c.in_ok-m.was (isnt c.peek-2.ensures c.if-peek-ne59.true) in record { follows = r.0; tallied = r.1 }

pub returns-in_err-n : goal.returns-in_err-n
returns-in_err-n c =
    rw (raised c.from_residual.ensures.1) (let r = definition-params _ _ _ _ _ (c.params.ensures.follows, c.params.ensures.parameters) c.in_err-n.was in record { follows = r.0; tallied = r.1 })

pub returns-in_err-m : goal.returns-in_err-m
returns-in_err-m c =
    rw (raised c.from_residual-in_err-m.ensures.1) (let r = definition-body _ _ _ _ _ (c.params.ensures.follows, c.params.ensures.parameters) c.in_ok-n.was _ (same c.peek.ensures c.if-peek-ne61.false) (rw c.to.ensures.1 at c.body_lent.ensures.follows, rw c.to.ensures.1 at c.body_lent.ensures.tallied) c.in_err-m.was in record { follows = r.0; tallied = r.1 })

pub returns : goal.returns
returns c =
    let g = given-of c.in_ok-n.was c.params.ensures.parameters in let r = definition-made _ _ _ _ _ (c.params.ensures.follows, c.params.ensures.parameters) c.in_ok-n.was _ (same c.peek.ensures c.if-peek-ne61.false) (rw c.to.ensures.1 at c.body_lent.ensures.follows, rw c.to.ensures.1 at c.body_lent.ensures.tallied) c.in_ok-m.was c.args.named.now.sign (same c.peek-2.ensures c.if-peek-ne59.false) (record { written = c.node.ensures; token-fits = omega (arith, c.args.named.now.spot.ready.inside, c.args.named.now.spot.ready.room); left-fits = omega arith; third-fits = omega (arith, g.fewer, g.within, c.args.named.now.spot.ready.room) }) in record { follows = r.0; tallied = r.1 }
