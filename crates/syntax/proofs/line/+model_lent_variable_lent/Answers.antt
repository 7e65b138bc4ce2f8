use native.Mathlib.Omega.{arith}
use Rattle.grammar.proofs.Follows.{same, isnt}
use Rattle.tree.proofs.Spans.{made_of, ready-after}
use Rattle.syntax.proofs.Answers.{raised}
use Rattle.syntax.proofs.LineReturns.{ready-third, model-nameless, model-neither, model-definitions, model-variable, variable-number, variable-open, variable-rest, variable-made}
use Rattle.syntax.proofs.line.+model_lent_variable_lent.Goals as goal

pub model_lent-returns-then-peek-ne-NAME : goal.model_lent-returns-then-peek-ne-NAME
model_lent-returns-then-peek-ne-NAME t c =
    let r = model-nameless _ _ _ _ c.args.spot.now.ready.inside (isnt c.peek.ensures c.if-peek-ne-NAME.true) in record { follows = r.0; parsed = r.1 }

pub model_lent-returns-then-t-eq91 : goal.model_lent-returns-then-t-eq91
model_lent-returns-then-t-eq91 t c =
    let r = model-definitions _ _ _ _ (same c.peek.ensures c.if-peek-ne-NAME.false) _ _ (same c.peek-t.ensures c.if-t-eq91.true) (c.definitions_lent.ensures.follows, c.definitions_lent.ensures.parsed) in record { follows = r.0; parsed = r.1 }

pub model_lent-returns-then-t-ne61 : goal.model_lent-returns-then-t-ne61
model_lent-returns-then-t-ne61 t c =
    let r = model-neither _ _ _ _ (same c.peek.ensures c.if-peek-ne-NAME.false) (isnt c.peek-t.ensures c.if-t-eq91.false) (isnt c.peek-t.ensures c.if-t-ne61.true) in record { follows = r.0; parsed = r.1 }

pub model_lent-returns : goal.model_lent-returns
model_lent-returns t c =
    let r = model-variable _ _ _ _ (same c.peek.ensures c.if-peek-ne-NAME.false) _ _ (same c.peek-t.ensures c.if-t-ne61.false) (c.variable_lent.ensures.follows, c.variable_lent.ensures.parsed) in record { follows = r.0; parsed = r.1 }

pub variable_lent-returns-then-peek-ne59 : goal.variable_lent-returns-then-peek-ne59
variable_lent-returns-then-peek-ne59 t c =
    let r = variable-open _ _ _ _ _ (c.number.ensures.follows, c.number.ensures.parsed) c.in_ok-n.was (isnt c.peek.ensures c.if-peek-ne59.true) in record { follows = r.0; parsed = r.1 }

pub variable_lent-returns-in_err-n : goal.variable_lent-returns-in_err-n
variable_lent-returns-in_err-n t c =
    rw (raised c.from_residual.ensures.1) (let r = variable-number _ _ _ _ _ (c.number.ensures.follows, c.number.ensures.parsed) c.in_err-n.was in record { follows = r.0; parsed = r.1 })

pub variable_lent-returns-in_err-m : goal.variable_lent-returns-in_err-m
variable_lent-returns-in_err-m t c =
    rw (raised c.from_residual-in_err-m.ensures.1) (let r = variable-rest _ _ _ _ _ (c.number.ensures.follows, c.number.ensures.parsed) c.in_ok-n.was _ (same c.peek.ensures c.if-peek-ne59.false) (rw c.to.ensures.1 at c.model_lent.ensures.follows, rw c.to.ensures.1 at c.model_lent.ensures.parsed) c.in_err-m.was in record { follows = r.0; parsed = r.1 })

pub variable_lent-returns : goal.variable_lent-returns
variable_lent-returns t c =
    let m = made_of c.in_ok-n.was c.number.ensures.parsed in let q = ready-after (ready-third c.args.named.now.spot.ready (omega (arith, c.args.named.now.sign))) m.span in let r = variable-made _ _ _ _ _ (c.number.ensures.follows, c.number.ensures.parsed) c.in_ok-n.was _ (same c.peek.ensures c.if-peek-ne59.false) (rw c.to.ensures.1 at c.model_lent.ensures.follows, rw c.to.ensures.1 at c.model_lent.ensures.parsed) c.args.named.now.name c.args.named.now.sign c.in_ok-m.was (record { written = c.node.ensures; token-fits = omega (arith, c.args.named.now.spot.ready.inside, c.args.named.now.spot.ready.room); left-fits = omega (arith, q.inside, q.room, q.few); third-fits = omega arith }) in record { follows = r.0; parsed = r.1 }
