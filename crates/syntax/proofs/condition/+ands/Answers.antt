use native.Mathlib.Omega.{arith}
use Rattle.grammar.proofs.Follows.{same, isnt}
use Rattle.syntax.proofs.Answers.{raised}
use Rattle.syntax.proofs.Conditions.{ands-none, ands-fault, ands-more}
use Rattle.syntax.proofs.condition.+ands.Goals as goal

pub returns-then-peek-ne38 : goal.returns-then-peek-ne38
returns-then-peek-ne38 t c =
    let r = ands-none _ _ _ _ c.requires.inside (isnt c.peek.ensures c.if-peek-ne38.true) in record { follows = r.0; extended = r.1 }

pub returns-in_err-n : goal.returns-in_err-n
returns-in_err-n t c =
    rw (raised c.from_residual.ensures.1) (let r = ands-fault _ _ _ _ _ (same c.peek.ensures c.if-peek-ne38.false) (c.test.ensures.follows, c.test.ensures.parsed) c.in_err-n.was in record { follows = r.0; extended = r.1 })

pub returns : goal.returns
returns t c =
    let r = ands-more _ _ _ _ _ (same c.peek.ensures c.if-peek-ne38.false) (c.test.ensures.follows, c.test.ensures.parsed) _ _ _ c.in_ok-n.was (record { written = c.pair.ensures; token-fits = omega arith; left-fits = omega (arith, c.requires.inside, c.requires.room, c.requires.few); third-fits = omega arith }) (c.ands.ensures.follows, c.ands.ensures.extended) in record { follows = r.0; extended = r.1 }
