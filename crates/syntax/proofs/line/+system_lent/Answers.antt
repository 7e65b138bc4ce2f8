use native.Mathlib.Omega.{arith}
use Rattle.grammar.proofs.Follows.{same, isnt}
use Rattle.tree.proofs.Spans.{made_of, ready-after}
use Rattle.syntax.proofs.Answers.{raised}
use Rattle.syntax.proofs.LineReturns.{system-first, system-last, system-neither, system-rest, system-next}
use Rattle.syntax.proofs.line.+system_lent.Goals as goal

pub returns-then-t-eq59 : goal.returns-then-t-eq59
returns-then-t-eq59 t c =
    let r = system-last _ _ _ _ _ (c.start_lent.ensures.follows, c.start_lent.ensures.parsed) c.in_ok-n.was (same c.peek-t.ensures c.if-t-eq59.true) in record { follows = r.0; parsed = r.1 }

pub returns-then-t : goal.returns-then-t
returns-then-t t c =
    let r = system-neither _ _ _ _ _ (c.start_lent.ensures.follows, c.start_lent.ensures.parsed) c.in_ok-n.was (isnt c.peek-t.ensures c.if-t-eq59.false) (isnt c.peek-t.ensures c.if-t.true) in record { follows = r.0; parsed = r.1 }

pub returns-in_err-n : goal.returns-in_err-n
returns-in_err-n t c =
    rw (raised c.from_residual.ensures.1) (let r = system-first _ _ _ _ _ (c.start_lent.ensures.follows, c.start_lent.ensures.parsed) c.in_err-n.was in record { follows = r.0; parsed = r.1 })

pub returns-in_err-m : goal.returns-in_err-m
returns-in_err-m t c =
    rw (raised c.from_residual-in_err-m.ensures.1) (let r = system-rest _ _ _ _ _ (c.start_lent.ensures.follows, c.start_lent.ensures.parsed) c.in_ok-n.was _ (same c.peek-t.ensures c.if-t.false) (rw c.to.ensures.1 at c.system_lent.ensures.follows, rw c.to.ensures.1 at c.system_lent.ensures.parsed) c.in_err-m.was in record { follows = r.0; parsed = r.1 })

pub returns : goal.returns
returns t c =
    let m = made_of c.in_ok-n.was c.start_lent.ensures.parsed in let q = ready-after c.args.spot.now.ready m.span in let r = system-next _ _ _ _ _ (c.start_lent.ensures.follows, c.start_lent.ensures.parsed) c.in_ok-n.was _ (same c.peek-t.ensures c.if-t.false) (rw c.to.ensures.1 at c.system_lent.ensures.follows, rw c.to.ensures.1 at c.system_lent.ensures.parsed) c.in_ok-m.was (record { written = c.pair.ensures; token-fits = omega arith; left-fits = omega (arith, q.inside, q.room, q.few); third-fits = omega arith }) in record { follows = r.0; parsed = r.1 }
