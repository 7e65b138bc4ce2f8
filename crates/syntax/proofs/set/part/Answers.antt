-- `syntax::set::part` meets its contract: a case for each of its returns, from Sets.antt.
use native.Mathlib.Omega.{arith}
use Rattle.grammar.proofs.Follows.{same, isnt}
use Rattle.tree.proofs.Spans.{made_of}
use Rattle.syntax.proofs.Answers.{raised}
use Rattle.syntax.proofs.Sets.{part-single, part-fault, part-second, part-range}
use Rattle.syntax.proofs.set.part.Goals as goal

pub returns-then-peek : goal.returns-then-peek
returns-then-peek c =
    let r = part-single _ _ _ _ _ c.in_ok-n.was (c.expr.ensures.follows, c.expr.ensures.parsed) (isnt c.peek.ensures c.if-peek.true) in record { follows = r.0; parsed = r.1 }

pub returns-in_err-n : goal.returns-in_err-n
returns-in_err-n c =
    rw (raised c.from_residual.ensures.1) (let r = part-fault _ _ _ _ _ c.in_err-n.was (c.expr.ensures.follows, c.expr.ensures.parsed) in record { follows = r.0; parsed = r.1 })

pub returns-in_err-m : goal.returns-in_err-m
returns-in_err-m c =
    rw (raised c.from_residual-in_err-m.ensures.1) (let r = part-second _ _ _ _ _ c.in_ok-n.was (c.expr.ensures.follows, c.expr.ensures.parsed) _ (same c.peek.ensures c.if-peek.false) (c.expr-2.ensures.follows, c.expr-2.ensures.parsed) c.in_err-m.was in record { follows = r.0; parsed = r.1 })

pub returns : goal.returns
returns c =
    let m = made_of c.in_ok-n.was c.expr.ensures.parsed in let r = part-range _ _ _ _ _ c.in_ok-n.was (c.expr.ensures.follows, c.expr.ensures.parsed) _ (same c.peek.ensures c.if-peek.false) (c.expr-2.ensures.follows, c.expr-2.ensures.parsed) c.in_ok-m.was (record { written = c.pair.ensures; token-fits = omega arith; left-fits = omega (arith, m.span.onward, m.span.within, m.span.more, m.span.fewer, c.requires.inside, c.requires.room, c.requires.few); third-fits = omega arith }) in record { follows = r.0; parsed = r.1 }
