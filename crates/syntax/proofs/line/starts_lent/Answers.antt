-- `syntax::line::starts_lent` meets its contract: a case for each of its returns, from LineReturns.antt.
use native.Mathlib.Omega.{arith}
use Rattle.grammar.proofs.Follows.{same, isnt}
use Rattle.tree.proofs.Spans.{tally-of}
use Rattle.syntax.proofs.Answers.{raised}
use Rattle.syntax.proofs.LineReturns.{starts-closed, starts-empty, starts-fault, starts-made}
use Rattle.syntax.proofs.line.starts_lent.Goals as goal

pub returns-then-peek-ne91 : goal.returns-then-peek-ne91
returns-then-peek-ne91 c =
    let r = starts-closed _ _ c.args.name _ _ _ c.args.spot.now.ready.inside (isnt c.peek.ensures c.if-peek-ne91.true) in record { follows = r.0; parsed = r.1 }

pub returns-then-peek-eq93 : goal.returns-then-peek-eq93
returns-then-peek-eq93 c =
    let r = starts-empty _ _ _ _ _ _ _ (same c.peek.ensures c.if-peek-ne91.false) (same c.peek-2.ensures c.if-peek-eq93.true) (record { written = c.leaf.ensures; token-fits = omega (arith, c.args.spot.now.ready.room, c.args.spot.now.ready.inside, c.requires.name_before); left-fits = omega arith; third-fits = omega arith }) in record { follows = r.0; parsed = r.1 }

pub returns-in_err-m : goal.returns-in_err-m
returns-in_err-m c =
    rw (raised c.from_residual.ensures.1) (let r = starts-fault _ _ _ _ _ _ _ (same c.peek.ensures c.if-peek-ne91.false) (isnt c.peek-2.ensures c.if-peek-eq93.false) (c.wholes.ensures.follows, c.wholes.ensures.tallied) c.in_err-m.was in record { follows = r.0; parsed = r.1 })

pub returns : goal.returns
returns c =
    let w = tally-of c.in_ok-m.was (c.wholes.ensures.tallied) in let r = starts-made _ _ _ _ _ _ _ (same c.peek.ensures c.if-peek-ne91.false) (isnt c.peek-2.ensures c.if-peek-eq93.false) (c.wholes.ensures.follows, c.wholes.ensures.tallied) c.in_ok-m.was (record { written = c.node.ensures; token-fits = omega (arith, c.args.spot.now.ready.room, c.args.spot.now.ready.inside, c.requires.name_before); left-fits = omega arith; third-fits = omega (arith, c.args.spot.now.ready.room, w.made.span.within, w.rarer) }) in record { follows = r.0; parsed = r.1 }
