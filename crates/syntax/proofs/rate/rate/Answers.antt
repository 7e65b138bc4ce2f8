-- `syntax::rate::rate` meets its contract: a case for each of its returns, from Rates.antt.
use native.Mathlib.Omega.{arith}
use Rattle.grammar.proofs.Follows.{same, isnt}
use Rattle.tree.proofs.Spans.{made_of}
use Rattle.syntax.proofs.Answers.{raised}
use Rattle.syntax.proofs.Rates.{rate-plain, rate-fault, rate-second, rate-scaled}
use Rattle.syntax.proofs.rate.rate.Goals as goal

pub returns-then-peek-ne42 : goal.returns-then-peek-ne42
returns-then-peek-ne42 c =
    let r = rate-plain _ _ _ _ _ c.in_ok-n.was (c.scale.ensures.follows, c.scale.ensures.parsed) (isnt c.peek.ensures c.if-peek-ne42.true) in record { follows = r.0; parsed = r.1 }

pub returns-in_err-n : goal.returns-in_err-n
returns-in_err-n c =
    rw (raised c.from_residual.ensures.1) (let r = rate-fault _ _ _ _ _ c.in_err-n.was (c.scale.ensures.follows, c.scale.ensures.parsed) in record { follows = r.0; parsed = r.1 })

pub returns-in_err-m : goal.returns-in_err-m
returns-in_err-m c =
    rw (raised c.from_residual-in_err-m.ensures.1) (let r = rate-second _ _ _ _ _ c.in_ok-n.was (c.scale.ensures.follows, c.scale.ensures.parsed) _ (same c.peek.ensures c.if-peek-ne42.false) (c.atom.ensures.follows, c.atom.ensures.parsed) c.in_err-m.was in record { follows = r.0; parsed = r.1 })

pub returns : goal.returns
returns c =
    let m = made_of c.in_ok-n.was c.scale.ensures.parsed in let r = rate-scaled _ _ _ _ _ c.in_ok-n.was (c.scale.ensures.follows, c.scale.ensures.parsed) _ (same c.peek.ensures c.if-peek-ne42.false) (c.atom.ensures.follows, c.atom.ensures.parsed) c.in_ok-m.was (record { written = c.pair.ensures; token-fits = omega arith; left-fits = omega (arith, m.span.onward, m.span.within, m.span.more, m.span.fewer, c.requires.inside, c.requires.room, c.requires.few); third-fits = omega arith }) in record { follows = r.0; parsed = r.1 }
