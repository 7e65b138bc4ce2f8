-- `call_lent` meets its contract: each return is a law of Calling.antt.
use Rattle.grammar.proofs.Follows.{inside, same, isnt, in_tok}
use Rattle.tree.proofs.Spans.{tally-of}
use Rattle.syntax.proofs.Answers.{raised}
use Rattle.syntax.proofs.Calling.{call-stray, call-empty, call-fault, call-with}
use Prim.Native.Nat.{◌+◌}
use native.Mathlib.Omega.{arith}
use Rattle.syntax.proofs.process.call_lent.Goals as goal

pub returns-then-peek-ne91 : goal.returns-then-peek-ne91
returns-then-peek-ne91 c =
    let r = call-stray c.args.spot.now.toks.now c.args.nodes.now c.args.spot.now.at c.args.spot.now.used c.args.sums c.requires.at_value (omega (arith, inside c.args.spot.now.toks.now c.args.spot.now.at (omega arith))) (isnt c.peek.ensures c.if-peek-ne91.true) in record { follows = r.0; tallied = r.1 }

pub returns-then-peek-eq93 : goal.returns-then-peek-eq93
returns-then-peek-eq93 c =
    let r = call-empty c.args.spot.now.toks.now c.args.nodes.now c.args.spot.now.at c.args.spot.now.used c.args.sums c.requires.at_value (same c.peek.ensures c.if-peek-ne91.false) (same c.peek-2.ensures c.if-peek-eq93.true) (record { written = c.leaf.ensures; token-fits = omega (arith, c.args.spot.now.ready.room, in_tok c.args.spot.now.toks.now (c.args.spot.now.at + 1) c.peek.ensures (omega arith)); left-fits = omega arith; third-fits = omega arith }) in record { follows = r.0; tallied = r.1 }

pub returns-in_err-m : goal.returns-in_err-m
returns-in_err-m c =
    rw (raised c.from_residual.ensures.1) (let r = call-fault c.args.spot.now.toks.now c.args.nodes.now c.args.spot.now.at c.args.spot.now.used c.args.sums c.requires.at_value (same c.peek.ensures c.if-peek-ne91.false) (isnt c.peek-2.ensures c.if-peek-eq93.false) _ (c.args-2.ensures.follows, c.args-2.ensures.tallied) c.in_err-m.was in record { follows = r.0; tallied = r.1 })

pub returns : goal.returns
returns c =
    let s = tally-of c.in_ok-m.was (c.args-2.ensures.tallied) in let r = call-with c.args.spot.now.toks.now c.args.nodes.now c.args.spot.now.at c.args.spot.now.used c.args.sums c.requires.at_value (same c.peek.ensures c.if-peek-ne91.false) (isnt c.peek-2.ensures c.if-peek-eq93.false) _ (c.args-2.ensures.follows, c.args-2.ensures.tallied) c.in_ok-m.was (record { written = c.node.ensures; token-fits = omega (arith, c.args.spot.now.ready.room, in_tok c.args.spot.now.toks.now (c.args.spot.now.at + 1) c.peek.ensures (omega arith)); left-fits = omega arith; third-fits = omega (arith, c.args.spot.now.ready.room, s.made.span.within, s.rarer) }) in record { follows = r.0; tallied = r.1 }
