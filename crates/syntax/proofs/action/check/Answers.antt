-- `check` meets its contract: each return is a law of Deeds.antt.
use Rattle.grammar.proofs.Follows.{same, isnt}
use Rattle.syntax.proofs.Answers.{raised}
use Rattle.syntax.proofs.Deeds.{check-fault, check-stray, check-ready, check-unset, check-node}
use native.Mathlib.Omega.{arith}
use Rattle.syntax.proofs.action.check.Goals as goal

pub returns-then-peek-ne63 : goal.returns-then-peek-ne63
returns-then-peek-ne63 c =
    let r = check-stray c.args.toks.now c.args.nodes.now _ c.args.at c.args.used c.requires.at_value (c.channel.ensures.follows, c.channel.ensures.parsed) c.in_ok-n.was (isnt c.peek.ensures c.if-peek-ne63.true) in record { follows = r.0; parsed = r.1 }

pub returns-in_err-n : goal.returns-in_err-n
returns-in_err-n c =
    rw (raised c.from_residual.ensures.1) (let r = check-fault c.args.toks.now c.args.nodes.now _ c.args.at c.args.used c.requires.at_value (c.channel.ensures.follows, c.channel.ensures.parsed) c.in_err-n.was in record { follows = r.0; parsed = r.1 })

pub returns-in_err-m : goal.returns-in_err-m
returns-in_err-m c =
    rw (raised c.from_residual-in_err-m.ensures.1) (let r = check-unset c.args.toks.now c.args.nodes.now _ c.args.at c.args.used c.requires.at_value (c.channel.ensures.follows, c.channel.ensures.parsed) c.in_ok-n.was (same c.peek.ensures c.if-peek-ne63.false) _ (c.entries_at.ensures.follows, c.entries_at.ensures.parsed) c.in_err-m.was in record { follows = r.0; parsed = r.1 })

pub returns : goal.returns
returns c =
    let ready = check-ready c.args.toks.now c.args.nodes.now _ c.args.at c.args.used c.requires.at_value (c.channel.ensures.follows, c.channel.ensures.parsed) c.in_ok-n.was (same c.peek.ensures c.if-peek-ne63.false) c.requires.ready in let r = check-node c.args.toks.now c.args.nodes.now _ c.args.at c.args.used c.requires.at_value (c.channel.ensures.follows, c.channel.ensures.parsed) c.in_ok-n.was (same c.peek.ensures c.if-peek-ne63.false) _ (c.entries_at.ensures.follows, c.entries_at.ensures.parsed) c.in_ok-m.was (record { written = c.pair.ensures; token-fits = omega arith; left-fits = omega (arith, ready.room, ready.inside, ready.few); third-fits = omega arith }) in record { follows = r.0; parsed = r.1 }
