-- `handshake` meets its contract: each return is a law of Deeds.antt.
use native.Mathlib.Omega.{arith}
use Rattle.grammar.proofs.Follows.{same, isnt}
use Rattle.syntax.proofs.Answers.{raised}
use Rattle.syntax.proofs.Deeds.{hand-fault, hand-stray, hand-send, hand-receive}
use Rattle.syntax.proofs.action.handshake.Goals as goal

pub returns-in-33 : goal.returns-in-33
returns-in-33 c =
    let r = hand-send c.args.toks.now c.args.nodes.now _ c.args.at c.args.used c.requires.at_value (c.channel.ensures.follows, c.channel.ensures.parsed) c.in_ok-n.was _ _ (same c.peek.ensures c.in-33.is) (c.sending.ensures.follows, c.sending.ensures.extended) in record { follows = r.0; parsed = r.1 }

pub returns-in-63 : goal.returns-in-63
returns-in-63 c =
    let r = hand-receive c.args.toks.now c.args.nodes.now _ c.args.at c.args.used c.requires.at_value (c.channel.ensures.follows, c.channel.ensures.parsed) c.in_ok-n.was _ _ (same c.peek.ensures c.in-63.is) (c.receiving.ensures.follows, c.receiving.ensures.extended) in record { follows = r.0; parsed = r.1 }

pub returns-in_err-n : goal.returns-in_err-n
returns-in_err-n c =
    rw (raised c.from_residual.ensures.1) (let r = hand-fault c.args.toks.now c.args.nodes.now _ c.args.at c.args.used c.requires.at_value (c.channel.ensures.follows, c.channel.ensures.parsed) c.in_err-n.was in record { follows = r.0; parsed = r.1 })

pub returns-in_default : goal.returns-in_default
returns-in_default c =
    let r = hand-stray c.args.toks.now c.args.nodes.now _ c.args.at c.args.used c.requires.at_value (c.channel.ensures.follows, c.channel.ensures.parsed) c.in_ok-n.was (isnt c.peek.ensures (omega arith)) (isnt c.peek.ensures (omega arith)) in record { follows = r.0; parsed = r.1 }
