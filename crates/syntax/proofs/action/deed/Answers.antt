-- `deed` meets its contract: each return is a law of Deeds.antt.
use native.Mathlib.Omega.{arith}
use Rattle.grammar.proofs.Follows.{same, isnt}
use Rattle.syntax.proofs.Deeds.{deed-stray, deed-launch, deed-kill, deed-receive}
use Rattle.syntax.proofs.action.deed.Goals as goal

pub returns-in-33 : goal.returns-in-33
returns-in-33 c =
    let r = deed-launch c.args.toks.now c.args.nodes.now c.args.at c.args.left _ _ (same c.peek.ensures c.in-33.is) (c.sending.ensures.follows, c.sending.ensures.extended) in record { follows = r.0; extended = r.1 }

pub returns-in-35 : goal.returns-in-35
returns-in-35 c =
    let r = deed-kill c.args.toks.now c.args.nodes.now c.args.at c.args.left _ _ (same c.peek.ensures c.in-35.is) (c.sending-in-35.ensures.follows, c.sending-in-35.ensures.extended) in record { follows = r.0; extended = r.1 }

pub returns-in-63 : goal.returns-in-63
returns-in-63 c =
    let r = deed-receive c.args.toks.now c.args.nodes.now c.args.at c.args.left _ _ (same c.peek.ensures c.in-63.is) (c.receiving.ensures.follows, c.receiving.ensures.extended) in record { follows = r.0; extended = r.1 }

pub returns-in_default : goal.returns-in_default
returns-in_default c =
    let r = deed-stray c.args.toks.now c.args.nodes.now c.args.at c.args.left c.requires.inside (isnt c.peek.ensures (omega arith)) (isnt c.peek.ensures (omega arith)) (isnt c.peek.ensures (omega arith)) in record { follows = r.0; extended = r.1 }
