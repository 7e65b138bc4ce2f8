-- `sending` meets its contract: each return is a law of Deeds.antt.
use Rattle.grammar.proofs.Follows.{inside}
use Rattle.syntax.proofs.Answers.{raised}
use Rattle.syntax.proofs.Deeds.{sending-fault, sending-node}
use native.Mathlib.Omega.{arith}
use Rattle.syntax.proofs.action.sending.Goals as goal

pub returns-in_err-n : goal.returns-in_err-n
returns-in_err-n c =
    rw (raised c.from_residual.ensures.1) (let r = sending-fault c.args.kind c.args.toks.now c.args.nodes.now _ c.args.at c.args.left (c.entries_at.ensures.follows, c.entries_at.ensures.parsed) c.in_err-n.was in record { follows = r.0; extended = r.1 })

pub returns : goal.returns
returns c =
    let r = sending-node c.args.kind c.args.toks.now c.args.nodes.now _ c.args.at c.args.left (c.entries_at.ensures.follows, c.entries_at.ensures.parsed) c.requires.nonzero c.in_ok-n.was (record { written = c.pair.ensures; token-fits = omega arith; left-fits = omega (arith, c.requires.ready.room, c.requires.ready.few, inside c.args.toks.now c.args.at c.requires.nonzero); third-fits = omega arith }) in record { follows = r.0; extended = r.1 }
