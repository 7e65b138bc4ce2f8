-- `beacon` meets its contract: each return is a law of Deeds.antt.
use Rattle.syntax.proofs.Answers.{raised}
use Rattle.syntax.proofs.Deeds.{beacon-fault, beacon-made}
use Rattle.syntax.proofs.action.beacon.Goals as goal

pub returns-in_err-n : goal.returns-in_err-n
returns-in_err-n c =
    rw (raised c.from_residual.ensures.1) (let r = beacon-fault c.args.toks.now c.args.nodes.now _ c.args.at c.args.used (c.channel.ensures.follows, c.channel.ensures.parsed) c.in_err-n.was in record { follows = r.0; parsed = r.1 })

pub returns : goal.returns
returns c =
    let r = beacon-made c.args.toks.now c.args.nodes.now _ c.args.at c.args.used (c.channel.ensures.follows, c.channel.ensures.parsed) _ _ c.in_ok-n.was (c.deed.ensures.follows, c.deed.ensures.extended) in record { follows = r.0; parsed = r.1 }
