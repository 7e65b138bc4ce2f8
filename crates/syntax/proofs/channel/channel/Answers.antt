-- `channel` meets its contract: each return is a law of Channels.antt.
use Rattle.syntax.proofs.Answers.{raised}
use Rattle.syntax.proofs.Channels.{channel-fault, channel-made}
use Rattle.syntax.proofs.channel.channel.Goals as goal

pub returns-in_err-n : goal.returns-in_err-n
returns-in_err-n c =
    rw (raised c.from_residual.ensures.1) (let r = channel-fault c.args.toks.now c.args.nodes.now _ c.args.at c.args.used (c.expr.ensures.follows, c.expr.ensures.parsed) c.in_err-n.was in record { follows = r.0; parsed = r.1 })

pub returns : goal.returns
returns c =
    let r = channel-made c.args.toks.now c.args.nodes.now _ c.args.at c.args.used (c.expr.ensures.follows, c.expr.ensures.parsed) _ _ c.in_ok-n.was (c.seconds.ensures.follows, c.seconds.ensures.extended) in record { follows = r.0; parsed = r.1 }
