-- `seconds` meets its contract: each return is a law of Channels.antt.
use Rattle.grammar.proofs.Follows.{same, isnt}
use Rattle.syntax.proofs.Answers.{raised}
use Rattle.syntax.proofs.Channels.{seconds-none, seconds-fault, seconds-more}
use Rattle.syntax.proofs.channel.seconds.Goals as goal

pub returns-then-peek-ne44 : goal.returns-then-peek-ne44
returns-then-peek-ne44 c =
    let r = seconds-none c.args.toks.now c.args.nodes.now c.args.at c.args.left c.requires.inside (isnt c.peek.ensures c.if-peek-ne44.true) in record { follows = r.0; extended = r.1 }

pub returns-in_err-n : goal.returns-in_err-n
returns-in_err-n c =
    rw (raised c.from_residual.ensures.1) (let r = seconds-fault c.args.toks.now c.args.nodes.now c.args.at c.args.left (same c.peek.ensures c.if-peek-ne44.false) _ (c.expr.ensures.follows, c.expr.ensures.parsed) c.in_err-n.was in record { follows = r.0; extended = r.1 })

pub returns : goal.returns
returns c =
    let r = seconds-more c.args.toks.now c.args.nodes.now c.args.at c.args.left (same c.peek.ensures c.if-peek-ne44.false) _ (c.expr.ensures.follows, c.expr.ensures.parsed) c.in_ok-n.was _ _ (c.thirds.ensures.follows, c.thirds.ensures.items) in record { follows = r.0; extended = r.1 }
