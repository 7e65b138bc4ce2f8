-- `closed_lent` meets its contract: each return is a law of Braces.antt.
use Rattle.grammar.proofs.Follows.{same, isnt}
use Rattle.syntax.proofs.Answers.{raised}
use Rattle.syntax.proofs.Braces.{closed-fault, closed-open, closed-made}
use Rattle.syntax.proofs.braced.closed_lent.Goals as goal

pub returns-then-peek-ne125 : goal.returns-then-peek-ne125
returns-then-peek-ne125 c =
    let r = closed-open c.args.left.now.toks.now c.args.nodes.now _ c.args.left.now.at c.args.left.now.root (c.rate.ensures.follows, c.rate.ensures.parsed) c.in_ok-n.was (isnt c.peek.ensures c.if-peek-ne125.true) in record { follows = r.0; tallied = r.1.0; spare = r.1.1 }

pub returns-in_err-n : goal.returns-in_err-n
returns-in_err-n c =
    rw (raised c.from_residual.ensures.1) (let r = closed-fault c.args.left.now.toks.now c.args.nodes.now _ c.args.left.now.at c.args.left.now.root (c.rate.ensures.follows, c.rate.ensures.parsed) c.in_err-n.was in record { follows = r.0; tallied = r.1.0; spare = r.1.1 })

pub returns : goal.returns
returns c =
    let r = closed-made c.args.left.now.toks.now c.args.nodes.now _ c.args.left.now.at c.args.left.now.root (c.rate.ensures.follows, c.rate.ensures.parsed) c.in_ok-n.was (same c.peek.ensures c.if-peek-ne125.false) in record { follows = r.0; tallied = r.1.0; spare = r.1.1 }
