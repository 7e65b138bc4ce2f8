-- `second_lent` meets its contract: each return is a law of Braces.antt.
use Rattle.syntax.proofs.Answers.{raised}
use Rattle.syntax.proofs.Braces.{ended-fault, ended-made, second-fault, second-done}
use Rattle.syntax.proofs.braced.second_lent.Goals as goal

pub returns-in_err-n : goal.returns-in_err-n
returns-in_err-n c =
    rw (raised c.from_residual.ensures.1) (let r = second-fault c.args.left.now.toks.now c.args.nodes.now _ c.args.left.now.at c.args.first c.args.left.now.root (c.thirds.ensures.follows, c.thirds.ensures.items) c.in_err-n.was in record { follows = r.0; seconds = r.1 })

pub returns-in_err-m : goal.returns-in_err-m
returns-in_err-m c =
    rw (raised c.from_residual-in_err-m.ensures.1) (let r = second-done c.args.left.now.toks.now c.args.nodes.now _ c.args.left.now.at c.args.first c.args.left.now.root (c.thirds.ensures.follows, c.thirds.ensures.items) c.in_ok-n.was _ _ _ _ (c.deed.ensures.follows, c.deed.ensures.extended) (ended-fault _ _ c.in_err-m.was) in record { follows = r.0; seconds = r.1 })

pub returns : goal.returns
returns c =
    let r = second-done c.args.left.now.toks.now c.args.nodes.now _ c.args.left.now.at c.args.first c.args.left.now.root (c.thirds.ensures.follows, c.thirds.ensures.items) c.in_ok-n.was _ _ _ _ (c.deed.ensures.follows, c.deed.ensures.extended) (ended-made _ _ _ _ c.in_ok-m.was (rw (c.after.ensures.1, c.spot.ensures.1) at c.rated_lent.ensures.follows, (rw (c.after.ensures.1, c.spot.ensures.1) at c.rated_lent.ensures.rating, rw c.after.ensures.1 at c.rated_lent.ensures.spare))) in record { follows = r.0; seconds = r.1 }
