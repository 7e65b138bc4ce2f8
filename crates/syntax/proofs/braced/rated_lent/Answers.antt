-- `rated_lent` meets its contract: each return is a law of Braces.antt.
use Rattle.grammar.proofs.Follows.{same, isnt}
use Rattle.syntax.proofs.Braces.{rated-open, rated-made}
use Rattle.syntax.proofs.braced.rated_lent.Goals as goal

pub returns-then-peek-ne44 : goal.returns-then-peek-ne44
returns-then-peek-ne44 c =
    let r = rated-open c.args.left.now.toks.now c.args.nodes.now c.args.left.now.at c.args.left.now.root c.args.left.now.ready.inside (isnt (rw c.spot-spot.ensures.1 at c.peek.ensures) c.if-peek-ne44.true) in record { follows = r.0; rating = r.1.0; spare = r.1.1 }

pub returns : goal.returns
returns c =
    let r = rated-made c.args.left.now.toks.now c.args.nodes.now c.args.left.now.at c.args.left.now.root _ _ (same (rw c.spot-spot.ensures.1 at c.peek.ensures) c.if-peek-ne44.false) (rw (c.after.ensures.1, c.spot-spot.ensures.1) at c.closed_lent.ensures.follows, (rw (c.after.ensures.1, c.spot-spot.ensures.1) at c.closed_lent.ensures.tallied, rw c.after.ensures.1 at c.closed_lent.ensures.spare)) in record { follows = r.0; rating = r.1.0; spare = r.1.1 }
