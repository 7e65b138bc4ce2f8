-- `syntax::line::start_lent` meets its contract: a case for each of its returns, from LineReturns.antt.
use Rattle.grammar.proofs.Follows.{same, isnt}
use Rattle.syntax.proofs.LineReturns.{start-once, start-neither, start-no-times, start-no-name, start-counted}
use Rattle.syntax.proofs.line.start_lent.Goals as goal

pub returns-then-t-eq-NAME : goal.returns-then-t-eq-NAME
returns-then-t-eq-NAME c =
    let r = start-once _ _ _ _ _ _ (same c.peek-t.ensures c.if-t-eq-NAME.true) (rw c.next.ensures.1 at c.starts_lent.ensures.follows, rw c.next.ensures.1 at c.starts_lent.ensures.parsed) in record { follows = r.0; parsed = r.1 }

pub returns-then-t-ne-WHOLE : goal.returns-then-t-ne-WHOLE
returns-then-t-ne-WHOLE c =
    let r = start-neither _ _ _ _ c.args.spot.now.ready.inside (isnt c.peek-t.ensures c.if-t-eq-NAME.false) (isnt c.peek-t.ensures c.if-t-ne-WHOLE.true) in record { follows = r.0; parsed = r.1 }

pub returns-then-peek-ne42 : goal.returns-then-peek-ne42
returns-then-peek-ne42 c =
    let r = start-no-times _ _ _ _ (same c.peek-t.ensures c.if-t-ne-WHOLE.false) (isnt c.peek.ensures c.if-peek-ne42.true) in record { follows = r.0; parsed = r.1 }

pub returns-then-peek-ne-NAME : goal.returns-then-peek-ne-NAME
returns-then-peek-ne-NAME c =
    let r = start-no-name _ _ _ _ (same c.peek-t.ensures c.if-t-ne-WHOLE.false) (same c.peek.ensures c.if-peek-ne42.false) (isnt c.peek-2.ensures c.if-peek-ne-NAME.true) in record { follows = r.0; parsed = r.1 }

pub returns : goal.returns
returns c =
    let r = start-counted _ _ _ _ (same c.peek-t.ensures c.if-t-ne-WHOLE.false) (same c.peek.ensures c.if-peek-ne42.false) _ _ (same c.peek-2.ensures c.if-peek-ne-NAME.false) (rw c.to.ensures.1 at c.starts_lent-2.ensures.follows, rw c.to.ensures.1 at c.starts_lent-2.ensures.parsed) in record { follows = r.0; parsed = r.1 }
