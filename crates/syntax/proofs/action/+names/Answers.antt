use Rattle.syntax.proofs.Answers.{raised}
use Rattle.syntax.proofs.Naming.{names-none, names-last, names-stray, names-fault, names-next}
use Rattle.grammar.proofs.Follows.{same, isnt}
use Rattle.syntax.proofs.action.+names.Goals as goal

pub returns-then-peek-ne-NAME : goal.returns-then-peek-ne-NAME
returns-then-peek-ne-NAME t c =
    let r = names-none c.args.point.toks.now c.args.point.at c.args.close c.requires.close_nonzero.1 c.requires.close_nonzero.0 c.args.point.inside (isnt c.peek.ensures c.if-peek-ne-NAME.true) in record { follows = r.0; listing = r.1 }

pub returns-then-t-close : goal.returns-then-t-close
returns-then-t-close t c =
    let r = names-last c.args.point.toks.now c.args.point.at c.args.close c.requires.close_nonzero.1 c.requires.close_nonzero.0 (same c.peek.ensures c.if-peek-ne-NAME.false) (same c.peek-t.ensures c.if-t-close.true) in record { follows = r.0; listing = r.1 }

pub returns-then-t-ne44 : goal.returns-then-t-ne44
returns-then-t-ne44 t c =
    let r = names-stray c.args.point.toks.now c.args.point.at c.args.close c.requires.close_nonzero.1 c.requires.close_nonzero.0 (same c.peek.ensures c.if-peek-ne-NAME.false) (isnt c.peek-t.ensures c.if-t-close.false) (isnt c.peek-t.ensures c.if-t-ne44.true) in record { follows = r.0; listing = r.1 }

pub returns-in_err-m : goal.returns-in_err-m
returns-in_err-m t c =
    rw (raised c.from_residual.ensures.1) (let r = names-fault c.args.point.toks.now c.args.point.at c.args.close c.requires.close_nonzero.1 c.requires.close_nonzero.0 (same c.peek.ensures c.if-peek-ne-NAME.false) (same c.peek-t.ensures c.if-t-ne44.false) (c.names.ensures.follows, c.names.ensures.listing) c.in_err-m.was in record { follows = r.0; listing = r.1 })

pub returns : goal.returns
returns t c =
    let r = names-next c.args.point.toks.now c.args.point.at c.args.close c.requires.close_nonzero.1 c.requires.close_nonzero.0 (same c.peek.ensures c.if-peek-ne-NAME.false) (same c.peek-t.ensures c.if-t-ne44.false) (c.names.ensures.follows, c.names.ensures.listing) c.in_ok-m.was in record { follows = r.0; listing = r.1 }
