use Rattle.grammar.proofs.Follows.{same, isnt}
use Rattle.syntax.proofs.Answers.{raised}
use Rattle.syntax.proofs.Arguments.{wholes, arguments-fault, arguments-last, arguments-stray, arguments-ready, arguments-next-fault, arguments-next}
use native.Mathlib.Omega.{arith}
use Rattle.syntax.proofs.line.+wholes.Goals as goal

pub returns-then-t-eq93 : goal.returns-then-t-eq93
returns-then-t-eq93 t c =
    let r = arguments-last wholes c.args.toks.now c.args.nodes.now _ c.args.at c.args.used (c.literal.ensures.follows, c.literal.ensures.parsed) c.in_ok-n.was (same c.peek-t.ensures c.if-t-eq93.true) in record { follows = r.0; tallied = r.1 }

pub returns-then-t-ne44 : goal.returns-then-t-ne44
returns-then-t-ne44 t c =
    let r = arguments-stray wholes c.args.toks.now c.args.nodes.now _ c.args.at c.args.used (c.literal.ensures.follows, c.literal.ensures.parsed) c.in_ok-n.was (isnt c.peek-t.ensures c.if-t-eq93.false) (isnt c.peek-t.ensures c.if-t-ne44.true) in record { follows = r.0; tallied = r.1 }

pub returns-in_err-n : goal.returns-in_err-n
returns-in_err-n t c =
    rw (raised c.from_residual.ensures.1) (let r = arguments-fault wholes c.args.toks.now c.args.nodes.now _ c.args.at c.args.used (c.literal.ensures.follows, c.literal.ensures.parsed) c.in_err-n.was in record { follows = r.0; tallied = r.1 })

pub returns-in_err-m : goal.returns-in_err-m
returns-in_err-m t c =
    rw (raised c.from_residual-in_err-m.ensures.1) (let r = arguments-next-fault wholes c.args.toks.now c.args.nodes.now _ c.args.at c.args.used (c.literal.ensures.follows, c.literal.ensures.parsed) c.in_ok-n.was (same c.peek-t.ensures c.if-t-ne44.false) _ (c.wholes.ensures.follows, c.wholes.ensures.tallied) c.in_err-m.was in record { follows = r.0; tallied = r.1 })

pub returns : goal.returns
returns t c =
    let ready = arguments-ready wholes c.args.toks.now c.args.nodes.now _ c.args.at c.args.used (c.literal.ensures.follows, c.literal.ensures.parsed) c.in_ok-n.was (same c.peek-t.ensures c.if-t-ne44.false) c.requires in let r = arguments-next wholes c.args.toks.now c.args.nodes.now _ c.args.at c.args.used (c.literal.ensures.follows, c.literal.ensures.parsed) c.in_ok-n.was (same c.peek-t.ensures c.if-t-ne44.false) _ (c.wholes.ensures.follows, c.wholes.ensures.tallied) c.in_ok-m.was (record { written = c.pair.ensures; token-fits = omega arith; left-fits = omega (arith, ready.inside, ready.room, ready.few); third-fits = omega arith }) in record { follows = r.0; tallied = r.1 }
