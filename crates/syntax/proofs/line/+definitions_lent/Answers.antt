use mathlib.Core.Path.{sym, ◌∙◌}
use native.Mathlib.Omega.{arith}
use Rattle.tree.proofs.Spans.{tally-of, ready-after, ready-token}
use Rattle.syntax.proofs.Answers.{raised}
use Rattle.syntax.proofs.Lines.{ahead}
use Rattle.syntax.proofs.LineReturns.{definitions-first, definitions-rest, definitions-next, definitions-system, definitions-last}
use Rattle.syntax.proofs.line.+definitions_lent.Goals as goal
use Rattle.syntax.proofs.line.+definitions_lent.Goals.{then-defines+in_ok-definitions_lent, else-defines+in_ok-system_lent}

pub to-spot-requires : goal.to-spot-requires
to-spot-requires t c =
    let w = tally-of c.in_ok-n.was c.definition_lent.ensures.tallied in ready-after (ready-token c.args.named.now.spot.ready (omega (arith, c.args.named.now.name))) w.made.span

pub invariant_of-definitions_lent-clause-name : goal.invariant_of-definitions_lent-clause-name
invariant_of-definitions_lent-clause-name t c =
    (ahead _ _ (sym c.defines.ensures ∙ c.if-defines.true)).name

pub invariant_of-definitions_lent-clause-sign : goal.invariant_of-definitions_lent-clause-sign
invariant_of-definitions_lent-clause-sign t c =
    (ahead _ _ (sym c.defines.ensures ∙ c.if-defines.true)).bracket

pub definitions_lent-requires : goal.definitions_lent-requires
definitions_lent-requires t c =
    let w = tally-of c.in_ok-n.was c.definition_lent.ensures.tallied in rw c.to-spot.ensures.1 (omega (arith, w.made.span.onward, w.made.span.within), omega (arith, w.rarer, c.requires.sums_le_name))

pub returns-in_err-n : goal.returns-in_err-n
returns-in_err-n t c =
    rw (raised c.from_residual.ensures.1) (let r = definitions-first _ _ _ _ _ _ (c.definition_lent.ensures.follows, c.definition_lent.ensures.tallied) c.in_err-n.was in record { follows = r.0; parsed = r.1 })

pub returns-in_err-definitions_lent : goal.returns-in_err-definitions_lent
returns-in_err-definitions_lent t c =
    rw (raised c.from_residual-in_err-definitions_lent.ensures.1) (let r = definitions-rest _ _ _ _ _ _ (c.definition_lent.ensures.follows, c.definition_lent.ensures.tallied) c.in_ok-n.was _ (rw c.to-spot.ensures.1 at (sym c.defines.ensures ∙ c.if-defines.true)) (rw c.to-spot.ensures.1 at c.definitions_lent.ensures.follows, rw c.to-spot.ensures.1 at c.definitions_lent.ensures.parsed) c.in_err-definitions_lent.was in record { follows = r.0; parsed = r.1 })

pub returns-in_err-system_lent : goal.returns-in_err-system_lent
returns-in_err-system_lent t c =
    rw (raised c.from_residual-in_err-system_lent.ensures.1) (let r = definitions-system _ _ _ _ _ _ (c.definition_lent.ensures.follows, c.definition_lent.ensures.tallied) c.in_ok-n.was _ (rw c.to-spot.ensures.1 at (sym c.defines.ensures ∙ c.if-defines.false)) (rw c.to-spot.ensures.1 at c.system_lent.ensures.follows, rw c.to-spot.ensures.1 at c.system_lent.ensures.parsed) c.in_err-system_lent.was in record { follows = r.0; parsed = r.1 })

pub returns : goal.returns
returns t c =
    let q = ready-after (ready-token c.args.named.now.spot.ready (omega (arith, c.args.named.now.name))) (tally-of c.in_ok-n.was c.definition_lent.ensures.tallied).made.span in elim c.if-defines.branch [ then-defines+in_ok-definitions_lent w ↦ rw w.m-is (let r = definitions-next _ _ _ _ _ _ (c.definition_lent.ensures.follows, c.definition_lent.ensures.tallied) c.in_ok-n.was _ (rw c.to-spot.ensures.1 at (sym c.defines.ensures ∙ w.if-defines.true)) (rw c.to-spot.ensures.1 at w.definitions_lent.ensures.follows, rw c.to-spot.ensures.1 at w.definitions_lent.ensures.parsed) c.args.named.now.name w.in_ok-definitions_lent.was (record { written = rw (w.m-is, w.nodes-is) at c.pair.ensures; token-fits = omega arith; left-fits = omega (arith, q.inside, q.room, q.few); third-fits = omega arith }) in record { follows = r.0; parsed = r.1 }) | else-defines+in_ok-system_lent w ↦ rw w.m-is (let r = definitions-last _ _ _ _ _ _ (c.definition_lent.ensures.follows, c.definition_lent.ensures.tallied) c.in_ok-n.was _ (rw c.to-spot.ensures.1 at (sym c.defines.ensures ∙ w.if-defines.false)) (rw c.to-spot.ensures.1 at w.system_lent.ensures.follows, rw c.to-spot.ensures.1 at w.system_lent.ensures.parsed) c.args.named.now.name w.in_ok-system_lent.was (record { written = rw (w.m-is, w.nodes-is) at c.pair.ensures; token-fits = omega arith; left-fits = omega (arith, q.inside, q.room, q.few); third-fits = omega arith }) in record { follows = r.0; parsed = r.1 }) ]
