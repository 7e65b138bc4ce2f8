-- Question 1 by the lengths, 11 by the buffers and the clock, then what is kept under the name.
use mathlib.Core.Path.{refl, sym, ◌∙◌}
use Rattle.machine.specs.Machine.{return', on'}
use Rattle.state.proofs.Tests.{refused, passed}
use Rattle.engine.proofs.Lengths.{three-long, four-wrong, four-right, of-all}
use Rattle.engine.proofs.Stored.{unheld-four, range-so, keeping, return-gives}
use Rattle.engine.proofs.return_to.Goals as goal

pub returns-then-not-are_all_long : goal.returns-then-not-are_all_long
returns-then-not-are_all_long c =
    of-all _ c.args.model.now c.args.state.now c.args.saves.now _ _ _ _ c.of.ensures c.from.ensures (four-wrong c.args.model.now c.args.state.now c.args.saves.now c.args.clock (on' (return' c.args.name.now)) refl refl (sym c.are_all_long.ensures ∙ refused _ c.if-not-are_all_long.true-raw))

pub holds_all-requires : goal.holds_all-requires
holds_all-requires c =
    (three-long _ _ _ (sym c.are_all_long.ensures ∙ passed _ c.if-not-are_all_long.false-raw))

pub returns-then-not-holds_all : goal.returns-then-not-holds_all
returns-then-not-holds_all c =
    of-all _ c.args.model.now c.args.state.now c.args.saves.now _ _ _ _ c.of-then-not-holds_all.ensures c.from-then-not-holds_all.ensures (rw (four-right c.args.model.now c.args.state.now c.args.saves.now c.args.clock (on' (return' c.args.name.now)) refl refl (sym c.are_all_long.ensures ∙ passed _ c.if-not-are_all_long.false-raw)) (unheld-four c.args.model.now c.args.state.now c.args.saves.now c.args.clock (return' c.args.name.now) refl (sym c.holds_all.ensures ∙ refused _ c.if-not-holds_all.true-raw)))

pub return_held-requires : goal.return_held-requires
return_held-requires c =
    let l = (three-long _ _ _ (sym c.are_all_long.ensures ∙ passed _ c.if-not-are_all_long.false-raw)) in (l.1, l.2, range-so c.args.model.now c.args.state.now c.args.saves.now c.args.clock l.1 l.2 (sym c.holds_all.ensures ∙ passed _ c.if-not-holds_all.false-raw), keeping c.args.model.now c.args.state.now c.args.saves.now c.args.clock l.1 l.2 (sym c.holds_all.ensures ∙ passed _ c.if-not-holds_all.false-raw) c.args.name.now)

pub returns : goal.returns
returns c =
    let l = (three-long _ _ _ (sym c.are_all_long.ensures ∙ passed _ c.if-not-are_all_long.false-raw)) in
    rw (four-right c.args.model.now c.args.state.now c.args.saves.now c.args.clock (on' (return' c.args.name.now)) refl refl (sym c.are_all_long.ensures ∙ passed _ c.if-not-are_all_long.false-raw)) (return-gives c.args.model.now c.args.state.now c.args.saves.now c.args.clock l.1 l.2 (sym c.holds_all.ensures ∙ passed _ c.if-not-holds_all.false-raw) c.args.name.now _ _ c.return_held.ensures)
