-- Question 1 by the lengths, 11 by the buffers and the clock, then what the numbers say.
use mathlib.Core.Path.{refl, sym, ◌∙◌}
use Rattle.machine.specs.Machine.{save', on'}
use Rattle.state.proofs.Tests.{refused, passed}
use Rattle.engine.proofs.Lengths.{three-long, four-wrong, four-right}
use Rattle.engine.proofs.Stored.{unheld-four, range-so, stores-from, save-gives}
use Rattle.engine.proofs.save.Goals as goal

pub returns-then-not-are_all_long : goal.returns-then-not-are_all_long
returns-then-not-are_all_long c =
    rw c.from.ensures (four-wrong c.args.model.now c.args.state.now c.args.saves.now c.args.clock (on' (save' c.args.name.now)) refl refl (sym c.are_all_long.ensures ∙ refused _ c.if-not-are_all_long.true-raw))

pub holds_all-requires : goal.holds_all-requires
holds_all-requires c =
    (three-long _ _ _ (sym c.are_all_long.ensures ∙ passed _ c.if-not-are_all_long.false-raw))

pub returns-then-not-holds_all : goal.returns-then-not-holds_all
returns-then-not-holds_all c =
    rw (c.from-then-not-holds_all.ensures, four-right c.args.model.now c.args.state.now c.args.saves.now c.args.clock (on' (save' c.args.name.now)) refl refl (sym c.are_all_long.ensures ∙ passed _ c.if-not-are_all_long.false-raw)) (unheld-four c.args.model.now c.args.state.now c.args.saves.now c.args.clock (save' c.args.name.now) refl (sym c.holds_all.ensures ∙ refused _ c.if-not-holds_all.true-raw))

pub put_kept-requires : goal.put_kept-requires
put_kept-requires c =
    let l = (three-long _ _ _ (sym c.are_all_long.ensures ∙ passed _ c.if-not-are_all_long.false-raw)) in (l.1, range-so c.args.model.now c.args.state.now c.args.saves.now c.args.clock l.1 l.2 (sym c.holds_all.ensures ∙ passed _ c.if-not-holds_all.false-raw))

pub save-requires : goal.save-requires
save-requires c =
    let l = (three-long _ _ _ (sym c.are_all_long.ensures ∙ passed _ c.if-not-are_all_long.false-raw)) in l.2

pub returns : goal.returns
returns c =
    let l = (three-long _ _ _ (sym c.are_all_long.ensures ∙ passed _ c.if-not-are_all_long.false-raw)) in
    rw (c.stored_answer.ensures, four-right c.args.model.now c.args.state.now c.args.saves.now c.args.clock (on' (save' c.args.name.now)) refl refl (sym c.are_all_long.ensures ∙ passed _ c.if-not-are_all_long.false-raw)) (save-gives c.args.model.now c.args.state.now c.args.saves.now c.args.clock l.1 l.2 (sym c.holds_all.ensures ∙ passed _ c.if-not-holds_all.false-raw) c.args.name.now _ _ _ (stores-from c.args.name.now c.args.saves.now c.put_kept.ensures c.save.ensures))
