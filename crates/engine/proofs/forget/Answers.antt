-- Question 1 by the lengths, 11 by the buffers, then what the numbers say.
use mathlib.Core.Path.{refl, sym, ◌∙◌}
use Rattle.machine.specs.Machine.{forget', on'}
use Rattle.state.proofs.Tests.{refused, passed}
use Rattle.engine.proofs.Lengths.{three-long, three-wrong, three-right}
use Rattle.engine.proofs.Stored.{unheld-gives, forget_gives}
use Rattle.engine.proofs.forget.Goals as goal

pub returns-then-not-are_all_long : goal.returns-then-not-are_all_long
returns-then-not-are_all_long c =
    rw c.from.ensures (three-wrong c.args.model.now c.args.state.now c.args.saves.now (on' (forget' c.args.name.now)) refl refl (sym c.are_all_long.ensures ∙ refused _ c.if-not-are_all_long.true-raw))

pub holds-requires : goal.holds-requires
holds-requires c =
    three-long _ _ _ (sym c.are_all_long.ensures ∙ passed _ c.if-not-are_all_long.false-raw)

pub returns-then-not-holds : goal.returns-then-not-holds
returns-then-not-holds c =
    rw (c.from-then-not-holds.ensures, three-right c.args.model.now c.args.state.now c.args.saves.now (on' (forget' c.args.name.now)) refl refl (sym c.are_all_long.ensures ∙ passed _ c.if-not-are_all_long.false-raw)) (unheld-gives c.args.name.now c.args.model.now c.args.state.now c.args.saves.now (sym c.holds.ensures ∙ refused _ c.if-not-holds.true-raw))

pub forget-requires : goal.forget-requires
forget-requires c =
    let l = three-long _ _ _ (sym c.are_all_long.ensures ∙ passed _ c.if-not-are_all_long.false-raw) in
    l.2

pub returns : goal.returns
returns c =
    let l = three-long _ _ _ (sym c.are_all_long.ensures ∙ passed _ c.if-not-are_all_long.false-raw) in
    rw (c.stored_answer.ensures, three-right c.args.model.now c.args.state.now c.args.saves.now (on' (forget' c.args.name.now)) refl refl (sym c.are_all_long.ensures ∙ passed _ c.if-not-are_all_long.false-raw)) (forget_gives c.args.name.now c.args.model.now c.args.state.now c.args.saves.now l.1 l.2 (sym c.holds.ensures ∙ passed _ c.if-not-holds.false-raw) _ _ _ (c.forget.ensures c.args.state.now))
