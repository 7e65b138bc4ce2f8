-- Question 1 by the lengths; then saves and search are cleared, the text is opened under the profile and the clock is zero.
use mathlib.Core.Path.{ap, sym, ◌∙◌}
use mathlib.Core.List.{[]}
use Prim.Native.Nat.{ℕ}
use lib.IntN.{pos}
use lib.ListN.{replicate}
use Rattle.state.proofs.Tests.{refused, passed}
use Rattle.engine.specs.Asks.{ask_under}
use Rattle.engine.proofs.Lengths.{whole-long, whole-wrong, whole-right, of-whole, of-fresh}
use Rattle.engine.proofs.Openings.{under-lent, under-output, under-answers}
use Rattle.engine.proofs.open_under.Goals as goal

pub returns-then-not-are_whole_long : goal.returns-then-not-are_whole_long
returns-then-not-are_whole_long c =
    let a = c.args in
    of-whole _ a.model.now a.state.now a.saves.now a.search.now _ _ _ _ c.of.ensures c.from.ensures (whole-wrong a.model.now a.state.now a.saves.now a.clock a.search.now (ask_under a.profile a.text.now) (under-lent a.text.now a.profile) (under-output a.text.now a.profile) (sym c.are_whole_long.ensures ∙ refused _ c.if-not-are_whole_long.true-raw))

pub open_lent-answer-requires : goal.open_lent-answer-requires
open_lent-answer-requires c =
    let l = (whole-long _ _ _ _ (sym c.are_whole_long.ensures ∙ passed _ c.if-not-are_whole_long.false-raw)) in (l.0, l.1)

pub returns : goal.returns
returns c =
    let a = c.args in
    let w = sym c.are_whole_long.ensures ∙ passed _ c.if-not-are_whole_long.false-raw in
    let l = whole-long _ _ _ _ w in
    of-fresh _ _ _ _ _ _ _ _ c.of-2.ensures c.fresh.ensures (rw (whole-right a.model.now a.state.now a.saves.now a.clock a.search.now (ask_under a.profile a.text.now) (under-lent a.text.now a.profile) (under-output a.text.now a.profile) w, under-answers a.text.now a.profile _ []) (c.open_lent-answer.ensures _ _ (c.fill.ensures.after (λ y e. e) ∙ ap (λ (n : ℕ). replicate n (pos 0)) l.2) (c.fill-2.ensures.after (λ y e. e) ∙ ap (λ (n : ℕ). replicate n (pos 0)) l.3)))
