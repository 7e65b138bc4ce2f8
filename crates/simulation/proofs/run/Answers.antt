use mathlib.Core.Path.{sym, ◌∙◌}
use Rattle.state.proofs.Tests.{refused, passed}
use Rattle.buffers.proofs.Clocks.{in-range}
use Rattle.simulation.proofs.Results.{long-both, wrong, right, out_of_range}
use Rattle.simulation.proofs.run.Goals as goal

pub returns-then-not-are_parts_long : goal.returns-then-not-are_parts_long
returns-then-not-are_parts_long c =
    let A = c.args in
    (wrong A.model.now A.state.now A.asked.clock A.asked.words.now A.asked.waiting.now A.asked.limit A.events.now (sym c.are_parts_long.ensures ∙ refused _ c.if-not-are_parts_long.true-raw))

pub returns-then-not-in_range : goal.returns-then-not-in_range
returns-then-not-in_range c =
    let A = c.args in
    rw (right A.model.now A.state.now A.asked.clock A.asked.words.now A.asked.waiting.now A.asked.limit A.events.now (sym c.are_parts_long.ensures ∙ passed _ c.if-not-are_parts_long.false-raw)) (out_of_range A.model.now A.state.now A.asked.clock A.asked.words.now A.asked.waiting.now A.asked.limit A.events.now (sym c.in_range.ensures ∙ refused _ c.if-not-in_range.true-raw))

pub run_lent-requires : goal.run_lent-requires
run_lent-requires c =
    let A = c.args in
    let l = long-both _ _ (sym c.are_parts_long.ensures ∙ passed _ c.if-not-are_parts_long.false-raw) in (l.0, l.1, in-range A.asked.clock (sym c.in_range.ensures ∙ passed _ c.if-not-in_range.false-raw))

pub returns : goal.returns
returns c =
    let A = c.args in
    rw (right A.model.now A.state.now A.asked.clock A.asked.words.now A.asked.waiting.now A.asked.limit A.events.now (sym c.are_parts_long.ensures ∙ passed _ c.if-not-are_parts_long.false-raw)) c.run_lent.ensures
