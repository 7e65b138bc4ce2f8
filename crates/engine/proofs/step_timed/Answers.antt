-- Question 1, 11 of the clock, then the timed step.
use mathlib.Core.Path.{sym, ◌∙◌}
use Rattle.buffers.proofs.Clocks.{in-range}
use Rattle.state.proofs.Tests.{refused, passed}
use Rattle.engine.proofs.Lengths.{all-long}
use Rattle.engine.proofs.Waits.{timed-wrong, timed-right, out_of_range, of-gives}
use Rattle.engine.proofs.step_timed.Goals as goal

pub returns-then-not-are_long : goal.returns-then-not-are_long
returns-then-not-are_long c =
    of-gives _ c.args.model.now c.args.state.now c.args.listing.now _ _ _ _ c.of.ensures c.from.ensures (timed-wrong c.args.model.now c.args.state.now c.args.clock c.args.waiting.now c.args.draw c.args.listing.now (sym c.are_long.ensures ∙ refused _ c.if-not-are_long.true-raw))

pub returns-then-not-in_range : goal.returns-then-not-in_range
returns-then-not-in_range c =
    of-gives _ c.args.model.now c.args.state.now c.args.listing.now _ _ _ _ c.of-then-not-in_range.ensures c.from-then-not-in_range.ensures (rw (timed-right c.args.model.now c.args.state.now c.args.clock c.args.waiting.now c.args.draw c.args.listing.now (sym c.are_long.ensures ∙ passed _ c.if-not-are_long.false-raw)) (out_of_range c.args.model.now c.args.state.now c.args.clock c.args.waiting.now c.args.draw c.args.listing.now (sym c.in_range.ensures ∙ refused _ c.if-not-in_range.true-raw)))

pub timed_lent-requires : goal.timed_lent-requires
timed_lent-requires c =
    let l = all-long _ _ _ _ (sym c.are_long.ensures ∙ passed _ c.if-not-are_long.false-raw) in
    (l.0, l.1, l.2, in-range c.args.clock (sym c.in_range.ensures ∙ passed _ c.if-not-in_range.false-raw))

pub returns-in-Ok : goal.returns-in-Ok
returns-in-Ok c =
    of-gives _ c.args.model.now _ _ _ _ _ _ c.of-in-Ok.ensures c.from-in-Ok.ensures (rw (timed-right c.args.model.now c.args.state.now c.args.clock c.args.waiting.now c.args.draw c.args.listing.now (sym c.are_long.ensures ∙ passed _ c.if-not-are_long.false-raw)) (rw c.in-Ok.is at c.timed_lent.ensures))

pub returns-in-Err : goal.returns-in-Err
returns-in-Err c =
    of-gives _ c.args.model.now _ _ _ _ _ _ c.of-in-Err.ensures c.from-in-Err.ensures (rw (timed-right c.args.model.now c.args.state.now c.args.clock c.args.waiting.now c.args.draw c.args.listing.now (sym c.are_long.ensures ∙ passed _ c.if-not-are_long.false-raw)) (rw c.in-Err.is at c.timed_lent.ensures))
