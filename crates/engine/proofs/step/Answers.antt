-- Question 1 by the lengths, then the step.
use mathlib.Core.Path.{refl, sym, ◌∙◌}
use Rattle.state.proofs.Tests.{refused, passed}
use Rattle.machine.specs.Machine.{listing_length, step'}
use Rattle.engine.proofs.Lengths.{all-long, asked-wrong, asked-right}
use Rattle.engine.proofs.step.Goals as goal

pub returns-then-not-are_long : goal.returns-then-not-are_long
returns-then-not-are_long c =
    let B = c.args.model.now in
    let Z = c.args.state.now in
    let L = c.args.listing.now in
    rw c.from.ensures (asked-wrong B Z (step' c.args.draw) listing_length refl refl L (sym c.are_long.ensures ∙ refused _ c.if-not-are_long.true-raw))

pub step_lent-requires : goal.step_lent-requires
step_lent-requires c =
    all-long _ _ _ _ (sym c.are_long.ensures ∙ passed _ c.if-not-are_long.false-raw)

pub returns : goal.returns
returns c =
    let B = c.args.model.now in
    let Z = c.args.state.now in
    let L = c.args.listing.now in
    rw (asked-right B Z (step' c.args.draw) listing_length refl refl L (sym c.are_long.ensures ∙ passed _ c.if-not-are_long.false-raw), c.from-2.ensures) c.step_lent.ensures
