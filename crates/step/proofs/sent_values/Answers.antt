-- The laws of what is sent.
use mathlib.Core.Path.{ap, ◌∙◌}
use native.Mathlib.Omega.{arith}
use Rattle.rules.specs.Step.{sent_by}
use Rattle.value.proofs.Kit.{back}
use Rattle.step.specs.Enter.{values_of}
use Rattle.step.proofs.Offers.{bare, hidden-none, none-sent, some-sent}
use Rattle.step.proofs.sent_values.Goals as goal

pub returns-in_err-offer : goal.returns-in_err-offer
returns-in_err-offer c = λ t ls g h. ap values_of c.from_residual.ensures ∙ bare ∙ hidden-none t ls sent_by g (rw c.in_err-offer.was at h)

pub returns-then-offer-ne-HAND_SEND : goal.returns-then-offer-ne-HAND_SEND
returns-then-offer-ne-HAND_SEND c = λ t ls g h. bare ∙ none-sent t ls c.in_ok-offer.offer c.if-offer-ne-HAND_SEND.true g (rw c.in_ok-offer.was at h)

pub first_values-requires : goal.first_values-requires
first_values-requires c =
    let q = c.requires in
    (some-sent q.nodes q.locals c.in_ok-offer.offer c.if-offer-ne-HAND_SEND.false q.guard (rw c.in_ok-offer.was at q.shows)).1

pub returns : goal.returns
returns c =
    let o = c.in_ok-offer.offer in
    λ t ls g h. c.first_values.ensures ∙ rw (back o.list.first (omega arith), back o.list.second (omega arith)) (some-sent t ls o c.if-offer-ne-HAND_SEND.false g (rw c.in_ok-offer.was at h)).0
