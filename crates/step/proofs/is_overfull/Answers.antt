-- Only a launch of an unlit pair finds no place: the laws of Pairs.
use mathlib.Core.Path.{ap, refl, ◌∙◌}
use native.Mathlib.Omega.{arith}
use lib.ListN.{length}
use Rattle.state.specs.Test.{is_lit}
use Rattle.state.proofs.Launch.{rows_counted}
use Rattle.step.proofs.Tables.{passed}
use Rattle.step.proofs.Pairs.{launching, hidden-free, no-launch, place-free, all-taken}
use Rattle.step.proofs.is_overfull.Goals as goal

pub returns-in_default : goal.returns-in_default
returns-in_default c = λ m s n h. hidden-free c.args.state.now m s n (rw c.in_default.is at h)

pub returns-then-offer-ne-LAUNCH : goal.returns-then-offer-ne-LAUNCH
returns-then-offer-ne-LAUNCH c =
    λ m s n h. no-launch c.args.state.now c.in-Some.offer m s n (rw c.in-Some.is at h) c.if-offer-ne-LAUNCH.true

pub lit_pairs-pairs-requires : goal.lit_pairs-pairs-requires
lit_pairs-pairs-requires c =
    passed c.requires.changes.stands

pub returns-then-pairs-lt-PAIRS : goal.returns-then-pairs-lt-PAIRS
returns-then-pairs-lt-PAIRS c =
    λ m s n h. place-free c.args.state.now c.in-Some.offer m s n (rw c.in-Some.is at h) (omega (arith, rows_counted c.args.state.now _ c.lit_pairs-pairs.ensures.0, c.if-pairs-lt-PAIRS.true))

pub pair_of-requires : goal.pair_of-requires
pair_of-requires c =
    let x = launching c.args.state.now c.in-Some.offer c.if-offer-ne-LAUNCH.false c.requires.model c.requires.state c.requires.change (rw c.in-Some.is at c.requires.changes) in
    record { pair = x.pair; shows = x.shows }

pub returns : goal.returns
returns c =
    λ m s n h.
    let x = launching c.args.state.now c.in-Some.offer c.if-offer-ne-LAUNCH.false m s n (rw c.in-Some.is at h) in
    let k = rows_counted c.args.state.now _ c.lit_pairs-pairs.ensures.0 in
    all-taken c.args.state.now c.in-Some.offer m s n (rw c.in-Some.is at h) (length c.lit_pairs-pairs.result.now) k (omega (arith, c.if-pairs-lt-PAIRS.false)) _ x.pair x.is (c.pair_of.ensures x.pair x.shows) c.is_lit.result (c.is_lit.ensures ∙ ap (is_lit _) (c.lit_pairs-pairs.ensures.0 ∙ rw k refl))
