-- `listing::values_match` meets its contract: counts, then the first set, then the second. From the laws of matching.
use mir.Facts.{to_z-of_z}
use Rattle.value.proofs.Kit.{back}
use Rattle.state.proofs.Tests.{refused, passed}
use Rattle.listing.proofs.Matching.{first-set, second-set, counts-differ, first_out, only-in, second-tells}
use mathlib.Core.Path.{sym, ◌∙◌}
use native.Mathlib.Omega.{arith}
use Rattle.listing.proofs.values_match.Goals as goal

pub returns-then-o-count : goal.returns-then-o-count
returns-then-o-count c =
    λ w vs q r. counts-differ q.sets-are r c.if-o-count.true

pub in_offer_set_lent-requires : goal.in_offer_set_lent-requires
in_offer_set_lent-requires c =
    let o = c.args.o in let b = back o.list.first (omega arith) in let b' = back o.list.first_end (omega arith) in let v = to_z-of_z c.ranges.first in
    rw (simp (b, b') at c.of-first_set.ensures) (first-set c.requires.1.sets-are)

pub returns-then-not-in_offer_set_lent : goal.returns-then-not-in_offer_set_lent
returns-then-not-in_offer_set_lent c =
    let o = c.args.o in let b = back o.list.first (omega arith) in let b' = back o.list.first_end (omega arith) in let v = to_z-of_z c.ranges.first in
    let e = simp (b, b') at c.of-first_set.ensures in
    let n = c.if-o-count.false in λ w vs q r. first_out q.sets-are r n (λ x y. sym (refused _ c.if-not-in_offer_set_lent.true-raw) ∙ (rw e at (simp v at c.in_offer_set_lent.ensures)) x y)

pub returns-then-count-lt2 : goal.returns-then-count-lt2
returns-then-count-lt2 c =
    let o = c.args.o in let b = back o.list.first (omega arith) in let b' = back o.list.first_end (omega arith) in let v = to_z-of_z c.ranges.first in
    let e = simp (b, b') at c.of-first_set.ensures in
    let n = c.if-o-count.false in λ w vs q r. only-in q.sets-are r n c.if-count-lt2.true (λ x y. sym (passed _ c.if-not-in_offer_set_lent.false-raw) ∙ (rw e at (simp v at c.in_offer_set_lent.ensures)) x y)

pub in_offer_set_lent-requires-2 : goal.in_offer_set_lent-requires-2
in_offer_set_lent-requires-2 c =
    let o = c.args.o in let b = back o.list.first (omega arith) in let b' = back o.list.first_end (omega arith) in let v = to_z-of_z c.ranges.first in
    let d = back o.list.second (omega arith) in let d' = back o.list.second_end (omega arith) in let u = to_z-of_z c.ranges.second in
    rw (simp (d, d') at c.of-second_set.ensures) (second-set (omega arith) c.requires.1.sets-are)

pub returns : goal.returns
returns c =
    let o = c.args.o in let b = back o.list.first (omega arith) in let b' = back o.list.first_end (omega arith) in let v = to_z-of_z c.ranges.first in
    let d = back o.list.second (omega arith) in let d' = back o.list.second_end (omega arith) in let u = to_z-of_z c.ranges.second in
    let e = simp (b, b') at c.of-first_set.ensures in let e' = simp (d, d') at c.of-second_set.ensures in
    let n = c.if-o-count.false in λ w vs q r. second-tells _ q.sets-are r n c.if-count-lt2.false (λ x y. sym (passed _ c.if-not-in_offer_set_lent.false-raw) ∙ (rw e at (simp v at c.in_offer_set_lent.ensures)) x y) (rw e' at (simp u at c.in_offer_set_lent-2.ensures))
