-- Two rows of the channel, or of a range of its first values, enclose its run. From the laws of states.
use mathlib.Core.Path.{sym, ◌∙◌}
use native.Mathlib.Omega.{arith}
use Rattle.value.proofs.Kit.{back}
use Rattle.eval.specs.Channels.{numbers_of}
use Rattle.offers.proofs.Places.{passed}
use Rattle.listing.proofs.Pairs.{run-shown}
use Rattle.listing.proofs.Ranges.{first_range, range-shown, as_max}
use Rattle.listing.proofs.run_of.Goals as goal

pub lit_pairs-pairs-requires : goal.lit_pairs-pairs-requires
lit_pairs-pairs-requires c = passed c.requires.0.5

pub returns-in_default : goal.returns-in_default
unfolding numbers_of
returns-in_default c =
    λ nodes ls q t roots scopes m s sq w.
    let o = c.args.o in
    let e = c.put.ensures in
    run-shown w o.channel.shape o.channel.first o.channel.second o.channel.third q _ _ _ sq.channel-is e (c.channel_run.ensures.0 ∙ rw c.lit_pairs-pairs.ensures.0) (c.channel_run.ensures.1 ∙ rw c.lit_pairs-pairs.ensures.0)

pub returns : goal.returns
unfolding numbers_of
returns c =
    λ nodes ls q t roots scopes m s sq w.
    let o = c.args.o in
    let e = c.put.ensures in
    let v = simp (back c.in-Range.low (omega arith), back c.in-Range.high (omega arith)) at c.value_run-run.ensures in
    let a = back o.list.first (omega arith) in let b = back o.list.first_end (omega arith) in
    let f = first_range c.in-Range.low c.in-Range.high (sym (simp (a, b) at c.of.ensures) ∙ c.in-Range.is) sq.sets-are in
    let E = range-shown w q o.list.count c.in-Range.low c.in-Range.high f o.channel.shape o.channel.first o.channel.second o.channel.third _ _ _ sq.channel-is e (v.0 ∙ rw c.lit_pairs-pairs.ensures.0) (v.1 ∙ rw c.lit_pairs-pairs.ensures.0) in
    as_max _ E (λ l. omega (arith, l, c.max.ensures)) (λ l. omega (arith, l, c.max.ensures))
