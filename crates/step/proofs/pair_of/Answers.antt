-- The channel, then three numbers after it: those of the pair that the offer shows.
use mathlib.Core.Path.{refl, ◌∙◌}
use native.Mathlib.Omega.{arith}
use lib.IntN.{pos}
use mir.Facts.{to_z_pos}
use mir.Syntax.{w64}
use Rattle.value.proofs.Kit.{back, ok-fits}
use Rattle.step.proofs.Offers.{shown-row, three-written}
use Rattle.step.proofs.pair_of.Goals as goal

pub overflow_cast-row : goal.overflow_cast-row
overflow_cast-row c =
    let n = shown-row c.args.offer c.requires.pair c.requires.shows in ok-fits (pos c.args.offer.list.count) (omega (arith, n.1))

pub returns : goal.returns
returns c =
    λ x h.
    let o = c.args.offer in
    let w = shown-row o x h in
    let e = c.put.ensures in
    rw (to_z_pos w64 {n = o.list.count} (omega (arith, w.1)), back o.list.first (omega arith), back o.list.second (omega arith), e)
    (three-written o.channel.shape o.channel.first o.channel.second o.channel.third _ (pos o.list.count) o.list.first o.list.second refl ∙ w.0)
