-- Each part as it stands. From arithmetic and the bounds of an i64.
use native.Mathlib.Omega.{arith}
use mathlib.Core.Path.{◌≡◌}
use Prim.Native.Nat.{◌/◌, ◌%◌}
use Rattle.value.proofs.Kit.{back}
use Rattle.offers.specs.Head.{shape_in, count_in}
use Rattle.offers.specs.Table.{offer_in}
use Rattle.offers.proofs.offer_in.Goals as goal

pub returns : goal.returns
unfolding offer_in shape_in count_in
returns c =
    let r = c.args.row in
    let g = c.struct_told-1.given in
    let n : r.head / 64 / 32 % 4 ≡ r.head / 2048 % 4 = omega arith in
    rw (c.kind_in.ensures, c.rate_in.ensures, n) (simp (back r.channel g.1.0.1, back r.first g.1.1.0.1, back r.first_end g.1.1.1.0.1, back r.second g.1.1.1.1.0.1, back r.second_end g.1.1.1.1.1.0.1, back r.channel2 g.1.1.1.1.1.1.0.1, back r.channel3 g.1.1.1.1.1.1.1.0.1))
