-- The head by its parts, and the numbers. From arithmetic and the bounds of an i64.
use native.Mathlib.Omega.{arith}
use Rattle.value.proofs.Kit.{back}
use Rattle.offers.specs.Table.{row_of}
use Rattle.offers.proofs.Rows.{head-is}
use Rattle.offers.proofs.row_of.Goals as goal

pub returns : goal.returns
unfolding row_of
returns c =
    let o = c.args.o in
    rw (head-is o.kind o.channel.shape o.list.count c.args.branch c.args.place o.rate)
    (simp (back o.channel.first (omega arith), back o.channel.second (omega arith), back o.channel.third (omega arith), back o.list.first (omega arith), back o.list.first_end (omega arith), back o.list.second (omega arith), back o.list.second_end (omega arith)))
