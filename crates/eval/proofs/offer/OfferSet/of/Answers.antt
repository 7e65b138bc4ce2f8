-- `OfferSet::of` meets its contract: the mark tells. From the bounds of an i64.
use mir.Facts.{to_z-of_z}
use Rattle.eval.proofs.Ends.{joined-in, ranged-in, mark-taken, mark-left}
use Rattle.eval.proofs.offer.OfferSet.of.Goals as goal

pub returns-then-high-eq-MARK : goal.returns-then-high-eq-MARK
returns-then-high-eq-MARK c =
    rw (joined-in c.args.low c.args.high (mark-taken c.args.high c.ranges.high c.if-high-eq-MARK.true), c.unsigned_abs.ensures.value, to_z-of_z c.ranges.low)

pub returns : goal.returns
returns c =
    rw (ranged-in c.args.low c.args.high (mark-left c.args.high c.ranges.high c.if-high-eq-MARK.false), to_z-of_z c.ranges.low, to_z-of_z c.ranges.high)
