-- `OfferSet::numbers` meets its contract: the mark tells. From the bounds of an i64.
use Prim.Native.Nat.{◌<◌}
use native.Mathlib.Omega.{arith}
use Rattle.value.proofs.Kit.{back}
use mir.Syntax.{w64}
use mir.Facts.{to_z_pos}
use mathlib.Core.Path.{subst, sym, ◌∙◌}
use Rattle.eval.specs.Shown.{Numbered}
use Rattle.eval.proofs.Ends.{range-in, range-plain, root-in, root-plain}
use Rattle.eval.proofs.offer.OfferSet.numbers.Goals as goal

pub returns-in-Range : goal.returns-in-Range
unfolding Numbered
returns-in-Range c =
    rw (back c.in-Range.low (omega arith), back c.in-Range.high (omega arith)) (range-in c.in-Range.low (subst Numbered c.in-Range.is c.requires) ∙ sym c.in-Range.is, range-plain c.in-Range.low (subst Numbered c.in-Range.is c.requires))

pub overflow_cast-result : goal.overflow_cast-result
unfolding Numbered
overflow_cast-result c =
    let l : c.in-Joined.root < 9223372036854775808 = subst Numbered c.in-Joined.is c.requires in omega arith

pub returns-in-Joined : goal.returns-in-Joined
unfolding Numbered
returns-in-Joined c =
    let l : c.in-Joined.root < 9223372036854775808 = subst Numbered c.in-Joined.is c.requires in
    rw (to_z_pos w64 {n = c.in-Joined.root} (omega arith)) (root-in c.in-Joined.root ∙ sym c.in-Joined.is, root-plain c.in-Joined.root)
