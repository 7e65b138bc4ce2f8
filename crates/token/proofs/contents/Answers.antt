use mathlib.Core.Path.{◌≡◌}
use native.Mathlib.Omega.{arith}
use Rattle.token.proofs.Columns.{length-lows, length-highs, lows-set, highs-set}
use Rattle.token.proofs.Tells.{told_none, held-kind, held_place, held-size, held-room, told_more}
use Rattle.token.proofs.contents.Goals as goal

pub loop-i-init : goal.loop-i-init
loop-i-init c =
    told_none _ _ _

pub bounds-places-i : goal.bounds-places-i
bounds-places-i c =
    held_place c.requires.held c.loop-i.i c.loop-i-test.true

pub bounds-sizes-i : goal.bounds-sizes-i
bounds-sizes-i c =
    held-size c.requires.held c.loop-i.i c.loop-i-test.true

pub bounds-kinds-i : goal.bounds-kinds-i
bounds-kinds-i c =
    held-kind c.requires.held c.loop-i.i c.loop-i-test.true

pub overflow_add-e : goal.overflow_add-e
overflow_add-e c =
    omega (arith, c.from-at.ensures, c.from.ensures, c.type_inv.places c.loop-i.i, c.type_inv.sizes c.loop-i.i)

pub slice_bounds-content_of-end : goal.slice_bounds-content_of-end
slice_bounds-content_of-end c =
    rw (c.from-at.ensures, c.from.ensures) (held-room c.requires.held c.loop-i.i c.loop-i-test.true)

pub loop-i-preserved : goal.loop-i-preserved
loop-i-preserved c =
    rw (lows-set, highs-set)
    (told_more c.requires.held c.loop-i.i (omega arith) (rw length-lows (omega arith)) (rw length-highs (omega arith)) (rw (c.from-at.ensures, c.from.ensures) at c.content_of.ensures) c.loop-i.invariant)

pub returns : goal.returns
returns c =
    let e : c.loop-i.i ≡ c.args.n = omega arith in rw e at c.loop-i.invariant
