-- `listed` meets its contract: a range is told by its ends, and its table holds the joined set.
use mathlib.Core.Path.{refl}
use mir.Facts.{to_z-of_z}
use Rattle.machine.specs.Evaluate.{valued, given, eval_expr, eval_set}
use Rattle.eval.specs.Shown.{ranged, rooted}
use Rattle.evals.proofs.Tables.{rest-at, rest-holds, zeros-in}
use Rattle.evals.proofs.tests.listed.Goals as goal

pub in_offer_set-requires : goal.in_offer_set-requires
in_offer_set-requires c =
    rw (to_z-of_z c.ranges.x, to_z-of_z c.ranges.y) (_, ranged refl c.requires.1)

pub in_offer_set-requires-2 : goal.in_offer_set-requires-2
unfolding valued given eval_expr eval_set
in_offer_set-requires-2 c =
    let x = c.args.x in
    let y = c.args.y in
    let z = c.args.z in
    let h = rest-holds x y c.requires.0 c.requires.1 z c.requires.2 in
    let at = rest-at x y c.requires.0 c.requires.1 z c.requires.2 in
    rw (c.literal.ensures, c.literal-2.ensures, c.cell-range.ensures, c.literal-3.ensures, c.cell-without.ensures, to_z-of_z c.ranges.x, to_z-of_z c.ranges.y, to_z-of_z c.ranges.z) (_, rooted refl (record { held = h; set = _; at = at; worth = refl }))

pub invariant_of-context : goal.invariant_of-context
invariant_of-context c =
    record { in_range = zeros-in }
