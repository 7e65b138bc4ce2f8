-- `eval::tested` meets its contract: kinds above the last relation are turned ones. From the table of kinds.
use mir.Facts.{to_z-of_z}
use Rattle.eval.proofs.Relations.{turned-is, plain-is}
use Rattle.eval.proofs.tested.Goals as goal

pub returns-then-kind-gt-DIFFERS : goal.returns-then-kind-gt-DIFFERS
returns-then-kind-gt-DIFFERS c =
    let s = c in
    turned-is s.args.x s.args.y s.args.kind c.related.result c.if-kind-gt-DIFFERS.true (simp (to_z-of_z s.ranges.x, to_z-of_z s.ranges.y) at c.related.ensures)

pub returns : goal.returns
returns c =
    let s = c in
    plain-is s.args.x s.args.y s.args.kind c.related-2.result c.if-kind-gt-DIFFERS.false (simp (to_z-of_z s.ranges.x, to_z-of_z s.ranges.y) at c.related-2.ensures)
