-- Each return by how many digits stand before the point and after it.
use native.Mathlib.Omega.{arith}
use lib.ListN.{length-take, length-drop}
use Rattle.token.proofs.Runs.{lead-le}
use Rattle.token.proofs.Tells.{many-before, no_fraction, many-after, few-both}
use Rattle.token.proofs.decimal_content.Goals as goal
use Rattle.token.proofs.decimal_content.Goals.{then-n-gt-WHOLE-via-then-n-gt-WHOLE, then-n-gt-WHOLE-via-else-n-gt-WHOLE+then-s-n, then-n-gt-WHOLE-via-else-n-gt-WHOLE+else-s-n+then-n-s}

pub returns-then-n-gt-WHOLE : goal.returns-then-n-gt-WHOLE
returns-then-n-gt-WHOLE c =
    elim c.then-n-gt-WHOLE.branch [
      | then-n-gt-WHOLE-via-then-n-gt-WHOLE w ↦ many-before c.args.s.now c.run_end-n.result c.run_end-n.ensures w.if-n-gt-WHOLE.true
      | then-n-gt-WHOLE-via-else-n-gt-WHOLE+then-s-n w ↦ no_fraction c.args.s.now c.run_end-n.result c.run_end-n.ensures w.if-n-gt-WHOLE.false w.if-s-n.true
      | then-n-gt-WHOLE-via-else-n-gt-WHOLE+else-s-n+then-n-s w ↦ many-after c.args.s.now c.run_end-n.result c.run_end-n.ensures w.if-n-gt-WHOLE.false w.if-n-s.true
    ]

pub slice_bounds-decimal-end : goal.slice_bounds-decimal-end
slice_bounds-decimal-end c =
    simp length-take (omega (arith, c.run_end-n.ensures, lead-le 2 c.args.s.now))

pub decimal-requires : goal.decimal-requires
decimal-requires c =
    (simp length-take (omega arith), simp (length-take, length-drop) (omega arith))

pub returns : goal.returns
returns c =
    few-both c.args.s.now c.run_end-n.result c.run_end-n.ensures c.decimal.result c.if-n-gt-WHOLE.false c.if-s-n.false c.if-n-s.false c.decimal.ensures
