-- A shift to the left or right, or none, then the fresh numbers: each is the tail rewritten.
use mathlib.Core.Path.{refl, ap, ◌∙◌}
use mathlib.Core.List.{List, ◌++◌}
use native.Mathlib.Omega.{arith}
use lib.IntN.{ℤ}
use lib.ListN.{length, drop}
use Rattle.state.proofs.Change.{rewritten-same, rewritten-left, rewritten-right}
use Rattle.state.proofs.rewrite.Goals.{then-count-cut, else-count-cut+then-cut-count, else-count-cut+else-cut-count}
use Rattle.state.proofs.rewrite.Goals as goal

pub returns : goal.returns
returns c =
    let l = c.args.s.now in
    let x = c.args.fresh.now in
    let after = λ (ys : List ℤ). x ++ drop (length x) ys in
    ap (λ (ys : List ℤ). ys ++ drop (length x) c.if-count-cut.s) c.copy_from_slice.ensures.after
    ∙ elim c.if-count-cut.branch [
      | then-count-cut w ↦ ap after (w.s-is ∙ w.shift_left.ensures) ∙ rewritten-left l x c.args.cut (length x) refl c.requires.0 c.requires.1 (omega arith)
      | else-count-cut+then-cut-count w ↦ ap after (w.s-is ∙ w.shift_right.ensures) ∙ rewritten-right l x c.args.cut (length x) refl c.requires.0 c.requires.1 (omega arith)
      | else-count-cut+else-cut-count w ↦ ap after w.s-is ∙ rewritten-same l x c.args.cut (length x) refl c.requires.0 c.requires.1 (omega arith)
    ]
