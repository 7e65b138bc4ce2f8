-- The kid for a bit 0 is a node's second field, for a bit 1 its third.
use Rattle.settle.proofs.Kids.{kid-first, kid-second, kid-found}
use mathlib.Core.Path.{◌∙◌}
use Rattle.settle.proofs.kid_of.Goals.{then-bit-eq0, else-bit-eq0}
use Rattle.settle.proofs.kid_of.Goals as goal

pub returns : goal.returns
returns c =
    c.then_some.ensures
    ∙ kid-found _ _ _
    (elim c.if-bit-eq0.branch [
      | then-bit-eq0 w ↦ w.kid-is ∙ w.left_of-kid.ensures ∙ kid-first _ _ w.if-bit-eq0.true
      | else-bit-eq0 w ↦ w.kid-is ∙ w.third_of-kid.ensures ∙ kid-second _ _ w.if-bit-eq0.false
    ])
