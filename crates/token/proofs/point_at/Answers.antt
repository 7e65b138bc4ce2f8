-- Both returns of the test for a point with a digit after it.
use mathlib.Core.Path.{ap, ◌∙◌}
use Prim.Native.Nat.{ℕ}
use lib.Dec.{eqb}
use borrow.Author.Tests.{eq-eqb, ne_eqb}
use Rattle.token.specs.Bytes.{sort_of}
use Rattle.token.specs.Token.{pointed}
use Rattle.token.proofs.Classes.{digit-same}
use Rattle.token.proofs.point_at.Goals as goal

pub returns-then-peek-ne46 : goal.returns-then-peek-ne46
unfolding pointed
returns-then-peek-ne46 c =
    rw (← c.peek.ensures) (simp (ne_eqb _ _ c.if-peek-ne46.true))

pub returns : goal.returns
unfolding pointed
returns c =
    rw (← c.peek.ensures) (simp (eq-eqb _ _ c.if-peek-ne46.false) (c.eq.ensures ∙ digit-same c.sort.result ∙ ap (λ (k : ℕ). eqb k 2) (c.sort.ensures ∙ ap sort_of c.peek-2.ensures)))
