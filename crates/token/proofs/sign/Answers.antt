-- A pair of bytes makes a sign of two; its first byte is low enough that 128 more fit.
use mathlib.Core.Path.{sym, ◌∙◌}
use native.Mathlib.Omega.{arith}
use Rattle.token.specs.Token.{sign_tok}
use Rattle.token.proofs.Sorts.{pairs-low}
use Rattle.token.proofs.sign.Goals as goal

pub overflow_add-result : goal.overflow_add-result
overflow_add-result c =
    omega (arith, pairs-low _ _ (sym c.paired.ensures ∙ c.if-paired.true))

pub returns-then-paired : goal.returns-then-paired
unfolding sign_tok
returns-then-paired c =
    rw (← c.paired.ensures) (simp c.if-paired.true)

pub returns : goal.returns
unfolding sign_tok
returns c =
    rw (← c.paired.ensures) (simp c.if-paired.false)
