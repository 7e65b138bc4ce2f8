-- An operator from its kind. From the table of kinds alone.
use mathlib.Core.Path.{◌≡◌, refl, sym, ap, ◌∙◌}
use mathlib.Core.Bool.{cond}
use Prim.Native.Nat.{ℕ, ◌≤◌}
use native.Mathlib.Omega.{arith}
use lib.Dec.{eqb}
use lib.IntN.{ℤ}
use Rattle.value.specs.Range.{Value}
use Rattle.grammar.specs.Syntax.{Op, plus, minus, times, divide, maximum, minimum}
use Rattle.tree.specs.Node.{op_kind}
use Rattle.machine.specs.Evaluate.{apply}

abbrev pub op_of : ℕ → Op
op_of n = cond (eqb n 5) plus (cond (eqb n 6) minus (cond (eqb n 7) times (cond (eqb n 8) divide (cond (eqb n 9) maximum minimum))))

op-of-kind : (o : Op) → op_of (op_kind o) ≡ o
unfolding op_kind
op-of-kind plus = refl
op-of-kind minus = refl
op-of-kind times = refl
op-of-kind divide = refl
op-of-kind maximum = refl
op-of-kind minimum = refl

-- two operators of one kind are the same
pub op-once : (o p : Op) → op_kind o ≡ op_kind p → o ≡ p
op-once o p e = sym (op-of-kind o) ∙ (ap op_of e ∙ op-of-kind p)

pub op-range : (o : Op) → (5 ≤ op_kind o) × (op_kind o ≤ 10)
unfolding op_kind
op-range plus = omega arith
op-range minus = omega arith
op-range times = omega arith
op-range divide = omega arith
op-range maximum = omega arith
op-range minimum = omega arith

-- an answer that is right for the operator of the kind n is right for o, whose kind is n
pub applied : (x y : ℤ) {r : Value} {kind : ℕ} (n : ℕ) → kind ≡ n → r ≡ apply (op_of n) x y → (o : Op) → kind ≡ op_kind o → r ≡ apply o x y
applied x y n h e o k = e ∙ ap (λ (a : Op). apply a x y) (ap op_of (sym h ∙ k) ∙ op-of-kind o)

-- what is left after the other kinds
pub kind-minimum : (o : Op) {kind : ℕ} → kind ≡ op_kind o → (kind ≡ 5 → ⊥) → (kind ≡ 6 → ⊥) → (kind ≡ 7 → ⊥) → (kind ≡ 8 → ⊥) → (kind ≡ 9 → ⊥) → kind ≡ 10
unfolding op_kind
kind-minimum plus e a b c d f = absurd (a e)
kind-minimum minus e a b c d f = absurd (b e)
kind-minimum times e a b c d f = absurd (c e)
kind-minimum divide e a b c d f = absurd (d e)
kind-minimum maximum e a b c d f = absurd (f e)
kind-minimum minimum e a b c d f = e
