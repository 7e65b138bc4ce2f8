-- What a node says of the expression that stands there, by its kind. By cases of the expression.
use mathlib.Core.Path.{◌≡◌, refl, sym, ap, ◌∙◌}
use mathlib.Core.List.{List}
use Prim.Native.Nat.{ℕ, ◌-◌, ◌≤◌, ◌<◌}
use native.Mathlib.Omega.{arith}
use lib.IntN.{ℤ, pos}
use lib.ListN.{get_or}
use Rattle.std.specs.Prelude.{None, Some}
use Rattle.std.specs.Option.{is_some, unwrap_or}
use Rattle.value.specs.Range.{InRange, Value}
use Rattle.value.specs.Arithmetic.{abs_of}
use Rattle.grammar.specs.Syntax.{Op}
use Rattle.tree.specs.Node.{kind_of, token_of, left_of, op_kind}
use Rattle.model.specs.Resolved
use Rattle.tables.specs.Settled.{Expr, number_of}
use Rattle.tables.proofs.Numbers.{node-number, node-number-kind}
use Rattle.tables.proofs.Parts.{over-above, over-part, pair-above, pair-second}
use Rattle.model.specs.Good.{Every, GoodExpr}
use Rattle.machine.specs.Evaluate.{with_value, apply, eval_expr}
use Rattle.machine.specs.Offer.{is_value, or_zero}
use Rattle.machine.proofs.Ranges.{expr-good}
use Rattle.eval.specs.Held.{Held, Worth, Sound}
use Rattle.eval.proofs.Operators.{op-range}

-- an expression of n locals stands at k
abbrev pub SomeExpr : List ℕ → ℕ → ℕ → Type 0
SomeExpr t n k = Held (Expr t) (GoodExpr n) k

-- r is what the expression at k comes to
abbrev pub IsExpr : List ℕ → List ℤ → ℕ → Value → Type 0
IsExpr t ls k r = Worth (Expr t) (eval_expr ls) k r

-- whether it has a value, and its value or 0
pub known : (x : Value) → is_some x ≡ is_value x
unfolding is_value
known (Some z) = refl
known None = refl

pub zeroed : (x : Value) → unwrap_or x (pos 0) ≡ or_zero x
unfolding or_zero
zeroed (Some z) = refl
zeroed None = refl

-- its value, where it has one, lies in the range
pub worth-sound : (t : List ℕ) (ls : List ℤ) (n k : ℕ) (r : Value) → Every InRange ls → SomeExpr t n k → IsExpr t ls k r → Sound r
worth-sound t ls n k r g h w = go r (w h.part h.at)
  where
    go : (v : Value) → v ≡ eval_expr ls h.part → Sound v
    go (Some z) q = expr-good ls g n h.part z h.fit (sym q)
    go None q = tt

-- every expression's kind is below 11
pub expr-kind : (t : List ℕ) (k : ℕ) (e : Resolved.Expr) → Expr t e k → kind_of (get_or t k 0) ≤ 10
unfolding Expr
expr-kind t k (Resolved.constant z) a = omega (arith, node-number-kind a (omega arith))
expr-kind t k (Resolved.local_at i) a = omega (arith, a.kind-is)
expr-kind t k (Resolved.absolute e) a = omega (arith, a.kind-is)
expr-kind t k (Resolved.binary o e f) a = omega (arith, a.kind-is, op-range o)

pub expr-some : (t : List ℕ) (k : ℕ) (e : Resolved.Expr) → Expr t e k → 1 ≤ kind_of (get_or t k 0)
unfolding Expr
expr-some t k (Resolved.constant z) a = omega (arith, node-number-kind a (omega arith))
expr-some t k (Resolved.local_at i) a = omega (arith, a.kind-is)
expr-some t k (Resolved.absolute e) a = omega (arith, a.kind-is)
expr-some t k (Resolved.binary o e f) a = omega (arith, a.kind-is, op-range o)

module _ (t : List ℕ) (k kind : ℕ) (is : kind ≡ kind_of (get_or t k 0)) where
  pub literal-is : (ls : List ℤ) → kind ≡ 1 → IsExpr t ls k (Some (number_of (get_or t k 0)))
  unfolding Expr eval_expr
  literal-is ls h (Resolved.constant z) a = ap Some (node-number a (omega arith))
  literal-is ls h (Resolved.local_at i) a = absurd (omega (arith, a.kind-is))
  literal-is ls h (Resolved.absolute e) a = absurd (omega (arith, a.kind-is))
  literal-is ls h (Resolved.binary o e f) a = absurd (omega (arith, a.kind-is, op-range o))

  pub named-is : (ls : List ℤ) → kind ≡ 3 → IsExpr t ls k (Some (get_or ls (token_of (get_or t k 0)) (pos 0)))
  unfolding Expr eval_expr
  named-is ls h (Resolved.constant z) a = absurd (omega (arith, node-number-kind a (omega arith)))
  named-is ls h (Resolved.local_at i) a = ap (λ (j : ℕ). Some (get_or ls j (pos 0))) a.index_is
  named-is ls h (Resolved.absolute e) a = absurd (omega (arith, a.kind-is))
  named-is ls h (Resolved.binary o e f) a = absurd (omega (arith, a.kind-is, op-range o))

  -- the part of a size
  pub absolute-part : (n : ℕ) → kind ≡ 4 → SomeExpr t n k → (1 ≤ k) × SomeExpr t n (k - 1)
  unfolding Expr GoodExpr
  absolute-part n h s = go s.part s.at s.fit
    where
      go : (e : Resolved.Expr) → Expr t e k → GoodExpr n e → (1 ≤ k) × SomeExpr t n (k - 1)
      go (Resolved.constant z) a g = absurd (omega (arith, node-number-kind a (omega arith)))
      go (Resolved.local_at i) a g = absurd (omega (arith, a.kind-is))
      go (Resolved.absolute e) a g = (over-above a, record { part = e; at = over-part a; fit = g })
      go (Resolved.binary o e f) a g = absurd (omega (arith, a.kind-is, op-range o))

  pub absolute-is : (ls : List ℤ) (x : Value) → kind ≡ 4 → IsExpr t ls (k - 1) x → IsExpr t ls k (with_value x abs_of)
  unfolding Expr eval_expr
  absolute-is ls x h w (Resolved.constant z) a = absurd (omega (arith, node-number-kind a (omega arith)))
  absolute-is ls x h w (Resolved.local_at i) a = absurd (omega (arith, a.kind-is))
  absolute-is ls x h w (Resolved.absolute e) a = ap (λ (v : Value). with_value v abs_of) (w e (over-part a))
  absolute-is ls x h w (Resolved.binary o e f) a = absurd (omega (arith, a.kind-is, op-range o))

  module _ (h : kind ≡ 1 → ⊥) (m : kind ≡ 3 → ⊥) (q : kind ≡ 4 → ⊥) where
    -- the two parts of an operation
    pub binary-parts : (n : ℕ) → SomeExpr t n k → (1 ≤ k) × (left_of (get_or t k 0) < k) × SomeExpr t n (left_of (get_or t k 0)) × SomeExpr t n (k - 1)
    unfolding Expr GoodExpr
    binary-parts n s = go s.part s.at s.fit
      where
        go : (e : Resolved.Expr) → Expr t e k → GoodExpr n e → (1 ≤ k) × (left_of (get_or t k 0) < k) × SomeExpr t n (left_of (get_or t k 0)) × SomeExpr t n (k - 1)
        go (Resolved.constant z) a g = absurd (h (is ∙ node-number-kind a (omega arith)))
        go (Resolved.local_at i) a g = absurd (m (is ∙ a.kind-is))
        go (Resolved.absolute e) a g = absurd (q (is ∙ a.kind-is))
        go (Resolved.binary o e f) a g =
            (pair-above a, a.below, record { part = e; at = a.holds-first; fit = g.0 }, record { part = f; at = pair-second a; fit = g.1 })

    pub binary-is : (ls : List ℤ) (x y r : Value) → IsExpr t ls (left_of (get_or t k 0)) x → IsExpr t ls (k - 1) y → ((o : Op) → kind ≡ op_kind o → r ≡ with_value x (λ a. with_value y (λ b. apply o a b))) → IsExpr t ls k r
    unfolding Expr eval_expr
    binary-is ls x y r v w u (Resolved.constant z) a = absurd (h (is ∙ node-number-kind a (omega arith)))
    binary-is ls x y r v w u (Resolved.local_at i) a = absurd (m (is ∙ a.kind-is))
    binary-is ls x y r v w u (Resolved.absolute e) a = absurd (q (is ∙ a.kind-is))
    binary-is ls x y r v w u (Resolved.binary o e f) a = rw (← v e a.holds-first, ← w f (pair-second a)) (u o (is ∙ a.kind-is))

    -- the first part has no value
    pub binary-lacks : (ls : List ℤ) → IsExpr t ls (left_of (get_or t k 0)) None → IsExpr t ls k None
    unfolding Expr eval_expr with_value
    binary-lacks ls v (Resolved.constant z) a = absurd (h (is ∙ node-number-kind a (omega arith)))
    binary-lacks ls v (Resolved.local_at i) a = absurd (m (is ∙ a.kind-is))
    binary-lacks ls v (Resolved.absolute e) a = absurd (q (is ∙ a.kind-is))
    binary-lacks ls v (Resolved.binary o e f) a = rw (← v e a.holds-first)
