-- What a node says of the arguments that stand there, by its kind. By cases of the list.
use mathlib.Core.Path.{◌≡◌, refl, sym, ap, ◌∙◌}
use mathlib.Core.List.{List, [], ◌∷◌}
use mathlib.Core.Bool.{Bool, true, false, ◌&&◌}
use Prim.Native.Nat.{ℕ, ◌-◌, ◌≤◌}
use native.Mathlib.Omega.{arith}
use lib.IntN.{ℤ}
use lib.ListN.{get_or}
use Rattle.value.specs.Range.{Value}
use Rattle.tree.specs.Node.{kind_of, left_of}
use Rattle.model.specs.Resolved
use Rattle.tables.specs.Settled.{Expr, Arguments}
use Rattle.tables.proofs.Parts.{pair-above, pair-second}
use Rattle.model.specs.Good.{Every, GoodExpr}
use Rattle.machine.specs.Evaluate.{eval_expr}
use Rattle.machine.specs.Offer.{is_value, all_values}
use Rattle.eval.specs.Held.{Held, Worth}
use Rattle.eval.proofs.Exprs.{SomeExpr, IsExpr, expr-kind}

-- arguments over n locals stand at k
abbrev pub SomeArguments : List ℕ → ℕ → ℕ → Type 0
SomeArguments t n k = Held (Arguments t) (Every (GoodExpr n)) k

-- r is whether the arguments at k have values
abbrev pub AreKnown : List ℕ → List ℤ → ℕ → Bool → Type 0
AreKnown t ls k r = Worth (Arguments t) (all_values ls) k r

and-true : (b : Bool) → b ≡ b && true
and-true true = refl
and-true false = refl

module _ (t : List ℕ) (k kind : ℕ) (is : kind ≡ kind_of (get_or t k 0)) where
  -- ---- the last
  module _ (h : kind ≡ 52 → ⊥) where
    pub last-part : (n : ℕ) → SomeArguments t n k → SomeExpr t n k
    unfolding Arguments Every
    last-part n s = go s.part s.at s.fit
      where
        go : (es : List Resolved.Expr) → Arguments t es k → Every (GoodExpr n) es → SomeExpr t n k
        go [] a g = absurd a
        go (e ∷ []) a g = record { part = e; at = a; fit = g.0 }
        go (e ∷ f ∷ es) a g = absurd (h (is ∙ a.kind-is))

    pub last-known : (ls : List ℤ) (x : Value) → IsExpr t ls k x → AreKnown t ls k (is_value x)
    unfolding Arguments all_values
    last-known ls x w [] a = absurd a
    last-known ls x w (e ∷ []) a = ap is_value (w e a) ∙ and-true _
    last-known ls x w (e ∷ f ∷ es) a = absurd (h (is ∙ a.kind-is))

  -- ---- one and those after it
  module _ (h : kind ≡ 52) where
    lone-not : {A : Type 0} (e : Resolved.Expr) → Expr t e k → A
    lone-not e a = absurd (omega (arith, expr-kind t k e a))

    pub more_parts : (n : ℕ) → SomeArguments t n k → (1 ≤ k) × SomeExpr t n (left_of (get_or t k 0)) × SomeArguments t n (k - 1)
    unfolding Arguments Every
    more_parts n s = go s.part s.at s.fit
      where
        go : (es : List Resolved.Expr) → Arguments t es k → Every (GoodExpr n) es → (1 ≤ k) × SomeExpr t n (left_of (get_or t k 0)) × SomeArguments t n (k - 1)
        go [] a g = absurd a
        go (e ∷ []) a g = lone-not e a
        go (e ∷ f ∷ es) a g = (pair-above a, record { part = e; at = a.holds-first; fit = g.0 }, record { part = f ∷ es; at = pair-second a; fit = g.1 })

    pub more-known : (ls : List ℤ) (x : Value) (r : Bool) → IsExpr t ls (left_of (get_or t k 0)) x → is_value x ≡ true → AreKnown t ls (k - 1) r → AreKnown t ls k r
    unfolding Arguments all_values
    more-known ls x r w e v [] a = absurd a
    more-known ls x r w e v (y ∷ []) a = lone-not y a
    more-known ls x r w e v (y ∷ f ∷ es) a = v (f ∷ es) (pair-second a) ∙ go (is_value (eval_expr ls y)) (all_values ls (f ∷ es)) (sym (ap is_value (w y a.holds-first)) ∙ e)
      where
        go : (p q : Bool) → p ≡ true → q ≡ p && q
        go p q e = rw e

    pub first-unknown : (ls : List ℤ) (x : Value) → IsExpr t ls (left_of (get_or t k 0)) x → is_value x ≡ false → AreKnown t ls k false
    unfolding Arguments all_values
    first-unknown ls x w e [] a = absurd a
    first-unknown ls x w e (y ∷ []) a = lone-not y a
    first-unknown ls x w e (y ∷ f ∷ es) a = let q = sym (ap is_value (w y a.holds-first)) ∙ e in rw q
