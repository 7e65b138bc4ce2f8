-- What a node says of the one or two values or sets that stand there, by its kind. By cases of the list.
use mathlib.Core.Path.{◌≡◌, refl, sym, ◌∙◌}
use mathlib.Core.List.{List, [], ◌∷◌}
use mathlib.Core.Bool.{Bool, true, false, not}
use mathlib.Core.Option.{Option, none, some}
use Prim.Native.Nat.{ℕ, ◌-◌, ◌≤◌, ◌<◌}
use native.Mathlib.Omega.{arith}
use lib.IntN.{ℤ}
use lib.ListN.{get_or}
use Rattle.value.specs.Range.{Value}
use Rattle.value.proofs.Kit.{true-not-false, false-not-true}
use Rattle.tree.specs.Node.{kind_of, left_of}
use Rattle.model.specs.Resolved
use Rattle.rules.specs.Offers as offers
use Rattle.tables.specs.Settled.{Expr, Set, OneOrTwo}
use Rattle.tables.proofs.Parts.{pair-above, pair-second}
use Rattle.model.specs.Good.{Every}
use Rattle.machine.specs.Evaluate.{eval_set, eval_all, eval_value, valued, given}
use Rattle.machine.specs.Offer.{is_none}
use Rattle.eval.specs.Held.{Held, Worth}
use Rattle.eval.specs.Answers.{ends_known}
use Rattle.std.specs.Prelude.{None}
use Rattle.eval.specs.Lists.{values_of, values_given, values_answer}
use Rattle.eval.proofs.Exprs.{IsExpr, expr-kind}
use Rattle.eval.proofs.Sets.{Ends, set-kind}

-- ---- sets whose ends have values
module _ (t : List ℕ) (ls : List ℤ) (s : Resolved.Set) (i : ℕ) (a : Set t s i) where
  -- what it comes to
  pub record Came : Type 0 where
    pub set : offers.Set
    pub is : eval_set ls s ≡ some set

  pub came : (b : Bool) → Ends t ls i b → b ≡ true → Came
  unfolding ends_known is_none
  came b w h = go (eval_set ls s) refl (sym (w s a) ∙ h)
    where
      go : (o : Option offers.Set) → eval_set ls s ≡ o → not (is_none o) ≡ true → Came
      go (some x) e q = record { set = x; is = e }
      go none e q = false-not-true q

  pub lacks : (b : Bool) → Ends t ls i b → b ≡ false → eval_set ls s ≡ none
  unfolding ends_known is_none
  lacks b w h = go (eval_set ls s) refl (sym (w s a) ∙ h)
    where
      go : (o : Option offers.Set) → eval_set ls s ≡ o → not (is_none o) ≡ false → eval_set ls s ≡ none
      go (some x) e q = true-not-false q
      go none e q = e

module _ (t : List ℕ) (k kind : ℕ) (is : kind ≡ kind_of (get_or t k 0)) where
  -- ---- the parts
  module _ {A : Type 0} (P : A → ℕ → Type 0) (good : A → Type 0) where
    pub one-part : (kind ≡ 35 → ⊥) → Held (OneOrTwo t P) (Every good) k → Held P good k
    unfolding OneOrTwo Every
    one-part h s = go s.part s.at s.fit
      where
        go : (xs : List A) → OneOrTwo t P xs k → Every good xs → Held P good k
        go [] a g = absurd a
        go (x ∷ []) a g = record { part = x; at = a; fit = g.0 }
        go (x ∷ y ∷ []) a g = absurd (h (is ∙ a.kind-is))
        go (x ∷ y ∷ z ∷ xs) a g = absurd a

    pub two-parts : ((x : A) → P x k → kind_of (get_or t k 0) < 35) → kind ≡ 35 → Held (OneOrTwo t P) (Every good) k → (1 ≤ k) × Held P good (left_of (get_or t k 0)) × Held P good (k - 1)
    unfolding OneOrTwo Every
    two-parts low h s = go s.part s.at s.fit
      where
        go : (xs : List A) → OneOrTwo t P xs k → Every good xs → (1 ≤ k) × Held P good (left_of (get_or t k 0)) × Held P good (k - 1)
        go [] a g = absurd a
        go (x ∷ []) a g = absurd (omega (arith, low x a))
        go (x ∷ y ∷ []) a g = (pair-above a, record { part = x; at = a.holds-first; fit = g.0 }, record { part = y; at = pair-second a; fit = g.1.0 })
        go (x ∷ y ∷ z ∷ xs) a g = absurd a

  pub expr-low : (e : Resolved.Expr) → Expr t e k → kind_of (get_or t k 0) < 35
  expr-low e a = omega (arith, expr-kind t k e a)

  pub set-low : (s : Resolved.Set) → Set t s k → kind_of (get_or t k 0) < 35
  set-low s a = omega (arith, set-kind t k s a)

  -- ---- values
  pub one-value-is : (ls : List ℤ) (x : Value) → (kind ≡ 35 → ⊥) → IsExpr t ls k x → Worth (OneOrTwo t (Expr t)) (values_answer ls) k (values_given (x ∷ []))
  unfolding OneOrTwo values_answer values_given eval_all eval_value
  one-value-is ls x h w [] a = absurd a
  one-value-is ls x h w (e ∷ []) a = rw (← w e a)
  one-value-is ls x h w (e ∷ f ∷ []) a = absurd (h (is ∙ a.kind-is))
  one-value-is ls x h w (e ∷ f ∷ g ∷ es) a = absurd a

  pub two-values-are : (ls : List ℤ) (x y : Value) → kind ≡ 35 → IsExpr t ls (left_of (get_or t k 0)) x → IsExpr t ls (k - 1) y → Worth (OneOrTwo t (Expr t)) (values_answer ls) k (values_given (x ∷ y ∷ []))
  unfolding OneOrTwo values_answer values_given eval_all eval_value
  two-values-are ls x y h v w [] a = absurd a
  two-values-are ls x y h v w (e ∷ []) a = absurd (omega (arith, expr-low e a))
  two-values-are ls x y h v w (e ∷ f ∷ []) a = rw (← v e a.holds-first, ← w f (pair-second a))
  two-values-are ls x y h v w (e ∷ f ∷ g ∷ es) a = absurd a

  pub two-values-lack : (ls : List ℤ) → kind ≡ 35 → IsExpr t ls (left_of (get_or t k 0)) None → Worth (OneOrTwo t (Expr t)) (values_answer ls) k None
  unfolding OneOrTwo values_answer eval_all eval_value valued given values_of
  two-values-lack ls h v [] a = absurd a
  two-values-lack ls h v (e ∷ []) a = absurd (omega (arith, expr-low e a))
  two-values-lack ls h v (e ∷ f ∷ []) a = rw (← v e a.holds-first)
  two-values-lack ls h v (e ∷ f ∷ g ∷ es) a = absurd a
