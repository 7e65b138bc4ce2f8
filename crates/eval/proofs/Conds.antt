-- What a node says of the condition that stands there, by its kind. By cases of the condition.
use mathlib.Core.Path.{◌≡◌, refl, ◌∙◌}
use mathlib.Core.List.{List}
use mathlib.Core.Bool.{Bool, true, false, cond, not}
use mathlib.Core.Option.{Option, none, some}
use Prim.Native.Nat.{ℕ, ◌-◌, ◌≤◌, ◌<◌}
use native.Mathlib.Omega.{arith}
use lib.IntN.{ℤ}
use lib.ListN.{get_or}
use Rattle.value.specs.Range.{Value}
use Rattle.value.proofs.Kit.{true-not-false, false-not-true}
use Rattle.grammar.specs.Grammar.{Relation}
use Rattle.tree.specs.Node as node
use Rattle.tree.specs.Node.{kind_of, left_of, test_kind}
use Rattle.model.specs.Resolved
use Rattle.tables.specs.Settled.{Cond}
use Rattle.tables.proofs.Parts.{pair-above, pair-second}
use Rattle.model.specs.Good.{GoodCond}
use Rattle.machine.specs.Evaluate.{valued, given, related, eval_cond}
use Rattle.std.specs.Prelude.{None}
use Rattle.eval.specs.Held.{Held, Worth}
use Rattle.eval.specs.Skips.{skips}
use Rattle.eval.specs.Answers.{Truth, truth_of, truth}
use Rattle.eval.proofs.Exprs.{SomeExpr, IsExpr}
use Rattle.eval.proofs.Relations.{test-range}

-- ---- the operators
module _ (b : Option Bool) where
  both-skipped : (c : Option Bool) → skips node.both (truth_of c) ≡ true → truth_of c ≡ truth_of (given c (λ x. cond x b (some false)))
  unfolding skips truth_of given
  both-skipped (some true) h = false-not-true h
  both-skipped (some false) h = refl
  both-skipped none h = refl

  both_rest : (c : Option Bool) → skips node.both (truth_of c) ≡ false → truth_of b ≡ truth_of (given c (λ x. cond x b (some false)))
  unfolding skips truth_of given
  both_rest (some true) h = refl
  both_rest (some false) h = true-not-false h
  both_rest none h = true-not-false h

  either-skipped : (c : Option Bool) → skips node.either (truth_of c) ≡ true → truth_of c ≡ truth_of (given c (λ x. cond x (some true) b))
  unfolding skips truth_of given
  either-skipped (some true) h = refl
  either-skipped (some false) h = false-not-true h
  either-skipped none h = refl

  either_rest : (c : Option Bool) → skips node.either (truth_of c) ≡ false → truth_of b ≡ truth_of (given c (λ x. cond x (some true) b))
  unfolding skips truth_of given
  either_rest (some true) h = true-not-false h
  either_rest (some false) h = refl
  either_rest none h = true-not-false h

-- ---- conditions by their nodes

-- a condition of n locals stands at k
abbrev pub SomeCond : List ℕ → ℕ → ℕ → Type 0
SomeCond t n k = Held (Cond t) (GoodCond n) k

-- r is what the condition at k comes to
abbrev pub IsCond : List ℕ → List ℤ → ℕ → Truth → Type 0
IsCond t ls k r = Worth (Cond t) (truth ls) k r

module _ (t : List ℕ) (k kind : ℕ) (is : kind ≡ kind_of (get_or t k 0)) where
  pub compare-parts : (n : ℕ) → kind < 27 → SomeCond t n k → (1 ≤ k) × SomeExpr t n (left_of (get_or t k 0)) × SomeExpr t n (k - 1)
  unfolding Cond GoodCond
  compare-parts n l s = go s.part s.at s.fit
    where
      go : (c : Resolved.Cond) → Cond t c k → GoodCond n c → (1 ≤ k) × SomeExpr t n (left_of (get_or t k 0)) × SomeExpr t n (k - 1)
      go (Resolved.compare b r e f) a g = (pair-above a, record { part = e; at = a.holds-first; fit = g.0 }, record { part = f; at = pair-second a; fit = g.1 })
      go (Resolved.both c d) a g = absurd (omega (arith, a.kind-is))
      go (Resolved.either c d) a g = absurd (omega (arith, a.kind-is))

  pub compare-is : (ls : List ℤ) (x y : Value) (q : Truth) → kind < 27 → IsExpr t ls (left_of (get_or t k 0)) x → IsExpr t ls (k - 1) y → ((turned : Bool) (r : Relation) → kind ≡ test_kind turned r → q ≡ truth_of (valued x (λ a. valued y (λ z. some (cond turned (not (related r a z)) (related r a z)))))) → IsCond t ls k q
  unfolding Cond eval_cond truth
  compare-is ls x y q l v w u (Resolved.compare b r e f) a = rw (← v e a.holds-first, ← w f (pair-second a)) (u b r (is ∙ a.kind-is))
  compare-is ls x y q l v w u (Resolved.both c d) a = absurd (omega (arith, a.kind-is))
  compare-is ls x y q l v w u (Resolved.either c d) a = absurd (omega (arith, a.kind-is))

  pub compare-lacks : (ls : List ℤ) → kind < 27 → IsExpr t ls (left_of (get_or t k 0)) None → IsCond t ls k None
  unfolding Cond eval_cond truth valued truth_of
  compare-lacks ls l v (Resolved.compare b r e f) a = rw (← v e a.holds-first)
  compare-lacks ls l v (Resolved.both c d) a = absurd (omega (arith, a.kind-is))
  compare-lacks ls l v (Resolved.either c d) a = absurd (omega (arith, a.kind-is))

  module _ (l : 27 ≤ kind) where
    pub cond-parts : (n : ℕ) → SomeCond t n k → (1 ≤ k) × (left_of (get_or t k 0) < k) × SomeCond t n (left_of (get_or t k 0)) × SomeCond t n (k - 1)
    unfolding Cond GoodCond
    cond-parts n s = go s.part s.at s.fit
      where
        go : (c : Resolved.Cond) → Cond t c k → GoodCond n c → (1 ≤ k) × (left_of (get_or t k 0) < k) × SomeCond t n (left_of (get_or t k 0)) × SomeCond t n (k - 1)
        go (Resolved.compare b r e f) a g = absurd (omega (arith, a.kind-is, test-range b r))
        go (Resolved.both c d) a g = (pair-above a, a.below, record { part = c; at = a.holds-first; fit = g.0 }, record { part = d; at = pair-second a; fit = g.1 })
        go (Resolved.either c d) a g = (pair-above a, a.below, record { part = c; at = a.holds-first; fit = g.0 }, record { part = d; at = pair-second a; fit = g.1 })

    -- the left side decides
    pub skipped-is : (ls : List ℤ) (p : Truth) → IsCond t ls (left_of (get_or t k 0)) p → skips kind p ≡ true → IsCond t ls k p
    unfolding Cond eval_cond truth
    skipped-is ls p f h (Resolved.compare b r e g) a = absurd (omega (arith, a.kind-is, test-range b r))
    skipped-is ls p f h (Resolved.both c d) a =
        let e = f c a.holds-first in e ∙ both-skipped (eval_cond ls d) (eval_cond ls c) (rw (is ∙ a.kind-is, e) at h)
    skipped-is ls p f h (Resolved.either c d) a =
        let e = f c a.holds-first in e ∙ either-skipped (eval_cond ls d) (eval_cond ls c) (rw (is ∙ a.kind-is, e) at h)

    pub rest-is : (ls : List ℤ) (p q : Truth) → IsCond t ls (left_of (get_or t k 0)) p → skips kind p ≡ false → IsCond t ls (k - 1) q → IsCond t ls k q
    unfolding Cond eval_cond truth
    rest-is ls p q f h w (Resolved.compare b r e g) a = absurd (omega (arith, a.kind-is, test-range b r))
    rest-is ls p q f h w (Resolved.both c d) a =
        w d (pair-second a) ∙ both_rest (eval_cond ls d) (eval_cond ls c) (rw (is ∙ a.kind-is, f c a.holds-first) at h)
    rest-is ls p q f h w (Resolved.either c d) a =
        w d (pair-second a) ∙ either_rest (eval_cond ls d) (eval_cond ls c) (rw (is ∙ a.kind-is, f c a.holds-first) at h)
