-- A relation from its kind. From the table of kinds alone.
use mathlib.Core.Path.{◌≡◌, refl, sym, ap, ◌∙◌}
use mathlib.Core.Bool.{Bool, true, false, cond, not}
use Prim.Native.Nat.{ℕ, ◌-◌, ◌≤◌, ◌<◌}
use native.Mathlib.Omega.{arith}
use lib.Dec.{eqb}
use lib.IntN.{ℤ}
use Rattle.grammar.specs.Grammar.{Relation, less, at_most, greater, at_least, same, differs}
use Rattle.tree.specs.Node.{relation_kind, test_kind}
use Rattle.machine.specs.Evaluate.{related}

abbrev pub relation_of : ℕ → Relation
relation_of n = cond (eqb n 15) less (cond (eqb n 16) at_most (cond (eqb n 17) greater (cond (eqb n 18) at_least (cond (eqb n 19) same differs))))

relation-of-kind : (r : Relation) → relation_of (relation_kind r) ≡ r
unfolding relation_kind
relation-of-kind less = refl
relation-of-kind at_most = refl
relation-of-kind greater = refl
relation-of-kind at_least = refl
relation-of-kind same = refl
relation-of-kind differs = refl

relation-range : (r : Relation) → (15 ≤ relation_kind r) × (relation_kind r ≤ 20)
unfolding relation_kind
relation-range less = omega arith
relation-range at_most = omega arith
relation-range greater = omega arith
relation-range at_least = omega arith
relation-range same = omega arith
relation-range differs = omega arith

pub test-range : (turned : Bool) (r : Relation) → (15 ≤ test_kind turned r) × (test_kind turned r ≤ 26)
unfolding test_kind
test-range true r = omega (arith, relation-range r)
test-range false r = omega (arith, relation-range r)

-- an answer that is right for the relation of the kind n is right for r, whose kind is n
pub relates : (x y : ℤ) {b : Bool} {kind : ℕ} (n : ℕ) → kind ≡ n → b ≡ related (relation_of n) x y → (r : Relation) → kind ≡ relation_kind r → b ≡ related r x y
relates x y n h e r k = e ∙ ap (λ (a : Relation). related a x y) (ap relation_of (sym h ∙ k) ∙ relation-of-kind r)

-- what is left after the other kinds
pub kind-differs : (r : Relation) {kind : ℕ} → kind ≡ relation_kind r → (kind ≡ 15 → ⊥) → (kind ≡ 16 → ⊥) → (kind ≡ 17 → ⊥) → (kind ≡ 18 → ⊥) → (kind ≡ 19 → ⊥) → kind ≡ 20
unfolding relation_kind
kind-differs less e a b c d f = absurd (a e)
kind-differs at_most e a b c d f = absurd (b e)
kind-differs greater e a b c d f = absurd (c e)
kind-differs at_least e a b c d f = absurd (d e)
kind-differs same e a b c d f = absurd (f e)
kind-differs differs e a b c d f = e

module _ (x y : ℤ) (kind : ℕ) (b : Bool) where
  pub turned-is : 20 < kind → ((r : Relation) → kind - 6 ≡ relation_kind r → b ≡ related r x y) → (turned : Bool) (r : Relation) → kind ≡ test_kind turned r → not b ≡ cond turned (not (related r x y)) (related r x y)
  unfolding test_kind
  turned-is l f true r e = ap not (f r (omega (arith, e)))
  turned-is l f false r e = absurd (omega (arith, e, relation-range r))

  pub plain-is : kind ≤ 20 → ((r : Relation) → kind ≡ relation_kind r → b ≡ related r x y) → (turned : Bool) (r : Relation) → kind ≡ test_kind turned r → b ≡ cond turned (not (related r x y)) (related r x y)
  unfolding test_kind
  plain-is l f true r e = absurd (omega (arith, e, relation-range r))
  plain-is l f false r e = f r e
