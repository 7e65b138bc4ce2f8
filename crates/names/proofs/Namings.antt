-- Look-ups by packed names are look-ups by names, among locals, variables and definitions; and what is found there. From what the tables say of names.
use mathlib.Core.Path.{◌≡◌, refl, sym, ap, ap₂, ◌∙◌}
use mathlib.Core.List.{List, [], ◌∷◌}
use mathlib.Core.Bool.{Bool, true, false, cond, ◌||◌}
use mathlib.Core.Option.{Option, none, some}
use Prim.Native.Nat.{ℕ, zero, suc, ◌+◌, ◌-◌, ◌≤◌, ◌<◌}
use native.Mathlib.Omega.{arith}
use lib.Dec.{eqb}
use lib.ListN.{length, get_or}
use Rattle.token.specs.Kind as kind
use Rattle.grammar.specs.Syntax
use Rattle.tree.specs.Node.{number_kind}
use Rattle.tree.specs.Table
use Rattle.tree.specs.Table.{Node}
use Rattle.tree.proofs.Interval.{kind_at}
use Rattle.tree.proofs.Cells.{node-kind}
use Rattle.model.specs.Lists.{each, any}
use Rattle.model.specs.Sites.{Variable, Definition, names, titles}
use Rattle.model.specs.Words.{same}
use Rattle.model.specs.Given.{variable, nothing, is_value, place_in, variable_named, definition_named}
use Rattle.names.specs.Placed.{Named}
use Rattle.names.specs.Lists.{found_of, is_found}
use Rattle.names.proofs.Chains.{VariableAt, DefinitionAt, VariablesAt, DefinitionsAt}

-- ---- names of a list
pub named-at : (ts ks : List ℕ) → Named ts ks → (i : ℕ) → i < length ks → get_or ts (get_or ks i 0) 0 ≡ kind.name
named-at ts [] h i l = absurd (omega arith)
named-at ts (k ∷ ks) h zero l = h.0
named-at ts (k ∷ ks) h (suc i) l = named-at ts ks h.1 i (omega arith)

-- ---- look-ups in two ways
module _ (w v : ℕ → List ℕ) (ts : List ℕ) (alike : (j k : ℕ) → get_or ts j 0 ≡ kind.name → get_or ts k 0 ≡ kind.name → same v j k ≡ same w j k) (k : ℕ) (n : get_or ts k 0 ≡ kind.name) where
  pub place-alike : (i : ℕ) (ks : List ℕ) → Named ts ks → place_in v k i ks ≡ place_in w k i ks
  unfolding place_in
  place-alike i [] h = refl
  place-alike i (j ∷ ks) h = ap₂ (λ (b : Bool) (o : Option ℕ). cond b (some i) o) (alike k j n h.0) (place-alike (suc i) ks h.1)

never : {A : Type 0} → ◌≡◌ {A = ℕ} 0 1 → A
never e = absurd (omega arith)

-- ---- what is found, in a list whose first name has the place i
module _ (w : ℕ → List ℕ) (k : ℕ) where
  place-from : (i p : ℕ) (ks : List ℕ) → place_in w k i ks ≡ some p → i ≤ p
  unfolding place_in
  place-from i p [] e = never (cc)
  place-from i p (j ∷ ks) e = by (same w k j) e (place-from (suc i) p ks)
    where
      by : (b : Bool) → cond b (some i) (place_in w k (suc i) ks) ≡ some p → (place_in w k (suc i) ks ≡ some p → suc i ≤ p) → i ≤ p
      by true f g = let z : i ≡ p = cc in omega arith
      by false f g = let z = g f in omega arith

  pub any-placed : (i : ℕ) (ks : List ℕ) → any (same w k) ks ≡ is_found (found_of (place_in w k i ks))
  unfolding place_in any found_of is_found
  any-placed i [] = refl
  any-placed i (j ∷ ks) = by (same w k j) (any-placed (suc i) ks)
    where
      by : (b : Bool) → any (same w k) ks ≡ is_found (found_of (place_in w k (suc i) ks)) → (b || any (same w k) ks) ≡ is_found (found_of (cond b (some i) (place_in w k (suc i) ks)))
      by true g = refl
      by false g = g

  module _ (t : List ℕ) where
    -- the variable in place j of a list that goes down from node r
    pub record FoundVariable (vs : List Variable) (r j : ℕ) : Type 0 where
      pub found : Variable
      pub stands : VariableAt t found (r - j)
      pub means : variable_named w k vs ≡ variable found.number
      pub few : j < length vs

    pub variable-found : (vs : List Variable) (r i j : ℕ) → VariablesAt t vs r → place_in w k i (names vs) ≡ some (i + j) → FoundVariable vs r j
    unfolding place_in names each variable_named
    variable-found [] r i j h e = never (cc)
    variable-found (v ∷ vs) r i j h e = by (same w k v.name) j refl e (λ j. variable-found vs (r - 1) (suc i) j h.1)
      where
        by : (b : Bool) (j : ℕ) → same w k v.name ≡ b → cond b (some i) (place_in w k (suc i) (names vs)) ≡ some (i + j) → ((j : ℕ) → place_in w k (suc i) (names vs) ≡ some (suc i + j) → FoundVariable vs (r - 1) j) → FoundVariable (v ∷ vs) r j
        by true zero q f rest = let z : r - 0 ≡ r = omega arith in record { found = v; stands = rw z h.0; means = rw q; few = omega arith }
        by true (suc j) q f rest = let z : i ≡ i + suc j = cc in absurd (omega arith)
        by false zero q f rest = absurd (let z = place-from (suc i) (i + zero) (names vs) f in omega arith)
        by false (suc j) q f rest =
            let z : i + suc j ≡ suc i + j = omega arith in
            let g = rest j (rw z at f) in
            let y : r - 1 - j ≡ r - suc j = omega arith in
            record { found = g.found; stands = rw y at g.stands; means = rw q g.means; few = omega (arith, g.few) }

    pub variable-none : (vs : List Variable) (i : ℕ) → place_in w k i (names vs) ≡ none → variable_named w k vs ≡ nothing
    unfolding place_in names each variable_named
    variable-none [] i e = refl
    variable-none (v ∷ vs) i e = by (same w k v.name) refl e (variable-none vs (suc i))
      where
        by : (b : Bool) → same w k v.name ≡ b → cond b (some i) (place_in w k (suc i) (names vs)) ≡ none → (place_in w k (suc i) (names vs) ≡ none → variable_named w k vs ≡ nothing) → variable_named w k (v ∷ vs) ≡ nothing
        by true q f rest = never (cc)
        by false q f rest = rw q (rest f)

    -- and the definition
    pub record FoundDefinition (ds : List Definition) (r i j : ℕ) : Type 0 where
      pub found : Definition
      pub stands : DefinitionAt t found (r - j)
      pub means : definition_named w k i ds ≡ some (i + j, found)
      pub few : j < length ds

    pub definition-found : (ds : List Definition) (r i j : ℕ) → DefinitionsAt t ds r → place_in w k i (titles ds) ≡ some (i + j) → FoundDefinition ds r i j
    unfolding place_in titles each definition_named
    definition-found [] r i j h e = never (cc)
    definition-found (d ∷ ds) r i j h e = by (same w k d.name) j refl e (λ j. definition-found ds (r - 1) (suc i) j h.1)
      where
        by : (b : Bool) (j : ℕ) → same w k d.name ≡ b → cond b (some i) (place_in w k (suc i) (titles ds)) ≡ some (i + j) → ((j : ℕ) → place_in w k (suc i) (titles ds) ≡ some (suc i + j) → FoundDefinition ds (r - 1) (suc i) j) → FoundDefinition (d ∷ ds) r i j
        by true zero q f rest =
            let z : r - 0 ≡ r = omega arith in
            let y : i + 0 ≡ i = omega arith in
            record { found = d; stands = rw z h.0; means = rw (q, y); few = omega arith }
        by true (suc j) q f rest = let z : i ≡ i + suc j = cc in absurd (omega arith)
        by false zero q f rest = absurd (let z = place-from (suc i) (i + zero) (titles ds) f in omega arith)
        by false (suc j) q f rest =
            let z : i + suc j ≡ suc i + j = omega arith in
            let g = rest j (rw z at f) in
            let y : r - 1 - j ≡ r - suc j = omega arith in
            record { found = g.found; stands = rw y at g.stands; means = rw q (g.means ∙ ap (λ (p : ℕ). some (p, g.found)) (sym z)); few = omega (arith, g.few) }

    pub definition-none : (ds : List Definition) (i : ℕ) → place_in w k i (titles ds) ≡ none → definition_named w k i ds ≡ none
    unfolding place_in titles each definition_named
    definition-none [] i e = refl
    definition-none (d ∷ ds) i e = by (same w k d.name) refl e (definition-none ds (suc i))
      where
        by : (b : Bool) → same w k d.name ≡ b → cond b (some i) (place_in w k (suc i) (titles ds)) ≡ none → (place_in w k (suc i) (titles ds) ≡ none → definition_named w k (suc i) ds ≡ none) → definition_named w k i (d ∷ ds) ≡ none
        by true q f rest = never (cc)
        by false q f rest = rw q (rest f)

-- a variable's number is whole where its node says so
pub whole-number : (t : List ℕ) (v : Syntax.Number) (l k : ℕ) → Table.Number t v l k → is_value (variable v) ≡ (eqb (kind_at t k) (number_kind false false) || eqb (kind_at t k) (number_kind true false))
unfolding Table.Number is_value number_kind
whole-number t (Syntax.number false false n) l k h = rw (node-kind h.node (omega arith))
whole-number t (Syntax.number false true n) l k h = rw (node-kind h.node (omega arith))
whole-number t (Syntax.number true false n) l k h = rw (node-kind h.node (omega arith))
whole-number t (Syntax.number true true n) l k h = rw (node-kind h.node (omega arith))
