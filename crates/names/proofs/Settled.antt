-- What the tables tell of a text, as the look-ups want it: names lie inside the tables, and looking up packed names is looking up names. From what the table
-- of nodes holds.
use mathlib.Core.Path.{◌≡◌, refl, sym, ap, ◌∙◌}
use mathlib.Core.List.{List, [], ◌∷◌}
use mathlib.Core.Bool.{true}
use Prim.Native.Nat.{ℕ, zero, suc, ◌-◌, ◌≤◌, ◌<◌}
use native.Mathlib.Omega.{arith}
use lib.ListN.{length, get_or, take, length-take}
use lib.Seq.{get_or-take, take_all}
use Rattle.token.specs.Kind as kind
use Rattle.tree.specs.Node.{number_kind}
use Rattle.tree.specs.Table.{Node}
use Rattle.tree.proofs.Cells.{node-kind, node-token, node-left, node-third}
use Rattle.grammar.proofs.Follows.{inside}
use Rattle.model.specs.Lists.{each}
use Rattle.model.specs.Sites.{Variable, Definition, variables, definitions, names, titles}
use Rattle.model.specs.Given.{place_in}
use Rattle.names.specs.declared.Question.{Question}
use Rattle.names.specs.declared.Lists.{Lists}
use Rattle.names.specs.declared.scope.Scope.{Scope}
use Rattle.names.specs.Faults.{asks_names}
use Rattle.names.specs.Lists.{packed, names_down, Reach, InScope}
use Rattle.names.specs.Placed.{Named, Fits, SortFits, sort_of}
use Rattle.names.specs.Settings.{World, Setting}
use Rattle.names.proofs.Chains.{VariableAt, DefinitionAt, VariablesAt, DefinitionsAt, variable-name, definition-name, variables-at, definitions-at, variable-names, definition-names, names-take, variables-run, definitions-run, below, root-inside}
use Rattle.names.proofs.Namings.{named-at, place-alike}

-- ---- the tokens of a node
pub node-fits : (ts : List ℕ) {t : List ℕ} {i κ token left third : ℕ} → Node t i κ token left third → κ < 256 → Fits ts (get_or t i 0) → SortFits (sort_of κ) ts token third
node-fits ts n h f = rw (node-kind n h, node-token n h, node-third n h) at f

module _ (t ts : List ℕ) where
  variables-named : (vs : List Variable) (k : ℕ) → VariablesAt t vs k → ((i : ℕ) → i ≤ k → Fits ts (get_or t i 0)) → Named ts (names vs)
  unfolding names each sort_of SortFits number_kind
  variables-named [] k h f = tt
  variables-named (v ∷ vs) k h f = (node-fits ts h.0.node (omega arith) (f k (omega arith)), variables-named vs (k - 1) h.1 (λ i l. f i (omega arith)))

  definitions-named : (ds : List Definition) (k : ℕ) → DefinitionsAt t ds k → ((i : ℕ) → i ≤ k → Fits ts (get_or t i 0)) → Named ts (titles ds)
  unfolding titles each sort_of SortFits number_kind
  definitions-named [] k h f = tt
  definitions-named (d ∷ ds) k h f =
      let l = h.0.below in
      ((node-fits ts h.0.at.node (omega arith) (f h.0.root (omega arith))).0, definitions-named ds (k - 1) h.1 (λ i l. f i (omega arith)))

  -- ---- each of a list
  variable-each : (vs : List Variable) (k : ℕ) → VariablesAt t vs k → (j : ℕ) → j < length vs → (v : Variable) × VariableAt t v (k - j) × (get_or (names vs) j 0 ≡ v.name)
  unfolding names each
  variable-each [] k h j l = absurd (omega arith)
  variable-each (v ∷ vs) k h zero l = let e : k - 0 ≡ k = omega arith in (v, rw e h.0, refl)
  variable-each (v ∷ vs) k h (suc j) l =
      let r = variable-each vs (k - 1) h.1 j (omega arith) in
      let e : k - 1 - j ≡ k - suc j = omega arith in
      (r.0, rw e at r.1, r.2)

  definition-each : (ds : List Definition) (k : ℕ) → DefinitionsAt t ds k → (j : ℕ) → j < length ds → (d : Definition) × DefinitionAt t d (k - j) × (get_or (titles ds) j 0 ≡ d.name)
  unfolding titles each
  definition-each [] k h j l = absurd (omega arith)
  definition-each (d ∷ ds) k h zero l = let e : k - 0 ≡ k = omega arith in (d, rw e h.0, refl)
  definition-each (d ∷ ds) k h (suc j) l =
      let r = definition-each ds (k - 1) h.1 j (omega arith) in
      let e : k - 1 - j ≡ k - suc j = omega arith in
      (r.0, rw e at r.1, r.2)

named-take : (ts ks : List ℕ) (n : ℕ) → Named ts ks → Named ts (take n ks)
named-take ts ks zero h = tt
named-take ts [] (suc n) h = tt
named-take ts (k ∷ ks) (suc n) h = (h.0, named-take ts ks n h.1)

names-length : (vs : List Variable) → length (names vs) ≡ length vs
unfolding names each
names-length [] = refl
names-length (v ∷ vs) = ap suc (names-length vs)

titles-length : (ds : List Definition) → length (titles ds) ≡ length ds
unfolding titles each
titles-length [] = refl
titles-length (d ∷ ds) = ap suc (titles-length ds)

module _ {question : Question} {low high nodes : List ℕ} {lists : Lists} (h : World question low high nodes lists) where
  abbrev pub vs : List Variable
  vs = variables h.model

  abbrev pub ds : List Definition
  ds = definitions h.model

  -- ---- a name lies inside the tables
  pub name-inside : (k : ℕ) → get_or h.kinds k 0 ≡ kind.name → (k < length low) × (k < length high)
  name-inside k e = let l = inside h.kinds k (omega arith) in (omega (arith, h.lows), omega (arith, h.highs))

  pub vs-at : VariablesAt nodes vs lists.root
  vs-at = variables-at nodes h.model 0 lists.root h.holds

  pub ds-at : DefinitionsAt nodes ds (lists.root - lists.variables)
  ds-at =
      let b = below nodes h.model 0 lists.root h.holds in
      let d = definitions-at nodes b.0 b.1 (lists.root - length vs) b.2 in
      rw (h.gathered.variables-are, b.3) d

  pub vs-few : length vs ≤ lists.root
  vs-few = (variables-run nodes h.model 0 lists.root h.holds).1

  pub vs-named : Named h.kinds (names vs)
  vs-named = variables-named nodes h.kinds vs lists.root vs-at h.placed

  pub ds-named : Named h.kinds (titles ds)
  ds-named = definitions-named nodes h.kinds ds (lists.root - lists.variables) ds-at (λ i l. h.placed i (omega arith))

  pub root_in : lists.root < length nodes
  root_in = root-inside nodes h.model 0 lists.root h.holds

  -- ---- the lists of names can be read
  module _ (n : ℕ) where
    pub reach-variables : n ≤ lists.variables → Reach low high nodes lists.root n
    reach-variables l =
        let c = h.gathered.variables-are in
        record {
          count = omega (arith, vs-few);
          each = λ j m.
              let r = variable-each nodes h.kinds vs lists.root vs-at j (omega arith) in
              let e = variable-name nodes r.1 in
              let i = name-inside r.0.name (rw r.2 at (named-at h.kinds (names vs) vs-named j (omega (arith, names-length vs)))) in
              let g = node-left r.1.node (omega arith) in
              record { node = omega (arith, root_in); left = rw g (omega (arith, root_in, r.1.below)); in-low = rw e i.0; in-high = rw e i.1 };
        }

    pub reach-definitions : n ≤ lists.definitions → Reach low high nodes (lists.root - lists.variables) n
    reach-definitions l =
        let c = h.gathered.definitions-are in
        let b = below nodes h.model 0 lists.root h.holds in
        let q = (definitions-run nodes b.0 b.1 (lists.root - length vs) b.2).1 in
        let f = ap length b.3 in
        record {
          count = omega (arith, h.gathered.variables-are);
          each = λ j m.
              let r = definition-each nodes h.kinds ds (lists.root - lists.variables) ds-at j (omega arith) in
              let e = definition-name nodes r.1 in
              let i = name-inside r.0.name (rw r.2 at (named-at h.kinds (titles ds) ds-named j (omega (arith, titles-length ds)))) in
              let g = r.1.left in
              record { node = omega (arith, root_in); left = rw g (omega (arith, root_in, r.1.below)); in-low = rw e i.0; in-high = rw e i.1 };
        }

  -- ---- looking up packed names
  module _ (asks : asks_names question ≡ true) (k : ℕ) (e : get_or h.kinds k 0 ≡ kind.name) where
    alike-in : (ks : List ℕ) → Named h.kinds ks → place_in (packed low high) k 0 ks ≡ place_in h.word k 0 ks
    alike-in ks = place-alike h.word (packed low high) h.kinds (h.alike asks) k e 0 ks

    -- among the first n variables
    pub place-variables : (n : ℕ) → n ≤ lists.variables → place_in (packed low high) k 0 (names_down nodes lists.root n) ≡ place_in h.word k 0 (take n (names vs))
    place-variables n l =
        let c = h.gathered.variables-are in
        let d = names-take nodes n (length vs) lists.root (omega arith) ∙ ap (take n) (variable-names nodes vs lists.root vs-at) in
        rw d (alike-in (take n (names vs)) (named-take h.kinds (names vs) n vs-named))

    pub place-definitions : (n : ℕ) → n ≤ lists.definitions → place_in (packed low high) k 0 (names_down nodes (lists.root - lists.variables) n) ≡ place_in h.word k 0 (take n (titles ds))
    place-definitions n l =
        let c = h.gathered.definitions-are in
        let d = names-take nodes n (length ds) (lists.root - lists.variables) (omega arith) ∙ ap (take n) (definition-names nodes ds (lists.root - lists.variables) ds-at) in
        rw d (alike-in (take n (titles ds)) (named-take h.kinds (titles ds) n ds-named))

    pub all-variables : place_in (packed low high) k 0 (names_down nodes lists.root lists.variables) ≡ place_in h.word k 0 (names vs)
    all-variables = place-variables lists.variables (omega arith) ∙ ap (place_in h.word k 0) (take_all lists.variables (names vs) (omega (arith, h.gathered.variables-are, names-length vs)))

    pub all-definitions : place_in (packed low high) k 0 (names_down nodes (lists.root - lists.variables) lists.definitions) ≡ place_in h.word k 0 (titles ds)
    all-definitions = place-definitions lists.definitions (omega arith) ∙ ap (place_in h.word k 0) (take_all lists.definitions (titles ds) (omega (arith, h.gathered.definitions-are, titles-length ds)))

-- ---- locals
module _ {question : Question} {low high nodes : List ℕ} {lists : Lists} {scope : Scope} (h : Setting question low high nodes lists scope) (asks : asks_names question ≡ true) where
  abbrev w : World question low high nodes lists
  w = h.world

  locals-count : length h.locals ≡ scope.count
  locals-count = omega (arith, ap length (h.scoped.locals_are asks), length-take scope.count scope.names, h.scoped.full, h.scoped.count)

  module _ (k : ℕ) (e : get_or w.kinds k 0 ≡ kind.name) where
    pub in_scope : InScope low high scope k
    in_scope =
        let n = name-inside w k e in
        let c = locals-count in
        let at : (i : ℕ) → i < scope.count → get_or w.kinds (get_or scope.names i 0) 0 ≡ kind.name = λ i l.
        rw (ap (λ (ks : List ℕ). get_or ks i 0) (sym (h.scoped.locals_are asks)) ∙ get_or-take scope.count scope.names i 0 l) at (named-at w.kinds h.locals h.scoped.named i (omega arith)) in
        record {
          full = h.scoped.full;
          room = omega (arith, h.scoped.count);
          name-low = n.0;
          name-high = n.1;
          each-low = λ i l. (name-inside w (get_or scope.names i 0) (at i l)).0;
          each-high = λ i l. (name-inside w (get_or scope.names i 0) (at i l)).1;
        }

    pub place-locals : place_in (packed low high) k 0 (take scope.count scope.names) ≡ place_in w.word k 0 h.locals
    place-locals =
        rw (h.scoped.locals_are asks) (place-alike w.word (packed low high) w.kinds (w.alike asks) k e 0 h.locals h.scoped.named)
