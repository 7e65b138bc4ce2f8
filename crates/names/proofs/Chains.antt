-- A model's variables stand in the nodes from its root down, one a node, and its definitions in those below: how many there are, their names, and each of them.
-- From the forms of a tree.
use mathlib.Core.Path.{◌≡◌, refl, sym, ap, ap₂, ◌∙◌, subst}
use mathlib.Core.List.{List, [], ◌∷◌}
use Prim.Native.Nat.{ℕ, zero, suc, ◌+◌, ◌-◌, ◌≤◌, ◌<◌}
use native.Mathlib.Numerals.{add-one}
use native.Mathlib.Omega.{arith}
use borrow.Author.Tests.{eq-eqb, ne_eqb}
use lib.ListN.{length, get_or, take}
use lib.Dec.{eqb}
use mathlib.Core.Bool.{cond}
use lib.Seq.{take-suc}
use Rattle.std.specs.List.{prefix_len}
use Rattle.std.specs.Prelude.{reverse}
use Rattle.std.proofs.lemmas.List.{reverse-append}
use Rattle.grammar.specs.Syntax
use Rattle.tree.specs.Node as node
use Rattle.tree.specs.Node.{kind_of, left_of}
use Rattle.tree.specs.Table
use Rattle.tree.specs.Table.{Node}
use Rattle.tree.proofs.Interval.{kind_at, inside}
use Rattle.tree.proofs.Holds.{number-low, model-interval, definitions-interval, system-interval}
use Rattle.tree.proofs.Cells.{node-kind, node-token, node-left}
use Rattle.model.specs.Lists.{each, every_other}
use Rattle.model.specs.Sites.{Variable, Definition, variables, definitions, definitions_in, names, titles, tokens_of, params_of}
use Rattle.names.specs.Lists.{name_at, names_down, run, Gathered, DefinitionNode}

module _ (t : List ℕ) where
  -- ---- runs of nodes of one kind
  module _ (κ : ℕ) where
    pub run_on : (k : ℕ) → kind_at t (k + 1) ≡ κ → run t κ (k + 1) ≡ run t κ k + 1
    unfolding run
    run_on k e = rw (add-one k) (simp (eq-eqb (kind_at t (suc k)) κ (rw (← add-one k) e)) (omega arith))

    pub run-off : (k : ℕ) → (kind_at t k ≡ κ → ⊥) → run t κ k ≡ 0
    unfolding run
    run-off zero e = simp (ne_eqb (kind_at t 0) κ e)
    run-off (suc k) e = simp (ne_eqb (kind_at t (suc k)) κ e)

    counted : (k : ℕ) → k < length t → prefix_len (λ x. eqb (kind_of x) κ) (reverse (take (suc k) t)) ≡ run t κ k
    unfolding run
    counted zero l = rw (take-suc t zero 0 l) refl
    counted (suc k) l =
        rw (take-suc t (suc k) 0 l, reverse-append (take (suc k) t) (get_or t (suc k) 0 ∷ []), counted k (omega arith))
        (ap (λ (n : ℕ). cond (eqb (kind_at t (suc k)) κ) n 0) (omega arith))

    -- the run, counted from the node k down
    pub run_back : (k : ℕ) → k < length t → prefix_len (λ x. eqb (kind_of x) κ) (reverse (take (k + 1) t)) ≡ run t κ k
    run_back k l = rw add-one (counted k l)

  -- ---- how many variables and definitions
  pub variables-run : (m : Syntax.Model) (lo k : ℕ) → Table.Model t m lo k → (run t node.variable k ≡ length (variables m)) × (length (variables m) ≤ k)
  unfolding Table.Model variables
  variables-run (Syntax.definitions d) lo k h = (run-off node.variable k (λ e. omega (arith, (definitions-interval d).to h)), omega arith)
  variables-run (Syntax.variable n v m) lo k h =
      let r = variables-run m (h.left + 1) h.right h.holds-second in
      let e = h.above in
      let q = run_on node.variable h.right (rw e at (node-kind h.node (omega arith))) in
      (rw e (omega arith), omega arith)

  pub definitions-run : (d : Syntax.Definitions) (lo k : ℕ) → Table.Definitions t d lo k → (run t node.next k + 1 ≡ length (definitions_in d)) × (length (definitions_in d) ≤ k)
  unfolding Table.Definitions definitions_in
  definitions-run (Syntax.last_definition n p b s) lo k h =
      let q = run-off node.next k (λ e. omega (arith, node-kind h.node (omega arith))) in
      (omega arith, omega (arith, h.above))
  definitions-run (Syntax.next_definition n p b d) lo k h =
      let r = definitions-run d (h.left + 1) h.right h.holds-second in
      let e = h.above in
      let q = run_on node.next h.right (rw e at (node-kind h.node (omega arith))) in
      (rw e (omega arith), omega arith)

  -- the definitions stand below the variables
  pub below : (m : Syntax.Model) (lo k : ℕ) → Table.Model t m lo k → (d : Syntax.Definitions) × (l : ℕ) × Table.Definitions t d l (k - length (variables m)) × (definitions m ≡ definitions_in d)
  unfolding Table.Model variables definitions
  below (Syntax.definitions d) lo k h = let e : k - 0 ≡ k = omega arith in (d, lo, rw e h, refl)
  below (Syntax.variable n v m) lo k h =
      let r = below m (h.left + 1) h.right h.holds-second in
      let e : h.right - length (variables m) ≡ k - suc (length (variables m)) = omega (arith, h.above) in
      (r.0, r.1, subst (λ (x : ℕ). Table.Definitions t r.0 r.1 x) e r.2, r.3)

  -- ---- a variable and a definition in the node i of their list
  pub record VariableAt (v : Variable) (i : ℕ) : Type 0 where
    pub left : ℕ
    pub node : Node t i node.variable v.name left 0
    pub number : Table.Number t v.number left left
    pub below : left < i

  pub record DefinitionAt (d : Definition) (i : ℕ) : Type 0 where
    pub root : ℕ
    pub left : left_of (get_or t i 0) ≡ root
    pub other : kind_at t i ≡ node.variable → ⊥
    pub at : DefinitionNode t d root
    pub below : root < i

  pub variable-name : {v : Variable} {i : ℕ} → VariableAt v i → name_at t i ≡ v.name
  unfolding name_at
  variable-name {i = i} h = simp (eq-eqb (kind_at t i) node.variable (node-kind h.node (omega arith))) (node-token h.node (omega arith))

  pub definition-name : {d : Definition} {i : ℕ} → DefinitionAt d i → name_at t i ≡ d.name
  unfolding name_at
  definition-name {i = i} h = simp (ne_eqb (kind_at t i) node.variable h.other) (rw h.left (node-token h.at.node (omega arith)))

  first-variable : (n : ℕ) (v : Syntax.Number) (m : Syntax.Model) (lo k : ℕ) → Table.Model t (Syntax.variable n v m) lo k → VariableAt (record { name = n; number = v }) k
  unfolding Table.Model
  first-variable n v m lo k h =
      let l = sym (number-low t v lo h.left h.holds-first) in
      let q = (model-interval m).low h.holds-second in
      record { left = h.left; node = h.node; number = rw l at h.holds-first; below = omega (arith, h.above) }

  every-length : (k n : ℕ) → length (every_other k n) ≡ n
  unfolding every_other
  every-length k zero = refl
  every-length k (suc n) = ap suc (every-length (k + 2) n)

  definition-node : (n : ℕ) (p : Syntax.Params) (b : Syntax.Sums) (lo k : ℕ) → Table.Definition t n p b lo k → DefinitionNode t (record { name = n; params = params_of p; sums = b }) k
  unfolding Table.Definition params_of tokens_of
  definition-node n Syntax.no_params b lo k h =
      let e : h.root ≡ k - 1 = omega (arith, h.above) in
      record { node = h.node; after = omega (arith, h.above); low = lo; sums = rw e at h.holds }
  definition-node n (Syntax.params (Syntax.names f m)) b lo k h =
      let o = h.2 in
      let e : o.root ≡ k - 1 = omega (arith, o.above) in
      record { node = rw (every-length f m) o.node; after = omega (arith, o.above); low = lo; sums = rw e at o.holds }

  -- of the node above a definition and what follows it
  listed_by : (κ n : ℕ) (p : Syntax.Params) (b : Syntax.Sums) (lo left k : ℕ) → κ < 65 → Node t k κ 0 left 0 → Table.Definition t n p b lo left → left < k → DefinitionAt (record { name = n; params = params_of p; sums = b }) k
  listed_by κ n p b lo left k l h d u =
      record { root = left; left = node-left h (omega arith); other = λ e. omega (arith, node-kind h (omega arith)); at = definition-node n p b lo left d; below = u }

  -- ---- lists of them, one in each node from k down
  abbrev pub VariablesAt : List Variable → ℕ → Type 0
  VariablesAt [] k = Unit {0}
  VariablesAt (v ∷ vs) k = VariableAt v k × VariablesAt vs (k - 1)

  abbrev pub DefinitionsAt : List Definition → ℕ → Type 0
  DefinitionsAt [] k = Unit {0}
  DefinitionsAt (d ∷ ds) k = DefinitionAt d k × DefinitionsAt ds (k - 1)

  pub variables-at : (m : Syntax.Model) (lo k : ℕ) → Table.Model t m lo k → VariablesAt (variables m) k
  unfolding Table.Model variables
  variables-at (Syntax.definitions d) lo k h = tt
  variables-at (Syntax.variable n v m) lo k h =
      let e : h.right ≡ k - 1 = omega (arith, h.above) in
      (first-variable n v m lo k h, rw e at (variables-at m (h.left + 1) h.right h.holds-second))

  pub definitions-at : (d : Syntax.Definitions) (lo k : ℕ) → Table.Definitions t d lo k → DefinitionsAt (definitions_in d) k
  unfolding Table.Definitions definitions_in
  definitions-at (Syntax.last_definition n p b s) lo k h =
      let q = (system-interval s).low h.holds-second in
      (listed_by node.last n p b lo h.left k (omega arith) h.node h.holds-first (omega (arith, h.above)), tt)
  definitions-at (Syntax.next_definition n p b d) lo k h =
      let q = (definitions-interval d).low h.holds-second in
      let e : h.right ≡ k - 1 = omega (arith, h.above) in
      (listed_by node.next n p b lo h.left k (omega arith) h.node h.holds-first (omega (arith, h.above)), rw e at (definitions-at d (h.left + 1) h.right h.holds-second))

  -- their names
  pub variable-names : (vs : List Variable) (k : ℕ) → VariablesAt vs k → names_down t k (length vs) ≡ names vs
  unfolding names_down names each
  variable-names [] k h = refl
  variable-names (v ∷ vs) k h = ap₂ (λ (x : ℕ) (l : List ℕ). x ∷ l) (variable-name h.0) (variable-names vs (k - 1) h.1)

  pub definition-names : (ds : List Definition) (k : ℕ) → DefinitionsAt ds k → names_down t k (length ds) ≡ titles ds
  unfolding names_down titles each
  definition-names [] k h = refl
  definition-names (d ∷ ds) k h = ap₂ (λ (x : ℕ) (l : List ℕ). x ∷ l) (definition-name h.0) (definition-names ds (k - 1) h.1)

  -- the first n names of a list
  pub names-take : (n m k : ℕ) → n ≤ m → names_down t k n ≡ take n (names_down t k m)
  unfolding names_down
  names-take zero m k l = refl
  names-take (suc n) zero k l = absurd (omega arith)
  names-take (suc n) (suc m) k l = ap (λ (r : List ℕ). name_at t k ∷ r) (names-take n m (k - 1) (omega arith))

  -- ---- the cases of `lists_of`
  module _ (m : Syntax.Model) (lo root : ℕ) (h : Table.Model t m lo root) where
    pub root-inside : root < length t
    root-inside = inside (model-interval m) (omega arith) h

    pub variables-end : run t node.variable root ≤ root
    variables-end = let r = variables-run m lo root h in omega arith

    module _ (v : ℕ) (e : v ≡ run t node.variable root) where
      count-is : length (variables m) ≡ v
      count-is = sym (e ∙ (variables-run m lo root h).0)

      pub definitions-end : (root - v < length t) × (run t node.next (root - v) ≤ root - v)
      definitions-end =
          let b = rw count-is at (below m lo root h) in
          let r = definitions-run b.0 b.1 (root - v) b.2 in
          (inside (definitions-interval b.0) (omega arith) b.2, omega arith)

      pub gathered : (n : ℕ) → n ≡ run t node.next (root - v) → Gathered m root (record { root = root; variables = v; definitions = n + 1 })
      gathered n f =
          let b = rw count-is at (below m lo root h) in
          let r = definitions-run b.0 b.1 (root - v) b.2 in
          record { root_is = refl; variables-are = sym count-is; definitions-are = rw b.3 (omega arith) }
