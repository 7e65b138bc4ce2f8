-- Variables and definitions are found in the table of nodes while it is being resolved: their nodes stay. From look-ups in the reader's table.
use mathlib.Core.Path.{◌≡◌, refl, sym, ap, ap₂, ◌∙◌}
use mathlib.Core.List.{List, [], ◌∷◌}
use mathlib.Core.Bool.{Bool, true, false}
use mathlib.Core.Option.{Option, some}
use Prim.Native.Nat.{ℕ, zero, suc, ◌+◌, ◌-◌, ◌≤◌, ◌<◌, min}
use native.Mathlib.Omega.{arith}
use lib.ListN.{length, get_or, take, length-take}
use Rattle.std.specs.Prelude.{None, Some}
use Rattle.std.specs.Option.{unwrap_or}
use Rattle.token.specs.Questions.{Found}
use Rattle.word.specs.Number.{worth, cap}
use Rattle.token.specs.Kind as kind
use Rattle.grammar.proofs.Follows.{inside}
use Rattle.model.proofs.Members.{not-both, got-below}
use Rattle.grammar.specs.Syntax
use Rattle.tree.specs.Node.{kind_of, token_of, left_of, number_kind}
use Rattle.tree.specs.Table
use Rattle.tree.specs.Table.{Node}
use Rattle.tree.proofs.Cells.{node-kind, node-token, node-left}
use Rattle.model.specs.Limits.{local_limit}
use Rattle.model.specs.Sites.{names, titles}
use Rattle.model.specs.Given.{Meaning, local, variable, nothing, or_else, place_in, variable_named, meaning}
use Rattle.model.specs.Resolved.{definition_number}
use Rattle.model.proofs.Meanings.{Placed, found, absent, placed, Means, a_local, a_variable, unknown, means}
use Rattle.names.specs.declared.Question.TheVariants.{Given}
use Rattle.names.specs.declared.Lists.{Lists}
use Rattle.names.specs.Faults.{asks_names}
use Rattle.names.specs.declared.scope.Scope.{Scope}
use Rattle.names.specs.Lists.{packed, found_of, name_at, names_down, Reach, InScope}
use Rattle.names.specs.Placed.{IsName, SortFits, sort_of}
use Rattle.names.specs.Settings.{World, Setting}
use Rattle.names.proofs.Namings.{FoundVariable, variable-found, variable-none, definition-found, definition-none}
use Rattle.names.proofs.Settled.{node-fits, name-inside, vs-at, ds-at, vs-few, root_in, reach-variables, reach-definitions, all-variables, all-definitions, in_scope, place-locals}
use Rattle.names.proofs.Uses.{some-place, no_place}
use Rattle.settle.specs.Walks.{definition_of, NumberSafe}
use Rattle.settle.specs.Places.{Told, Lookup, word_in, kinds_in, variables_in, definitions_of, NumberNode, Place, meaning_at}

-- ---- a table some of whose nodes stay

module _ (t nodes : List ℕ) where
  abbrev Stays : ℕ → Type 0
  Stays i = (get_or nodes i 0 ≡ get_or t i 0) × (get_or nodes (left_of (get_or t i 0)) 0 ≡ get_or t (left_of (get_or t i 0)) 0)

  name-kept : (i : ℕ) → Stays i → name_at nodes i ≡ name_at t i
  unfolding name_at
  name-kept i h = rw (h.0, h.1)

  names-kept : (i n : ℕ) → ((j : ℕ) → j < n → Stays (i - j)) → names_down nodes i n ≡ names_down t i n
  unfolding names_down
  names-kept i zero h = refl
  names-kept i (suc n) h =
      let e : i - 0 ≡ i = omega arith in
      ap₂ (λ (x : ℕ) (l : List ℕ). x ∷ l) (name-kept i (rw e at (h 0 (omega arith))))
      (names-kept (i - 1) n (λ j l. let f : i - suc j ≡ i - 1 - j = omega arith in rw f at (h (suc j) (omega arith))))

  reach-kept : (low high : List ℕ) (i n : ℕ) → length nodes ≡ length t → ((j : ℕ) → j < n → Stays (i - j)) → Reach low high t i n → Reach low high nodes i n
  reach-kept low high i n size h r =
      record {
        count = r.count;
        each = λ j l.
            let x = r.each j l in
            let s = h j l in
            let e = name-kept (i - j) s in
            record { node = omega (arith, x.node); left = rw s.0 (omega (arith, x.left)); in-low = rw e x.in-low; in-high = rw e x.in-high };
      }

number_small : (b d : Bool) → number_kind b d < 256
unfolding number_kind
number_small true true = omega arith
number_small true false = omega arith
number_small false true = omega arith
number_small false false = omega arith

module _ {low high nodes : List ℕ} {lists : Lists} (h : Lookup low high nodes lists) where
  abbrev t : List ℕ
  t = h.table

  abbrev world : World Given low high t lists
  world = h.base.world

  pub asks : asks_names Given ≡ true
  unfolding asks_names
  asks = refl

  variables-stay : (j : ℕ) → j < lists.variables → Stays t nodes (lists.root - j)
  variables-stay j l = (h.kept.variables j l, h.kept.numbers j l)

  definitions-stay : (j : ℕ) → j < lists.definitions → Stays t nodes (lists.root - lists.variables - j)
  definitions-stay j l = (h.kept.chain j l, h.kept.definitions j l)

  pub variables-reach : Reach low high nodes lists.root lists.variables
  variables-reach = reach-kept t nodes low high lists.root lists.variables h.kept.size variables-stay (reach-variables world lists.variables (omega arith))

  pub definitions-reach : Reach low high nodes (lists.root - lists.variables) lists.definitions
  definitions-reach = reach-kept t nodes low high (lists.root - lists.variables) lists.definitions h.kept.size definitions-stay (reach-definitions world lists.definitions (omega arith))

  pub variables-below : lists.variables ≤ lists.root
  variables-below = omega (arith, vs-few world, world.gathered.variables-are)

  pub in_tables : (k : ℕ) → IsName (kinds_in h) k → (k < length low) × (k < length high)
  in_tables k e = name-inside world k e

  module _ (k : ℕ) (e : IsName (kinds_in h) k) where
    -- ---- the cases of `number_named`

    -- the contents of a whole number's token
    whole-told : {left third : ℕ} (b d : Bool) (j i : ℕ) → Node t i (number_kind b d) j left third → number_kind b d < 256 → d ≡ false → i ≤ lists.root → (j < length low) × (get_or low j 0 ≡ min cap (worth 0 (word_in h j)))
    unfolding sort_of SortFits number_kind
    whole-told {third = third} b d j i n small z u =
        let f = node-fits (kinds_in h) n small (world.placed i u) in
        let w = by third b d z f in
        (omega (arith, inside (kinds_in h) j (omega arith), world.lows), world.numbers j w)
      where
        by : (third : ℕ) (b d : Bool) → d ≡ false → SortFits (sort_of (number_kind b d)) (kinds_in h) j third → get_or (kinds_in h) j 0 ≡ kind.whole
        by third true false z f = f
        by third false false z f = f
        by third b true z f = not-both refl z

    -- a name that stands for a variable stands for a number in range
    pub variable-safe : (s : Syntax.Number) → variable_named (word_in h) k (variables_in h) ≡ variable s → NumberSafe (word_in h) (Told low (word_in h)) s
    unfolding meaning or_else place_in
    variable-safe s q = by (variable_named (word_in h) k (variables_in h)) (means (word_in h) k (variables_in h) []) q
      where
        by : (o : Meaning) → Means (word_in h) k (variables_in h) [] o → o ≡ variable s → NumberSafe (word_in h) (Told low (word_in h)) s
        by o (a_local i g x) q = absurd (let z : ◌≡◌ {A = ℕ} 0 1 = cc in omega arith)
        by o (a_variable {v = v} n i x) q = let z : v.number ≡ s = cc in rw z at (h.base.numbers v i)
        by o (unknown n f) q = absurd (let z : ◌≡◌ {A = ℕ} 0 1 = cc in omega arith)

    number-node : (s : Syntax.Number) (l i c : ℕ) → NumberSafe (word_in h) (Told low (word_in h)) s → Table.Number t s l i → i ≤ lists.root → c ≡ get_or t i 0 → NumberNode low (word_in h) (variable s) c
    unfolding Table.Number
    number-node (Syntax.number b false j) l i c v n u q =
        let small : number_kind b false < 256 = number_small b false in
        let r = whole-told b false j i n.node small refl u in
        (record { kind-is = ap kind_of q ∙ node-kind n.node small; inside = r.0; wholes = λ z. r.1; safe = v }, ap token_of q ∙ node-token n.node small)
    number-node (Syntax.number b true j) l i c v n u q =
        let small : number_kind b true < 256 = number_small b true in
        (record { kind-is = ap kind_of q ∙ node-kind n.node small; inside = v.1.0; wholes = λ z. not-both refl z; safe = v }, ap token_of q ∙ node-token n.node small)

    module _ {f : Found} (is : f ≡ found_of (place_in (packed low high) k 0 (names_down nodes lists.root lists.variables))) where
      place_is : place_in (packed low high) k 0 (names_down nodes lists.root lists.variables) ≡ place_in (word_in h) k 0 (names (variables_in h))
      place_is = ap (place_in (packed low high) k 0) (names-kept t nodes lists.root lists.variables variables-stay) ∙ all-variables world asks k e

      pub not_named : f ≡ None → variable_named (word_in h) k (variables_in h) ≡ nothing
      not_named q =
          let o = sym place_is ∙ no_place (place_in (packed low high) k 0 (names_down nodes lists.root lists.variables)) is q in
          variable-none (word_in h) k t (variables_in h) 0 o

      module _ {j : ℕ} (q : f ≡ Some j) where
        found-variable : FoundVariable (word_in h) k t (variables_in h) lists.root j
        found-variable =
            let o = sym place_is ∙ some-place (place_in (packed low high) k 0 (names_down nodes lists.root lists.variables)) is q in
            let z : j ≡ 0 + j = omega arith in
            variable-found (word_in h) k t (variables_in h) lists.root 0 j (vs-at world) (o ∙ ap (λ (n : ℕ). some n) z)

        number_at : j < lists.variables
        number_at = omega (arith, found-variable.few, world.gathered.variables-are)

        pub named-inside : (j ≤ lists.root) × (lists.root - j < length nodes) × (left_of (get_or nodes (lists.root - j) 0) < length nodes)
        named-inside =
            let r = found-variable in
            let l = r.stands.below in
            let s = variables-stay j number_at in
            (omega (arith, variables-below, number_at), omega (arith, root_in world, h.kept.size), rw (s.0, node-left r.stands.node (omega arith)) (omega (arith, root_in world, h.kept.size)))

        pub named-number : (c : ℕ) → c ≡ get_or nodes (left_of (get_or nodes (lists.root - j) 0)) 0 → NumberNode low (word_in h) (variable_named (word_in h) k (variables_in h)) c
        named-number c x =
            let r = found-variable in
            let s = variables-stay j number_at in
            let y : c ≡ get_or t r.stands.left 0 = x ∙ ap (λ (i : ℕ). get_or nodes (left_of i) 0) s.0 ∙ s.1 ∙ ap (λ (i : ℕ). get_or t i 0) (node-left r.stands.node (omega arith)) in
            rw r.means (number-node r.found.number r.stands.left r.stands.left c (variable-safe r.found.number r.means) r.stands.number (omega (arith, r.stands.below)) y)

    -- ---- the cases of `definition_named`
    module _ {f : Found} (is : f ≡ found_of (place_in (packed low high) k 0 (names_down nodes (lists.root - lists.variables) lists.definitions))) where
      definition-place : place_in (packed low high) k 0 (names_down nodes (lists.root - lists.variables) lists.definitions) ≡ place_in (word_in h) k 0 (titles (definitions_of h))
      definition-place = ap (place_in (packed low high) k 0) (names-kept t nodes (lists.root - lists.variables) lists.definitions definitions-stay) ∙ all-definitions world asks k e

      not-defined : f ≡ None → 0 ≡ definition_of (word_in h) (variables_in h) (definitions_of h) k
      unfolding definition_number
      not-defined q =
          let o = sym definition-place ∙ no_place (place_in (packed low high) k 0 (names_down nodes (lists.root - lists.variables) lists.definitions)) is q in
          rw (definition-none (word_in h) k t (definitions_of h) 0 o)

      is-defined : {j : ℕ} → f ≡ Some j → j ≡ definition_of (word_in h) (variables_in h) (definitions_of h) k
      unfolding definition_number
      is-defined {j} q =
          let o = sym definition-place ∙ some-place (place_in (packed low high) k 0 (names_down nodes (lists.root - lists.variables) lists.definitions)) is q in
          let z : j ≡ 0 + j = omega arith in
          let r = definition-found (word_in h) k t (definitions_of h) (lists.root - lists.variables) 0 j (ds-at world) (o ∙ ap (λ (n : ℕ). some n) z) in
          rw r.means z

      pub number-or : unwrap_or f 0 ≡ definition_of (word_in h) (variables_in h) (definitions_of h) k
      number-or = by f refl
        where
          by : (g : Found) → f ≡ g → unwrap_or f 0 ≡ definition_of (word_in h) (variables_in h) (definitions_of h) k
          by None q = rw q (not-defined q)
          by (Some j) q = rw q (is-defined q)

-- ---- names in scope

pub place-below : {n : ℕ} (w : ℕ → List ℕ) (k : ℕ) (xs : List ℕ) (j : ℕ) → place_in w k 0 xs ≡ some j → length xs ≤ n → j < n
place-below {n} w k xs j e l = by (place_in w k 0 xs) (placed w k 0 xs) e
  where
    by : (o : Option ℕ) → Placed w k xs 0 o → o ≡ some j → j < n
    by o (found i g z) q = let y : 0 + i ≡ j = cc in let b = got-below xs i g in omega arith
    by o (absent z) q = absurd (let y : ◌≡◌ {A = ℕ} 0 1 = cc in omega arith)

module _ {low high nodes : List ℕ} {lists : Lists} {scope : Scope} (h : Place low high nodes lists scope) (k : ℕ) (e : IsName (kinds_in h.at) k) where
  setting : Setting Given low high h.at.table lists scope
  setting = record { world = h.at.base.world; locals = h.locals; scoped = h.scoped }

  pub look_up : InScope low high scope k
  unfolding setting
  look_up = in_scope setting (asks h.at) k e

  module _ {f : Found} (is : f ≡ found_of (place_in (packed low high) k 0 (take scope.count scope.names))) where
    local-place : place_in (packed low high) k 0 (take scope.count scope.names) ≡ place_in (word_in h.at) k 0 h.locals
    unfolding setting
    local-place = place-locals setting (asks h.at) k e

    pub a-local : {j : ℕ} → f ≡ Some j → (meaning_at h k ≡ local j) × (j < local_limit)
    unfolding meaning or_else
    a-local {j} q =
        let o = sym local-place ∙ some-place (place_in (packed low high) k 0 (take scope.count scope.names)) is q in
        (rw o, place-below (word_in h.at) k h.locals j o (omega (arith, ap length (h.scoped.locals_are (asks h.at)), length-take scope.count scope.names, h.scoped.count)))

    pub no_local : f ≡ None → meaning_at h k ≡ variable_named (word_in h.at) k (variables_in h.at)
    unfolding meaning or_else
    no_local q =
        let o = sym local-place ∙ no_place (place_in (packed low high) k 0 (take scope.count scope.names)) is q in
        rw o
