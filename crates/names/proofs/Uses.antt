-- Question 9 of names that are used and called: what each return of the functions over them says. From the laws of look-ups.
use mathlib.Core.Path.{◌≡◌, refl, sym, ap, ◌∙◌, subst}
use mathlib.Core.List.{List}
use mathlib.Core.Bool.{Bool, true, false, cond, not, ◌||◌}
use mathlib.Core.Option.{Option, none, some}
use Prim.Native.Nat.{ℕ, ◌+◌, ◌-◌, ◌≤◌, ◌<◌}
use native.Mathlib.Omega.{arith}
use lib.Dec.{eqb}
use lib.ListN.{length, get_or, take}
use Rattle.std.specs.Prelude.{None, Some, is_some}
use Rattle.std.specs.Bool.{then_some}
use mathlib.Core.Logic.{◌⊎◌, inl, inr}
use Rattle.names.proofs.Earliest.{told}
use Rattle.token.specs.Questions.{Found}
use Rattle.grammar.proofs.Follows.{inside}
use Rattle.token.specs.Kind as kind
use Rattle.tree.specs.Node.{kind_of, left_of, third_of, number_kind}
use Rattle.tree.proofs.Interval.{kind_at}
use Rattle.tree.proofs.Cells.{node-kind, node-left, node-third}
use Rattle.model.specs.Lists.{when, earlier, least}
use Rattle.model.specs.Sites.{call, variables, definitions}
use Rattle.model.specs.Limits.{site_beyond}
use Rattle.model.specs.Fresh.{site_repeated}
use Rattle.model.specs.Given.{Meaning, local, variable, nothing, or_else, is_value, is_given, takes, place_in, variable_named, definition_named, meaning, is_callable, site_wrong}
use Rattle.names.specs.declared.Question.{Question}
use Rattle.names.specs.declared.Question.TheVariants.{Limits, Fresh, Given}
use Rattle.names.specs.declared.Lists.{Lists}
use Rattle.names.specs.declared.scope.Scope.{Scope}
use Rattle.names.specs.Faults.{asks_names, site_faults}
use Rattle.names.specs.Leaves.{used}
use Rattle.names.specs.Lists.{packed, found_of, names_down, NodeNamed}
use Rattle.names.specs.Settings.{World, Setting, faults_at}
use Rattle.names.proofs.Namings.{FoundVariable, variable-found, variable-none, FoundDefinition, definition-found, definition-none, whole-number}
use Rattle.names.proofs.Settled.{vs, ds, vs-at, ds-at, vs-few, reach-variables, all-variables, all-definitions, place-locals, root_in}
use Rattle.names.specs.Placed.{IsName}

pub some-place : {f : Found} (o : Option ℕ) {i : ℕ} → f ≡ found_of o → f ≡ Some i → o ≡ some i
unfolding found_of
some-place none e q = absurd (let z : ◌≡◌ {A = ℕ} 0 1 = cc in omega arith)
some-place (some j) e q = cc

pub no_place : {f : Found} (o : Option ℕ) → f ≡ found_of o → f ≡ None → o ≡ none
unfolding found_of
no_place none e q = refl
no_place (some j) e q = absurd (let z : ◌≡◌ {A = ℕ} 0 1 = cc in omega arith)

asks : asks_names Given ≡ true
unfolding asks_names
asks = refl

-- ---- the cases of `value_fault`, and of `scale_fault`
module _ {low high nodes : List ℕ} {lists : Lists} {scope : Scope} (h : Setting Given low high nodes lists scope) (k : ℕ) (e : get_or h.world.kinds k 0 ≡ kind.name) (scaling : Bool) where
  abbrev w : ℕ → List ℕ
  w = h.world.word

  judged-by : (s b : Bool) (m : Meaning) → meaning w (vs h.world) h.locals k ≡ m → cond s (is_given m) (is_value m) ≡ b → least (when (not b) k) ≡ least (faults_at h (used s k))
  unfolding faults_at site_faults site_wrong used
  judged-by true b m q f = rw (q, f)
  judged-by false b m q f = rw (q, f)

  judged : (b : Bool) (m : Meaning) → meaning w (vs h.world) h.locals k ≡ m → cond scaling (is_given m) (is_value m) ≡ b → least (when (not b) k) ≡ least (faults_at h (used scaling k))
  judged = judged-by scaling

  fault-free : {m : Meaning} → meaning w (vs h.world) h.locals k ≡ m → cond scaling (is_given m) (is_value m) ≡ true → None ≡ least (faults_at h (used scaling k))
  unfolding least when
  fault-free {m} q f = judged true m q f

  at-fault : {m : Meaning} → meaning w (vs h.world) h.locals k ≡ m → cond scaling (is_given m) (is_value m) ≡ false → Some k ≡ least (faults_at h (used scaling k))
  unfolding least when earlier
  at-fault {m} q f = judged false m q f

  either : {A : Type 0} (b : Bool) (x y : A) → x ≡ y → cond b x y ≡ y
  either true x y q = q
  either false x y q = refl

  off : (b : Bool) → b ≡ false → (x y : Bool) → cond b x y ≡ y
  off true q x y = absurd (let z : ◌≡◌ {A = ℕ} 0 1 = cc in omega arith)
  off false q x y = refl

  module _ {f : Found} (is : f ≡ found_of (place_in (packed low high) k 0 (take scope.count scope.names))) where
    pub local-used : {i : ℕ} → f ≡ Some i → None ≡ least (faults_at h (used scaling k))
    unfolding meaning or_else is_given is_value
    local-used {i} q =
        let o = sym (place-locals h asks k e) ∙ some-place (place_in (packed low high) k 0 (take scope.count scope.names)) is q in
        fault-free (ap (λ (o : Option ℕ). or_else o (variable_named w k (vs h.world))) o) (either scaling (is_given (local i)) (is_value (local i)) refl)

    module _ (no : f ≡ None) where
      by-variable : (m : Meaning) → variable_named w k (vs h.world) ≡ m → meaning w (vs h.world) h.locals k ≡ m
      unfolding meaning or_else
      by-variable m q =
          let o = sym (place-locals h asks k e) ∙ no_place (place_in (packed low high) k 0 (take scope.count scope.names)) is no in
          ap (λ (o : Option ℕ). or_else o (variable_named w k (vs h.world))) o ∙ q

      module _ {g : Found} (js : g ≡ found_of (place_in (packed low high) k 0 (names_down nodes lists.root lists.variables))) where
        pub not_listed : g ≡ None → Some k ≡ least (faults_at h (used scaling k))
        unfolding is_given is_value
        not_listed q =
            let o = sym (all-variables h.world asks k e) ∙ no_place (place_in (packed low high) k 0 (names_down nodes lists.root lists.variables)) js q in
            at-fault (by-variable nothing (variable-none w k nodes (vs h.world) 0 o)) (either scaling false false refl)

        module _ {j : ℕ} (q : g ≡ Some j) where
          pub found-variable : FoundVariable w k nodes (vs h.world) lists.root j
          found-variable =
              let o = sym (all-variables h.world asks k e) ∙ some-place (place_in (packed low high) k 0 (names_down nodes lists.root lists.variables)) js q in
              let z : j ≡ 0 + j = omega arith in
              variable-found w k nodes (vs h.world) lists.root 0 j (vs-at h.world) (o ∙ ap some z)

          pub listed-inside : (j ≤ lists.root) × (lists.root - j < length nodes) × (left_of (get_or nodes (lists.root - j) 0) < length nodes)
          listed-inside =
              let r = found-variable in
              let l = r.stands.below in
              (omega arith, omega (arith, root_in h.world), rw (node-left r.stands.node (omega arith)) (omega (arith, root_in h.world)))

          pub any-scale : scaling ≡ true → None ≡ least (faults_at h (used scaling k))
          unfolding is_given
          any-scale s = fault-free (by-variable (variable found-variable.found.number) found-variable.means) (rw s)

          module _ (s : scaling ≡ false) (κ : ℕ) (κ-is : κ ≡ kind_of (get_or nodes (left_of (get_or nodes (lists.root - j) 0)) 0)) where
            number_is : is_value (variable found-variable.found.number) ≡ (eqb κ (number_kind false false) || eqb κ (number_kind true false))
            number_is =
                let r = found-variable.stands in
                let c : κ ≡ kind_at nodes r.left = κ-is ∙ ap (λ (l : ℕ). kind_at nodes l) (node-left r.node (omega arith)) in
                rw c (whole-number nodes found-variable.found.number r.left r.left r.number)

            pub whole-variable : (b : Bool) → b ≡ (eqb κ (number_kind false false) || eqb κ (number_kind true false)) → then_some (not b) k ≡ least (faults_at h (used scaling k))
            whole-variable b f = told (not b) k ∙ judged b (variable found-variable.found.number) (by-variable (variable found-variable.found.number) found-variable.means) (off scaling s _ _ ∙ number_is ∙ sym f)

  -- a scale, by both look-ups
  module _ {f g : Found} (is : f ≡ found_of (place_in (packed low high) k 0 (take scope.count scope.names))) (js : g ≡ found_of (place_in (packed low high) k 0 (names_down nodes lists.root lists.variables))) where
    scaled-by : scaling ≡ true → (a b : Found) → f ≡ a → g ≡ b → then_some (not (is_some a || is_some b)) k ≡ least (faults_at h (used scaling k))
    scaled-by s (Some i) b p r = local-used is p
    scaled-by s None (Some j) p r = any-scale is p js r s
    scaled-by s None None p r = not_listed is p js r

    pub scaled : scaling ≡ true → (b : Bool) → b ≡ (is_some f || is_some g) → then_some (not b) k ≡ least (faults_at h (used scaling k))
    scaled s b q = rw q (scaled-by s f g refl refl)

-- ---- the cases of `definition_node`
module _ {low high nodes : List ℕ} {lists : Lists} (h : World Given low high nodes lists) (k : ℕ) (e : IsName h.kinds k) where
  pub variables-below : lists.variables ≤ lists.root
  variables-below = omega (arith, (reach-variables h lists.variables (omega arith)).count, vs-few h, h.gathered.variables-are)

  module _ {f : Found} (is : f ≡ found_of (place_in (packed low high) k 0 (names_down nodes (lists.root - lists.variables) lists.definitions))) where
    pub not-defined : f ≡ None → definition_named h.word k 0 (ds h) ≡ none
    not-defined q =
        let o = sym (all-definitions h asks k e) ∙ no_place (place_in (packed low high) k 0 (names_down nodes (lists.root - lists.variables) lists.definitions)) is q in
        definition-none h.word k nodes (ds h) 0 o

    module _ {j : ℕ} (q : f ≡ Some j) where
      found-definition : FoundDefinition h.word k nodes (ds h) (lists.root - lists.variables) 0 j
      found-definition =
          let o = sym (all-definitions h asks k e) ∙ some-place (place_in (packed low high) k 0 (names_down nodes (lists.root - lists.variables) lists.definitions)) is q in
          let z : j ≡ 0 + j = omega arith in
          definition-found h.word k nodes (ds h) (lists.root - lists.variables) 0 j (ds-at h) (o ∙ ap some z)

      pub defined-inside : (j ≤ lists.root - lists.variables) × (lists.root - lists.variables - j < length nodes)
      defined-inside =
          let r = found-definition in
          let l = r.stands.below in
          (omega arith, omega (arith, root_in h))

      pub defined-node : NodeNamed nodes h.word (ds h) k (Some (left_of (get_or nodes (lists.root - lists.variables - j) 0)))
      defined-node =
          let r = found-definition in
          ((0 + j, r.found), r.means, rw r.stands.left r.stands.at)

-- ---- the cases of `is_callable`
module _ {low high nodes : List ℕ} {lists : Lists} (h : World Given low high nodes lists) (k : ℕ) {f : Found} (is : NodeNamed nodes h.word (ds h) k f) where
  pub not-callable : (n : ℕ) → f ≡ None → false ≡ is_callable h.word (ds h) k n
  unfolding is_callable takes
  not-callable n q = let d : definition_named h.word k 0 (ds h) ≡ none = rw q at is in rw d refl

  module _ {i : ℕ} (q : f ≡ Some i) where
    pub found-node : NodeNamed nodes h.word (ds h) k (Some i)
    found-node = rw q at is

    pub node-inside : i < length nodes
    unfolding kind_of
    node-inside = inside nodes i (omega (arith, node-kind found-node.2.node (omega arith)))

    pub node-takes : (n m : ℕ) → m ≡ third_of (get_or nodes i 0) → eqb m n ≡ is_callable h.word (ds h) k n
    unfolding is_callable takes
    node-takes n m c =
        let d = found-node in
        let p : m ≡ length d.0.1.params = c ∙ node-third d.2.node (omega arith) in
        rw p (sym (ap (takes n) d.1))

-- ---- the cases of `call_fault`
module _ (low high nodes : List ℕ) (lists : Lists) (k n : ℕ) where
  abbrev CallAnswer : Found → Question → Type 0
  CallAnswer r q = (h : World q low high nodes lists) (sc : List ℕ) → IsName h.kinds k → r ≡ least (site_faults q h.word (variables h.model) (definitions h.model) sc (call k n))

  -- what is asked of a call under 9
  pub given-call : {q : Question} → q ≡ Given → (h : World q low high nodes lists) × IsName h.kinds k → (h : World Given low high nodes lists) × IsName h.kinds k
  given-call e h = subst (λ (q : Question). (h : World q low high nodes lists) × IsName h.kinds k) e h

  in-limits : CallAnswer None Limits
  unfolding site_faults site_beyond least
  in-limits h sc e = refl

  in-fresh : CallAnswer None Fresh
  unfolding site_faults site_repeated least
  in-fresh h sc e = refl

  pub call-free : {q : Question} → (q ≡ Limits) ⊎ (q ≡ Fresh) → CallAnswer None q
  call-free (inl e) = subst (CallAnswer None) (sym e) in-limits
  call-free (inr e) = subst (CallAnswer None) (sym e) in-fresh

  module _ {b : Bool} (is : (h : World Given low high nodes lists) → IsName h.kinds k → b ≡ is_callable h.word (definitions h.model) k n) where
    in-given : CallAnswer (then_some (not b) k) Given
    unfolding site_faults site_wrong
    in-given h sc e = told (not b) k ∙ rw (is h e)

    pub call-asked : {q : Question} {r : Found} → q ≡ Given → r ≡ then_some (not b) k → CallAnswer r q
    call-asked e t = rw (t, e) in-given
