-- The faults of a node that is a leaf, and of the leaves among many nodes: what each return, and each turn of the loop, needs. From the sites that leaves are.
use mathlib.Core.Path.{◌≡◌, refl, sym, ap, ◌∙◌, subst}
use mathlib.Core.List.{List, [], ◌∷◌, ◌++◌, append-nil, append_assoc}
use mathlib.Core.Bool.{Bool, true, false, cond, ◌||◌}
use mathlib.Core.Logic.{◌⊎◌, inl, inr, ⊎_elim}
use Prim.Native.Nat.{ℕ, zero, suc, ◌+◌, ◌≤◌, ◌<◌, min}
use native.Mathlib.Omega.{arith}
use borrow.Author.Tests.{ne_eqb}
use lib.Dec.{eqb}
use lib.ListN.{length, get_or}
use Rattle.std.specs.Prelude.{None}
use Rattle.std.specs.List.{reduce, filter_map, range_with_len}
use Rattle.token.specs.Questions.{Found}
use Rattle.word.specs.Number.{worth, cap}
use Rattle.grammar.proofs.Follows.{inside}
use Rattle.tree.specs.Node.{kind_of, token_of, third_of, number_kind}
use Rattle.model.specs.Lists.{each, least}
use Rattle.model.specs.Sites.{Site, whole, value, scale}
use Rattle.model.specs.Limits.{site_beyond, whole_beyond}
use Rattle.model.specs.Fresh.{site_repeated}
use Rattle.model.specs.Given.{site_wrong}
use Rattle.names.specs.declared.Question.{Question}
use Rattle.names.specs.declared.Question.TheVariants.{Limits, Fresh, Given}
use Rattle.names.specs.declared.Lists.{Lists}
use Rattle.names.specs.declared.scope.Scope.{Scope}
use Rattle.names.specs.Faults.{earlier_of, site_faults}
use Rattle.names.specs.Leaves.{used, leaf_sites, site_at, between}
use Rattle.names.specs.Placed.{IsName, Sort, wholes, names, sort_of, SortFits}
use Rattle.names.specs.Settings.{World, Setting, faults_at}
use Rattle.names.proofs.Earliest.{least-append, least_picked}

-- ---- leaves by their kinds
module _ (κ k : ℕ) where
  pub plain-sort : (κ ≡ 1) ⊎ (κ ≡ 29) → sort_of κ ≡ wholes
  unfolding sort_of number_kind
  plain-sort = ⊎_elim (λ e. rw e) (λ e. rw e)

  pub negated-sort : (κ ≡ 2) ⊎ (κ ≡ 30) → sort_of κ ≡ wholes
  unfolding sort_of number_kind
  negated-sort = ⊎_elim (λ e. rw e) (λ e. rw e)

  plain-leaf : (κ ≡ 1) ⊎ (κ ≡ 29) → leaf_sites κ k ≡ whole false k ∷ []
  unfolding leaf_sites number_kind
  plain-leaf = ⊎_elim (λ e. rw e) (λ e. rw e)

  negated-leaf : (κ ≡ 2) ⊎ (κ ≡ 30) → leaf_sites κ k ≡ whole true k ∷ []
  unfolding leaf_sites number_kind
  negated-leaf = ⊎_elim (λ e. rw e) (λ e. rw e)

  -- one site
  one : (f : Site → List ℕ) (x : Site) (xs : List Site) → xs ≡ x ∷ [] → f x ≡ each f xs
  unfolding each
  one f x xs e = rw e (sym (append-nil (f x)))

  -- ---- the cases of `number_fault`
  module _ {r : Found} (w : ℕ → List ℕ) (sc : List ℕ) where
    pub plain-number : (κ ≡ 1) ⊎ (κ ≡ 29) → r ≡ least (whole_beyond w false k) → r ≡ least (each (site_beyond w sc) (leaf_sites κ k))
    unfolding site_beyond
    plain-number e q = q ∙ ap least (one (site_beyond w sc) (whole false k) (leaf_sites κ k) (plain-leaf e))

    pub negated-number : (κ ≡ 2) ⊎ (κ ≡ 30) → r ≡ least (whole_beyond w true k) → r ≡ least (each (site_beyond w sc) (leaf_sites κ k))
    unfolding site_beyond
    negated-number e q = q ∙ ap least (one (site_beyond w sc) (whole true k) (leaf_sites κ k) (negated-leaf e))

  pub no_number : (w : ℕ → List ℕ) (sc : List ℕ) → ((κ ≡ 1) ⊎ (κ ≡ 29) → ⊥) → ((κ ≡ 2) ⊎ (κ ≡ 30) → ⊥) → None ≡ least (each (site_beyond w sc) (leaf_sites κ k))
  unfolding leaf_sites number_kind each least site_beyond
  no_number w sc a b =
      simp (ne_eqb κ 1 (λ e. a (inl e)), ne_eqb κ 29 (λ e. a (inr e)), ne_eqb κ 2 (λ e. b (inl e)), ne_eqb κ 30 (λ e. b (inr e))) (by (eqb κ 3) (eqb κ 33))
    where
      by : (p q : Bool) → None ≡ least (each (site_beyond w sc) (cond p (value k ∷ []) (cond q (scale k ∷ []) [])))
      by true q = refl
      by false true = refl
      by false false = refl

  -- ---- the cases of `used_fault`
  pub name-sort : (κ ≡ 3) ⊎ (κ ≡ 33) → sort_of κ ≡ names
  unfolding sort_of number_kind
  name-sort = ⊎_elim (λ e. rw e) (λ e. rw e)

  module _ {low high nodes : List ℕ} {lists : Lists} {scope : Scope} (h : Setting Given low high nodes lists scope) where
    pub value-used : {r : Found} → κ ≡ 3 → r ≡ least (faults_at h (used false k)) → r ≡ least (each (faults_at h) (leaf_sites κ k))
    unfolding leaf_sites number_kind used
    value-used e q = q ∙ ap least (one (faults_at h) (value k) (leaf_sites κ k) (rw e))

    pub scale-used : {r : Found} → κ ≡ 33 → r ≡ least (faults_at h (used true k)) → r ≡ least (each (faults_at h) (leaf_sites κ k))
    unfolding leaf_sites number_kind used
    scale-used e q = q ∙ ap least (one (faults_at h) (scale k) (leaf_sites κ k) (rw e))

    pub not-used : (κ ≡ 3 → ⊥) → (κ ≡ 33 → ⊥) → None ≡ least (each (faults_at h) (leaf_sites κ k))
    unfolding leaf_sites each least faults_at site_faults site_wrong
    not-used a b = simp (ne_eqb κ 3 a, ne_eqb κ 33 b) (by (eqb κ 1 || eqb κ (number_kind false false)) (eqb κ 2 || eqb κ (number_kind true false)))
      where
        by : (p q : Bool) → None ≡ least (each (faults_at h) (cond p (whole false k ∷ []) (cond q (whole true k ∷ []) [])))
        by true q = refl
        by false true = refl
        by false false = refl

  -- 8 asks nothing of leaves
  not-fresh : {low high nodes : List ℕ} {lists : Lists} {scope : Scope} (h : Setting Fresh low high nodes lists scope) → None ≡ least (each (faults_at h) (leaf_sites κ k))
  unfolding leaf_sites each least faults_at site_faults site_repeated
  not-fresh h = by (eqb κ 1 || eqb κ (number_kind false false)) (eqb κ 2 || eqb κ (number_kind true false)) (eqb κ 3) (eqb κ 33)
    where
      by : (p q a b : Bool) → None ≡ least (each (faults_at h) (cond p (whole false k ∷ []) (cond q (whole true k ∷ []) (cond a (value k ∷ []) (cond b (scale k ∷ []) [])))))
      by true q a b = refl
      by false true a b = refl
      by false false true b = refl
      by false false false true = refl
      by false false false false = refl

-- ---- the cases of `leaf_fault`
module _ (low high nodes : List ℕ) (lists : Lists) (i : ℕ) (l : i ≤ lists.root) (κ k : ℕ) (κ-is : κ ≡ kind_of (get_or nodes i 0)) (k-is : k ≡ token_of (get_or nodes i 0)) where
  sort-fits : {q : Question} (h : World q low high nodes lists) (s : Sort) → sort_of κ ≡ s → SortFits s h.kinds k (third_of (get_or nodes i 0))
  sort-fits h s e = rw e at (rw (← κ-is, ← k-is) at (h.placed i l))

  pub whole-there : {q : Question} (h : World q low high nodes lists) → sort_of κ ≡ wholes → (k < length low) × (get_or low k 0 ≤ cap) × (get_or low k 0 ≡ min cap (worth 0 (h.word k)))
  unfolding SortFits
  whole-there h e =
      let f = sort-fits h wholes e in
      let n = h.numbers k f in
      (omega (arith, inside h.kinds k (omega arith), h.lows), omega arith, n)

  pub name-there : {q : Question} (h : World q low high nodes lists) → sort_of κ ≡ names → IsName h.kinds k
  unfolding SortFits
  name-there h e = sort-fits h names e

  module _ (scope : Scope) where
    abbrev LeafAnswer : Found → Question → Type 0
    LeafAnswer r q = (h : Setting q low high nodes lists scope) → r ≡ least (each (faults_at h) (site_at nodes i))

    as-leaf : (f : Site → List ℕ) → least (each f (leaf_sites κ k)) ≡ least (each f (site_at nodes i))
    unfolding site_at
    as-leaf f = rw (κ-is, k-is)

    limits-leaf : {r : Found} → ((w : ℕ → List ℕ) (sc : List ℕ) → (sort_of κ ≡ wholes → get_or low k 0 ≡ min cap (worth 0 (w k))) → r ≡ least (each (site_beyond w sc) (leaf_sites κ k))) → LeafAnswer r Limits
    unfolding faults_at site_faults
    limits-leaf f h = f h.world.word h.locals (λ e. (whole-there h.world e).2) ∙ as-leaf (site_beyond h.world.word h.locals)

    pub leaf-limits : {q : Question} {r : Found} → q ≡ Limits → ((w : ℕ → List ℕ) (sc : List ℕ) → (sort_of κ ≡ wholes → get_or low k 0 ≡ min cap (worth 0 (w k))) → r ≡ least (each (site_beyond w sc) (leaf_sites κ k))) → LeafAnswer r q
    leaf-limits {r = r} e f = subst (LeafAnswer r) (sym e) (limits-leaf f)

    pub leaf-fresh : {q : Question} → q ≡ Fresh → LeafAnswer None q
    leaf-fresh e = subst (LeafAnswer None) (sym e) (λ h. not-fresh κ k h ∙ as-leaf (faults_at h))

    pub given-leaf : {q : Question} → q ≡ Given → Setting q low high nodes lists scope → (h : Setting Given low high nodes lists scope) × (sort_of κ ≡ names → IsName h.world.kinds k)
    given-leaf e h = subst (λ (q : Question). (h : Setting q low high nodes lists scope) × (sort_of κ ≡ names → IsName h.world.kinds k)) e (h, name-there h.world)

    pub leaf-given : {q : Question} {r : Found} → q ≡ Given → ((h : Setting Given low high nodes lists scope) → (sort_of κ ≡ names → IsName h.world.kinds k) → r ≡ least (each (faults_at h) (leaf_sites κ k))) → LeafAnswer r q
    leaf-given {r = r} e f = subst (LeafAnswer r) (sym e) (λ h. f h (name-there h.world) ∙ as-leaf (faults_at h))

-- ---- the loop of `leaves_fault`
module _ (t : List ℕ) (f : Site → List ℕ) where
  pub each_append : (xs ys : List Site) → each f (xs ++ ys) ≡ each f xs ++ each f ys
  unfolding each
  each_append [] ys = refl
  each_append (x ∷ xs) ys = ap (λ (l : List ℕ). f x ++ l) (each_append xs ys) ∙ sym (append_assoc (f x) (each f xs) (each f ys))

  pub leaves_picked : (i n : ℕ) → reduce min (filter_map (λ j. least (each f (site_at t j))) (range_with_len i n)) ≡ least (each f (between t i n))
  unfolding between each least
  leaves_picked i zero = refl
  leaves_picked i (suc n) =
      least_picked (least (each f (site_at t i))) (filter_map (λ j. least (each f (site_at t j))) (range_with_len (i + 1) n))
      ∙ ap (earlier_of (least (each f (site_at t i)))) (leaves_picked (i + 1) n)
      ∙ sym (ap least (each_append (site_at t i) (between t (i + 1) n)) ∙ least-append (each f (site_at t i)) (each f (between t (i + 1) n)))
