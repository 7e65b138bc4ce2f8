-- Question 29 of a definition's name and of a node: what each return, and each turn of the loop, needs. From the look-up among definitions and the nodes of a tree.
use mathlib.Core.Path.{◌≡◌, refl, sym, ap, ◌∙◌}
use mathlib.Core.List.{List}
use mathlib.Core.Bool.{Bool, false}
use mathlib.Core.Option.{Option, none, Option-elim}
use mathlib.Core.Logic.{◌⊎◌, inl, inr, ⊎_elim}
use Prim.Native.Nat.{ℕ, zero, suc, ◌+◌, ◌-◌, ◌≤◌, ◌<◌, min}
use native.Mathlib.Decide.{ℕ_discrete}
use native.Mathlib.Omega.{arith}
use borrow.Author.Tests.{eq-eqb, ne_eqb, lt-ltb}
use lib.Dec.{eqb}
use lib.ListN.{length, get_or}
use Rattle.std.specs.Prelude.{None, Some}
use Rattle.std.specs.List.{reduce, filter_map, range_with_len}
use Rattle.token.specs.Questions.{Found}
use Rattle.grammar.specs.Syntax
use Rattle.tree.specs.Node as node
use Rattle.tree.specs.Node.{kind_of, token_of, left_of, number_kind}
use Rattle.tree.specs.Table
use Rattle.tree.specs.Table.{Node}
use Rattle.tree.proofs.Cells.{node-kind}
use Rattle.tree.proofs.Holds.{sum-interval}
use Rattle.model.specs.Lists.{when, least}
use Rattle.model.specs.Sites.{Definition, definitions}
use Rattle.model.specs.Stands.{sums_of}
use Rattle.model.specs.Given.{definition_named}
use Rattle.profile.specs.Unsteady.{several, several_sums, unsteady}
use Rattle.names.specs.declared.Question.TheVariants.{Given}
use Rattle.names.specs.declared.Lists.{Lists}
use Rattle.names.specs.Faults.{earlier_of}
use Rattle.names.specs.Lists.{NodeNamed}
use Rattle.names.specs.Placed.{IsName, sort_of, SortFits}
use Rattle.names.specs.Settings.{World}
use Rattle.names.proofs.Earliest.{least_picked}
use Rattle.names.proofs.Settled.{ds, root_in}
use Rattle.names.proofs.Uses.{found-node, node-inside}
use Rattle.steady.specs.Scan.{offender_at, first_from}
use Rattle.steady.proofs.Scans.{tree-first, group-above}

-- ---- a definition's sums

some-sums : (x : Syntax.Sums) → 1 ≤ length (sums_of x)
unfolding sums_of
some-sums (Syntax.last_sum x) = omega arith
some-sums (Syntax.next_sum x r) = omega arith

-- the root of a definition's sums tells whether there are several
sums-several : (t : List ℕ) (x : Syntax.Sums) (lo k : ℕ) → Table.Sums t x lo k → eqb (kind_of (get_or t k 0)) node.beside ≡ several (sums_of x)
unfolding Table.Sums sums_of several
sums-several t (Syntax.last_sum x) lo k h = ne_eqb (kind_of (get_or t k 0)) node.beside (λ e. omega (arith, (sum-interval x).to h))
sums-several t (Syntax.next_sum x r) lo k h =
    let l = some-sums r in
    eq-eqb (kind_of (get_or t k 0)) node.beside (node-kind h.node (omega arith)) ∙ sym (lt-ltb 1 (suc (length (sums_of r))) (omega arith))

-- ---- the cases of `has_several`
module _ {low high nodes : List ℕ} {lists : Lists} (h : World Given low high nodes lists) (k : ℕ) {f : Found} (is : NodeNamed nodes h.word (ds h) k f) where
  pub none-several : f ≡ None → false ≡ several_sums h.word (ds h) k
  unfolding several_sums Option-elim
  none-several q = let d : definition_named h.word k 0 (ds h) ≡ none = rw q at is in rw d refl

  module _ {i : ℕ} (q : f ≡ Some i) where
    pub sums-inside : (0 < i) × (i - 1 < length nodes)
    sums-inside = ((found-node h k is q).2.after, omega (arith, node-inside h k is q))

    pub named-several : (κ : ℕ) → κ ≡ kind_of (get_or nodes (i - 1) 0) → eqb κ node.beside ≡ several_sums h.word (ds h) k
    unfolding several_sums Option-elim
    named-several κ c =
        let r = found-node h k is q in
        rw c (sums-several nodes r.0.1.sums r.2.low (i - 1) r.2.sums ∙ sym (ap (λ (o : Option (ℕ × Definition)). Option-elim o false (λ d. several (sums_of d.1.sums))) r.1))

-- ---- the cases of `node_fault`

-- the two kinds of calls
pub call-kinds : (κ : ℕ) → node.call ≤ κ → κ < node.argument → (κ ≡ 50) ⊎ (κ ≡ 51)
call-kinds κ a b = by (ℕ_discrete κ 50)
  where
    by : Dec (κ ≡ 50) → (κ ≡ 50) ⊎ (κ ≡ 51)
    by (yes e) = inl e
    by (no e) = inr (omega arith)

pub no_call : (κ : ℕ) → (κ < node.call) ⊎ (node.argument ≤ κ) → (κ ≡ 50) ⊎ (κ ≡ 51) → ⊥
no_call κ (inl a) c = ⊎_elim (λ (e : κ ≡ 50). omega arith) (λ (e : κ ≡ 51). omega arith) c
no_call κ (inr a) c = ⊎_elim (λ (e : κ ≡ 50). omega arith) (λ (e : κ ≡ 51). omega arith) c

module _ (nodes : List ℕ) (i κ token : ℕ) (κ-is : κ ≡ kind_of (get_or nodes i 0)) (token-is : token ≡ token_of (get_or nodes i 0)) where
  -- a call's token is a name
  pub call-name : {low high : List ℕ} {lists : Lists} (h : World Given low high nodes lists) → i ≤ lists.root → (κ ≡ 50) ⊎ (κ ≡ 51) → IsName h.kinds token
  unfolding sort_of SortFits number_kind
  call-name h l c =
      let f = h.placed i l in
      ⊎_elim (λ (e : κ ≡ 50). rw (sym κ-is ∙ e, ← token-is) at f) (λ (e : κ ≡ 51). rw (sym κ-is ∙ e, ← token-is) at f) c

  module _ (s : ℕ → Bool) where
    pub group-offends : κ ≡ 53 → (b : Bool) → eqb (kind_of (get_or nodes (i - 1) 0)) node.item ≡ b → least (when b token) ≡ offender_at s nodes i
    unfolding offender_at
    group-offends e b q = rw (sym κ-is ∙ e, ← token-is, q)

    pub call-offends : (κ ≡ 50) ⊎ (κ ≡ 51) → (b : Bool) → s token ≡ b → least (when b token) ≡ offender_at s nodes i
    unfolding offender_at
    call-offends c b q = ⊎_elim (λ (e : κ ≡ 50). rw (sym κ-is ∙ e, ← token-is, q)) (λ (e : κ ≡ 51). rw (sym κ-is ∙ e, ← token-is, q)) c

    pub no-offender : (κ ≡ 53 → ⊥) → ((κ ≡ 50) ⊎ (κ ≡ 51) → ⊥) → None ≡ offender_at s nodes i
    unfolding offender_at
    no-offender a b = simp (← κ-is, ne_eqb κ 53 a, ne_eqb κ 50 (λ e. b (inl e)), ne_eqb κ 51 (λ e. b (inr e)))

-- ---- the least of all the nodes
module _ {low high nodes : List ℕ} {lists : Lists} (h : World Given low high nodes lists) where
  abbrev s : ℕ → Bool
  s = several_sums h.word (definitions h.model)

  abbrev root : ℕ
  root = lists.root

  picked : (i n : ℕ) → reduce min (filter_map (offender_at s nodes) (range_with_len i n)) ≡ first_from s nodes i n
  unfolding first_from
  picked i zero = refl
  picked i (suc n) = least_picked (offender_at s nodes i) (filter_map (offender_at s nodes) (range_with_len (i + 1) n)) ∙ ap (earlier_of (offender_at s nodes i)) (picked (i + 1) n)

  pub least_unsteady : reduce min (filter_map (offender_at s nodes) (range_with_len 0 (root + 1))) ≡ least (unsteady h.word h.model)
  least_unsteady = picked 0 (root + 1) ∙ tree-first h.word h.model nodes root h.holds

  pub before-group : (i : ℕ) → i ≤ root → kind_of (get_or nodes i 0) ≡ 53 → 0 < i
  before-group i l e = group-above h.model nodes root h.holds i l e

  pub inside : (i : ℕ) → i ≤ root → i < length nodes
  inside i l = omega (arith, root_in h)
