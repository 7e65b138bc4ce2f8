-- The system line stands below the definitions, and its first item in a node that its root leads to. From the forms of a tree.
use mathlib.Core.Path.{◌≡◌, sym, ap, ◌∙◌, subst}
use mathlib.Core.List.{List}
use Prim.Native.Nat.{ℕ, suc, ◌+◌, ◌-◌, ◌≤◌, ◌<◌}
use native.Mathlib.Omega.{arith}
use borrow.Author.Tests.{eq-eqb, ne_eqb, lt-ltb, le-ltb}
use lib.ListN.{length, get_or}
use Rattle.grammar.specs.Syntax
use Rattle.tree.specs.Node as node
use Rattle.tree.specs.Node.{kind_of, token_of, left_of}
use Rattle.tree.specs.Table
use Rattle.tree.proofs.Interval.{kind_at, inside}
use Rattle.tree.proofs.Holds.{start-interval, system-interval}
use Rattle.tree.proofs.Cells.{node-kind, node-token, node-left}
use Rattle.model.specs.Sites.{variables, definitions, definitions_in, system, system_in}
use Rattle.model.specs.Opening.{start_token, system_token}
use Rattle.names.specs.Lists.{Gathered}
use Rattle.names.specs.declared.Lists.{Lists}
use Rattle.opening.specs.System.{first_item, before_name, item_token}

module _ (t : List ℕ) where
  -- the system line with its root at k
  abbrev pub LineAt : Syntax.System → ℕ → Type 0
  LineAt s k = (lo : ℕ) × Table.System t s lo k

  below-definitions : (d : Syntax.Definitions) (lo k : ℕ) → Table.Definitions t d lo k → LineAt (system_in d) (k - length (definitions_in d)) × (length (definitions_in d) ≤ k)
  unfolding Table.Definitions definitions_in system_in
  below-definitions (Syntax.last_definition n p b s) lo k h =
      let e : h.right ≡ k - 1 = omega (arith, h.above) in
      ((h.left + 1, rw e at h.holds-second), omega (arith, h.above))
  below-definitions (Syntax.next_definition n p b d) lo k h =
      let r = below-definitions d (h.left + 1) h.right h.holds-second in
      let e : h.right - length (definitions_in d) ≡ k - suc (length (definitions_in d)) = omega (arith, h.above) in
      (subst (λ (x : ℕ). LineAt (system_in d) x) e r.0, omega (arith, h.above))

  below-model : (m : Syntax.Model) (lo k : ℕ) → Table.Model t m lo k → LineAt (system m) (k - length (variables m) - length (definitions m)) × (length (variables m) + length (definitions m) ≤ k)
  unfolding Table.Model variables definitions system
  below-model (Syntax.definitions d) lo k h = let e : k - 0 ≡ k = omega arith in let r = below-definitions d lo k h in (rw e r.0, omega (arith, r.1))
  below-model (Syntax.variable n v m) lo k h =
      let r = below-model m (h.left + 1) h.right h.holds-second in
      let e : h.right - length (variables m) - length (definitions m) ≡ k - suc (length (variables m)) - length (definitions m) = omega (arith, h.above) in
      (subst (λ (x : ℕ). LineAt (system m) x) e r.0, omega (arith, h.above))

  -- the same by the numbers that were counted
  module _ (m : Syntax.Model) (lo root : ℕ) (h : Table.Model t m lo root) {l : Lists} (g : Gathered m root l) where
    pub line-room : l.variables + l.definitions ≤ root
    line-room = omega (arith, (below-model m lo root h).1, g.variables-are, g.definitions-are)

    pub line_at : LineAt (system m) (root - l.variables - l.definitions)
    line_at = rw (g.variables-are, g.definitions-are) (below-model m lo root h).0

  -- an item
  start-node : (s : Syntax.Start) (lo k : ℕ) → Table.Start t s lo k → (item_token (get_or t k 0) ≡ start_token s) × (node.counted ≤ kind_at t k → before_name ≤ token_of (get_or t k 0))
  unfolding Table.Start start_token item_token
  start-node (Syntax.once n Syntax.no_starts) lo k h =
      let e = node-kind h.node (omega arith) in
      (simp (lt-ltb (kind_at t k) node.counted (omega arith)) (node-token h.node (omega arith)), λ l. omega arith)
  start-node (Syntax.once n (Syntax.starts w)) lo k h =
      let e = node-kind h.node (omega arith) in
      (simp (lt-ltb (kind_at t k) node.counted (omega arith)) (node-token h.node (omega arith)), λ l. omega arith)
  start-node (Syntax.counted c n Syntax.no_starts) lo k h =
      let e = node-kind h.1.node (omega arith) in
      let q = node-token h.1.node (omega arith) in
      (simp (le-ltb (kind_at t k) node.counted (omega arith)) (omega (arith, h.0)), λ l. omega (arith, h.0))
  start-node (Syntax.counted c n (Syntax.starts w)) lo k h =
      let e = node-kind h.1.node (omega arith) in
      let q = node-token h.1.node (omega arith) in
      (simp (le-ltb (kind_at t k) node.counted (omega arith)) (omega (arith, h.0)), λ l. omega (arith, h.0))

  -- the first item of a line
  pub record FirstItem (s : Syntax.System) (k : ℕ) : Type 0 where
    pub line-inside : k < length t
    pub item-inside : first_item t k < length t
    pub token-is : item_token (get_or t (first_item t k) 0) ≡ system_token s
    pub counted : node.counted ≤ kind_at t (first_item t k) → before_name ≤ token_of (get_or t (first_item t k) 0)

  pub first-item : (s : Syntax.System) (k : ℕ) → LineAt s k → FirstItem s k
  unfolding Table.System system_token first_item
  first-item (Syntax.last_start s) k (lo, h) =
      let i = inside (start-interval s) (omega arith) h in
      let n = start-node s lo k h in
      let e = ne_eqb (kind_at t k) node.system (λ e. omega (arith, (start-interval s).to h)) in
      record { line-inside = i; item-inside = rw e i; token-is = rw e n.0; counted = rw e n.1 }
  first-item (Syntax.next_start s r) k (lo, h) =
      let i = inside (system-interval (Syntax.next_start s r)) (omega arith) h in
      let e = eq-eqb (kind_at t k) node.system (node-kind h.node (omega arith)) in
      let n = start-node s lo h.left h.holds-first in
      let q = node-left h.node (omega arith) in
      record { line-inside = i; item-inside = rw (e, q) (inside (start-interval s) (omega arith) h.holds-first); token-is = rw (e, q) n.0; counted = rw (e, q) n.1 }

-- ---- the returns of `first_item` and `item_token`
module _ (t : List ℕ) (k κ : ℕ) (e : κ ≡ kind_at t k) where
  pub first-left : {left : ℕ} → κ ≡ node.system → left ≡ left_of (get_or t k 0) → left ≡ first_item t k
  unfolding first_item
  first-left q l = simp (eq-eqb (kind_at t k) node.system (sym e ∙ q)) l

  pub first-itself : (κ ≡ node.system → ⊥) → k ≡ first_item t k
  unfolding first_item
  first-itself q = simp (ne_eqb (kind_at t k) node.system (λ r. q (e ∙ r)))

module _ (c κ name : ℕ) (e : κ ≡ kind_of c) (n : name ≡ token_of c) where
  pub name-first : κ < node.counted → name ≡ item_token c
  unfolding item_token
  name-first l = simp (lt-ltb (kind_of c) node.counted (omega arith)) n

  pub count-first : node.counted ≤ κ → name - before_name ≡ item_token c
  unfolding item_token
  count-first l = simp (le-ltb (kind_of c) node.counted (omega arith)) (omega arith)

-- ---- the cases of `system_token`
module _ (t : List ℕ) (m : Syntax.Model) (lo root : ℕ) (h : Table.Model t m lo root) {l : Lists} (g : Gathered m root l) where
  abbrev line : ℕ
  line = root - l.variables - l.definitions

  first : FirstItem t (system m) line
  first = first-item t (system m) line (line_at t m lo root h g)

  pub line-inside : line < length t
  line-inside = first.line-inside

  module _ {j : ℕ} (e : j ≡ first_item t line) where
    pub item-inside : j < length t
    item-inside = rw e first.item-inside

    pub item-counted : node.counted ≤ kind_at t j → before_name ≤ token_of (get_or t j 0)
    item-counted = rw e first.counted

    pub item-is : {r : ℕ} → r ≡ item_token (get_or t j 0) → r ≡ system_token (system m)
    item-is q = q ∙ ap (λ (i : ℕ). item_token (get_or t i 0)) e ∙ first.token-is
