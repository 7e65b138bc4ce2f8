-- Counting in the tables: an item starts as many processes as its count and its definition say, and the
use mathlib.Core.Path.{◌≡◌, refl, sym, ap, ◌∙◌}
use mathlib.Core.List.{List, [], ◌∷◌}
use mathlib.Core.Bool.{Bool, true, false}
use mathlib.Core.Option.{some}
use Prim.Native.Nat.{ℕ, zero, suc, ◌+◌, ◌-◌, ◌*◌, ◌≤◌, ◌<◌}
use native.Mathlib.Nat.{mul-le-mul}
use native.Mathlib.Omega.{arith}
use borrow.Author.Tests.{ltb-true, ltb-false}
use lib.Dec.{ltb}
use lib.ListN.{length, get_or, get_elem?, get_or-eq_default}
use Rattle.tree.specs.Node as node
use Rattle.tree.specs.Node.{field, kind_of, token_of, left_of}
use Rattle.model.specs.Good.{Every}
use Rattle.model.specs.Resolved
use Rattle.model.specs.Opening.{process_limit, sums_in, processes_at_start}
use Rattle.tables.specs.Settled.{kind_at}
use Rattle.tables.specs.Represents as tables
use Rattle.tables.proofs.Sums.{kind-inside}
use Rattle.opening.specs.Counts.{Countable, ItemAt, Counts}

-- system line as many as its items. From what the tables hold.

-- a field is small
left-small : (c : ℕ) → left_of c < field
unfolding left_of
left-small c = omega arith

module _ (t : List ℕ) where
  -- a cell with a field above 0 is one of the table
  left-inside : (k : ℕ) → 0 < left_of (get_or t k 0) → k < length t
  unfolding left_of
  left-inside k h = by (ltb k (length t)) refl
    where
      by : (c : Bool) → ltb k (length t) ≡ c → k < length t
      by true e = ltb-true k (length t) e
      by false e = absurd (omega (arith, h, ap left_of (get_or-eq_default t 0 (ltb-false k (length t) e))))

  -- ---- an item
  pub record ItemCell (s : Resolved.Start) (k : ℕ) : Type 0 where
    pub inside : k < length t
    pub definition-is : token_of (get_or t k 0) ≡ s.definition
    pub count-is : left_of (get_or t k 0) ≡ s.count
    pub other : kind_at t k ≡ node.system → ⊥

  item-cell : (s : Resolved.Start) (k : ℕ) → tables.Start t s k → ItemCell s k
  item-cell s k (tables.bare i n) = record { inside = kind-inside t k (omega (arith, i.kind-is)); definition-is = i.definition-is; count-is = i.count-is; other = λ e. omega (arith, i.kind-is) }
  item-cell s k (tables.valued v) =
      let i = v.item in
      record { inside = kind-inside t k (omega (arith, i.kind-is)); definition-is = i.definition-is; count-is = i.count-is; other = λ e. omega (arith, i.kind-is) }

  -- a definition that there is, and how many sums it has
  defined : (ds : List Resolved.Defined) (d : ℕ) → d < length ds → (e : Resolved.Defined) × (get_elem? ds d ≡ some e) × (sums_in ds d ≡ length e.sums)
  unfolding sums_in
  defined [] d l = absurd (omega arith)
  defined (e ∷ ds) zero l = (e, refl, refl)
  defined (e ∷ ds) (suc d) l = defined ds d (omega arith)

  -- the body of an item's definition, left of the node i
  pub record Body (ds : List Resolved.Defined) (s : Resolved.Start) (i : ℕ) : Type 0 where
    pub inside : i < length t
    pub above : 0 < left_of (get_or t i 0)
    pub sums : List ℕ
    pub holds : tables.Sums t sums (left_of (get_or t i 0) - 1)
    pub count : sums_in ds s.definition ≡ length sums

  module _ {first : ℕ} {ds : List Resolved.Defined} {s : Resolved.Start} {k : ℕ} (h : ItemAt t first ds s k) where
    pub item_of : ItemCell s k
    item_of = item-cell s k h.item

    pub item_room : token_of (get_or t k 0) ≤ first
    item_room = omega (arith, item_of.definition-is, h.known, h.room)

    pub item-body : {d : ℕ} → d ≡ first - token_of (get_or t k 0) → Body ds s d
    item-body {d} e =
        let f = defined ds s.definition h.known in
        let q : first - s.definition ≡ d = omega (arith, item_of.definition-is) in
        let b = rw q at (h.definition s.definition f.0 f.1) in
        let r : b.root ≡ left_of (get_or t d 0) - 1 = omega (arith, b.above) in
        let l : 0 < left_of (get_or t d 0) = omega (arith, b.above) in
        record { inside = left-inside d l; above = l; sums = f.0.sums; holds = rw r at b.holds; count = f.2 }

    -- ---- the cases of `item_processes`
    module _ {name : ℕ} (n : name ≡ token_of (get_or t k 0)) where
      pub name-room : name ≤ first
      name-room = omega (arith, item_room)

      pub body-at : Body ds s (first - name)
      body-at = item-body (ap (λ (x : ℕ). first - x) n)

      module _ {left : ℕ} (l : left ≡ left_of (get_or t (first - name) 0)) where
        pub left-above : 0 < left
        left-above = omega (arith, body-at.above)

        pub body-sums : tables.Sums t body-at.sums (left - 1)
        body-sums = rw l body-at.holds

        module _ {count sums : ℕ} (c : count ≡ left_of (get_or t k 0)) where
          pub product_small : sums ≤ left - 1 + 1 → count * sums ≤ field * field
          product_small u =
              let a : count ≤ field = omega (arith, left-small (get_or t k 0)) in
              let b : sums ≤ field = omega (arith, left-above, left-small (get_or t (first - name) 0)) in
              mul-le-mul a b

          pub product_is : sums ≡ length body-at.sums → count * sums ≡ s.count * sums_in ds s.definition
          product_is e =
              let a : count ≡ s.count = c ∙ item_of.count-is in
              let b : sums ≡ sums_in ds s.definition = e ∙ sym body-at.count in
              rw (a, b)

  -- ---- the system line
  starts-inside : (ss : List Resolved.Start) (k : ℕ) → tables.Starts t ss k → k < length t
  unfolding tables.Starts
  starts-inside [] k h = absurd h
  starts-inside (s ∷ []) k h = (item-cell s k h).inside
  starts-inside (s ∷ r ∷ ss) k h = kind-inside t k (omega (arith, h.kind-is))

  -- what is left to count: the items ss of the line at k, after those that start `count` processes
  pub record Left (first line : ℕ) (m : Resolved.Model) (count k : ℕ) : Type 0 where
    pub items : List Resolved.Start
    pub holds : tables.Starts t items k
    pub known : Every (λ s. s.definition < length m.definitions) items
    pub sum : count + processes_at_start m.definitions items ≡ processes_at_start m.definitions m.starts

  module _ {first line : ℕ} {m : Resolved.Model} (g : Countable t first line m) where
    pub left-all : Left first line m 0 line
    left-all = record { items = m.starts; holds = g.starts; known = g.known; sum = omega arith }

    module _ {count k : ℕ} (l : Left first line m count k) where
      pub left-inside-line : k < length t
      left-inside-line = starts-inside l.items k l.holds

      -- the first of several items, and the rest
      pub record Next : Type 0 where
        pub start : Resolved.Start
        pub item : ItemAt t first m.definitions start (left_of (get_or t k 0))
        pub rest : (n : ℕ) → n ≡ start.count * sums_in m.definitions start.definition → Left first line m (count + n) (k - 1)
        pub above : 0 < k

      next_of : (ss : List Resolved.Start) → tables.Starts t ss k → Every (λ s. s.definition < length m.definitions) ss → count + processes_at_start m.definitions ss ≡ processes_at_start m.definitions m.starts → kind_at t k ≡ node.system → Next
      unfolding tables.Starts Every processes_at_start
      next_of [] h n e κ = absurd h
      next_of (s ∷ []) h n e κ = absurd ((item-cell s k h).other κ)
      next_of (s ∷ r ∷ ss) h n e κ =
          let q : h.right ≡ k - 1 = omega (arith, h.above) in
          record {
            start = s;
            item = record { room = g.room; definition = g.definition; item = h.holds-first; known = n.0 };
            rest = λ c d. record { items = r ∷ ss; holds = rw q at h.holds-second; known = n.1; sum = omega (arith, d, e) };
            above = omega (arith, h.above);
          }

      pub left-next : kind_at t k ≡ node.system → Next
      left-next = next_of l.items l.holds l.known l.sum

      pub next-item : (κ : kind_at t k ≡ node.system) {left : ℕ} → left ≡ left_of (get_or t k 0) → ItemAt t first m.definitions (left-next κ).start left
      next-item κ e = rw e (left-next κ).item

      -- the last item
      pub record Last : Type 0 where
        pub start : Resolved.Start
        pub item : ItemAt t first m.definitions start k
        pub sum : (n : ℕ) → n ≡ start.count * sums_in m.definitions start.definition → count + n ≡ processes_at_start m.definitions m.starts

      last_of : (ss : List Resolved.Start) → tables.Starts t ss k → Every (λ s. s.definition < length m.definitions) ss → count + processes_at_start m.definitions ss ≡ processes_at_start m.definitions m.starts → (kind_at t k ≡ node.system → ⊥) → Last
      unfolding tables.Starts Every processes_at_start
      last_of [] h n e κ = absurd h
      last_of (s ∷ []) h n e κ =
          record { start = s; item = record { room = g.room; definition = g.definition; item = h; known = n.0 }; sum = λ c d. omega (arith, d, e) }
      last_of (s ∷ r ∷ ss) h n e κ = absurd (κ h.kind-is)

      pub left-last : (kind_at t k ≡ node.system → ⊥) → Last
      left-last = last_of l.items l.holds l.known l.sum

      -- ---- the returns of `start_count`
      pub counts-many : process_limit < count → Counts count (processes_at_start m.definitions m.starts)
      counts-many h = record { few = λ f. absurd (omega arith); many = λ f. omega (arith, l.sum) }

pub counts_all : {r p : ℕ} → r ≡ p → Counts r p
counts_all e = record { few = λ h. e; many = λ h. omega arith }
