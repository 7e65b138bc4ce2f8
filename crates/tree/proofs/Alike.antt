-- A tree has one table: two tables that hold it from one node on have its root at the same node, and agree on its nodes. From the fields of a cell, by induction on the tree.
use mathlib.Core.Path.{◌≡◌, refl, sym, ◌∙◌, subst}
use mathlib.Core.List.{List}
use mathlib.Core.Bool.{true, false}
use Prim.Native.Nat.{ℕ, ◌+◌, ◌≤◌}
use native.Mathlib.Decide.{dec_le}
use native.Mathlib.Omega.{arith}
use lib.ListN.{length, get_or}
use lib.Seq.{ext_get_or}
use Rattle.grammar.specs.Syntax
use Rattle.tree.specs.Table
use Rattle.tree.specs.Table.{Node, Leaf, One, Two, Three}
use Rattle.tree.proofs.Interval.{Agree}

module _ (t t' : List ℕ) where
  -- from one node on, P in the one table and P' in the other have the same root, and the tables agree up to it
  abbrev pub Alike : (ℕ → ℕ → Type 0) → (ℕ → ℕ → Type 0) → Type 0
  Alike P P' = (lo k k' : ℕ) → P lo k → P' lo k' → (k ≡ k') × Agree t t' lo k

  -- ---- the four forms of a tree

  same-cell : {k k' kind token left left' third third' : ℕ} → k ≡ k' → left ≡ left' → third ≡ third' → Node t k kind token left third → Node t' k' kind token left' third' → get_or t' k 0 ≡ get_or t k 0
  same-cell e f g n m = let a = n.written in let b = m.written in cc

  -- a root after the nodes of its parts
  and-root : (lo r k : ℕ) → k ≡ r + 1 → Agree t t' lo r → get_or t' k 0 ≡ get_or t k 0 → Agree t t' lo k
  and-root lo r k e h c i l u = by (dec_le i r)
    where
      by : Dec (i ≤ r) → get_or t' i 0 ≡ get_or t i 0
      by (yes m) = h i l m
      by (no m) = let q : i ≡ k = omega arith in rw q c

  both-parts : (lo l k : ℕ) → Agree t t' lo l → Agree t t' (l + 1) k → Agree t t' lo k
  both-parts lo l k h g i a b = by (dec_le i l)
    where
      by : Dec (i ≤ l) → get_or t' i 0 ≡ get_or t i 0
      by (yes m) = h i a m
      by (no m) = g i (omega arith) b

  module _ {kind token : ℕ} where
    leaf : Alike (Leaf t kind token) (Leaf t' kind token)
    leaf lo k k' h g =
        let e : k ≡ k' = h.low ∙ sym g.low in
        let c = same-cell e refl refl h.node g.node in
        (e, λ i a b. let q : i ≡ k = omega (arith, h.low) in rw q c)

    one : {third : ℕ} {P P' : ℕ → ℕ → Type 0} → Alike P P' → Alike (One t kind token third P) (One t' kind token third P')
    one p lo k k' h g =
        let r = p lo h.root g.root h.holds g.holds in
        let e : k ≡ k' = omega (arith, h.above, g.above, r.0) in
        (e, and-root lo h.root k h.above r.1 (same-cell e refl refl h.node g.node))

    two : {third : ℕ} {P P' Q Q' : ℕ → ℕ → Type 0} → Alike P P' → Alike Q Q' → Alike (Two t kind token third P Q) (Two t' kind token third P' Q')
    two {Q' = Q'} p q lo k k' h g =
        let x = p lo h.left g.left h.holds-first g.holds-first in
        let y = q (h.left + 1) h.right g.right h.holds-second (subst (λ (l : ℕ). Q' (l + 1) g.right) (sym x.0) g.holds-second) in
        let e : k ≡ k' = omega (arith, h.above, g.above, y.0) in
        (e, and-root lo h.right k h.above (both-parts lo h.left h.right x.1 y.1) (same-cell e x.0 refl h.node g.node))

    three : {P P' Q Q' R R' : ℕ → ℕ → Type 0} → Alike P P' → Alike Q Q' → Alike R R' → Alike (Three t kind token P Q R) (Three t' kind token P' Q' R')
    three {Q' = Q'} {R' = R'} p q r lo k k' h g =
        let x = p lo h.left g.left h.holds-first g.holds-first in
        let y = q (h.left + 1) h.middle g.middle h.holds-second (subst (λ (l : ℕ). Q' (l + 1) g.middle) (sym x.0) g.holds-second) in
        let z = r (h.middle + 1) h.right g.right h.holds-third (subst (λ (l : ℕ). R' (l + 1) g.right) (sym y.0) g.holds-third) in
        let e : k ≡ k' = omega (arith, h.above, g.above, z.0) in
        (e, and-root lo h.right k h.above (both-parts lo h.left h.right x.1 (both-parts (h.left + 1) h.middle h.right y.1 z.1)) (same-cell e x.0 y.0 h.node g.node))

  -- ---- trees

  expr : (e : Syntax.Expr) → Alike (Table.Expr t e) (Table.Expr t' e)
  unfolding Table.Expr
  expr (Syntax.literal false n) = leaf
  expr (Syntax.literal true n) = leaf
  expr (Syntax.named n) = leaf
  expr (Syntax.absolute e) = one (expr e)
  expr (Syntax.binary o e f) = two (expr e) (expr f)

  exprs : (r : Syntax.Exprs) → Alike (Table.Exprs t r) (Table.Exprs t' r)
  unfolding Table.Exprs
  exprs (Syntax.last_expr e) = expr e
  exprs (Syntax.next_expr e r) = two (expr e) (exprs r)

  set : (s : Syntax.Set) → Alike (Table.Set t s) (Table.Set t' s)
  unfolding Table.Set
  set (Syntax.single e) = expr e
  set (Syntax.range e f) = two (expr e) (expr f)
  set (Syntax.joined j s r) = two (set s) (set r)

  cond : (c : Syntax.Cond) → Alike (Table.Cond t c) (Table.Cond t' c)
  unfolding Table.Cond
  cond (Syntax.compare b r e f) = two (expr e) (expr f)
  cond (Syntax.both c d) = two (cond c) (cond d)
  cond (Syntax.either c d) = two (cond c) (cond d)

  number : (v : Syntax.Number) → Alike (Table.Number t v) (Table.Number t' v)
  unfolding Table.Number
  number (Syntax.number b d n) = leaf

  scale : (s : Syntax.Scale) → Alike (Table.Scale t s) (Table.Scale t' s)
  unfolding Table.Scale
  scale (Syntax.fixed v) = number v
  scale (Syntax.named_scale n) = leaf

  rate : (r : Syntax.Rate) → Alike (Table.Rate t r) (Table.Rate t' r)
  unfolding Table.Rate
  rate (Syntax.plain s) = scale s
  rate (Syntax.scaled s e) = two (scale s) (expr e)

  values : (v : Syntax.Values) → Alike (Table.Values t v) (Table.Values t' v)
  unfolding Table.Values
  values (Syntax.one_value e) = expr e
  values (Syntax.two_values e f) = two (expr e) (expr f)

  sets : (s : Syntax.Sets) → Alike (Table.Sets t s) (Table.Sets t' s)
  unfolding Table.Sets
  sets (Syntax.one_set s) = set s
  sets (Syntax.two_sets s r) = two (set s) (set r)

  channel : (c : Syntax.Channel) → Alike (Table.Channel t c) (Table.Channel t' c)
  unfolding Table.Channel
  channel (Syntax.one_item e) = expr e
  channel (Syntax.two_items e f) = two (expr e) (expr f)
  channel (Syntax.three_items e f g) = three (expr e) (expr f) (expr g)

  action : (a : Syntax.Action) → Alike (Table.Action t a) (Table.Action t' a)
  unfolding Table.Action
  action (Syntax.wait n) = leaf
  action (Syntax.launch c v) = two (channel c) (values v)
  action (Syntax.kill c v) = two (channel c) (values v)
  action (Syntax.receive c s) = two (channel c) (sets s)
  action (Syntax.bind c s (Syntax.names n m)) = two (channel c) (sets s)
  action (Syntax.check c s) = two (channel c) (sets s)
  action (Syntax.hand_send c v) = two (channel c) (values v)
  action (Syntax.hand_receive c s) = two (channel c) (sets s)
  action (Syntax.hand_bind c s (Syntax.names n m)) = two (channel c) (sets s)

  mutual
    unfolding Table.Branch Table.Offer Table.Branches Table.Sum Table.Cont Table.Conts

    branch : (b : Syntax.Branch) → Alike (Table.Branch t b) (Table.Branch t' b)
    branch (Syntax.branch f Syntax.no_gate a r n) = offer f a r n
    branch (Syntax.branch f (Syntax.gate c) a r n) = two (cond c) (offer f a r n)

    offer : (f : ℕ) (a : Syntax.Action) (r : Syntax.Rate) (n : Syntax.Next) → Alike (Table.Offer t f a r n) (Table.Offer t' f a r n)
    offer f a r Syntax.stop = two (action a) (rate r)
    offer f a r (Syntax.dot c) = three (action a) (rate r) (cont c)

    branches : (b : Syntax.Branches) → Alike (Table.Branches t b) (Table.Branches t' b)
    branches (Syntax.last_branch b) = branch b
    branches (Syntax.next_branch b r) = two (branch b) (branches r)

    sum : (s : Syntax.Sum) → Alike (Table.Sum t s) (Table.Sum t' s)
    sum (Syntax.sum n b) = one (branches b)

    cont : (c : Syntax.Cont) → Alike (Table.Cont t c) (Table.Cont t' c)
    cont (Syntax.proceed s) = sum s
    cont (Syntax.call n Syntax.no_args) = leaf
    cont (Syntax.call n (Syntax.args r)) = one (exprs r)
    cont (Syntax.group n c) = one (conts c)

    conts : (c : Syntax.Conts) → Alike (Table.Conts t c) (Table.Conts t' c)
    conts (Syntax.last_cont c) = cont c
    conts (Syntax.next_cont c r) = two (cont c) (conts r)

  sums : (s : Syntax.Sums) → Alike (Table.Sums t s) (Table.Sums t' s)
  unfolding Table.Sums
  sums (Syntax.last_sum s) = sum s
  sums (Syntax.next_sum s r) = two (sum s) (sums r)

  definition : (n : ℕ) (p : Syntax.Params) (b : Syntax.Sums) → Alike (Table.Definition t n p b) (Table.Definition t' n p b)
  unfolding Table.Definition
  definition n Syntax.no_params b = one (sums b)
  definition n (Syntax.params (Syntax.names f m)) b = λ lo k k' h g. one (sums b) lo k k' h.2 g.2

  wholes : (w : Syntax.Wholes) → Alike (Table.Wholes t w) (Table.Wholes t' w)
  unfolding Table.Wholes
  wholes (Syntax.last_whole b n) = expr (Syntax.literal b n)
  wholes (Syntax.next_whole b n r) = two (expr (Syntax.literal b n)) (wholes r)

  start : (s : Syntax.Start) → Alike (Table.Start t s) (Table.Start t' s)
  unfolding Table.Start
  start (Syntax.once n Syntax.no_starts) = leaf
  start (Syntax.once n (Syntax.starts w)) = one (wholes w)
  start (Syntax.counted c n Syntax.no_starts) = λ lo k k' h g. leaf lo k k' h.1 g.1
  start (Syntax.counted c n (Syntax.starts w)) = λ lo k k' h g. one (wholes w) lo k k' h.1 g.1

  system : (s : Syntax.System) → Alike (Table.System t s) (Table.System t' s)
  unfolding Table.System
  system (Syntax.last_start s) = start s
  system (Syntax.next_start s r) = two (start s) (system r)

  definitions : (d : Syntax.Definitions) → Alike (Table.Definitions t d) (Table.Definitions t' d)
  unfolding Table.Definitions
  definitions (Syntax.last_definition n p b s) = two (definition n p b) (system s)
  definitions (Syntax.next_definition n p b d) = two (definition n p b) (definitions d)

  pub model : (m : Syntax.Model) → Alike (Table.Model t m) (Table.Model t' m)
  unfolding Table.Model
  model (Syntax.definitions d) = definitions d
  model (Syntax.variable n v m) = two (number v) (model m)

-- a tree's nodes and no more: one list
pub one_table : (t t' : List ℕ) (m : Syntax.Model) (k k' : ℕ) → Table.Model t m 0 k → Table.Model t' m 0 k' → length t ≡ k + 1 → length t' ≡ k' + 1 → (k ≡ k') × (t ≡ t')
one_table t t' m k k' h g e f =
    let r = model t t' m 0 k k' h g in
    let c = r.1 in
    (r.0, ext_get_or 0 t t' (omega (arith, r.0)) (λ i l. sym (c i (omega arith) (omega arith))))
