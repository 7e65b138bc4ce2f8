-- A table holds one tree at a root, and from one node on: expressions, sets, conditions, rates and actions. From the fields of nodes, a clause for each two
-- constructors of a sort.
use mathlib.Core.Path.{◌≡◌, refl, sym, ap, ap₂, ◌∙◌}
use mathlib.Core.List.{List, [], ◌∷◌}
use mathlib.Core.Bool.{Bool, true, false}
use Prim.Native.Nat.{ℕ, ◌-◌, ◌%◌}
use native.Mathlib.Omega.{arith}
use lib.Dec.{leb, eqb}
use lib.ListN.{get_or}
use Rattle.grammar.specs.Grammar.{Relation, less, at_most, greater, at_least, same, differs}
use Rattle.grammar.specs.Syntax
use Rattle.grammar.specs.Syntax.{Op, plus, minus, times, divide, maximum, minimum, Join, without, union, inter}
use Rattle.tree.specs.Node as node
use Rattle.tree.specs.Node.{op_kind, join_kind, relation_kind, test_kind, number_kind}
use Rattle.tree.specs.Table
use Rattle.tree.proofs.Interval.{kind_at, root, between}
use Rattle.tree.proofs.Holds.{op-among, join-among, test-among, expr-interval, set-interval, number-interval, scale-interval}
use Rattle.tree.proofs.Fields.{Once, same_kind, other-kind, once-leaf, once-one, once-two, once-three}

-- ---- what is read back from a kind
op_of : ℕ → Op
op_of κ = get_or (plus ∷ minus ∷ times ∷ divide ∷ maximum ∷ minimum ∷ []) (κ - 5) plus

op-of : (o : Op) → op_of (op_kind o % 256) ≡ o
unfolding op_of op_kind
op-of plus = refl
op-of minus = refl
op-of times = refl
op-of divide = refl
op-of maximum = refl
op-of minimum = refl

same_op : (o p : Op) → op_kind o % 256 ≡ op_kind p % 256 → o ≡ p
same_op o p e = sym (op-of o) ∙ ap op_of e ∙ op-of p

join_of : ℕ → Join
join_of κ = get_or (without ∷ union ∷ inter ∷ []) (κ - 12) without

join-of : (j : Join) → join_of (join_kind j % 256) ≡ j
unfolding join_of join_kind
join-of without = refl
join-of union = refl
join-of inter = refl

same-join : (j i : Join) → join_kind j % 256 ≡ join_kind i % 256 → j ≡ i
same-join j i e = sym (join-of j) ∙ ap join_of e ∙ join-of i

test_of : ℕ → Bool × Relation
test_of κ = (leb 21 κ, get_or (less ∷ at_most ∷ greater ∷ at_least ∷ same ∷ differs ∷ []) ((κ - 15) % 6) less)

test-of : (b : Bool) (r : Relation) → test_of (test_kind b r % 256) ≡ (b, r)
unfolding test_of test_kind relation_kind
test-of false less = refl
test-of false at_most = refl
test-of false greater = refl
test-of false at_least = refl
test-of false same = refl
test-of false differs = refl
test-of true less = refl
test-of true at_most = refl
test-of true greater = refl
test-of true at_least = refl
test-of true same = refl
test-of true differs = refl

same_test : (b c : Bool) (r s : Relation) → test_kind b r % 256 ≡ test_kind c s % 256 → (b ≡ c) × (r ≡ s)
same_test b c r s e =
    let q = sym (test-of b r) ∙ ap test_of e ∙ test-of c s in
    (ap (λ (p : Bool × Relation). p.0) q, ap (λ (p : Bool × Relation). p.1) q)

number_of : ℕ → Bool × Bool
number_of κ = (eqb (κ % 2) 0, leb 31 κ)

number-of : (b d : Bool) → number_of (number_kind b d % 256) ≡ (b, d)
unfolding number_of number_kind
number-of false false = refl
number-of false true = refl
number-of true false = refl
number-of true true = refl

same_number : (b c d e : Bool) → number_kind b d % 256 ≡ number_kind c e % 256 → (b ≡ c) × (d ≡ e)
same_number b c d e u =
    let q = sym (number-of b d) ∙ ap number_of u ∙ number-of c e in
    (ap (λ (p : Bool × Bool). p.0) q, ap (λ (p : Bool × Bool). p.1) q)

-- an action by the kind of its node
pub data ActionAt : ℕ → Syntax.Action → Type 0 where
  wait : (n : ℕ) → ActionAt node.wait (Syntax.wait n)
  launch : (c : Syntax.Channel) (v : Syntax.Values) → ActionAt node.launch (Syntax.launch c v)
  kill : (c : Syntax.Channel) (v : Syntax.Values) → ActionAt node.kill (Syntax.kill c v)
  receive : (c : Syntax.Channel) (s : Syntax.Sets) → ActionAt node.receive (Syntax.receive c s)
  bind : (c : Syntax.Channel) (s : Syntax.Sets) (n m : ℕ) → ActionAt node.bind (Syntax.bind c s (Syntax.names n m))
  check : (c : Syntax.Channel) (s : Syntax.Sets) → ActionAt node.check (Syntax.check c s)
  hand_send : (c : Syntax.Channel) (v : Syntax.Values) → ActionAt node.hand_send (Syntax.hand_send c v)
  hand_receive : (c : Syntax.Channel) (s : Syntax.Sets) → ActionAt node.hand_receive (Syntax.hand_receive c s)
  hand_bind : (c : Syntax.Channel) (s : Syntax.Sets) (n m : ℕ) → ActionAt node.hand_bind (Syntax.hand_bind c s (Syntax.names n m))

-- ---- the trees
module _ (t : List ℕ) where
  pub expr-once : (x y : Syntax.Expr) → Once (Table.Expr t x) (Table.Expr t y) (x ≡ y)
  unfolding Table.Expr
  expr-once (Syntax.literal false n) (Syntax.literal false n') lo lo' k h g = let r = once-leaf refl h g in (ap (Syntax.literal false) r.0, r.1)
  expr-once (Syntax.literal false n) (Syntax.literal true n') lo lo' k h g = absurd (other-kind h.node g.node refl)
  expr-once (Syntax.literal false n) (Syntax.named n') lo lo' k h g = absurd (other-kind h.node g.node refl)
  expr-once (Syntax.literal false n) (Syntax.absolute e') lo lo' k h g = absurd (other-kind h.node g.node refl)
  expr-once (Syntax.literal false n) (Syntax.binary o' e' f') lo lo' k h g = absurd (omega (arith, root h.node, (between 5 10 (op_kind o') (op-among o') g.node).0))
  expr-once (Syntax.literal true n) (Syntax.literal false n') lo lo' k h g = absurd (other-kind h.node g.node refl)
  expr-once (Syntax.literal true n) (Syntax.literal true n') lo lo' k h g = let r = once-leaf refl h g in (ap (Syntax.literal true) r.0, r.1)
  expr-once (Syntax.literal true n) (Syntax.named n') lo lo' k h g = absurd (other-kind h.node g.node refl)
  expr-once (Syntax.literal true n) (Syntax.absolute e') lo lo' k h g = absurd (other-kind h.node g.node refl)
  expr-once (Syntax.literal true n) (Syntax.binary o' e' f') lo lo' k h g = absurd (omega (arith, root h.node, (between 5 10 (op_kind o') (op-among o') g.node).0))
  expr-once (Syntax.named n) (Syntax.literal false n') lo lo' k h g = absurd (other-kind h.node g.node refl)
  expr-once (Syntax.named n) (Syntax.literal true n') lo lo' k h g = absurd (other-kind h.node g.node refl)
  expr-once (Syntax.named n) (Syntax.named n') lo lo' k h g = let r = once-leaf refl h g in (ap Syntax.named r.0, r.1)
  expr-once (Syntax.named n) (Syntax.absolute e') lo lo' k h g = absurd (other-kind h.node g.node refl)
  expr-once (Syntax.named n) (Syntax.binary o' e' f') lo lo' k h g = absurd (omega (arith, root h.node, (between 5 10 (op_kind o') (op-among o') g.node).0))
  expr-once (Syntax.absolute e) (Syntax.literal false n') lo lo' k h g = absurd (other-kind h.node g.node refl)
  expr-once (Syntax.absolute e) (Syntax.literal true n') lo lo' k h g = absurd (other-kind h.node g.node refl)
  expr-once (Syntax.absolute e) (Syntax.named n') lo lo' k h g = absurd (other-kind h.node g.node refl)
  expr-once (Syntax.absolute e) (Syntax.absolute e') lo lo' k h g = let r = once-one refl (expr-once e e') h g in (ap Syntax.absolute r.2, r.3)
  expr-once (Syntax.absolute e) (Syntax.binary o' e' f') lo lo' k h g = absurd (omega (arith, root h.node, (between 5 10 (op_kind o') (op-among o') g.node).0))
  expr-once (Syntax.binary o e f) (Syntax.literal false n') lo lo' k h g = absurd (omega (arith, (between 5 10 (op_kind o) (op-among o) h.node).0, root g.node))
  expr-once (Syntax.binary o e f) (Syntax.literal true n') lo lo' k h g = absurd (omega (arith, (between 5 10 (op_kind o) (op-among o) h.node).0, root g.node))
  expr-once (Syntax.binary o e f) (Syntax.named n') lo lo' k h g = absurd (omega (arith, (between 5 10 (op_kind o) (op-among o) h.node).0, root g.node))
  expr-once (Syntax.binary o e f) (Syntax.absolute e') lo lo' k h g = absurd (omega (arith, (between 5 10 (op_kind o) (op-among o) h.node).0, root g.node))
  expr-once (Syntax.binary o e f) (Syntax.binary o' e' f') lo lo' k h g =
      let q = same_op o o' (same_kind h.node g.node) in
      let r = once-two (ap op_kind q) (expr-once e e') (expr-once f f') h g in
      (cc, r.4)

  pub exprs-once : (x y : Syntax.Exprs) → Once (Table.Exprs t x) (Table.Exprs t y) (x ≡ y)
  unfolding Table.Exprs
  exprs-once (Syntax.last_expr e) (Syntax.last_expr e') lo lo' k h g = let r = expr-once e e' lo lo' k h g in (ap Syntax.last_expr r.0, r.1)
  exprs-once (Syntax.last_expr e) (Syntax.next_expr e' r') lo lo' k h g = absurd (omega (arith, (expr-interval e).to h, root g.node))
  exprs-once (Syntax.next_expr e r) (Syntax.last_expr e') lo lo' k h g = absurd (omega (arith, root h.node, (expr-interval e').to g))
  exprs-once (Syntax.next_expr e r) (Syntax.next_expr e' r') lo lo' k h g = let z = once-two refl (expr-once e e') (exprs-once r r') h g in (cc, z.4)

  pub set-once : (x y : Syntax.Set) → Once (Table.Set t x) (Table.Set t y) (x ≡ y)
  unfolding Table.Set
  set-once (Syntax.single e) (Syntax.single e') lo lo' k h g = let r = expr-once e e' lo lo' k h g in (ap Syntax.single r.0, r.1)
  set-once (Syntax.single e) (Syntax.range e' f') lo lo' k h g = absurd (omega (arith, (expr-interval e).to h, root g.node))
  set-once (Syntax.single e) (Syntax.joined j' s' r') lo lo' k h g = absurd (omega (arith, (expr-interval e).to h, (between 12 14 (join_kind j') (join-among j') g.node).0))
  set-once (Syntax.range e f) (Syntax.single e') lo lo' k h g = absurd (omega (arith, root h.node, (expr-interval e').to g))
  set-once (Syntax.range e f) (Syntax.range e' f') lo lo' k h g = let r = once-two refl (expr-once e e') (expr-once f f') h g in (cc, r.4)
  set-once (Syntax.range e f) (Syntax.joined j' s' r') lo lo' k h g = absurd (omega (arith, root h.node, (between 12 14 (join_kind j') (join-among j') g.node).0))
  set-once (Syntax.joined j s r) (Syntax.single e') lo lo' k h g = absurd (omega (arith, (between 12 14 (join_kind j) (join-among j) h.node).0, (expr-interval e').to g))
  set-once (Syntax.joined j s r) (Syntax.range e' f') lo lo' k h g = absurd (omega (arith, (between 12 14 (join_kind j) (join-among j) h.node).0, root g.node))
  set-once (Syntax.joined j s r) (Syntax.joined j' s' r') lo lo' k h g =
      let q = same-join j j' (same_kind h.node g.node) in
      let z = once-two (ap join_kind q) (set-once s s') (set-once r r') h g in
      (cc, z.4)

  pub cond-once : (x y : Syntax.Cond) → Once (Table.Cond t x) (Table.Cond t y) (x ≡ y)
  unfolding Table.Cond
  cond-once (Syntax.compare b r e f) (Syntax.compare b' r' e' f') lo lo' k h g =
      let q = same_test b b' r r' (same_kind h.node g.node) in
      let z = once-two (ap₂ test_kind q.0 q.1) (expr-once e e') (expr-once f f') h g in
      (cc, z.4)
  cond-once (Syntax.compare b r e f) (Syntax.both c' d') lo lo' k h g = absurd (omega (arith, (between 15 26 (test_kind b r) (test-among b r) h.node).1, root g.node))
  cond-once (Syntax.compare b r e f) (Syntax.either c' d') lo lo' k h g = absurd (omega (arith, (between 15 26 (test_kind b r) (test-among b r) h.node).1, root g.node))
  cond-once (Syntax.both c d) (Syntax.compare b' r' e' f') lo lo' k h g = absurd (omega (arith, root h.node, (between 15 26 (test_kind b' r') (test-among b' r') g.node).1))
  cond-once (Syntax.both c d) (Syntax.both c' d') lo lo' k h g = let r = once-two refl (cond-once c c') (cond-once d d') h g in (cc, r.4)
  cond-once (Syntax.both c d) (Syntax.either c' d') lo lo' k h g = absurd (other-kind h.node g.node refl)
  cond-once (Syntax.either c d) (Syntax.compare b' r' e' f') lo lo' k h g = absurd (omega (arith, root h.node, (between 15 26 (test_kind b' r') (test-among b' r') g.node).1))
  cond-once (Syntax.either c d) (Syntax.both c' d') lo lo' k h g = absurd (other-kind h.node g.node refl)
  cond-once (Syntax.either c d) (Syntax.either c' d') lo lo' k h g = let r = once-two refl (cond-once c c') (cond-once d d') h g in (cc, r.4)

  pub number-once : (x y : Syntax.Number) → Once (Table.Number t x) (Table.Number t y) (x ≡ y)
  unfolding Table.Number
  number-once (Syntax.number b d n) (Syntax.number b' d' n') lo lo' k h g =
      let q = same_number b b' d d' (same_kind h.node g.node) in
      let r = once-leaf (ap₂ number_kind q.0 q.1) h g in
      (cc, r.1)

  pub scale-once : (x y : Syntax.Scale) → Once (Table.Scale t x) (Table.Scale t y) (x ≡ y)
  unfolding Table.Scale
  scale-once (Syntax.fixed v) (Syntax.fixed v') lo lo' k h g = let r = number-once v v' lo lo' k h g in (ap Syntax.fixed r.0, r.1)
  scale-once (Syntax.fixed v) (Syntax.named_scale n') lo lo' k h g = absurd (omega (arith, (number-interval v).to h, root g.node))
  scale-once (Syntax.named_scale n) (Syntax.fixed v') lo lo' k h g = absurd (omega (arith, root h.node, (number-interval v').to g))
  scale-once (Syntax.named_scale n) (Syntax.named_scale n') lo lo' k h g = let r = once-leaf refl h g in (ap Syntax.named_scale r.0, r.1)

  pub rate-once : (x y : Syntax.Rate) → Once (Table.Rate t x) (Table.Rate t y) (x ≡ y)
  unfolding Table.Rate
  rate-once (Syntax.plain s) (Syntax.plain s') lo lo' k h g = let r = scale-once s s' lo lo' k h g in (ap Syntax.plain r.0, r.1)
  rate-once (Syntax.plain s) (Syntax.scaled s' e') lo lo' k h g = absurd (omega (arith, (scale-interval s).to h, root g.node))
  rate-once (Syntax.scaled s e) (Syntax.plain s') lo lo' k h g = absurd (omega (arith, root h.node, (scale-interval s').to g))
  rate-once (Syntax.scaled s e) (Syntax.scaled s' e') lo lo' k h g = let r = once-two refl (scale-once s s') (expr-once e e') h g in (cc, r.4)

  pub values-once : (x y : Syntax.Values) → Once (Table.Values t x) (Table.Values t y) (x ≡ y)
  unfolding Table.Values
  values-once (Syntax.one_value e) (Syntax.one_value e') lo lo' k h g = let r = expr-once e e' lo lo' k h g in (ap Syntax.one_value r.0, r.1)
  values-once (Syntax.one_value e) (Syntax.two_values e' f') lo lo' k h g = absurd (omega (arith, (expr-interval e).to h, root g.node))
  values-once (Syntax.two_values e f) (Syntax.one_value e') lo lo' k h g = absurd (omega (arith, root h.node, (expr-interval e').to g))
  values-once (Syntax.two_values e f) (Syntax.two_values e' f') lo lo' k h g = let r = once-two refl (expr-once e e') (expr-once f f') h g in (cc, r.4)

  pub sets-once : (x y : Syntax.Sets) → Once (Table.Sets t x) (Table.Sets t y) (x ≡ y)
  unfolding Table.Sets
  sets-once (Syntax.one_set s) (Syntax.one_set s') lo lo' k h g = let r = set-once s s' lo lo' k h g in (ap Syntax.one_set r.0, r.1)
  sets-once (Syntax.one_set s) (Syntax.two_sets s' r') lo lo' k h g = absurd (omega (arith, (set-interval s).to h, root g.node))
  sets-once (Syntax.two_sets s r) (Syntax.one_set s') lo lo' k h g = absurd (omega (arith, root h.node, (set-interval s').to g))
  sets-once (Syntax.two_sets s r) (Syntax.two_sets s' r') lo lo' k h g = let z = once-two refl (set-once s s') (set-once r r') h g in (cc, z.4)

  pub channel-once : (x y : Syntax.Channel) → Once (Table.Channel t x) (Table.Channel t y) (x ≡ y)
  unfolding Table.Channel
  channel-once (Syntax.one_item e) (Syntax.one_item e') lo lo' k h g = let r = expr-once e e' lo lo' k h g in (ap Syntax.one_item r.0, r.1)
  channel-once (Syntax.one_item e) (Syntax.two_items e' f') lo lo' k h g = absurd (omega (arith, (expr-interval e).to h, root g.node))
  channel-once (Syntax.one_item e) (Syntax.three_items e' f' i') lo lo' k h g = absurd (omega (arith, (expr-interval e).to h, root g.node))
  channel-once (Syntax.two_items e f) (Syntax.one_item e') lo lo' k h g = absurd (omega (arith, root h.node, (expr-interval e').to g))
  channel-once (Syntax.two_items e f) (Syntax.two_items e' f') lo lo' k h g = let r = once-two refl (expr-once e e') (expr-once f f') h g in (cc, r.4)
  channel-once (Syntax.two_items e f) (Syntax.three_items e' f' i') lo lo' k h g = absurd (other-kind h.node g.node refl)
  channel-once (Syntax.three_items e f i) (Syntax.one_item e') lo lo' k h g = absurd (omega (arith, root h.node, (expr-interval e').to g))
  channel-once (Syntax.three_items e f i) (Syntax.two_items e' f') lo lo' k h g = absurd (other-kind h.node g.node refl)
  channel-once (Syntax.three_items e f i) (Syntax.three_items e' f' i') lo lo' k h g = let r = once-three refl (expr-once e e') (expr-once f f') (expr-once i i') h g in (cc, r.4)

  pub action-at : (a : Syntax.Action) (lo k : ℕ) → Table.Action t a lo k → ActionAt (kind_at t k) a
  unfolding Table.Action
  action-at (Syntax.wait n) lo k h = rw (root h.node) (wait n)
  action-at (Syntax.launch c v) lo k h = rw (root h.node) (launch c v)
  action-at (Syntax.kill c v) lo k h = rw (root h.node) (kill c v)
  action-at (Syntax.receive c s) lo k h = rw (root h.node) (receive c s)
  action-at (Syntax.bind c s (Syntax.names n m)) lo k h = rw (root h.node) (bind c s n m)
  action-at (Syntax.check c s) lo k h = rw (root h.node) (check c s)
  action-at (Syntax.hand_send c v) lo k h = rw (root h.node) (hand_send c v)
  action-at (Syntax.hand_receive c s) lo k h = rw (root h.node) (hand_receive c s)
  action-at (Syntax.hand_bind c s (Syntax.names n m)) lo k h = rw (root h.node) (hand_bind c s n m)

  by_kind : {κ : ℕ} {x y : Syntax.Action} → ActionAt κ x → ActionAt κ y → Once (Table.Action t x) (Table.Action t y) (x ≡ y)
  unfolding Table.Action
  by_kind (wait n) (wait n') lo lo' k h g = let r = once-leaf refl h g in (ap Syntax.wait r.0, r.1)
  by_kind (launch c v) (launch c' v') lo lo' k h g = let r = once-two refl (channel-once c c') (values-once v v') h g in (cc, r.4)
  by_kind (kill c v) (kill c' v') lo lo' k h g = let r = once-two refl (channel-once c c') (values-once v v') h g in (cc, r.4)
  by_kind (receive c s) (receive c' s') lo lo' k h g = let r = once-two refl (channel-once c c') (sets-once s s') h g in (cc, r.4)
  by_kind (bind c s n m) (bind c' s' n' m') lo lo' k h g = let r = once-two refl (channel-once c c') (sets-once s s') h g in (cc, r.4)
  by_kind (check c s) (check c' s') lo lo' k h g = let r = once-two refl (channel-once c c') (sets-once s s') h g in (cc, r.4)
  by_kind (hand_send c v) (hand_send c' v') lo lo' k h g = let r = once-two refl (channel-once c c') (values-once v v') h g in (cc, r.4)
  by_kind (hand_receive c s) (hand_receive c' s') lo lo' k h g = let r = once-two refl (channel-once c c') (sets-once s s') h g in (cc, r.4)
  by_kind (hand_bind c s n m) (hand_bind c' s' n' m') lo lo' k h g = let r = once-two refl (channel-once c c') (sets-once s s') h g in (cc, r.4)

  pub action-once : (x y : Syntax.Action) → Once (Table.Action t x) (Table.Action t y) (x ≡ y)
  action-once x y lo lo' k h g = by_kind (action-at x lo k h) (action-at y lo' k g) lo lo' k h g
