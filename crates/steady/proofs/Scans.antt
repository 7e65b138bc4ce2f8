-- The first offender of a tree is the first among its interval of nodes: a clause for each constructor, from the forms of a tree. A group's node stands after its items.
use mathlib.Core.Path.{◌≡◌, refl, sym, ap, ap₂, subst, ◌∙◌}
use mathlib.Core.List.{List, []}
use mathlib.Core.Bool.{Bool, true, false, cond, ◌||◌}
use Prim.Native.Nat.{ℕ, zero, suc, ◌+◌, ◌-◌, ◌≤◌, ◌<◌}
use native.Mathlib.Decide.{dec_le}
use native.Mathlib.Omega.{arith}
use borrow.Author.Tests.{ltb-true, eqb-false, eq-eqb, ne_eqb, lt-ltb}
use lib.Dec.{eqb, ltb}
use lib.ListN.{length, get_or}
use Rattle.std.specs.Prelude.{None}
use Rattle.token.specs.Questions.{Found}
use Rattle.grammar.specs.Grammar.{Relation, less, at_most, greater, at_least, same, differs}
use Rattle.grammar.specs.Syntax
use Rattle.grammar.specs.Syntax.{Op, plus, minus, times, divide, maximum, minimum, Join, without, union, inter}
use Rattle.tree.specs.Node as node
use Rattle.tree.specs.Node.{kind_of, token_of, op_kind, join_kind, relation_kind, test_kind, number_kind}
use Rattle.tree.specs.Table
use Rattle.tree.specs.Table.{Node, Leaf, One, Two, Three}
use Rattle.tree.proofs.Cells.{node-kind, node-token}
use Rattle.tree.proofs.Holds.{cont-interval}
use Rattle.model.specs.Lists.{each, when, least}
use Rattle.model.specs.Sites.{Definition, definitions_in, definitions}
use Rattle.model.specs.Stands.{items_of}
use Rattle.profile.specs.Unsteady.{several, several_sums, branch_unsteady, next_unsteady, branches_unsteady, sum_unsteady, cont_unsteady, conts_unsteady, sums_unsteady, unsteady}
use Rattle.names.specs.Faults.{earlier_of}
use Rattle.names.proofs.Earliest.{nothing_right, assoc, swap, least-append}
use Rattle.steady.specs.Scan.{offender_at, first_from}

-- a kind that never offends
abbrev Plain : ℕ → Type 0
Plain κ = (ltb κ 256 ≡ true) × (eqb κ node.group ≡ false) × ((eqb κ node.call || eqb κ node.call_with) ≡ false)

op-plain : (o : Op) → Plain (op_kind o)
unfolding op_kind
op-plain plus = (refl, refl, refl)
op-plain minus = (refl, refl, refl)
op-plain times = (refl, refl, refl)
op-plain divide = (refl, refl, refl)
op-plain maximum = (refl, refl, refl)
op-plain minimum = (refl, refl, refl)

join-plain : (j : Join) → Plain (join_kind j)
unfolding join_kind
join-plain without = (refl, refl, refl)
join-plain union = (refl, refl, refl)
join-plain inter = (refl, refl, refl)

test_plain : (b : Bool) (r : Relation) → Plain (test_kind b r)
unfolding test_kind relation_kind
test_plain false less = (refl, refl, refl)
test_plain false at_most = (refl, refl, refl)
test_plain false greater = (refl, refl, refl)
test_plain false at_least = (refl, refl, refl)
test_plain false same = (refl, refl, refl)
test_plain false differs = (refl, refl, refl)
test_plain true less = (refl, refl, refl)
test_plain true at_most = (refl, refl, refl)
test_plain true greater = (refl, refl, refl)
test_plain true at_least = (refl, refl, refl)
test_plain true same = (refl, refl, refl)
test_plain true differs = (refl, refl, refl)

number-plain : (b d : Bool) → Plain (number_kind b d)
unfolding number_kind
number-plain false false = (refl, refl, refl)
number-plain false true = (refl, refl, refl)
number-plain true false = (refl, refl, refl)
number-plain true true = (refl, refl, refl)

-- s: whether the definition of a name has more than one sum
module _ (s : ℕ → Bool) (t : List ℕ) where
  -- ---- intervals
  first-append : (i a b : ℕ) → first_from s t i (a + b) ≡ earlier_of (first_from s t i a) (first_from s t (i + a) b)
  unfolding first_from earlier_of
  first-append i zero b =
      let e : zero + b ≡ b = omega arith in
      let f : i + zero ≡ i = omega arith in
      rw (e, f)
  first-append i (suc a) b =
      let e : suc a + b ≡ suc (a + b) = omega arith in
      let f : i + 1 + a ≡ i + suc a = omega arith in
      rw e (ap (earlier_of (offender_at s t i)) (first-append (i + 1) a b ∙ ap (λ (j : ℕ). earlier_of (first_from s t (i + 1) a) (first_from s t j b)) f) ∙ sym (assoc (offender_at s t i) (first_from s t (i + 1) a) (first_from s t (i + suc a) b)))

  -- the nodes from lo on in two parts, the second from m on
  split : (lo m n a b : ℕ) → m ≡ lo + a → n ≡ a + b → {f g : Found} → first_from s t lo a ≡ f → first_from s t m b ≡ g → first_from s t lo n ≡ earlier_of f g
  split lo m n a b e f p q = rw f (first-append lo a b ∙ ap₂ earlier_of p (rw e at q))

  -- the trees that P says stand from lo to k have this first offender, and their groups stand after lo
  pub record Lies (P : ℕ → ℕ → Type 0) (f : Found) : Type 0 where
    pub low : {lo k : ℕ} → P lo k → lo ≤ k
    pub first : {lo k : ℕ} → P lo k → (n : ℕ) → lo + n ≡ k + 1 → first_from s t lo n ≡ f
    pub above : {lo k : ℕ} → P lo k → (i : ℕ) → lo ≤ i → i ≤ k → kind_of (get_or t i 0) ≡ node.group → lo < i

  lies-as : {P : ℕ → ℕ → Type 0} {f g : Found} → f ≡ g → Lies P f → Lies P g
  lies-as {P} e p = subst (λ (x : Found). Lies P x) e p

  -- ---- one node
  node-first : {k κ token left third : ℕ} → ltb κ 256 ≡ true → Node t k κ token left third → first_from s t k 1 ≡ cond (eqb κ node.group) (least (when (eqb (kind_of (get_or t (k - 1) 0)) node.item) token)) (cond (eqb κ node.call || eqb κ node.call_with) (least (when (s token) token)) None)
  unfolding first_from offender_at
  node-first {κ = κ} e n =
      let h = ltb-true κ 256 e in
      nothing_right _ ∙ rw (node-kind n h, node-token n h)

  node-plain : {k κ token left third : ℕ} → Plain κ → Node t k κ token left third → first_from s t k 1 ≡ None
  node-plain p n = node-first p.0 n ∙ rw (p.1, p.2)

  not-group : {k κ token left third : ℕ} → Plain κ → Node t k κ token left third → kind_of (get_or t k 0) ≡ node.group → ⊥
  not-group {κ = κ} p n e = eqb-false κ node.group p.1 (sym (node-kind n (ltb-true κ 256 p.0)) ∙ e)

  -- ---- the forms of a tree
  leaf-with : {κ token : ℕ} {f : Found} → (eqb κ node.group ≡ false) → ltb κ 256 ≡ true → ((k : ℕ) → Node t k κ token 0 0 → first_from s t k 1 ≡ f) → Lies (Leaf t κ token) f
  leaf-with {κ} g e q =
      record {
        low = λ h. omega (arith, h.low);
        first = λ {lo} {k} h n e.
            let a : n ≡ 1 = omega (arith, h.low) in
            rw (a, sym h.low) (q k h.node);
        above = λ {lo} {k} h i l m c.
            let z : i ≡ k = omega (arith, h.low) in
            absurd (eqb-false κ node.group g (sym (node-kind h.node (ltb-true κ 256 e)) ∙ rw z at c));
      }

  lies-leaf : {κ token : ℕ} → Plain κ → Lies (Leaf t κ token) None
  lies-leaf p = leaf-with p.1 p.0 (λ k n. node-plain p n)

  one-with : {κ token third : ℕ} {P : ℕ → ℕ → Type 0} {f g : Found} → Lies P f → ((lo k : ℕ) (h : One t κ token third P lo k) → first_from s t k 1 ≡ g) → Lies (One t κ token third P) (earlier_of f g)
  one-with p q =
      record {
        low = λ h. omega (arith, h.above, p.low h.holds);
        first = λ {lo} {k} h n e.
            let l = p.low h.holds in
            let u = h.above in
            split lo k n (h.root + 1 - lo) 1 (omega arith) (omega arith) (p.first h.holds (h.root + 1 - lo) (omega arith)) (q lo k h);
        above = λ {lo} {k} h i l m c.
            let r = p.low h.holds in
            let u = h.above in
            by (dec_le i h.root) (λ v. p.above h.holds i l v c) r u m;
      }
    where
      by : {i lo k r : ℕ} → Dec (i ≤ r) → (i ≤ r → lo < i) → lo ≤ r → k ≡ r + 1 → i ≤ k → lo < i
      by (yes v) f l u m = f v
      by (no v) f l u m = omega arith

  lies-one : {κ token third : ℕ} {P : ℕ → ℕ → Type 0} {f : Found} → Plain κ → Lies P f → Lies (One t κ token third P) f
  lies-one {f = f} c p = lies-as (nothing_right f) (one-with p (λ lo k h. node-plain c h.node))

  lies-two : {κ token third : ℕ} {P Q : ℕ → ℕ → Type 0} {f g : Found} → Plain κ → Lies P f → Lies Q g → Lies (Two t κ token third P Q) (earlier_of f g)
  lies-two {f = f} {g = g} c p q =
      record {
        low = λ h. omega (arith, h.above, p.low h.holds-first, q.low h.holds-second);
        first = λ {lo} {k} h n e.
            let l = p.low h.holds-first in
            let r = q.low h.holds-second in
            let u = h.above in
            let a = h.left + 1 - lo in
            let b = h.right + 1 - (h.left + 1) in
            split lo k n (a + b) 1 (omega arith) (omega arith)
            (split lo (h.left + 1) (a + b) a b (omega arith) refl (p.first h.holds-first a (omega arith)) (q.first h.holds-second b (omega arith)))
            (node-plain c h.node)
            ∙ nothing_right (earlier_of f g);
        above = λ {lo} {k} h i l m d.
            let x = p.low h.holds-first in
            let y = q.low h.holds-second in
            let u = h.above in
            by (dec_le i h.left) (λ v. p.above h.holds-first i l v d) x;
      }
    where
      by : {i lo r : ℕ} → Dec (i ≤ r) → (i ≤ r → lo < i) → lo ≤ r → lo < i
      by (yes v) f l = f v
      by (no v) f l = omega arith

  lies-three : {κ token : ℕ} {P Q R : ℕ → ℕ → Type 0} {f g h : Found} → Plain κ → Lies P f → Lies Q g → Lies R h → Lies (Three t κ token P Q R) (earlier_of (earlier_of f g) h)
  lies-three {f = f} {g = g} {h = h₃} c p q r =
      record {
        low = λ h. omega (arith, h.above, p.low h.holds-first, q.low h.holds-second, r.low h.holds-third);
        first = λ {lo} {k} h n e.
            let x = p.low h.holds-first in
            let y = q.low h.holds-second in
            let z = r.low h.holds-third in
            let u = h.above in
            let a = h.left + 1 - lo in
            let b = h.middle + 1 - (h.left + 1) in
            let d = h.right + 1 - (h.middle + 1) in
            split lo k n (a + b + d) 1 (omega arith) (omega arith)
            (split lo (h.middle + 1) (a + b + d) (a + b) d (omega arith) refl
            (split lo (h.left + 1) (a + b) a b (omega arith) refl (p.first h.holds-first a (omega arith)) (q.first h.holds-second b (omega arith)))
            (r.first h.holds-third d (omega arith)))
            (node-plain c h.node)
            ∙ nothing_right (earlier_of (earlier_of f g) h₃);
        above = λ {lo} {k} h i l m d.
            let x = p.low h.holds-first in
            by (dec_le i h.left) (λ v. p.above h.holds-first i l v d) x;
      }
    where
      by : {i lo r : ℕ} → Dec (i ≤ r) → (i ≤ r → lo < i) → lo ≤ r → lo < i
      by (yes v) f l = f v
      by (no v) f l = omega arith

  -- a fact beside it that is not about the table; two of them
  lies-beside : {A : Type 0} {P : ℕ → ℕ → Type 0} {f : Found} → Lies P f → Lies (λ lo k. A × P lo k) f
  lies-beside p = record { low = λ h. p.low h.1; first = λ h. p.first h.1; above = λ h. p.above h.1 }

  lies-beside-two : {A B : Type 0} {P : ℕ → ℕ → Type 0} {f : Found} → Lies P f → Lies (λ lo k. A × B × P lo k) f
  lies-beside-two p = record { low = λ h. p.low h.2; first = λ h. p.first h.2; above = λ h. p.above h.2 }

  -- ---- trees without groups and calls
  expr-lies : (e : Syntax.Expr) → Lies (Table.Expr t e) None
  unfolding Table.Expr earlier_of
  expr-lies (Syntax.literal false n) = lies-leaf (refl, refl, refl)
  expr-lies (Syntax.literal true n) = lies-leaf (refl, refl, refl)
  expr-lies (Syntax.named n) = lies-leaf (refl, refl, refl)
  expr-lies (Syntax.absolute e) = lies-one (refl, refl, refl) (expr-lies e)
  expr-lies (Syntax.binary o e f) = lies-two (op-plain o) (expr-lies e) (expr-lies f)

  exprs-lies : (r : Syntax.Exprs) → Lies (Table.Exprs t r) None
  unfolding Table.Exprs earlier_of
  exprs-lies (Syntax.last_expr e) = expr-lies e
  exprs-lies (Syntax.next_expr e r) = lies-two (refl, refl, refl) (expr-lies e) (exprs-lies r)

  set-lies : (x : Syntax.Set) → Lies (Table.Set t x) None
  unfolding Table.Set earlier_of
  set-lies (Syntax.single e) = expr-lies e
  set-lies (Syntax.range e f) = lies-two (refl, refl, refl) (expr-lies e) (expr-lies f)
  set-lies (Syntax.joined j x y) = lies-two (join-plain j) (set-lies x) (set-lies y)

  cond-lies : (c : Syntax.Cond) → Lies (Table.Cond t c) None
  unfolding Table.Cond earlier_of
  cond-lies (Syntax.compare b r e f) = lies-two (test_plain b r) (expr-lies e) (expr-lies f)
  cond-lies (Syntax.both c d) = lies-two (refl, refl, refl) (cond-lies c) (cond-lies d)
  cond-lies (Syntax.either c d) = lies-two (refl, refl, refl) (cond-lies c) (cond-lies d)

  number-lies : (v : Syntax.Number) → Lies (Table.Number t v) None
  unfolding Table.Number
  number-lies (Syntax.number b d n) = lies-leaf (number-plain b d)

  scale-lies : (x : Syntax.Scale) → Lies (Table.Scale t x) None
  unfolding Table.Scale
  scale-lies (Syntax.fixed v) = number-lies v
  scale-lies (Syntax.named_scale n) = lies-leaf (refl, refl, refl)

  rate-lies : (r : Syntax.Rate) → Lies (Table.Rate t r) None
  unfolding Table.Rate earlier_of
  rate-lies (Syntax.plain x) = scale-lies x
  rate-lies (Syntax.scaled x e) = lies-two (refl, refl, refl) (scale-lies x) (expr-lies e)

  values-lies : (v : Syntax.Values) → Lies (Table.Values t v) None
  unfolding Table.Values earlier_of
  values-lies (Syntax.one_value e) = expr-lies e
  values-lies (Syntax.two_values e f) = lies-two (refl, refl, refl) (expr-lies e) (expr-lies f)

  sets-lies : (x : Syntax.Sets) → Lies (Table.Sets t x) None
  unfolding Table.Sets earlier_of
  sets-lies (Syntax.one_set x) = set-lies x
  sets-lies (Syntax.two_sets x y) = lies-two (refl, refl, refl) (set-lies x) (set-lies y)

  channel-lies : (c : Syntax.Channel) → Lies (Table.Channel t c) None
  unfolding Table.Channel earlier_of
  channel-lies (Syntax.one_item e) = expr-lies e
  channel-lies (Syntax.two_items e f) = lies-two (refl, refl, refl) (expr-lies e) (expr-lies f)
  channel-lies (Syntax.three_items e f g) = lies-three (refl, refl, refl) (expr-lies e) (expr-lies f) (expr-lies g)

  action-lies : (a : Syntax.Action) → Lies (Table.Action t a) None
  unfolding Table.Action earlier_of
  action-lies (Syntax.wait n) = lies-leaf (refl, refl, refl)
  action-lies (Syntax.launch c v) = lies-two (refl, refl, refl) (channel-lies c) (values-lies v)
  action-lies (Syntax.kill c v) = lies-two (refl, refl, refl) (channel-lies c) (values-lies v)
  action-lies (Syntax.receive c x) = lies-two (refl, refl, refl) (channel-lies c) (sets-lies x)
  action-lies (Syntax.bind c x (Syntax.names n m)) = lies-two (refl, refl, refl) (channel-lies c) (sets-lies x)
  action-lies (Syntax.check c x) = lies-two (refl, refl, refl) (channel-lies c) (sets-lies x)
  action-lies (Syntax.hand_send c v) = lies-two (refl, refl, refl) (channel-lies c) (values-lies v)
  action-lies (Syntax.hand_receive c x) = lies-two (refl, refl, refl) (channel-lies c) (sets-lies x)
  action-lies (Syntax.hand_bind c x (Syntax.names n m)) = lies-two (refl, refl, refl) (channel-lies c) (sets-lies x)

  wholes-lies : (x : Syntax.Wholes) → Lies (Table.Wholes t x) None
  unfolding Table.Wholes earlier_of
  wholes-lies (Syntax.last_whole b n) = expr-lies (Syntax.literal b n)
  wholes-lies (Syntax.next_whole b n r) = lies-two (refl, refl, refl) (expr-lies (Syntax.literal b n)) (wholes-lies r)

  start-lies : (x : Syntax.Start) → Lies (Table.Start t x) None
  unfolding Table.Start
  start-lies (Syntax.once n Syntax.no_starts) = lies-leaf (refl, refl, refl)
  start-lies (Syntax.once n (Syntax.starts x)) = lies-one (refl, refl, refl) (wholes-lies x)
  start-lies (Syntax.counted c n Syntax.no_starts) = lies-beside (lies-leaf (refl, refl, refl))
  start-lies (Syntax.counted c n (Syntax.starts x)) = lies-beside (lies-one (refl, refl, refl) (wholes-lies x))

  system-lies : (x : Syntax.System) → Lies (Table.System t x) None
  unfolding Table.System earlier_of
  system-lies (Syntax.last_start x) = start-lies x
  system-lies (Syntax.next_start x r) = lies-two (refl, refl, refl) (start-lies x) (system-lies r)

-- ---- groups and calls

some-items : (c : Syntax.Conts) → 1 ≤ length (items_of c)
unfolding items_of
some-items (Syntax.last_cont c) = omega arith
some-items (Syntax.next_cont c r) = omega arith

-- the root of a group's items tells whether there are several
conts-several : (t : List ℕ) (c : Syntax.Conts) (lo k : ℕ) → Table.Conts t c lo k → eqb (kind_of (get_or t k 0)) node.item ≡ several (items_of c)
unfolding Table.Conts items_of several
conts-several t (Syntax.last_cont c) lo k h = ne_eqb (kind_of (get_or t k 0)) node.item (λ e. omega (arith, (cont-interval c).to h))
conts-several t (Syntax.next_cont c r) lo k h =
    let l = some-items r in
    eq-eqb (kind_of (get_or t k 0)) node.item (node-kind h.node (omega arith)) ∙ sym (lt-ltb 1 (suc (length (items_of r))) (omega arith))

-- w: the bytes of each token; ds: the definitions; t: the reader's table
module _ (w : ℕ → List ℕ) (ds : List Definition) (t : List ℕ) where
  abbrev s : ℕ → Bool
  s = several_sums w ds

  call-node : {k n left third : ℕ} (κ : ℕ) → ltb κ 256 ≡ true → eqb κ node.group ≡ false → (eqb κ node.call || eqb κ node.call_with) ≡ true → Node t k κ n left third → first_from s t k 1 ≡ least (when (s n) n)
  call-node κ a b c h = node-first s t a h ∙ rw (b, c)

  group-node : {n : ℕ} (c : Syntax.Conts) {lo k : ℕ} → One t node.group n 0 (Table.Conts t c) lo k → first_from s t k 1 ≡ least (when (several (items_of c)) n)
  group-node {n} c {lo} {k} h =
      let e : k - 1 ≡ h.root = omega (arith, h.above) in
      node-first s t refl h.node ∙ ap (λ (b : Bool). least (when b n)) (rw e (conts-several t c lo h.root h.holds))

  mutual
    unfolding Table.Branch Table.Offer Table.Branches Table.Sum Table.Cont Table.Conts branch_unsteady next_unsteady branches_unsteady sum_unsteady cont_unsteady conts_unsteady earlier_of least

    branch-lies : (b : Syntax.Branch) → Lies s t (Table.Branch t b) (least (branch_unsteady w ds b))
    branch-lies (Syntax.branch f Syntax.no_gate a r n) = offer-lies f a r n
    branch-lies (Syntax.branch f (Syntax.gate c) a r n) = lies-two s t (refl, refl, refl) (cond-lies s t c) (offer-lies f a r n)

    offer-lies : (f : ℕ) (a : Syntax.Action) (r : Syntax.Rate) (n : Syntax.Next) → Lies s t (Table.Offer t f a r n) (least (next_unsteady w ds n))
    offer-lies f a r Syntax.stop = lies-two s t (refl, refl, refl) (action-lies s t a) (rate-lies s t r)
    offer-lies f a r (Syntax.dot c) = lies-three s t (refl, refl, refl) (action-lies s t a) (rate-lies s t r) (cont-lies c)

    branches-lies : (b : Syntax.Branches) → Lies s t (Table.Branches t b) (least (branches_unsteady w ds b))
    branches-lies (Syntax.last_branch b) = branch-lies b
    branches-lies (Syntax.next_branch b r) =
        lies-as s t (sym (least-append (branch_unsteady w ds b) (branches_unsteady w ds r))) (lies-two s t (refl, refl, refl) (branch-lies b) (branches-lies r))

    sum_lies : (x : Syntax.Sum) → Lies s t (Table.Sum t x) (least (sum_unsteady w ds x))
    sum_lies (Syntax.sum n b) = lies-one s t (refl, refl, refl) (branches-lies b)

    cont-lies : (c : Syntax.Cont) → Lies s t (Table.Cont t c) (least (cont_unsteady w ds c))
    cont-lies (Syntax.proceed x) = sum_lies x
    cont-lies (Syntax.call n Syntax.no_args) = leaf-with s t refl refl (λ k h. call-node node.call refl refl refl h)
    cont-lies (Syntax.call n (Syntax.args r)) = one-with s t (exprs-lies s t r) (λ lo k h. call-node node.call_with refl refl refl h.node)
    cont-lies (Syntax.group n c) =
        lies-as s t (swap (least (conts_unsteady w ds c)) (least (when (several (items_of c)) n)) ∙ sym (least-append (when (several (items_of c)) n) (conts_unsteady w ds c)))
        (one-with s t (conts-lies c) (λ lo k h. group-node c h))

    conts-lies : (c : Syntax.Conts) → Lies s t (Table.Conts t c) (least (conts_unsteady w ds c))
    conts-lies (Syntax.last_cont c) = cont-lies c
    conts-lies (Syntax.next_cont c r) =
        lies-as s t (sym (least-append (cont_unsteady w ds c) (conts_unsteady w ds r))) (lies-two s t (refl, refl, refl) (cont-lies c) (conts-lies r))

  sums-lies : (x : Syntax.Sums) → Lies s t (Table.Sums t x) (least (sums_unsteady w ds x))
  unfolding Table.Sums sums_unsteady
  sums-lies (Syntax.last_sum x) = sum_lies x
  sums-lies (Syntax.next_sum x r) = lies-as s t (sym (least-append (sum_unsteady w ds x) (sums_unsteady w ds r))) (lies-two s t (refl, refl, refl) (sum_lies x) (sums-lies r))

  definition-lies : (n : ℕ) (p : Syntax.Params) (b : Syntax.Sums) → Lies s t (Table.Definition t n p b) (least (sums_unsteady w ds b))
  unfolding Table.Definition
  definition-lies n Syntax.no_params b = lies-one s t (refl, refl, refl) (sums-lies b)
  definition-lies n (Syntax.params (Syntax.names f m)) b = lies-beside-two s t (lies-one s t (refl, refl, refl) (sums-lies b))

  -- what a list of definitions offends with
  abbrev all : List Definition → List ℕ
  all es = each (λ d. sums_unsteady w ds d.sums) es

  definitions-lies : (d : Syntax.Definitions) → Lies s t (Table.Definitions t d) (least (all (definitions_in d)))
  unfolding Table.Definitions definitions_in each least
  definitions-lies (Syntax.last_definition n p b x) =
      lies-as s t (sym (least-append (sums_unsteady w ds b) [])) (lies-two s t (refl, refl, refl) (definition-lies n p b) (system-lies s t x))
  definitions-lies (Syntax.next_definition n p b d) =
      lies-as s t (sym (least-append (sums_unsteady w ds b) (all (definitions_in d)))) (lies-two s t (refl, refl, refl) (definition-lies n p b) (definitions-lies d))

  model-lies : (m : Syntax.Model) → Lies s t (Table.Model t m) (least (all (definitions m)))
  unfolding Table.Model definitions earlier_of
  model-lies (Syntax.definitions d) = definitions-lies d
  model-lies (Syntax.variable n v m) = lies-two s t (refl, refl, refl) (number-lies s t v) (model-lies m)

-- the first offender of a text's tree is the first among its nodes
pub tree-first : (w : ℕ → List ℕ) (m : Syntax.Model) (t : List ℕ) (root : ℕ) → Table.Model t m 0 root → first_from (several_sums w (definitions m)) t 0 (root + 1) ≡ least (unsteady w m)
unfolding unsteady
tree-first w m t root h = (model-lies w (definitions m) t m).first h (root + 1) (omega arith)

-- and a group's node has one before it
pub group-above : (m : Syntax.Model) (t : List ℕ) (root : ℕ) → Table.Model t m 0 root → (i : ℕ) → i ≤ root → kind_of (get_or t i 0) ≡ node.group → 0 < i
group-above m t root h i l e = (model-lies (λ k. []) (definitions m) t m).above h i (omega arith) l e
