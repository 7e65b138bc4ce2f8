-- The sites of a tree in one scope are the leaves of its interval of nodes, in order: a clause for each constructor, from the forms of a tree.
use mathlib.Core.Path.{◌≡◌, refl, sym, ap, ap₂, ◌∙◌}
use mathlib.Core.List.{List, [], ◌++◌, append_assoc, append-nil}
use mathlib.Core.Bool.{Bool, true, false}
use Prim.Native.Nat.{ℕ, zero, suc, ◌+◌, ◌-◌, ◌≤◌}
use native.Mathlib.Omega.{arith}
use borrow.Author.Tests.{ltb-true}
use lib.Dec.{ltb}
use Rattle.grammar.specs.Grammar.{Relation, less, at_most, greater, at_least, same, differs}
use Rattle.grammar.specs.Syntax
use Rattle.grammar.specs.Syntax.{Op, plus, minus, times, divide, maximum, minimum, Join, without, union, inter}
use Rattle.tree.specs.Node.{op_kind, join_kind, relation_kind, test_kind, number_kind}
use Rattle.tree.specs.Table
use Rattle.tree.specs.Table.{Node, Leaf, One, Two}
use Rattle.tree.proofs.Cells.{node-kind, node-token}
use Rattle.model.specs.Sites.{Site, expr_sites, exprs_sites, set_sites, cond_sites, number_sites, scale_sites, rate_sites, values_sites, sets_sites}
use Rattle.names.specs.Leaves.{leaf_sites, site_at, between}

pub between-append : (t : List ℕ) (i a b : ℕ) → between t i (a + b) ≡ between t i a ++ between t (i + a) b
unfolding between
between-append t i zero b =
    let e : zero + b ≡ b = omega arith in
    let f : i + zero ≡ i = omega arith in
    rw (e, f)
between-append t i (suc a) b =
    let e : suc a + b ≡ suc (a + b) = omega arith in
    let f : i + 1 + a ≡ i + suc a = omega arith in
    rw e (ap (λ (x : List Site). site_at t i ++ x) (between-append t (i + 1) a b ∙ ap (λ (j : ℕ). between t (i + 1) a ++ between t j b) f) ∙ sym (append_assoc (site_at t i) (between t (i + 1) a) (between t (i + suc a) b)))

-- the nodes from lo on in two parts, the second from m on
split : (t : List ℕ) (lo m n a b : ℕ) → m ≡ lo + a → n ≡ a + b → between t lo n ≡ between t lo a ++ between t m b
split t lo m n a b e f = rw (f, e) (between-append t lo a b)

-- the trees that P says stand from lo to k have these leaves
pub record Lies (t : List ℕ) (P : ℕ → ℕ → Type 0) (xs : List Site) : Type 0 where
  pub low : {lo k : ℕ} → P lo k → lo ≤ k
  pub leaves : {lo k : ℕ} → P lo k → (n : ℕ) → lo + n ≡ k + 1 → between t lo n ≡ xs

-- ---- the forms of a tree
module _ {t : List ℕ} {κ token : ℕ} (κ-small : ltb κ 256 ≡ true) where
  node-site : {k left third : ℕ} → Node t k κ token left third → between t k 1 ≡ leaf_sites κ token
  unfolding between site_at
  node-site n =
      let h = ltb-true κ 256 κ-small in
      append-nil _ ∙ ap₂ leaf_sites (node-kind n h) (node-token n h)

  pub lies-leaf : Lies t (Leaf t κ token) (leaf_sites κ token)
  lies-leaf =
      record {
        low = λ h. omega (arith, h.low);
        leaves = λ {lo} {k} h n e.
            let a : n ≡ 1 = omega (arith, h.low) in
            rw (a, sym h.low) (node-site h.node);
      }

  module _ (none : leaf_sites κ token ≡ []) where
    pub lies-one : {third : ℕ} {P : ℕ → ℕ → Type 0} {xs : List Site} → Lies t P xs → Lies t (One t κ token third P) xs
    lies-one {xs = xs} p =
        record {
          low = λ h. omega (arith, h.above, p.low h.holds);
          leaves = λ {lo} {k} h n e.
              let l = p.low h.holds in
              let u = h.above in
              split t lo k n (h.root + 1 - lo) 1 (omega arith) (omega arith)
              ∙ ap₂ (λ (a b : List Site). a ++ b) (p.leaves h.holds (h.root + 1 - lo) (omega arith)) (node-site h.node ∙ none)
              ∙ append-nil xs;
        }

    pub lies-two : {third : ℕ} {P Q : ℕ → ℕ → Type 0} {xs ys : List Site} → Lies t P xs → Lies t Q ys → Lies t (Two t κ token third P Q) (xs ++ ys)
    lies-two {xs = xs} {ys = ys} p q =
        record {
          low = λ h. omega (arith, h.above, p.low h.holds-first, q.low h.holds-second);
          leaves = λ {lo} {k} h n e.
              let l = p.low h.holds-first in
              let r = q.low h.holds-second in
              let u = h.above in
              let a = h.left + 1 - lo in
              let b = h.right + 1 - (h.left + 1) in
              split t lo k n (a + b) 1 (omega arith) (omega arith)
              ∙ ap₂ (λ (x y : List Site). x ++ y)
              (split t lo (h.left + 1) (a + b) a b (omega arith) refl
              ∙ ap₂ (λ (x y : List Site). x ++ y) (p.leaves h.holds-first a (omega arith)) (q.leaves h.holds-second b (omega arith)))
              (node-site h.node ∙ none)
              ∙ append-nil (xs ++ ys);
        }

-- ---- kinds that are no leaves
op-none : (o : Op) → (ltb (op_kind o) 256 ≡ true) × (leaf_sites (op_kind o) 0 ≡ [])
unfolding op_kind leaf_sites number_kind
op-none plus = (refl, refl)
op-none minus = (refl, refl)
op-none times = (refl, refl)
op-none divide = (refl, refl)
op-none maximum = (refl, refl)
op-none minimum = (refl, refl)

join-none : (j : Join) → (ltb (join_kind j) 256 ≡ true) × (leaf_sites (join_kind j) 0 ≡ [])
unfolding join_kind leaf_sites number_kind
join-none without = (refl, refl)
join-none union = (refl, refl)
join-none inter = (refl, refl)

test-none : (b : Bool) (r : Relation) → (ltb (test_kind b r) 256 ≡ true) × (leaf_sites (test_kind b r) 0 ≡ [])
unfolding test_kind relation_kind leaf_sites number_kind
test-none false less = (refl, refl)
test-none false at_most = (refl, refl)
test-none false greater = (refl, refl)
test-none false at_least = (refl, refl)
test-none false same = (refl, refl)
test-none false differs = (refl, refl)
test-none true less = (refl, refl)
test-none true at_most = (refl, refl)
test-none true greater = (refl, refl)
test-none true at_least = (refl, refl)
test-none true same = (refl, refl)
test-none true differs = (refl, refl)

-- ---- the sorts of trees
module _ (t : List ℕ) where
  pub expr-lies : (e : Syntax.Expr) → Lies t (Table.Expr t e) (expr_sites e)
  unfolding Table.Expr expr_sites leaf_sites number_kind
  expr-lies (Syntax.literal false n) = lies-leaf refl
  expr-lies (Syntax.literal true n) = lies-leaf refl
  expr-lies (Syntax.named n) = lies-leaf refl
  expr-lies (Syntax.absolute e) = lies-one refl refl (expr-lies e)
  expr-lies (Syntax.binary o e f) = lies-two (op-none o).0 (op-none o).1 (expr-lies e) (expr-lies f)

  pub exprs-lies : (r : Syntax.Exprs) → Lies t (Table.Exprs t r) (exprs_sites r)
  unfolding Table.Exprs exprs_sites leaf_sites number_kind
  exprs-lies (Syntax.last_expr e) = expr-lies e
  exprs-lies (Syntax.next_expr e r) = lies-two refl refl (expr-lies e) (exprs-lies r)

  pub set-lies : (s : Syntax.Set) → Lies t (Table.Set t s) (set_sites s)
  unfolding Table.Set set_sites leaf_sites number_kind
  set-lies (Syntax.single e) = expr-lies e
  set-lies (Syntax.range e f) = lies-two refl refl (expr-lies e) (expr-lies f)
  set-lies (Syntax.joined j s r) = lies-two (join-none j).0 (join-none j).1 (set-lies s) (set-lies r)

  pub cond-lies : (c : Syntax.Cond) → Lies t (Table.Cond t c) (cond_sites c)
  unfolding Table.Cond cond_sites leaf_sites number_kind
  cond-lies (Syntax.compare b r e f) = lies-two (test-none b r).0 (test-none b r).1 (expr-lies e) (expr-lies f)
  cond-lies (Syntax.both c d) = lies-two refl refl (cond-lies c) (cond-lies d)
  cond-lies (Syntax.either c d) = lies-two refl refl (cond-lies c) (cond-lies d)

  pub number-lies : (v : Syntax.Number) → Lies t (Table.Number t v) (number_sites v)
  unfolding Table.Number number_sites leaf_sites number_kind
  number-lies (Syntax.number false false n) = lies-leaf refl
  number-lies (Syntax.number true false n) = lies-leaf refl
  number-lies (Syntax.number false true n) = lies-leaf refl
  number-lies (Syntax.number true true n) = lies-leaf refl

  pub scale-lies : (s : Syntax.Scale) → Lies t (Table.Scale t s) (scale_sites s)
  unfolding Table.Scale scale_sites leaf_sites number_kind
  scale-lies (Syntax.fixed v) = number-lies v
  scale-lies (Syntax.named_scale n) = lies-leaf refl

  pub rate-lies : (r : Syntax.Rate) → Lies t (Table.Rate t r) (rate_sites r)
  unfolding Table.Rate rate_sites leaf_sites number_kind
  rate-lies (Syntax.plain s) = scale-lies s
  rate-lies (Syntax.scaled s e) = lies-two refl refl (scale-lies s) (expr-lies e)

  pub values-lies : (v : Syntax.Values) → Lies t (Table.Values t v) (values_sites v)
  unfolding Table.Values values_sites leaf_sites number_kind
  values-lies (Syntax.one_value e) = expr-lies e
  values-lies (Syntax.two_values e f) = lies-two refl refl (expr-lies e) (expr-lies f)

  pub sets-lies : (s : Syntax.Sets) → Lies t (Table.Sets t s) (sets_sites s)
  unfolding Table.Sets sets_sites leaf_sites number_kind
  sets-lies (Syntax.one_set s) = set-lies s
  sets-lies (Syntax.two_sets s r) = lies-two refl refl (set-lies s) (set-lies r)
