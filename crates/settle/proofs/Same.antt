-- Settling a tree leaves one set of tables: two that it leaves, whatever was lent, are the same as far as they are used. From the tree's one table.
use mathlib.Core.Path.{◌≡◌, refl, sym, ap, ap₂, ◌∙◌}
use mathlib.Core.List.{List}
use Prim.Native.Nat.{ℕ, zero, suc, ◌+◌, ◌≤◌, ◌<◌}
use native.Mathlib.Decide.{dec_le}
use native.Mathlib.Omega.{arith}
use lib.ListN.{length, get_or, take, length-take}
use lib.Seq.{get_or-take, ext_get_or}
use Rattle.grammar.specs.Syntax
use Rattle.tree.specs.Node.{token_of, left_of, third_of}
use Rattle.tree.proofs.Alike.{one_table}
use Rattle.model.specs.Sites.{Variable, Definition, variables, definitions}
use Rattle.settle.specs.declared.Model.{Model}
use Rattle.settle.specs.Walks.{Role, sum, role_at, Point, step_by, cell_of, step, walked, scope_at}
use Rattle.settle.specs.Walks as role
use Rattle.settle.specs.Settles.{point_in, line_in, Settles, SameTables}

-- ---- the walk reads no other nodes than those it goes over
module _ (w : ℕ → List ℕ) (vs : List Variable) (ds : List Definition) where
  -- how many names an action binds matters at the end of a branch only
  bound-alike : (r : Role) (c a b : ℕ) (p : Point) → (r ≡ role.ending → a ≡ b) → step_by w vs ds r c a p ≡ step_by w vs ds r c b p
  unfolding step_by
  bound-alike (role.whole x) c a b p h = refl
  bound-alike role.name c a b p h = refl
  bound-alike (role.number x y) c a b p h = refl
  bound-alike role.scale c a b p h = refl
  bound-alike role.action c a b p h = refl
  bound-alike role.ending c a b p h = let e = h refl in rw e
  bound-alike role.sum c a b p h = refl
  bound-alike role.call c a b p h = refl
  bound-alike role.definition c a b p h = refl
  bound-alike (role.item x) c a b p h = refl
  bound-alike role.plain c a b p h = refl

  module _ (t t' : List ℕ) (first end : ℕ) (same : (i : ℕ) → i < end → get_or t' i 0 ≡ get_or t i 0) (linked : (i : ℕ) → first ≤ i → i < end → role_at t i ≡ role.ending → left_of (get_or t i 0) < i) where
    step-alike : (i : ℕ) (p : Point) → first ≤ i → i < end → step w vs ds t' i p ≡ step w vs ds t i p
    unfolding step
    step-alike i p f l =
        let e = same i l in
        rw e (bound-alike (role_at t i) (get_or t i 0) (third_of (get_or t' (left_of (get_or t i 0)) 0)) (third_of (get_or t (left_of (get_or t i 0)) 0)) p (λ r. ap third_of (same (left_of (get_or t i 0)) (omega (arith, linked i f l r)))))

    pub walked-alike : (n : ℕ) (p : Point) → first + n ≤ end → walked w vs ds t' first n p ≡ walked w vs ds t first n p
    unfolding walked
    walked-alike zero p l = refl
    walked-alike (suc n) p l = rw (walked-alike n p (omega arith)) (step-alike (first + n) (walked w vs ds t first n p) (omega arith) (omega arith))

  pub cell-alike : (t t' : List ℕ) (i : ℕ) (p : Point) → get_or t' i 0 ≡ get_or t i 0 → cell_of w vs ds t' i p ≡ cell_of w vs ds t i p
  unfolding cell_of
  cell-alike t t' i p e = rw e

-- ---- two lists with the same first n
pub same-take : (n : ℕ) (xs ys : List ℕ) → n ≤ length xs → n ≤ length ys → ((i : ℕ) → i < n → get_or xs i 0 ≡ get_or ys i 0) → take n xs ≡ take n ys
same-take n xs ys a b h =
    ext_get_or 0 (take n xs) (take n ys) (simp length-take (omega arith))
    (λ i l. let u : i < n = omega (arith, length-take n xs) in rw (get_or-take n xs i 0 u, get_or-take n ys i 0 u) (h i u))

model-alike : {r r' v v' d d' s s' c c' : ℕ} → r ≡ r' → v ≡ v' → d ≡ d' → s ≡ s' → c ≡ c' → ◌≡◌ {A = Model} (record { lists = record { root = r; variables = v; definitions = d }; sums = s; channels = c }) (record { lists = record { root = r'; variables = v'; definitions = d' }; sums = s'; channels = c' })
model-alike e f g h i = rw (e, f, g, h, i)

module _ {w : ℕ → List ℕ} {m : Syntax.Model} {nodes roots scopes nodes' roots' scopes' : List ℕ} {x y : Model} (a : Settles w m nodes roots scopes x) (b : Settles w m nodes' roots' scopes' y) where
  root_is : x.lists.root ≡ y.lists.root
  root_is = (one_table a.table b.table m x.lists.root y.lists.root a.holds b.holds a.size b.size).0

  table_is : a.table ≡ b.table
  table_is = (one_table a.table b.table m x.lists.root y.lists.root a.holds b.holds a.size b.size).1

  abbrev first : ℕ
  first = length (variables m)

  abbrev line : ℕ
  line = line_in m x.lists.root

  line-is : line ≡ line_in m y.lists.root
  line-is = ap (line_in m) root_is

  sums-are : x.sums ≡ y.sums
  sums-are = a.sums-are ∙ ap₂ (λ (t : List ℕ) (r : ℕ). (point_in w m t (line_in m r + 1)).sums) table_is root_is ∙ sym b.sums-are

  channels-are : x.channels ≡ y.channels
  channels-are = a.channels-are ∙ ap₂ (λ (t : List ℕ) (r : ℕ). length (point_in w m t (line_in m r + 1)).seen) table_is root_is ∙ sym b.channels-are

  node-is : (i : ℕ) → i ≤ x.lists.root → get_or nodes i 0 ≡ get_or nodes' i 0
  node-is i l = by (dec_le first i) (dec_le i line)
    where
      by : Dec (first ≤ i) → Dec (i ≤ line) → get_or nodes i 0 ≡ get_or nodes' i 0
      by (yes f) (yes u) = a.resolved i f u ∙ ap (λ (t : List ℕ). cell_of w (variables m) (definitions m) t i (point_in w m t i)) table_is ∙ sym (b.resolved i f (omega (arith, line-is)))
      by (no f) u = a.before i (omega arith) ∙ ap (λ (t : List ℕ). get_or t i 0) table_is ∙ sym (b.before i (omega arith))
      by (yes f) (no u) = a.after i (omega arith) l ∙ ap (λ (t : List ℕ). get_or t i 0) table_is ∙ sym (b.after i (omega (arith, line-is)) (omega (arith, root_is)))

  -- sum n in both
  sum_is : (n : ℕ) → n < x.sums → (get_or roots n 0 ≡ get_or roots' n 0) × (get_or scopes n 0 ≡ get_or scopes' n 0)
  sum_is n l =
      let s = a.numbered n (omega arith) in
      let i = s.at in
      let k = s.number in
      let u : i ≤ line_in m y.lists.root = omega (arith, s.to, line-is) in
      let r : role_at b.table i ≡ sum = ap (λ (t : List ℕ). role_at t i) (sym table_is) ∙ s.is_sum in
      let q : token_of (get_or b.table i 0) ≡ n = ap (λ (t : List ℕ). token_of (get_or t i 0)) (sym table_is) ∙ k in (
        ap (λ (j : ℕ). get_or roots j 0) (sym k) ∙ a.branches i s.from s.to s.is_sum ∙ sym (b.branches i s.from u r) ∙ ap (λ (j : ℕ). get_or roots' j 0) q,
        ap (λ (j : ℕ). get_or scopes j 0) (sym k) ∙ a.locals i s.from s.to s.is_sum ∙ ap (λ (t : List ℕ). scope_at (point_in w m t i)) table_is ∙ sym (b.locals i s.from u r) ∙ ap (λ (j : ℕ). get_or scopes' j 0) q,
      )

  pub same_numbers : x ≡ y
  same_numbers = model-alike root_is (a.variables-are ∙ sym b.variables-are) (a.definitions-are ∙ sym b.definitions-are) sums-are channels-are

  pub settled-once : SameTables nodes roots scopes nodes' roots' scopes' x
  settled-once =
      record {
        same_nodes = same-take (x.lists.root + 1) nodes nodes' (omega (arith, a.nodes-fit)) (omega (arith, b.nodes-fit, root_is)) (λ i l. node-is i (omega arith));
        same-roots = same-take x.sums roots roots' a.roots-fit (omega (arith, b.roots-fit, sums-are)) (λ i l. (sum_is i l).0);
        same-scopes = same-take x.sums scopes scopes' a.scopes-fit (omega (arith, b.scopes-fit, sums-are)) (λ i l. (sum_is i l).1);
      }
