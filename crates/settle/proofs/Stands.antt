-- Where the walk stands, every function that resolves a node may be called, and together they take the walk a step on. From what each of them does.
use mathlib.Core.Path.{◌≡◌, refl, sym, ap, ◌∙◌, subst}
use mathlib.Core.List.{List}
use mathlib.Core.Bool.{true, false}
use Prim.Native.Nat.{ℕ, zero, suc, ◌+◌, ◌-◌, ◌≤◌, ◌<◌, ◌*◌}
use native.Mathlib.Decide.{dec_le}
use native.Mathlib.Omega.{arith}
use lib.ListN.{length, get_or, set, length-take}
use Rattle.model.specs.Limits.{definition_limit}
use Rattle.grammar.specs.Syntax
use Rattle.tree.specs.Node.{field, kind_of, token_of, left_of, third_of, number_kind}
use Rattle.tree.specs.Table
use Rattle.tree.proofs.Cells.{node-left}
use Rattle.tree.proofs.Holds.{number-low}
use Rattle.model.specs.Scope.{scope_width}
use Rattle.model.specs.Sites.{Variable, Definition, variables, definitions}
use Rattle.names.specs.declared.Question.TheVariants.{Given}
use Rattle.names.specs.declared.Lists.{Lists}
use Rattle.names.specs.Placed.{Fits}
use Rattle.names.specs.Settings.{World}
use Rattle.names.proofs.Settled.{root_in, vs-few}
use Rattle.settle.specs.declared.Walk.{Walk}
use Rattle.settle.specs.Walks.{Role, role_of, role_at, Point, cell_by, cell_of, step_by, step, SafeBy, point_at, scope_at}
use Rattle.settle.specs.Walks as role
use Rattle.settle.specs.Places.{Told, Base, Kept, Lookup, Knows, Turn, Settled, marked_by, first_node, line_node}
use Rattle.settle.proofs.Whole.{below}
use Rattle.settle.proofs.Finds.{asks}
use Rattle.settle.proofs.Parameters.{definitions-listed}

-- the numbers of the variables stand first, one a node
numbers-first : (t : List ℕ) (m : Syntax.Model) (lo k : ℕ) → Table.Model t m lo k → (j : ℕ) → j < length (variables m) → left_of (get_or t (k - j) 0) ≡ lo + j
unfolding Table.Model variables
numbers-first t (Syntax.definitions d) lo k h j l = absurd (omega arith)
numbers-first t (Syntax.variable n v m) lo k h zero l =
    let e : k - 0 ≡ k = omega arith in
    rw e (node-left h.node (omega arith) ∙ number-low t v lo h.left h.holds-first ∙ omega arith)
numbers-first t (Syntax.variable n v m) lo k h (suc j) l =
    let r = numbers-first t m (h.left + 1) h.right h.holds-second j (omega arith) in
    let z = number-low t v lo h.left h.holds-first in
    let e : k - suc j ≡ h.right - j = omega (arith, h.above) in
    rw e (r ∙ omega arith)

-- where a branch ends, what it binds counts; nowhere else
safe-bound : (w : ℕ → List ℕ) (vs : List Variable) (told : ℕ → Type 0) (r : Role) (c a b : ℕ) (p : Point) → (r ≡ role.ending → a ≡ b) → SafeBy w vs told r c a p → SafeBy w vs told r c b p
safe-bound w vs told (role.whole x) c a b p e s = s
safe-bound w vs told role.name c a b p e s = s
safe-bound w vs told (role.number x y) c a b p e s = s
safe-bound w vs told role.scale c a b p e s = s
safe-bound w vs told role.action c a b p e s = s
safe-bound w vs told role.ending c a b p e s = rw (← e refl) s
safe-bound w vs told role.sum c a b p e s = s
safe-bound w vs told role.call c a b p e s = s
safe-bound w vs told role.definition c a b p e s = s
safe-bound w vs told (role.item false) c a b p e s = s
safe-bound w vs told (role.item true) c a b p e s = s
safe-bound w vs told role.plain c a b p e s = s

step-bound : (w : ℕ → List ℕ) (vs : List Variable) (ds : List Definition) (r : Role) (c a b : ℕ) (p : Point) → (r ≡ role.ending → a ≡ b) → step_by w vs ds r c a p ≡ step_by w vs ds r c b p
unfolding step_by
step-bound w vs ds (role.whole x) c a b p e = refl
step-bound w vs ds role.name c a b p e = refl
step-bound w vs ds (role.number x y) c a b p e = refl
step-bound w vs ds role.scale c a b p e = refl
step-bound w vs ds role.action c a b p e = refl
step-bound w vs ds role.ending c a b p e = rw (e refl)
step-bound w vs ds role.sum c a b p e = refl
step-bound w vs ds role.call c a b p e = refl
step-bound w vs ds role.definition c a b p e = refl
step-bound w vs ds (role.item x) c a b p e = refl
step-bound w vs ds role.plain c a b p e = refl

-- the walk stands before node i: the nodes from the first definition up to it are resolved, the others are those of the reader's table
pub record Standing (low high nodes roots scopes heard : List ℕ) (lists : Lists) (met : ℕ) (walk : Walk) (i : ℕ) : Type 0 where
  pub table : List ℕ
  pub base : Base low high table lists
  pub point : Point
  pub point-is : point ≡ point_at base.world.word (variables base.world.model) (definitions base.world.model) table i
  pub after : first_node lists ≤ i
  pub before : i ≤ line_node lists
  pub size : length nodes ≡ length table
  pub ahead : (j : ℕ) → i ≤ j → get_or nodes j 0 ≡ get_or table j 0
  pub numbers : (j : ℕ) → j < first_node lists → get_or nodes j 0 ≡ get_or table j 0
  pub done : (j : ℕ) → first_node lists ≤ j → j < i → get_or nodes j 0 ≡ cell_of base.world.word (variables base.world.model) (definitions base.world.model) table j (point_at base.world.word (variables base.world.model) (definitions base.world.model) table j)
  pub knows : Knows low high base.world.kinds heard met walk point
  pub safe : SafeBy base.world.word (variables base.world.model) (Told low base.world.word) (role_at table i) (get_or table i 0) (third_of (get_or table (left_of (get_or table i 0)) 0)) point
  pub linked : role_at table i ≡ role.ending → (first_node lists ≤ left_of (get_or table i 0)) × (left_of (get_or table i 0) < i) × (role_at table (left_of (get_or table i 0)) ≡ role.action)
  pub below : role_at table i ≡ role.sum → (token_of (get_or table i 0) < length roots) × (token_of (get_or table i 0) < length scopes) × (0 < i)
  pub seen_few : length point.seen ≤ i
  pub heard-room : length point.seen < length heard
  pub sums-few : point.sums < field
  pub definitions-few : point.definitions ≤ definition_limit

-- and after it
pub record Stepped {low high nodes roots scopes heard : List ℕ} {lists : Lists} {met : ℕ} {walk : Walk} {i : ℕ} (h : Standing low high nodes roots scopes heard lists met walk i) (nodes' roots' scopes' heard' : List ℕ) (met' : ℕ) (r : Walk) : Type 0 where
  pub nodes-are : nodes' ≡ set nodes i (cell_of h.base.world.word (variables h.base.world.model) (definitions h.base.world.model) h.table i h.point)
  pub roots-are : roots' ≡ marked_by (get_or h.table i 0) roots (i - 1)
  pub scopes-are : scopes' ≡ marked_by (get_or h.table i 0) scopes (scope_at h.point)
  pub knows : Knows low high h.base.world.kinds heard' met' r (step h.base.world.word (variables h.base.world.model) (definitions h.base.world.model) h.table i h.point)
  pub size : length heard' ≡ length heard

module _ {low high nodes roots scopes heard : List ℕ} {lists : Lists} {met : ℕ} {walk : Walk} {i : ℕ} (h : Standing low high nodes roots scopes heard lists met walk i) where
  abbrev t : List ℕ
  t = h.table

  abbrev world : World Given low high t lists
  world = h.base.world

  abbrev w : ℕ → List ℕ
  w = world.word

  abbrev vs : List Variable
  vs = variables world.model

  abbrev ds : List Definition
  ds = definitions world.model

  here : get_or nodes i 0 ≡ get_or t i 0
  here = h.ahead i (omega arith)

  -- a node that stays as it is
  stays : (j : ℕ) → (first_node lists ≤ j → j < i → cell_of w vs ds t j (point_at w vs ds t j) ≡ get_or t j 0) → get_or nodes j 0 ≡ get_or t j 0
  stays j f = by (dec_le i j) (dec_le (first_node lists) j)
    where
      by : Dec (i ≤ j) → Dec (first_node lists ≤ j) → get_or nodes j 0 ≡ get_or t j 0
      by (yes a) b = h.ahead j a
      by (no a) (yes b) = h.done j b (omega arith) ∙ f b (omega arith)
      by (no a) (no b) = h.numbers j (omega arith)

  kept : Kept t nodes lists
  unfolding cell_of cell_by role_of number_kind
  kept =
      let few = vs-few world in
      let v = world.gathered.variables-are in
      let b = below t world.model 0 lists.root world.holds in
      let up = h.before in
      record {
        size = h.size;
        variables = λ j l. h.ahead (lists.root - j) (omega arith);
        numbers = λ j l.
            let e = numbers-first t world.model 0 lists.root world.holds j (omega arith) in
            rw e (h.numbers (0 + j) (omega arith));
        chain = λ j l. h.ahead (lists.root - lists.variables - j) (omega arith);
        definitions = λ j l.
            let r = definitions-listed t b.definitions (0 + length vs) (lists.root - length vs) b.holds j (omega (arith, world.gathered.definitions-are, ap length b.lists)) in
            let e : lists.root - length vs - j ≡ lists.root - lists.variables - j = omega arith in
            let q : left_of (get_or t (lists.root - lists.variables - j) 0) ≡ r.left = ap (λ (n : ℕ). left_of (get_or t n 0)) (sym e) ∙ r.left_is in
            rw q (stays r.left (λ a c. rw r.kind-is));
      }

  pub lookup : Lookup low high nodes lists
  lookup = record { table = t; base = h.base; kept = kept }

  pub inside-nodes : i < length nodes
  inside-nodes = omega (arith, root_in world, h.size, h.before)

  fits : Fits world.kinds (get_or nodes i 0)
  fits = rw here (world.placed i (omega (arith, h.before)))

  -- the action of a branch stays
  bound-same : role_at nodes i ≡ role.ending → third_of (get_or t (left_of (get_or t i 0)) 0) ≡ third_of (get_or nodes (left_of (get_or nodes i 0)) 0)
  unfolding cell_of cell_by
  bound-same q =
      let l = h.linked (rw here at q) in
      rw here (sym (ap third_of (stays (left_of (get_or t i 0)) (λ a c. rw l.2))))

  pub turn : Turn low high nodes lists heard met walk (get_or nodes i 0)
  unfolding lookup
  turn =
      record {
        at = lookup;
        point = h.point;
        knows = h.knows;
        fits = fits;
        inside = λ q. let l = h.linked (rw here at q) in rw here (omega (arith, l.1, inside-nodes));
        safe = safe-bound w vs (Told low w) (role_at nodes i) (get_or nodes i 0) (third_of (get_or t (left_of (get_or t i 0)) 0)) (third_of (get_or nodes (left_of (get_or nodes i 0)) 0)) h.point bound-same (rw here h.safe);
        heard-room = h.heard-room;
        heard-few = omega (arith, h.seen_few, h.before, h.base.room);
        sums-few = h.sums-few;
        definitions-few = omega (arith, h.definitions-few);
      }

  -- what is asked of `mark_sum`
  pub sum-asked : (kind_of (get_or nodes i 0) ≡ 49 → (token_of (get_or nodes i 0) < length roots) × (token_of (get_or nodes i 0) < length scopes) × (0 < i)) × (i < field) × (walk.scope.count < 256) × (walk.definitions ≤ definition_limit)
  unfolding role_of number_kind
  sum-asked =
      (λ z. rw here (h.below (rw (← here, z))), omega (arith, h.before, h.base.room), omega (arith, h.knows.scoped.count), omega (arith, h.knows.definitions, h.definitions-few))

  pub stepped : (r : ℕ) (roots' scopes' heard' : List ℕ) (met' : ℕ) (next : Walk)
      → ((g : Turn low high nodes lists heard met walk (get_or nodes i 0)) → Settled g heard' met' r next)
      → roots' ≡ marked_by (get_or nodes i 0) roots (i - 1) → scopes' ≡ marked_by (get_or nodes i 0) scopes (walk.scope.count + walk.definitions * scope_width) → Stepped h (set nodes i r) roots' scopes' heard' met' next
  unfolding turn lookup cell_of step
  stepped r roots' scopes' heard' met' next f x y =
      let s = f turn in
      record {
        nodes-are = rw (← here) (ap (set nodes i) s.cell-is);
        roots-are = rw (← here) x;
        scopes-are = rw (← here) (y ∙ ap (marked_by (get_or nodes i 0) scopes) marks);
        knows = subst (λ (p : Point). Knows low high world.kinds heard' met' next p) (step-bound w vs ds (role_at nodes i) (get_or nodes i 0) (third_of (get_or nodes (left_of (get_or nodes i 0)) 0)) (third_of (get_or t (left_of (get_or t i 0)) 0)) h.point (λ z. sym (bound-same z)) ∙ ap (λ (c : ℕ). step_by w vs ds (role_of (kind_of c)) c (third_of (get_or t (left_of (get_or t i 0)) 0)) h.point) here) s.knows;
        size = s.size;
      }
    where
      marks : walk.scope.count + walk.definitions * scope_width ≡ scope_at h.point
      marks = omega (arith, h.knows.scoped.count, ap length (h.knows.scoped.locals_are (asks lookup)), length-take walk.scope.count walk.scope.names, h.knows.definitions)
