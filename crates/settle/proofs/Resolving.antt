-- The loop over the nodes: what holds before each of them, and what the tables represent after the last. From one node's step, and from the laws of the whole walk.
use mathlib.Core.Path.{◌≡◌, refl, sym, ap, ◌∙◌, subst}
use mathlib.Core.List.{List}
use mathlib.Core.Bool.{Bool, true, false, cond}
use Prim.Native.Nat.{ℕ, ◌+◌, ◌-◌, ◌≤◌, ◌<◌}
use native.Mathlib.Decide.{ℕ_discrete}
use native.Mathlib.Omega.{arith}
use borrow.Author.Tests.{eqb-true}
use lib.Dec.{eqb}
use lib.ListN.{length, get_or, take, set, length-set, length-take}
use lib.Seq.{get_or-take, get_or-set_same, get_or-set_other}
use Rattle.grammar.specs.Syntax
use Rattle.tree.specs.Node.{kind_of, token_of, number_kind}
use Rattle.model.specs.Sites.{Variable, Definition, variables, definitions}
use Rattle.model.specs.Resolved.{resolved, channel_names}
use Rattle.model.specs.Numbering.{count_definitions}
use Rattle.names.specs.declared.Lists.{Lists}
use Rattle.tree.specs.Table
use Rattle.tree.proofs.Holds.{model-interval}
use Rattle.names.specs.Lists.{Gathered}
use Rattle.model.specs.Resolved
use Rattle.names.proofs.Settled.{root_in, vs-few}
use Rattle.tables.specs.Represents.{Represents}
use Rattle.settle.specs.declared.Walk.{Walk}
use Rattle.settle.specs.Walks.{Role, role_of, role_at, Point, cell_of, step, point_at, begun, scope_at}
use Rattle.settle.specs.Walks as role
use Rattle.settle.specs.Places.{Told, Lookup, word_in, kinds_in, variables_in, definitions_of, Knows, marked_by, first_node, line_node, Resolvable}
use Rattle.settle.proofs.Stands.{Standing, Stepped}
use Rattle.settle.proofs.Whole.{steps_on, trace-begun, names-few, numbers-few, definitions-below, node-safe, number-below, node-linked, numbers_apart, line_after, sums-after, names-after, sum-node, represented, definitions-few}
use Rattle.settle.specs.Settles.{SumNode, line_in, Settles}
use Rattle.settle.proofs.Same.{walked-alike, cell-alike}
use Rattle.settle.proofs.Roles.{Kinded, as-whole, as-negative, as-name, as_number, as-scale, as-action, as-ending, as-sum, as_call, as-definition, as-start, as-counted, as_plain, kinded}

sum-kind : (κ : ℕ) → role_of κ ≡ role.sum → κ ≡ 49
sum-kind κ q = by (role_of κ) (kinded κ) q
  where
    by : (r : Role) → Kinded κ r → r ≡ role.sum → κ ≡ 49
    by r (as-whole x) q = absurd (let z : ◌≡◌ {A = ℕ} 0 1 = cc in omega arith)
    by r (as-negative x) q = absurd (let z : ◌≡◌ {A = ℕ} 0 1 = cc in omega arith)
    by r (as-name x) q = absurd (let z : ◌≡◌ {A = ℕ} 0 1 = cc in omega arith)
    by r (as_number b d x) q = absurd (let z : ◌≡◌ {A = ℕ} 0 1 = cc in omega arith)
    by r (as-scale x) q = absurd (let z : ◌≡◌ {A = ℕ} 0 1 = cc in omega arith)
    by r (as-action x y) q = absurd (let z : ◌≡◌ {A = ℕ} 0 1 = cc in omega arith)
    by r (as-ending x y) q = absurd (let z : ◌≡◌ {A = ℕ} 0 1 = cc in omega arith)
    by r (as-sum x) q = x
    by r (as_call x y) q = absurd (let z : ◌≡◌ {A = ℕ} 0 1 = cc in omega arith)
    by r (as-definition x) q = absurd (let z : ◌≡◌ {A = ℕ} 0 1 = cc in omega arith)
    by r (as-start x y) q = absurd (let z : ◌≡◌ {A = ℕ} 0 1 = cc in omega arith)
    by r (as-counted x y) q = absurd (let z : ◌≡◌ {A = ℕ} 0 1 = cc in omega arith)
    by r (as_plain a b c d e f) q = absurd (let z : ◌≡◌ {A = ℕ} 0 1 = cc in omega arith)

kind-sum : (κ : ℕ) → κ ≡ 49 → role_of κ ≡ role.sum
unfolding role_of number_kind
kind-sum κ e = rw e

marked-size : (c : ℕ) (xs : List ℕ) (v : ℕ) → length (marked_by c xs v) ≡ length xs
unfolding marked_by
marked-size c xs v = by (eqb (kind_of c) 49)
  where
    by : (b : Bool) → length (cond b (set xs (token_of c) v) xs) ≡ length xs
    by true = length-set xs (token_of c) v
    by false = refl

marked-here : (c : ℕ) (xs : List ℕ) (v : ℕ) → kind_of c ≡ 49 → token_of c < length xs → get_or (marked_by c xs v) (token_of c) 0 ≡ v
unfolding marked_by
marked-here c xs v e l = rw e (get_or-set_same xs (token_of c) v 0 l)

marked_other : (c : ℕ) (xs : List ℕ) (v n : ℕ) → (kind_of c ≡ 49 → n ≡ token_of c → ⊥) → get_or (marked_by c xs v) n 0 ≡ get_or xs n 0
unfolding marked_by
marked_other c xs v n f = by (eqb (kind_of c) 49) refl
  where
    by : (b : Bool) → eqb (kind_of c) 49 ≡ b → get_or (cond b (set xs (token_of c) v) xs) n 0 ≡ get_or xs n 0
    by true q = get_or-set_other xs (token_of c) n v 0 (f (eqb-true (kind_of c) 49 q))
    by false q = refl

represents-as : {nodes roots scopes : List ℕ} {r r' v v' d d' n n' c c' : ℕ} {x : Resolved.Model} → r ≡ r' → v ≡ v' → d ≡ d' → n ≡ n' → c ≡ c' → Represents nodes roots scopes r v d n c x → Represents nodes roots scopes r' v' d' n' c' x
represents-as e f g k l z = rw (e, f, g, k, l) at z

module _ {low high t : List ℕ} {R S N : ℕ} {lists : Lists} (h : Resolvable low high t R S N lists) where
  abbrev w : ℕ → List ℕ
  w = h.base.world.word

  abbrev m : Syntax.Model
  m = h.base.world.model

  abbrev vs : List Variable
  vs = variables m

  abbrev ds : List Definition
  ds = definitions m

  abbrev point : ℕ → Point
  point i = point_at w vs ds t i

  -- before node i
  pub record Progress (i : ℕ) (nodes roots scopes heard : List ℕ) (met : ℕ) (walk : Walk) : Type 0 where
    pub size : length nodes ≡ length t
    pub roots-size : length roots ≡ R
    pub scopes-size : length scopes ≡ S
    pub heard-size : length heard ≡ N
    pub ahead : (j : ℕ) → i ≤ j → get_or nodes j 0 ≡ get_or t j 0
    pub numbers : (j : ℕ) → j < first_node lists → get_or nodes j 0 ≡ get_or t j 0
    pub done : (j : ℕ) → first_node lists ≤ j → j < i → get_or nodes j 0 ≡ cell_of w vs ds t j (point j)
    pub knows : Knows low high h.base.world.kinds heard met walk (point i)
    pub sums : (j : ℕ) → first_node lists ≤ j → j < i → role_at t j ≡ role.sum → (get_or roots (token_of (get_or t j 0)) 0 ≡ j - 1) × (get_or scopes (token_of (get_or t j 0)) 0 ≡ scope_at (point j))

  first-is : length vs ≡ lists.variables
  first-is = sym h.base.world.gathered.variables-are

  line-is : lists.root - length vs - length ds ≡ line_node lists
  line-is = omega (arith, h.base.world.gathered.variables-are, h.base.world.gathered.definitions-are)

  pub standing : (i : ℕ) (nodes roots scopes heard : List ℕ) (met : ℕ) (walk : Walk) → first_node lists ≤ i → i ≤ line_node lists → Progress i nodes roots scopes heard met walk → Standing low high nodes roots scopes heard lists met walk i
  standing i nodes roots scopes heard met walk f l x =
      let T = Told low w in
      let from : length vs ≤ i = omega (arith, first-is) in
      let to : i ≤ lists.root - length vs - length ds = omega (arith, line-is) in
      let c = numbers-few w m t i in
      let s = names-few w m t i in
      let up : line_node lists ≤ lists.root = omega arith in
      record {
        table = t;
        base = h.base;
        point = point i;
        point-is = refl;
        after = f;
        before = l;
        size = x.size;
        ahead = x.ahead;
        numbers = x.numbers;
        done = x.done;
        knows = x.knows;
        safe = node-safe w m t lists.root h.faultless h.new T h.decimals h.base.world.holds t roots scopes i from to;
        linked = λ q. let z = node-linked w m t lists.root h.faultless h.new T h.decimals h.base.world.holds t roots scopes i from to q in (omega (arith, z.0, first-is), z.1, z.2);
        below = λ q.
            let z = number-below w m t lists.root h.faultless h.new T h.decimals h.base.world.holds t roots scopes i from to q in
            let y = sums-after w m t lists.root h.faultless h.new T h.decimals h.base.world.holds t roots scopes in
            let b = numbers-few w m t (lists.root - length vs - length ds + 1) in
            (omega (arith, z.0, b.0, y, line-is, x.roots-size, h.roots-room), omega (arith, z.0, b.0, y, line-is, x.scopes-size, h.scopes-room), z.1);
        seen_few = s;
        heard-room = omega (arith, s, x.heard-size, h.names-room);
        sums-few = omega (arith, c.0, h.base.room);
        definitions-few = omega (arith, definitions-few w m t lists.root h.faultless h.new T h.decimals h.base.world.holds t roots scopes i from to, h.base.few);
      }

  pub progressed : (i : ℕ) (nodes roots scopes heard nodes' roots' scopes' heard' : List ℕ) (met met' : ℕ) (walk r : Walk) → first_node lists ≤ i → i ≤ line_node lists → Progress i nodes roots scopes heard met walk
      → ((g : Standing low high nodes roots scopes heard lists met walk i) → Stepped g nodes' roots' scopes' heard' met' r) → Progress (i + 1) nodes' roots' scopes' heard' met' r
  unfolding standing
  progressed i nodes roots scopes heard nodes' roots' scopes' heard' met met' walk r f l x g =
      let T = Told low w in
      let st = standing i nodes roots scopes heard met walk f l x in
      let s = g st in
      let from : length vs ≤ i = omega (arith, first-is) in
      let to : i ≤ lists.root - length vs - length ds = omega (arith, line-is) in
      let room : i < length nodes = omega (arith, x.size, root_in h.base.world) in
      let c = cell_of w vs ds t i (point i) in
      let other : (j : ℕ) → (j ≡ i → ⊥) → get_or nodes' j 0 ≡ get_or nodes j 0 = λ j e. ap (λ (l : List ℕ). get_or l j 0) s.nodes-are ∙ get_or-set_other nodes i j c 0 e in
      let apart = numbers_apart w m t lists.root h.faultless h.new T h.decimals h.base.world.holds t roots scopes in
      record {
        size = ap length s.nodes-are ∙ length-set nodes i c ∙ x.size;
        roots-size = ap length s.roots-are ∙ marked-size (get_or t i 0) roots (i - 1) ∙ x.roots-size;
        scopes-size = ap length s.scopes-are ∙ marked-size (get_or t i 0) scopes (scope_at (point i)) ∙ x.scopes-size;
        heard-size = s.size ∙ x.heard-size;
        ahead = λ j q. other j (λ e. omega arith) ∙ x.ahead j (omega arith);
        numbers = λ j q. other j (λ e. omega arith) ∙ x.numbers j q;
        done = λ j a b. done-by j a b (ℕ_discrete j i) c other x.done (ap (λ (l : List ℕ). get_or l i 0) s.nodes-are ∙ get_or-set_same nodes i c 0 room);
        knows = subst (λ (p : Point). Knows low high h.base.world.kinds heard' met' r p) (sym (steps_on w m t i from)) s.knows;
        sums = λ j a b q. sums_by j a b q (ℕ_discrete j i) s st.below apart;
      }
    where
      done-by : (j : ℕ) → first_node lists ≤ j → j < i + 1 → Dec (j ≡ i) → (c : ℕ) → ((j : ℕ) → (j ≡ i → ⊥) → get_or nodes' j 0 ≡ get_or nodes j 0) → ((j : ℕ) → first_node lists ≤ j → j < i → get_or nodes j 0 ≡ cell_of w vs ds t j (point j)) → get_or nodes' i 0 ≡ cell_of w vs ds t i (point i) → get_or nodes' j 0 ≡ cell_of w vs ds t j (point j)
      done-by j a b (yes e) c other before now = rw e now
      done-by j a b (no e) c other before now = other j e ∙ before j a (omega (arith, e))

      Placed : ℕ → List ℕ → List ℕ → Type 0
      Placed j rs ss = (get_or rs (token_of (get_or t j 0)) 0 ≡ j - 1) × (get_or ss (token_of (get_or t j 0)) 0 ≡ scope_at (point j))

      sums_by : (j : ℕ) → first_node lists ≤ j → j < i + 1 → role_at t j ≡ role.sum → Dec (j ≡ i) → Stepped (standing i nodes roots scopes heard met walk f l x) nodes' roots' scopes' heard' met' r
          → (role_at t i ≡ role.sum → (token_of (get_or t i 0) < length roots) × (token_of (get_or t i 0) < length scopes) × (0 < i))
          → ((i j : ℕ) → length vs ≤ i → i ≤ lists.root - length vs - length ds → length vs ≤ j → j ≤ lists.root - length vs - length ds → role_at t i ≡ role.sum → role_at t j ≡ role.sum → token_of (get_or t i 0) ≡ token_of (get_or t j 0) → i ≡ j)
          → (get_or roots' (token_of (get_or t j 0)) 0 ≡ j - 1) × (get_or scopes' (token_of (get_or t j 0)) 0 ≡ scope_at (point j))
      sums_by j a b q (yes e) s below apart =
          let k = sum-kind (kind_of (get_or t i 0)) (rw e at q) in
          let z = below (rw e at q) in
          rw e (ap (λ (l : List ℕ). get_or l (token_of (get_or t i 0)) 0) s.roots-are ∙ marked-here (get_or t i 0) roots (i - 1) k z.0, ap (λ (l : List ℕ). get_or l (token_of (get_or t i 0)) 0) s.scopes-are ∙ marked-here (get_or t i 0) scopes (scope_at (point i)) k z.1)
      sums_by j a b q (no e) s below apart =
          let n = token_of (get_or t j 0) in
          let off : kind_of (get_or t i 0) ≡ 49 → n ≡ token_of (get_or t i 0) → ⊥ = λ k y. e (apart j i (omega (arith, first-is)) (omega (arith, line-is)) (omega (arith, first-is)) (omega (arith, line-is)) q (kind-sum (kind_of (get_or t i 0)) k) y) in
          let before = x.sums j a (omega (arith, e)) q in
          (ap (λ (l : List ℕ). get_or l n 0) s.roots-are ∙ marked_other (get_or t i 0) roots (i - 1) n off ∙ before.0, ap (λ (l : List ℕ). get_or l n 0) s.scopes-are ∙ marked_other (get_or t i 0) scopes (scope_at (point i)) n off ∙ before.1)

  -- ---- at the start
  pub look : Lookup low high t lists
  look = record { table = t; base = h.base; kept = record { size = refl; variables = λ j l. refl; numbers = λ j l. refl; chain = λ j l. refl; definitions = λ j l. refl } }

  pub starting : {roots₀ scopes₀ heard₀ : List ℕ} → length roots₀ ≡ R → length scopes₀ ≡ S → length heard₀ ≡ N → (walk : Walk) → ((g : Lookup low high t lists) (heard : List ℕ) → Knows low high (kinds_in g) heard 0 walk (begun (word_in g) (variables_in g) (definitions_of g))) → Progress (first_node lists) t roots₀ scopes₀ heard₀ 0 walk
  unfolding look
  starting {heard₀ = heard₀} roots-is scopes-is heard-is walk s =
      let e : point (first_node lists) ≡ begun w vs ds = ap point (sym first-is) ∙ trace-begun w m t in
      record {
        size = refl;
        roots-size = roots-is;
        scopes-size = scopes-is;
        heard-size = heard-is;
        ahead = λ j l. refl;
        numbers = λ j l. refl;
        done = λ j a b. absurd (omega arith);
        knows = rw e (s look heard₀);
        sums = λ j a b q. absurd (omega arith);
      }

  pub line-inside : (lists.variables ≤ lists.root) × (lists.definitions ≤ lists.root - lists.variables) × (first_node lists ≤ line_node lists + 1)
  line-inside =
      let b = definitions-below w m t lists.root h.faultless h.new (Told low w) h.decimals h.base.world.holds in
      let z = line_after w m t lists.root h.faultless h.new (Told low w) h.decimals h.base.world.holds t t t in
      (omega (arith, vs-few h.base.world, first-is), omega (arith, b, first-is, h.base.world.gathered.definitions-are), omega (arith, z, first-is, line-is))

  -- ---- at the end
  pub finished : (nodes roots scopes heard : List ℕ) (met : ℕ) (walk : Walk) (i : ℕ) → i ≡ line_node lists + 1 → Progress i nodes roots scopes heard met walk → Represents nodes roots scopes lists.root lists.variables lists.definitions walk.sums met (resolved w m)
  finished nodes roots scopes heard met walk i q x =
      let T = Told low w in
      let z = line-is in
      let e : i ≡ lists.root - length vs - length ds + 1 = omega arith in
      let y = rw e at x in
      let a = sums-after w m t lists.root h.faultless h.new T h.decimals h.base.world.holds nodes roots scopes in
      let b = names-after w m t lists.root h.faultless h.new T h.decimals h.base.world.holds nodes roots scopes in
      let c = numbers-few w m t (lists.root - length vs - length ds + 1) in
      let sums : walk.sums ≡ count_definitions ds = y.knows.sums ∙ a in
      let channels : met ≡ length (channel_names w vs ds) = y.knows.channels ∙ ap length b in
      represents-as refl first-is (sym h.base.world.gathered.definitions-are) (sym sums) (sym channels)
      (represented w m t lists.root h.faultless h.new T h.decimals h.base.world.holds nodes roots scopes h.base.room
      (λ j f l. y.done j (omega (arith, first-is)) l) (λ j f l r. y.sums j (omega (arith, first-is)) l r) (λ j l. y.ahead j l)
      (omega (arith, c.0, a, x.roots-size, h.roots-room)) (omega (arith, c.0, a, x.scopes-size, h.scopes-room)))

  -- ---- the tables are told by the words and the tree

  -- the tree's nodes and no more
  abbrev table : List ℕ
  table = take (lists.root + 1) t

  -- the system line's node, the last of the walk
  abbrev last_node : ℕ
  last_node = line_in m lists.root

  table_at : (i : ℕ) → i ≤ lists.root → get_or table i 0 ≡ get_or t i 0
  table_at i l = get_or-take (lists.root + 1) t i 0 (omega arith)

  point-same : (i : ℕ) → i ≤ last_node + 1 → point_at w vs ds table i ≡ point i
  unfolding point_at
  point-same i l =
      let T = Told low w in
      let b = definitions-below w m t lists.root h.faultless h.new T h.decimals h.base.world.holds in
      let z = line_after w m t lists.root h.faultless h.new T h.decimals h.base.world.holds t t t in
      walked-alike w vs ds t table (length vs) (last_node + 1) (λ j u. table_at j (omega arith))
      (λ j f u r. (node-linked w m t lists.root h.faultless h.new T h.decimals h.base.world.holds t t t j f (omega arith) r).1)
      (i - length vs) (begun w vs ds) (omega arith)

  node_of : (n : ℕ) → (i : ℕ) × (length vs ≤ i) × (i < last_node + 1) × (role_at t i ≡ role.sum) × (token_of (get_or t i 0) ≡ n) → SumNode table (length vs) last_node n
  node_of n s =
      let g = table_at s.0 (omega (arith, s.2)) in
      record { at = s.0; from = s.1; to = omega (arith, s.2); is_sum = rw g s.3; number = rw g s.4 }

  pub settles : (nodes roots scopes heard : List ℕ) (met : ℕ) (walk : Walk) (i : ℕ) → i ≡ line_node lists + 1 → Progress i nodes roots scopes heard met walk
      → Settles w m nodes roots scopes (record { lists = lists; sums = walk.sums; channels = met })
  settles nodes roots scopes heard met walk i q x =
      let T = Told low w in
      let r = lists.root in
      let z = line-is in
      let e : i ≡ last_node + 1 = omega arith in
      let y = rw e at x in
      let a = sums-after w m t r h.faultless h.new T h.decimals h.base.world.holds nodes roots scopes in
      let c = numbers-few w m t (last_node + 1) in
      let sums : walk.sums ≡ count_definitions ds = y.knows.sums ∙ a in
      let fit : walk.sums ≤ r + 1 = omega (arith, c.0, sums, a) in
      record {
        table = table;
        holds = (model-interval m).keep (λ j f l. table_at j l) h.base.world.holds;
        size = length-take (r + 1) t ∙ omega (arith, root_in h.base.world);
        variables-are = h.base.world.gathered.variables-are;
        definitions-are = h.base.world.gathered.definitions-are;
        sums-are = y.knows.sums ∙ ap (λ (p : Point). p.sums) (sym (point-same (last_node + 1) (omega arith)));
        channels-are = y.knows.channels ∙ ap (λ (p : Point). length p.seen) (sym (point-same (last_node + 1) (omega arith)));
        nodes-fit = omega (arith, x.size, root_in h.base.world);
        resolved = λ j f l.
            y.done j (omega (arith, first-is)) (omega arith)
            ∙ ap (λ (p : Point). cell_of w vs ds t j p) (sym (point-same j (omega arith)))
            ∙ sym (cell-alike w vs ds t table j (point_at w vs ds table j) (table_at j (omega arith)));
        before = λ j l. y.numbers j (omega (arith, first-is)) ∙ sym (table_at j (omega (arith, vs-few h.base.world)));
        after = λ j f l. y.ahead j (omega arith) ∙ sym (table_at j l);
        roots-fit = omega (arith, x.roots-size, h.roots-room);
        scopes-fit = omega (arith, x.scopes-size, h.scopes-room);
        numbered = λ n l. node_of n (sum-node w m t r h.faultless h.new T h.decimals h.base.world.holds nodes roots scopes h.base.room
            (λ j f l. y.done j (omega (arith, first-is)) l) (λ j f l r. y.sums j (omega (arith, first-is)) l r) (λ j l. y.ahead j l)
            (omega (arith, c.0, a, x.roots-size, h.roots-room)) (omega (arith, c.0, a, x.scopes-size, h.scopes-room)) n (omega arith));
        branches = λ j f l k. let g = table_at j (omega arith) in rw g (y.sums j (omega (arith, first-is)) (omega arith) (rw g at k)).0;
        locals = λ j f l k. let g = table_at j (omega arith) in rw g ((y.sums j (omega (arith, first-is)) (omega arith) (rw g at k)).1 ∙ ap scope_at (sym (point-same j (omega arith))));
      }

-- ---- the cases of `settle`

lists-alike : {r v d r' v' d' : ℕ} → r ≡ r' → v ≡ v' → d ≡ d' → ◌≡◌ {A = Lists} (record { root = r; variables = v; definitions = d }) (record { root = r'; variables = v'; definitions = d' })
lists-alike e f g = rw (e, f, g)

module _ {low high t : List ℕ} {R S N : ℕ} {lists : Lists} (h : Resolvable low high t R S N lists) (root : ℕ) (root_is : lists.root ≡ root) where
  pub model-there : (m : Syntax.Model) × (lo : ℕ) × Table.Model t m lo root
  model-there = (h.base.world.model, 0, rw root_is at h.base.world.holds)

  module _ (r : Lists) (is : (m : Syntax.Model) (lo : ℕ) → Table.Model t m lo root → Gathered m root r) where
    pub same_lists : lists ≡ r
    same_lists =
        let g = is h.base.world.model 0 (rw root_is at h.base.world.holds) in
        let x = h.base.world.gathered in
        lists-alike (root_is ∙ sym g.root_is) (x.variables-are ∙ sym g.variables-are) (x.definitions-are ∙ sym g.definitions-are)

    pub root-same : r.root ≡ root
    root-same = ap (λ (x : Lists). x.root) (sym same_lists) ∙ root_is

    pub resolvable : Resolvable low high t R S N r
    resolvable = subst (λ (l : Lists). Resolvable low high t R S N l) same_lists h

    -- before node i of the loop
    pub standing-at : (nodes roots scopes heard : List ℕ) (met : ℕ) (walk : Walk) (i : ℕ) → r.variables ≤ i → i ≤ line_node r
        → ((g : Resolvable low high t R S N r) → Progress g i nodes roots scopes heard met walk) → Standing low high nodes roots scopes heard r met walk i
    standing-at nodes roots scopes heard met walk i f l x = standing resolvable i nodes roots scopes heard met walk f l (x resolvable)

    pub settled-so : (nodes roots scopes heard : List ℕ) (met : ℕ) (walk : Walk) (i line : ℕ) → line ≡ r.root - r.variables - r.definitions → line < i → i ≤ line + 1
        → ((g : Resolvable low high t R S N r) → Progress g i nodes roots scopes heard met walk)
        → Represents nodes roots scopes r.root r.variables r.definitions walk.sums met (resolved h.base.world.word h.base.world.model)
        × Settles h.base.world.word h.base.world.model nodes roots scopes (record { lists = r; sums = walk.sums; channels = met })
    settled-so nodes roots scopes heard met walk i line e l u f =
        let q : i ≡ line_node r + 1 = omega (arith, e) in
        subst (λ (k : Lists). (g : Resolvable low high t R S N k)
        → Represents nodes roots scopes r.root r.variables r.definitions walk.sums met (resolved g.base.world.word g.base.world.model)
        × Settles g.base.world.word g.base.world.model nodes roots scopes (record { lists = r; sums = walk.sums; channels = met })) (sym same_lists)
        (λ g. (finished g nodes roots scopes heard met walk i q (f g), settles g nodes roots scopes heard met walk i q (f g))) h
