-- The faults of an action, a branch's own parts and a call: what each return of the functions over them says. From the sites that leaves are.
use mathlib.Core.Path.{◌≡◌, refl, sym, ap, ap₂, ◌∙◌}
use mathlib.Core.List.{List, [], ◌∷◌, ◌++◌, append-nil, append_assoc}
use mathlib.Core.Bool.{Bool, true, false, cond, not, ◌&&◌}
use mathlib.Core.Logic.{◌⊎◌, inl, inr, ⊎_elim}
use Prim.Native.Nat.{ℕ, ◌+◌, ◌-◌, ◌≤◌, ◌<◌}
use native.Mathlib.Omega.{arith}
use borrow.Author.Tests.{eq-eqb, ne_eqb, eqb-true, eqb-false}
use lib.Dec.{eqb}
use lib.ListN.{length, get_or, drop, length-drop}
use Rattle.std.specs.Prelude.{None}
use Rattle.token.specs.Questions.{Found}
use Rattle.token.specs.Kind as kind
use Rattle.grammar.specs.Syntax
use Rattle.tree.specs.Node as node
use Rattle.tree.specs.Node.{field, kind_of, token_of, left_of, third_of, number_kind}
use Rattle.tree.specs.Table
use Rattle.tree.specs.Table.{Two, Three}
use Rattle.tree.proofs.Cells.{node-kind, node-token, node-left, node-third}
use Rattle.tree.proofs.Interval.{kind_at}
use Rattle.tree.proofs.Holds.{expr-interval, set-interval, values-interval, sets-interval, rate-interval}
use Rattle.model.specs.Lists.{each, least, every_other}
use Rattle.model.specs.Sites.{Site, value, bound, branch, call, expr_sites, exprs_sites, item_sites, channel_sites, is_lone, values_sites, sets_sites, count_sets, tokens_of, action_sites, bindings, rate_sites, count_args, args_sites, variables, definitions}
use Rattle.model.specs.Sites as sites
use Rattle.model.specs.Limits.{local_limit, site_beyond}
use Rattle.names.specs.declared.Question.{Question}
use Rattle.names.specs.declared.Lists.{Lists}
use Rattle.names.specs.declared.scope.Scope.{Scope}
use Rattle.names.specs.Faults.{earlier_of}
use Rattle.names.specs.Leaves.{between}
use Rattle.names.specs.Placed.{IsName, Named, names, binds, sort_of, SortFits}
use Rattle.names.specs.Settings.{World, Setting, Binding, faults_at}
use Rattle.names.specs.Walks.{RoomFor, Closes, bound_sites}
use Rattle.names.proofs.Earliest.{least-append, least-none, nothing-second}
use Rattle.names.proofs.Between.{expr-lies, exprs-lies, values-lies, sets-lies, rate-lies}
use Rattle.names.proofs.Judges.{each_append}
use Rattle.names.proofs.Scopes.{every-length}
use Rattle.names.proofs.Parts.{left_at, third_at, token_at, two-parts}

-- a token's number has 16 bits
pub token-small : (c : ℕ) → token_of c < field
unfolding token_of
token-small c = omega arith

-- ---- how many sets
module _ (t : List ℕ) where
  pub two-sets : (s : Syntax.Sets) (lo k : ℕ) → kind_at t k ≡ node.pair → Table.Sets t s lo k → 2 ≡ count_sets s
  unfolding Table.Sets count_sets
  two-sets (Syntax.one_set s) lo k e h = absurd (omega (arith, (set-interval s).to h))
  two-sets (Syntax.two_sets s r) lo k e h = refl

  pub one_set : (s : Syntax.Sets) (lo k : ℕ) → (kind_at t k ≡ node.pair → ⊥) → Table.Sets t s lo k → 1 ≡ count_sets s
  unfolding Table.Sets count_sets
  one_set (Syntax.one_set s) lo k e h = refl
  one_set (Syntax.two_sets s r) lo k e h = absurd (e (node-kind h.node (omega arith)))

-- ---- a channel's items
-- whether an item's node is that of a lone name; the cases of `is_lone`
abbrev pub lone_at : List ℕ → ℕ → Bool
lone_at kinds c = eqb (kind_of c) node.named && not (eqb (get_or kinds (token_of c + 1) 0) kind.close_round)

pub other-kind : (kinds : List ℕ) (c κ : ℕ) → κ ≡ kind_of c → (κ ≡ node.named → ⊥) → false ≡ lone_at kinds c
other-kind kinds c κ e n = simp (ne_eqb (kind_of c) node.named (λ q. n (e ∙ q)))

pub named-kind : (kinds : List ℕ) (c κ k x : ℕ) → κ ≡ kind_of c → κ ≡ node.named → k ≡ token_of c → x ≡ get_or kinds (k + 1) 0 → not (eqb x kind.close_round) ≡ lone_at kinds c
named-kind kinds c κ k x e n q r = rw (r, q) (simp (eq-eqb (kind_of c) node.named (sym e ∙ n)))

op-small : (o : Syntax.Op) → (node.op_kind o < 256) × (4 < node.op_kind o)
unfolding node.op_kind
op-small Syntax.plus = (omega arith, omega arith)
op-small Syntax.minus = (omega arith, omega arith)
op-small Syntax.times = (omega arith, omega arith)
op-small Syntax.divide = (omega arith, omega arith)
op-small Syntax.maximum = (omega arith, omega arith)
op-small Syntax.minimum = (omega arith, omega arith)

module _ (t kinds : List ℕ) (w : ℕ → List ℕ) (closes : Closes kinds w) where
  item-is : (c : Syntax.Expr) (lo k : ℕ) → Table.Expr t c lo k → item_sites w c ≡ cond (lone_at kinds (get_or t k 0)) [] (expr_sites c)
  unfolding Table.Expr item_sites expr_sites is_lone
  item-is (Syntax.literal false n) lo k h = simp (ne_eqb (kind_at t k) node.named (λ e. omega (arith, node-kind h.node (omega arith))))
  item-is (Syntax.literal true n) lo k h = simp (ne_eqb (kind_at t k) node.named (λ e. omega (arith, node-kind h.node (omega arith))))
  item-is (Syntax.named n) lo k h =
      simp (eq-eqb (kind_at t k) node.named (node-kind h.node (omega arith)))
      (rw (node-token h.node (omega arith), closes (n + 1)))
  item-is (Syntax.absolute e) lo k h = simp (ne_eqb (kind_at t k) node.named (λ e. omega (arith, node-kind h.node (omega arith))))
  item-is (Syntax.binary o e f) lo k h =
      simp (ne_eqb (kind_at t k) node.named (λ q. omega (arith, node-kind h.node (op-small o).0, (op-small o).1)))

  module _ (f : Site → List ℕ) (c : Syntax.Expr) (lo k : ℕ) (h : Table.Expr t c lo k) (b : Bool) (is : b ≡ lone_at kinds (get_or t k 0)) where
    pub lone-none : b ≡ true → None ≡ least (each f (item_sites w c))
    unfolding each least
    lone-none e = rw (item-is c lo k h, ← is, e)

    pub not-lone : b ≡ false → (r : Found) → r ≡ least (each f (between t lo (k + 1 - lo))) → r ≡ least (each f (item_sites w c))
    not-lone e r q =
        let l = (expr-interval c).low h in
        rw (item-is c lo k h, ← is, e) (q ∙ ap (λ (xs : List Site). least (each f xs)) ((expr-lies t c).leaves h (k + 1 - lo) (omega arith)))

-- ---- what an action binds
module _ (t : List ℕ) where
  -- names are bound
  pub record Bound (a : Syntax.Action) (k : ℕ) : Type 0 where
    pub sets : Syntax.Sets
    pub low : ℕ
    pub holds : Table.Sets t sets low (k - 1)
    pub sites : bound_sites a ≡ bound (every_other (token_at t k) (third_at t k)) (count_sets sets) ∷ []
    pub kind : sort_of (kind_at t k) ≡ binds
    pub above : 0 < k

  two-third : {κ token third : ℕ} {P Q : ℕ → ℕ → Type 0} {lo k : ℕ} → κ < 256 → Two t κ token third P Q lo k → third_at t k ≡ third
  two-third l h = node-third h.node l

  binding : {κ n m : ℕ} {P : ℕ → ℕ → Type 0} {lo k : ℕ} (s : Syntax.Sets) (a : Syntax.Action) → κ < 256 → sort_of κ ≡ binds → bound_sites a ≡ bound (every_other n m) (count_sets s) ∷ [] → Two t κ n m P (Table.Sets t s) lo k → Bound a k
  binding {k = k} s a l q e h =
      let p = two-parts t l h in
      record {
        sets = s;
        low = left_at t k + 1;
        holds = p.1;
        sites = rw (node-token h.node l, node-third h.node l) e;
        kind = rw (node-kind h.node l) q;
        above = p.2;
      }

  pub bound_of : (a : Syntax.Action) (lo k : ℕ) → Table.Action t a lo k → ((bound_sites a ≡ []) × (third_at t k ≡ 0)) ⊎ Bound a k
  unfolding Table.Action bound_sites tokens_of sort_of number_kind
  bound_of (Syntax.wait n) lo k h = inl (refl, node-third h.node (omega arith))
  bound_of (Syntax.launch c v) lo k h = inl (refl, two-third (omega arith) h)
  bound_of (Syntax.kill c v) lo k h = inl (refl, two-third (omega arith) h)
  bound_of (Syntax.receive c s) lo k h = inl (refl, two-third (omega arith) h)
  bound_of (Syntax.bind c s (Syntax.names n m)) lo k h = inr (binding s (Syntax.bind c s (Syntax.names n m)) (omega arith) refl refl h)
  bound_of (Syntax.check c s) lo k h = inl (refl, two-third (omega arith) h)
  bound_of (Syntax.hand_send c v) lo k h = inl (refl, two-third (omega arith) h)
  bound_of (Syntax.hand_receive c s) lo k h = inl (refl, two-third (omega arith) h)
  bound_of (Syntax.hand_bind c s (Syntax.names n m)) lo k h = inr (binding s (Syntax.hand_bind c s (Syntax.names n m)) (omega arith) refl refl h)

  none-bound : (k : ℕ) → third_at t k ≡ 0 → [] ≡ every_other (token_at t k) (third_at t k)
  unfolding every_other
  none-bound k e = rw e

  two-bound : {κ n m : ℕ} {P Q : ℕ → ℕ → Type 0} {lo k : ℕ} → κ < 256 → Two t κ n m P Q lo k → every_other n m ≡ every_other (token_at t k) (third_at t k)
  two-bound l h = rw (node-token h.node l, node-third h.node l)

  -- as a list
  pub bindings-are : (a : Syntax.Action) (lo k : ℕ) → Table.Action t a lo k → bindings a ≡ every_other (token_at t k) (third_at t k)
  unfolding Table.Action bindings tokens_of
  bindings-are (Syntax.wait n) lo k h = none-bound k (node-third h.node (omega arith))
  bindings-are (Syntax.launch c v) lo k h = none-bound k (two-third (omega arith) h)
  bindings-are (Syntax.kill c v) lo k h = none-bound k (two-third (omega arith) h)
  bindings-are (Syntax.receive c s) lo k h = none-bound k (two-third (omega arith) h)
  bindings-are (Syntax.bind c s (Syntax.names n m)) lo k h = two-bound (omega arith) h
  bindings-are (Syntax.check c s) lo k h = none-bound k (two-third (omega arith) h)
  bindings-are (Syntax.hand_send c v) lo k h = none-bound k (two-third (omega arith) h)
  bindings-are (Syntax.hand_receive c s) lo k h = none-bound k (two-third (omega arith) h)
  bindings-are (Syntax.hand_bind c s (Syntax.names n m)) lo k h = two-bound (omega arith) h

-- one site
pub one_each : (f : Site → List ℕ) (x : Site) (xs : List Site) → xs ≡ x ∷ [] → least (each f xs) ≡ least (f x)
unfolding each
one_each f x xs e = rw e (ap least (append-nil (f x)))

pub drop-few : (r n k : ℕ) → least (drop r (every_other k n)) ≡ None → n ≤ r
drop-few r n k e =
    let d = ap length (least-none (drop r (every_other k n)) e) in
    omega (arith, length-drop r (every_other k n), every-length k n)

-- ---- the cases of `binding_fault`
module _ {question : Question} {low high nodes : List ℕ} {lists : Lists} {scope : Scope} (h : Setting question low high nodes lists scope) (a : Syntax.Action) (lo k : ℕ) (holds : Table.Action nodes a lo k) (below : k ≤ lists.root) where
  pub bound-fits : sort_of (kind_at nodes k) ≡ binds → (0 < token_at nodes k) × (0 < third_at nodes k) × Named h.world.kinds (every_other (token_at nodes k) (third_at nodes k))
  unfolding SortFits
  bound-fits e = rw e at (h.world.placed k below)

  pub none-binding : third_at nodes k ≡ 0 → None ≡ least (each (faults_at h) (bound_sites a))
  unfolding each least
  none-binding e = ⊎_elim (λ q. rw q.0) (λ q. absurd (omega (arith, (bound-fits q.kind).1))) (bound_of nodes a lo k holds)

  module _ (n : ℕ) (is : n ≡ third_at nodes k) (some : n ≡ 0 → ⊥) where
    pub some-bound : Bound nodes a k
    some-bound = ⊎_elim (λ q. absurd (some (is ∙ q.1))) (λ q. q) (bound_of nodes a lo k holds)

    unfoldable pub is-binding : (first : ℕ) → first ≡ token_at nodes k → RoomFor question h.world.word h.locals (bound_sites a) → Binding question low high nodes lists scope first n
    unfolding site_beyond
    is-binding first at room =
        record {
          setting = h;
          named = rw (at, is) (bound-fits some-bound.kind).2;
          after = rw at (bound-fits some-bound.kind).0;
          some = rw is (bound-fits some-bound.kind).1;
          room = λ q.
              let e = sym (one_each (site_beyond h.world.word h.locals) (bound (every_other (token_at nodes k) (third_at nodes k)) (count_sets some-bound.sets)) (bound_sites a) some-bound.sites) ∙ room q in
              omega (arith, drop-few (local_limit - length h.locals) (third_at nodes k) (token_at nodes k) e, h.scoped.count, is, (bound-fits some-bound.kind).1);
        }

    pub binding-judged : (first : ℕ) → first ≡ token_at nodes k → (s : ℕ) → s ≡ count_sets some-bound.sets → (r : Found) → r ≡ least (faults_at h (bound (every_other first n) s)) → r ≡ least (each (faults_at h) (bound_sites a))
    binding-judged first at s e r q =
        q
        ∙ ap (λ (x : ℕ). least (faults_at h (bound (every_other x n) s))) at
        ∙ ap₂ (λ (m z : ℕ). least (faults_at h (bound (every_other (token_at nodes k) m) z))) is e
        ∙ sym (one_each (faults_at h) (bound (every_other (token_at nodes k) (third_at nodes k)) (count_sets some-bound.sets)) (bound_sites a) some-bound.sites)

-- ---- an action's parts
module _ (t : List ℕ) where
  -- a channel, values or sets, and names that are bound
  pub record Acted (a : Syntax.Action) (from k : ℕ) : Type 0 where
    pub channel : Syntax.Channel
    pub rest : List Site
    pub holds : Table.Channel t channel from (left_at t k)
    pub rest-are : between t (left_at t k + 1) (k - (left_at t k + 1)) ≡ rest
    pub sites : (w : ℕ → List ℕ) → action_sites w a ≡ channel_sites w channel ++ rest ++ bound_sites a
    pub below : left_at t k + 1 < k

  sending : {κ : ℕ} {from k : ℕ} (a : Syntax.Action) (c : Syntax.Channel) (v : Syntax.Values) → κ < 256 → ((w : ℕ → List ℕ) → action_sites w a ≡ channel_sites w c ++ values_sites v) → bound_sites a ≡ [] → Two t κ 0 0 (Table.Channel t c) (Table.Values t v) from k → Acted a from k
  sending {k = k} a c v l e n h =
      let p = two-parts t l h in
      let b = (values-interval v).low p.1 in
      record {
        channel = c;
        rest = values_sites v;
        holds = p.0;
        rest-are = (values-lies t v).leaves p.1 (k - (left_at t k + 1)) (omega (arith, p.2));
        sites = λ w. e w ∙ sym (rw n (append-nil (channel_sites w c ++ values_sites v)));
        below = omega (arith, p.2);
      }

  asking : {κ n m : ℕ} {from k : ℕ} (a : Syntax.Action) (c : Syntax.Channel) (s : Syntax.Sets) → κ < 256 → ((w : ℕ → List ℕ) → action_sites w a ≡ channel_sites w c ++ sets_sites s ++ bound_sites a) → Two t κ n m (Table.Channel t c) (Table.Sets t s) from k → Acted a from k
  asking {k = k} a c s l e h =
      let p = two-parts t l h in
      let b = (sets-interval s).low p.1 in
      record {
        channel = c;
        rest = sets_sites s;
        holds = p.0;
        rest-are = (sets-lies t s).leaves p.1 (k - (left_at t k + 1)) (omega (arith, p.2));
        sites = e;
        below = omega (arith, p.2);
      }

  pub acted-of : (a : Syntax.Action) (from k : ℕ) → (kind_at t k ≡ node.wait → ⊥) → Table.Action t a from k → Acted a from k
  unfolding Table.Action action_sites bound_sites
  acted-of (Syntax.wait n) from k e h = absurd (e (node-kind h.node (omega arith)))
  acted-of (Syntax.launch c v) from k e h = sending (Syntax.launch c v) c v (omega arith) (λ w. refl) refl h
  acted-of (Syntax.kill c v) from k e h = sending (Syntax.kill c v) c v (omega arith) (λ w. refl) refl h
  acted-of (Syntax.receive c s) from k e h = asking (Syntax.receive c s) c s (omega arith) (λ w. sym (append-nil _)) h
  acted-of (Syntax.bind c s (Syntax.names n m)) from k e h = asking (Syntax.bind c s (Syntax.names n m)) c s (omega arith) (λ w. refl) h
  acted-of (Syntax.check c s) from k e h = asking (Syntax.check c s) c s (omega arith) (λ w. sym (append-nil _)) h
  acted-of (Syntax.hand_send c v) from k e h = sending (Syntax.hand_send c v) c v (omega arith) (λ w. refl) refl h
  acted-of (Syntax.hand_receive c s) from k e h = asking (Syntax.hand_receive c s) c s (omega arith) (λ w. sym (append-nil _)) h
  acted-of (Syntax.hand_bind c s (Syntax.names n m)) from k e h = asking (Syntax.hand_bind c s (Syntax.names n m)) c s (omega arith) (λ w. refl) h

  -- a wait has none
  pub wait-none : (w : ℕ → List ℕ) (f : Site → List ℕ) (a : Syntax.Action) (from k : ℕ) → kind_at t k ≡ node.wait → Table.Action t a from k → None ≡ least (each f (action_sites w a))
  unfolding Table.Action action_sites each least
  wait-none w f (Syntax.wait n) from k e h = refl
  wait-none w f (Syntax.launch c v) from k e h = absurd (omega (arith, node-kind h.node (omega arith)))
  wait-none w f (Syntax.kill c v) from k e h = absurd (omega (arith, node-kind h.node (omega arith)))
  wait-none w f (Syntax.receive c s) from k e h = absurd (omega (arith, node-kind h.node (omega arith)))
  wait-none w f (Syntax.bind c s (Syntax.names n m)) from k e h = absurd (omega (arith, node-kind h.node (omega arith)))
  wait-none w f (Syntax.check c s) from k e h = absurd (omega (arith, node-kind h.node (omega arith)))
  wait-none w f (Syntax.hand_send c v) from k e h = absurd (omega (arith, node-kind h.node (omega arith)))
  wait-none w f (Syntax.hand_receive c s) from k e h = absurd (omega (arith, node-kind h.node (omega arith)))
  wait-none w f (Syntax.hand_bind c s (Syntax.names n m)) from k e h = absurd (omega (arith, node-kind h.node (omega arith)))

-- three lists of sites one after the other, and the answers for each
three-each : (f : Site → List ℕ) (xs ys zs : List Site) → least (each f (xs ++ ys ++ zs)) ≡ earlier_of (least (each f xs)) (earlier_of (least (each f ys)) (least (each f zs)))
three-each f xs ys zs =
    ap least (each_append [] f (xs ++ ys) zs ∙ ap (λ (l : List ℕ). l ++ each f zs) (each_append [] f xs ys) ∙ append_assoc (each f xs) (each f ys) (each f zs))
    ∙ least-append (each f xs) (each f ys ++ each f zs)
    ∙ ap (earlier_of (least (each f xs))) (least-append (each f ys) (each f zs))

-- the names that it binds come last
module _ (w : ℕ → List ℕ) where
  action-ends : (a : Syntax.Action) → (xs : List Site) × (action_sites w a ≡ xs ++ bound_sites a)
  unfolding action_sites bound_sites
  action-ends (Syntax.wait k) = ([], refl)
  action-ends (Syntax.launch c v) = (channel_sites w c ++ values_sites v, sym (append-nil _))
  action-ends (Syntax.kill c v) = (channel_sites w c ++ values_sites v, sym (append-nil _))
  action-ends (Syntax.receive c s) = (channel_sites w c ++ sets_sites s, sym (append-nil _))
  action-ends (Syntax.bind c s n) = (channel_sites w c ++ sets_sites s, refl)
  action-ends (Syntax.check c s) = (channel_sites w c ++ sets_sites s, sym (append-nil _))
  action-ends (Syntax.hand_send c v) = (channel_sites w c ++ values_sites v, sym (append-nil _))
  action-ends (Syntax.hand_receive c s) = (channel_sites w c ++ sets_sites s, sym (append-nil _))
  action-ends (Syntax.hand_bind c s n) = (channel_sites w c ++ sets_sites s, refl)

  -- question 7 has passed them
  pub action-bound : (q : Question) (sc : List ℕ) (a : Syntax.Action) → RoomFor q w sc (action_sites w a) → RoomFor q w sc (bound_sites a)
  action-bound q sc a room e =
      let f = site_beyond w sc in
      let d = action-ends a in
      nothing-second (least (each f d.0)) _ (sym (ap least (each_append [] f d.0 (bound_sites a)) ∙ least-append (each f d.0) (each f (bound_sites a))) ∙ ap (λ (xs : List Site). least (each f xs)) (sym d.1) ∙ room e)

-- ---- the cases of `channel_fault`
two-each : (f : Site → List ℕ) (xs ys : List Site) → least (each f (xs ++ ys)) ≡ earlier_of (least (each f xs)) (least (each f ys))
two-each f xs ys = ap least (each_append [] f xs ys) ∙ least-append (each f xs) (each f ys)

module _ (t : List ℕ) where
  three-parts : {κ token : ℕ} {P Q R : ℕ → ℕ → Type 0} {lo k : ℕ} → κ < 256 → Three t κ token P Q R lo k → P lo (left_at t k) × Q (left_at t k + 1) (third_at t k) × R (third_at t k + 1) (k - 1) × (0 < k)
  three-parts {P = P} {Q = Q} {R = R} {lo = lo} {k = k} l h =
      let e = node-left h.node l in
      let d = node-third h.node l in
      let u : k - 1 ≡ h.right = omega (arith, h.above) in
      (rw e h.holds-first, rw (e, d) h.holds-second, rw (d, u) h.holds-third, omega (arith, h.above))

  pub record OneItem (c : Syntax.Channel) (from k : ℕ) : Type 0 where
    pub item : Syntax.Expr
    pub holds : Table.Expr t item from k
    pub sites : (w : ℕ → List ℕ) → channel_sites w c ≡ item_sites w item

  pub record TwoItems (c : Syntax.Channel) (from k : ℕ) : Type 0 where
    pub first : Syntax.Expr
    pub last : Syntax.Expr
    pub holds-first : Table.Expr t first from (left_at t k)
    pub holds-last : Table.Expr t last (left_at t k + 1) (k - 1)
    pub sites : (w : ℕ → List ℕ) → channel_sites w c ≡ item_sites w first ++ item_sites w last
    pub below : left_at t k + 1 < k

  pub record ThreeItems (c : Syntax.Channel) (from k : ℕ) : Type 0 where
    pub first : Syntax.Expr
    pub second : Syntax.Expr
    pub last : Syntax.Expr
    pub holds-first : Table.Expr t first from (left_at t k)
    pub holds-second : Table.Expr t second (left_at t k + 1) (third_at t k)
    pub holds-last : Table.Expr t last (third_at t k + 1) (k - 1)
    pub sites : (w : ℕ → List ℕ) → channel_sites w c ≡ item_sites w first ++ (item_sites w second ++ item_sites w last)
    pub below : left_at t k < third_at t k
    pub above : third_at t k + 1 < k

  pub one-item : (c : Syntax.Channel) (from k : ℕ) → kind_at t k < node.two_items → Table.Channel t c from k → OneItem c from k
  unfolding Table.Channel channel_sites
  one-item (Syntax.one_item e) from k l h = record { item = e; holds = h; sites = λ w. refl }
  one-item (Syntax.two_items e f) from k l h = absurd (omega (arith, node-kind h.node (omega arith)))
  one-item (Syntax.three_items e f g) from k l h = absurd (omega (arith, node-kind h.node (omega arith)))

  pub two_items : (c : Syntax.Channel) (from k : ℕ) → kind_at t k ≡ node.two_items → Table.Channel t c from k → TwoItems c from k
  unfolding Table.Channel channel_sites
  two_items (Syntax.one_item e) from k l h = absurd (omega (arith, (expr-interval e).to h))
  two_items (Syntax.two_items e f) from k l h =
      let p = two-parts t (omega arith) h in
      record { first = e; last = f; holds-first = p.0; holds-last = p.1; sites = λ w. refl; below = omega (arith, (expr-interval f).low p.1, p.2) }
  two_items (Syntax.three_items e f g) from k l h = absurd (omega (arith, node-kind h.node (omega arith)))

  pub three-items : (c : Syntax.Channel) (from k : ℕ) → (kind_at t k < node.two_items → ⊥) → (kind_at t k ≡ node.two_items → ⊥) → Table.Channel t c from k → ThreeItems c from k
  unfolding Table.Channel channel_sites
  three-items (Syntax.one_item e) from k l n h = absurd (l (omega (arith, (expr-interval e).to h)))
  three-items (Syntax.two_items e f) from k l n h = absurd (n (node-kind h.node (omega arith)))
  three-items (Syntax.three_items e f g) from k l n h =
      let p = three-parts (omega arith) h in
      record { first = e; second = f; last = g; holds-first = p.0; holds-second = p.1; holds-last = p.2; sites = λ w. refl; below = omega (arith, (expr-interval f).low p.1); above = omega (arith, (expr-interval g).low p.2, p.3) }

  pub more-items : (c : Syntax.Channel) (from k : ℕ) → (kind_at t k < node.two_items → ⊥) → Table.Channel t c from k → left_at t k + 1 < k
  more-items c from k l h = by (eqb (kind_at t k) node.two_items) refl
    where
      by : (b : Bool) → eqb (kind_at t k) node.two_items ≡ b → left_at t k + 1 < k
      by true e = (two_items c from k (eqb-true (kind_at t k) node.two_items e) h).below
      by false e = let x = three-items c from k l (eqb-false (kind_at t k) node.two_items e) h in omega (arith, x.below, x.above)

  -- by the fields that were read
  pub two-hold : (c : Syntax.Channel) (from k : ℕ) (x : TwoItems c from k) (l : ℕ) → l ≡ left_at t k → Table.Expr t x.first from l × Table.Expr t x.last (l + 1) (k - 1)
  two-hold c from k x l e = rw e (x.holds-first, x.holds-last)

  pub three-hold : (c : Syntax.Channel) (from k : ℕ) (x : ThreeItems c from k) (l m : ℕ) → l ≡ left_at t k → m ≡ third_at t k → Table.Expr t x.first from l × Table.Expr t x.second (l + 1) m × Table.Expr t x.last (m + 1) (k - 1)
  three-hold c from k x l m e d = rw (e, d) (x.holds-first, x.holds-second, x.holds-last)

  module _ (w : ℕ → List ℕ) (f : Site → List ℕ) (c : Syntax.Channel) (from k : ℕ) where
    pub one-judged : (x : OneItem c from k) (r : Found) → r ≡ least (each f (item_sites w x.item)) → r ≡ least (each f (channel_sites w c))
    one-judged x r e = rw (x.sites w) e

    pub two-judged : (x : TwoItems c from k) (a b r : Found) → a ≡ least (each f (item_sites w x.first)) → b ≡ least (each f (item_sites w x.last)) → r ≡ earlier_of a b → r ≡ least (each f (channel_sites w c))
    two-judged x a b r d e q = rw (x.sites w) (rw (q, d, e) (sym (two-each f (item_sites w x.first) (item_sites w x.last))))

    pub three-judged : (x : ThreeItems c from k) (a b d y r : Found) → a ≡ least (each f (item_sites w x.first)) → b ≡ least (each f (item_sites w x.second)) → d ≡ least (each f (item_sites w x.last)) → y ≡ earlier_of b d → r ≡ earlier_of a y → r ≡ least (each f (channel_sites w c))
    three-judged x a b d y r e g i q z =
        rw (x.sites w) (rw (z, q, e, g, i) (sym (two-each f (item_sites w x.first) (item_sites w x.second ++ item_sites w x.last) ∙ ap (earlier_of (least (each f (item_sites w x.first)))) (two-each f (item_sites w x.second) (item_sites w x.last)))))

-- ---- the cases of `action_fault`
module _ (t : List ℕ) (w : ℕ → List ℕ) (a : Syntax.Action) (from k : ℕ) (h : Acted t a from k) where
  pub channel-holds : (l : ℕ) → l ≡ left_at t k → Table.Channel t h.channel from l
  channel-holds l e = rw e h.holds

  pub action-judged : (f : Site → List ℕ) (l : ℕ) → l ≡ left_at t k → (c v b x r : Found) → c ≡ least (each f (channel_sites w h.channel)) → v ≡ least (each f (between t (l + 1) (k - (l + 1)))) → b ≡ least (each f (bound_sites a)) → x ≡ earlier_of v b → r ≡ earlier_of c x → r ≡ least (each f (action_sites w a))
  action-judged f l i c v b x r d e g q z =
      rw (h.sites w) (rw (z, q, d, e, g, i, h.rest-are) (sym (three-each f (channel_sites w h.channel) h.rest (bound_sites a))))

-- ---- the case of `offer_fault`
pub offer-judged : (t : List ℕ) (f : Site → List ℕ) (w : ℕ → List ℕ) (x : Site) (a : Syntax.Action) (r : Syntax.Rate) (lo k : ℕ) → Table.Rate t r lo k → (s c v y z : Found) → s ≡ least (f x) → c ≡ least (each f (action_sites w a)) → v ≡ least (each f (between t lo (k + 1 - lo))) → y ≡ earlier_of c v → z ≡ earlier_of s y → z ≡ least (each f (x ∷ action_sites w a ++ rate_sites r))
unfolding each
offer-judged t f w x a r lo k h s c v y z d e g p q =
    let l = (rate-interval r).low h in
    let b : v ≡ least (each f (rate_sites r)) = g ∙ ap (λ (xs : List Site). least (each f xs)) ((rate-lies t r).leaves h (k + 1 - lo) (omega arith)) in
    rw (q, p, d, e, b)
    (sym (least-append (f x) (each f (action_sites w a ++ rate_sites r))
    ∙ ap (earlier_of (least (f x))) (ap least (each_append [] f (action_sites w a) (rate_sites r)) ∙ least-append (each f (action_sites w a)) (each f (rate_sites r)))))

-- ---- the case of `calling_fault`
count_same : (r : Syntax.Exprs) → Table.count_exprs r ≡ sites.count_exprs r
unfolding Table.count_exprs sites.count_exprs
count_same (Syntax.last_expr e) = refl
count_same (Syntax.next_expr e r) = ap (λ (n : ℕ). n + 1) (count_same r)

module _ (t : List ℕ) (n : ℕ) where
  pub call-is : (a : Syntax.Args) (from k : ℕ) → Table.Cont t (Syntax.call n a) from k → (token_at t k ≡ n) × (third_at t k ≡ count_args a) × (sort_of (kind_at t k) ≡ names) × (between t from (k - from) ≡ args_sites a)
  unfolding Table.Cont count_args args_sites sort_of number_kind between
  call-is Syntax.no_args from k h =
      let e : k - from ≡ 0 = omega (arith, h.low) in
      (node-token h.node (omega arith), node-third h.node (omega arith), rw (node-kind h.node (omega arith)), rw e)
  call-is (Syntax.args r) from k h =
      let u = h.above in
      let l = exprs-low r h.holds in
      (node-token h.node (omega arith), node-third h.node (omega arith) ∙ count_same r, rw (node-kind h.node (omega arith)), (exprs-lies t r).leaves h.holds (k - from) (omega arith))
    where
      exprs-low : (r : Syntax.Exprs) {lo k : ℕ} → Table.Exprs t r lo k → lo ≤ k
      exprs-low r h = (exprs-lies t r).low h

  pub calling-judged : (f : Site → List ℕ) (a : Syntax.Args) (from k : ℕ) (h : Table.Cont t (Syntax.call n a) from k) (m i : ℕ) → m ≡ token_at t k → i ≡ third_at t k → (c v r : Found) → c ≡ least (f (call m i)) → v ≡ least (each f (between t from (k - from))) → r ≡ earlier_of c v → r ≡ least (each f (call n (count_args a) ∷ args_sites a))
  unfolding each
  calling-judged f a from k h m i m-is i-is c v r d e q =
      let p = call-is a from k h in
      rw (q, d, e, m-is ∙ p.0, i-is ∙ p.1, p.3) (sym (least-append (f (call n (count_args a))) (each f (args_sites a))))

  pub called-name : {question : Question} {low high : List ℕ} {lists : Lists} (h : World question low high t lists) (a : Syntax.Args) (from k : ℕ) → Table.Cont t (Syntax.call n a) from k → k ≤ lists.root → (m : ℕ) → m ≡ token_at t k → IsName h.kinds m
  unfolding SortFits
  called-name h a from k holds l m e = rw ((call-is a from k holds).2, ← e) at (h.placed k l)
