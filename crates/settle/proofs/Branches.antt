-- Walking branches, sums and continuations resolves them: a branch's names are in scope from its action to its end. By induction on the tree, where no question found a fault.
use mathlib.Core.Path.{◌≡◌, refl, sym, ap, ◌∙◌, subst}
use mathlib.Core.List.Memᴰ.{append_left as left}
use mathlib.Core.List.Memᴰ.{append_right as right}
use mathlib.Core.List.Memᴰ.{head}
use mathlib.Core.List.Memᴰ.{not-nil as nowhere}
use mathlib.Core.List.Memᴰ.{tail}
use mathlib.Core.List.{List, [], ◌∷◌, ◌++◌, append-nil, Memᴰ as In}
use mathlib.Core.Bool.{Bool, true}
use mathlib.Core.Option.{Option}
use Prim.Native.Nat.{ℕ, ◌+◌, ◌-◌, ◌≤◌, ◌<◌}
use native.Mathlib.Omega.{arith}
use lib.ListN.{length, get_or, length-append}
use lib.Seq.{take-append_seam}
use Rattle.grammar.specs.Syntax
use Rattle.tree.specs.Node as node
use Rattle.tree.specs.Node.{field, cell, kind_of, token_of, left_of, third_of, number_kind}
use Rattle.tree.specs.Table
use Rattle.tree.specs.Table.{Node, Leaf, One, Two, Three, first_token}
use Rattle.tree.proofs.Cells.{kind-of, token-of, third_of_lem, node-kind, node-token, node-left, node-third}
use Rattle.tree.proofs.Holds.{action-interval, rate-interval, cont-interval, conts-interval, offer-interval, branches-interval}
use Rattle.model.specs.Sites.{Scope, Site, bound, gate_sites, sets_sites, count_sets, channel_sites, action_sites, rate_sites, tokens_of, bindings, count_exprs, count_args, args_sites, Variable, Definition, variables, definitions}
use Rattle.model.specs.Limits.{local_limit, definition_limit}
use Rattle.model.specs.Given.{definition_named}
use Rattle.model.specs.Stands.{branches_of, branches_in, items_of, Holds, itself, grouped, SumIn, continued, BranchIn, SiteIn, in_gate, in_action, in_rate, in_call}
use Rattle.model.specs.Faults.{NotNew}
use Rattle.model.specs.Resolved
use Rattle.model.specs.Resolved.{channel_names, action_use, branch_uses, next_uses, branches_uses, sum_uses, cont_uses, conts_uses, firsts, definition_number, sum_number, list_of, resolve_expr, resolve_gate, resolve_cond, resolve_rate, resolve_action, resolve_args, resolve_call, parts_of, parts_in, resolve_next, resolve_branch, resolve_branches, sum_tree, branches_tree, branch_tree, next_tree, cont_tree, conts_tree}
use Rattle.model.proofs.Members.{got_in, in-got, got-below}
use Rattle.model.proofs.Meanings.{Defines, found, absent, defines}
use Rattle.model.specs.Numbering.{count_sum, count_branches, count_branch, count_next, count_cont, count_conts, SumFrom, BranchesFrom, BranchFrom, NextFrom, ContFrom, ContsFrom}
use Rattle.model.specs.Faultless.{AllFine, FineNumber, scale_of, Faultless}
use Rattle.model.proofs.Channels.{firsts-append}
use Rattle.model.proofs.Resolves.{action-binds, args_count}
use Rattle.names.proofs.Scopes.{every-length}
use Rattle.tables.specs.Settled as settled
use Rattle.tables.specs.Settled.{Index, Pair, Over, Arguments, Called, Parts, entered, called-bare, called, grouped, items, Stops, Goes, Offer, Gated}
use Rattle.settle.specs.Walks.{Role, role_of, role_at, Point, definition_of, cell_by, step_by, cell_of, step, SafeBy}
use Rattle.settle.specs.Walks as role
use Rattle.settle.proofs.Moves.{Moves, Does, plain-does, moved-with, moved_to, moved-both, moved-node, moved_sum, moved_then, leaf, two, two_then}
use Rattle.settle.proofs.Values.{exprs-stays, cond-stays, rate-stays}
use Rattle.settle.proofs.Actions.{action-moves}
use Rattle.settle.proofs.Heard.{meaning-more, bound-new}

-- ---- single facts

-- the third field of an action's node is how many names it binds
action-third : (t : List ℕ) (x : Syntax.Action) (lo k : ℕ) → Table.Action t x lo k → third_of (get_or t k 0) ≡ length (bindings x)
unfolding Table.Action bindings tokens_of
action-third t (Syntax.wait n) lo k h = node-third h.node (omega arith)
action-third t (Syntax.launch c v) lo k h = node-third h.node (omega arith)
action-third t (Syntax.kill c v) lo k h = node-third h.node (omega arith)
action-third t (Syntax.receive c s) lo k h = node-third h.node (omega arith)
action-third t (Syntax.bind c s (Syntax.names n m)) lo k h = node-third h.node (omega arith) ∙ sym (every-length n m)
action-third t (Syntax.check c s) lo k h = node-third h.node (omega arith)
action-third t (Syntax.hand_send c v) lo k h = node-third h.node (omega arith)
action-third t (Syntax.hand_receive c s) lo k h = node-third h.node (omega arith)
action-third t (Syntax.hand_bind c s (Syntax.names n m)) lo k h = node-third h.node (omega arith) ∙ sym (every-length n m)

-- and its kind is an action's
action-role : (t : List ℕ) (x : Syntax.Action) (lo k : ℕ) → Table.Action t x lo k → role_at t k ≡ role.action
unfolding Table.Action role_of number_kind
action-role t (Syntax.wait n) lo k h = rw (node-kind h.node (omega arith))
action-role t (Syntax.launch c v) lo k h = rw (node-kind h.node (omega arith))
action-role t (Syntax.kill c v) lo k h = rw (node-kind h.node (omega arith))
action-role t (Syntax.receive c s) lo k h = rw (node-kind h.node (omega arith))
action-role t (Syntax.bind c s (Syntax.names n m)) lo k h = rw (node-kind h.node (omega arith))
action-role t (Syntax.check c s) lo k h = rw (node-kind h.node (omega arith))
action-role t (Syntax.hand_send c v) lo k h = rw (node-kind h.node (omega arith))
action-role t (Syntax.hand_receive c s) lo k h = rw (node-kind h.node (omega arith))
action-role t (Syntax.hand_bind c s (Syntax.names n m)) lo k h = rw (node-kind h.node (omega arith))

-- a name that an action binds is no variable's
action-new : (w : ℕ → List ℕ) (m : Syntax.Model) → ((k : ℕ) → NotNew w m k → ⊥) → {sc : Scope} (x : Syntax.Action) → ((y : Site) → In y (action_sites w x) → SiteIn w m sc y)
    → (v : Variable) (j : ℕ) → In v (variables m) → In j (bindings x) → w j ≡ w v.name → ⊥
unfolding action_sites bindings
action-new w m new (Syntax.wait n) h v j i l e = nowhere l
action-new w m new (Syntax.launch c x) h v j i l e = nowhere l
action-new w m new (Syntax.kill c x) h v j i l e = nowhere l
action-new w m new (Syntax.receive c s) h v j i l e = nowhere l
action-new w m new (Syntax.bind c s n) h v j i l e = bound-new w m new (h (bound (tokens_of n) (count_sets s)) (right (channel_sites w c ++ sets_sites s) (head refl))) v j i l e
action-new w m new (Syntax.check c s) h v j i l e = nowhere l
action-new w m new (Syntax.hand_send c x) h v j i l e = nowhere l
action-new w m new (Syntax.hand_receive c s) h v j i l e = nowhere l
action-new w m new (Syntax.hand_bind c s n) h v j i l e = bound-new w m new (h (bound (tokens_of n) (count_sets s)) (right (channel_sites w c ++ sets_sites s) (head refl))) v j i l e

pub point-is : (sc : Scope) (d : ℕ) {xs ys : List ℕ} {m n : ℕ} → xs ≡ ys → m ≡ n → ◌≡◌ {A = Point} (record { scope = sc; seen = xs; sums = m; definitions = d }) (record { scope = sc; seen = ys; sums = n; definitions = d })
point-is sc d e f = rw (e, f)

-- a definition's number fits a field
pub definition-fits : (w : ℕ → List ℕ) (ds : List Definition) (k : ℕ) → length ds ≤ definition_limit → definition_number (definition_named w k 0 ds) < field
unfolding definition_number
definition-fits w ds k l = by (definition_named w k 0 ds) (defines w k 0 ds)
  where
    by : (o : Option (ℕ × Definition)) → Defines w k ds 0 o → definition_number o < field
    by o (found q g e) = let b = got-below ds q g in omega arith
    by o (absent f) = omega arith

pub fields_fit : (c : ℕ) → (left_of c < field) × (third_of c < field)
unfolding left_of third_of
fields_fit c = (omega arith, omega arith)

module _ (w : ℕ → List ℕ) (m : Syntax.Model) (ok : Faultless w m) (new : (k : ℕ) → NotNew w m k → ⊥) (told : ℕ → Type 0) (decimals : (sc : Scope) (i k : ℕ) (g : Syntax.Gate) (x : Syntax.Action) (r : Syntax.Rate) (n : Syntax.Next) → BranchIn m sc i (Syntax.branch k g x r n) → (b : Bool) (j : ℕ) → scale_of r ≡ Syntax.fixed (Syntax.number b true j) → told j) (t t' roots scopes : List ℕ) (trace : ℕ → Point) (first last : ℕ)
    (steps : (i : ℕ) → first ≤ i → i < last → trace (i + 1) ≡ step w (variables m) (definitions m) t i (trace i)) where
  abbrev vs : List Variable
  vs = variables m

  abbrev ds : List Definition
  ds = definitions m

  abbrev cs : List ℕ
  cs = channel_names w vs ds

  -- after the channel names us and n sums more
  abbrev pub on : Point → List ℕ → ℕ → Point
  on p us n = record { scope = p.scope; seen = firsts w vs p.seen us; sums = p.sums + n; definitions = p.definitions }

  pub on-on : (p : Point) (us vs' : List ℕ) (a b : ℕ) → on (on p us a) vs' b ≡ on p (us ++ vs') (a + b)
  on-on p us vs' a b = point-is p.scope p.definitions (sym (firsts-append w vs p.seen us vs')) (omega arith)

  abbrev pub Going : Point → Point → ℕ → ℕ → List Resolved.Sum → (ℕ → ℕ → Type 0) → (ℕ → Type 0) → Type 0
  Going p q a n xs P Q = Moves w vs ds cs told t t' roots scopes trace first last p q a n xs P Q

  -- the end of a branch, where the names ks go out of scope
  ending-does : {κ f left third k : ℕ} (p : Point) (ks : List ℕ) → κ < 256 → role_of κ ≡ role.ending → third_of (get_or t left 0) ≡ length ks → role_at t left ≡ role.action → first ≤ left → left < k → Node t k κ f left third → (sc : Scope) → p.scope ≡ sc ++ ks
      → Does w vs ds cs told t t' roots scopes trace first last steps k p (record { scope = sc; seen = p.seen; sums = p.sums; definitions = p.definitions }) (get_or t k 0)
  unfolding step cell_of step_by cell_by
  ending-does {left = left} {k = k} p ks h e b acts far near n sc s =
      let r : role_at t k ≡ role.ending = ap role_of (node-kind n h) ∙ e in
      let q : third_of (get_or t (left_of (get_or t k 0)) 0) ≡ length ks = ap (λ (i : ℕ). third_of (get_or t i 0)) (node-left n h) ∙ b in
      let z = length-append sc ks in
      let y : length (sc ++ ks) - length ks ≡ length sc = omega arith in
      record {
        step_is = rw (r, q, s, y) (ap (λ (l : List ℕ). record { scope = l; seen = p.seen; sums = p.sums; definitions = p.definitions }) (take-append_seam sc ks));
        safe = rw (r, q, s) (omega arith);
        becomes = rw r;
        other = λ x. absurd (let z : ◌≡◌ {A = ℕ} 0 1 = cc (r, x) in omega arith);
        linked = λ x. rw (node-left n h) (far, near, acts);
      }

  -- ---- what follows

  -- what a continuation holds stands in this scope
  pub record Leads (sc : Scope) (c : Syntax.Cont) : Type 0 where
    pub sums : (s : Syntax.Sum) → Holds (Syntax.proceed s) c → SumIn m sc s
    pub calls : (k : ℕ) (a : Syntax.Args) → Holds (Syntax.call k a) c → AllFine w vs ds cs sc (args_sites a)

  mutual
    unfolding parts_of parts_in

    parts-some : (c : Syntax.Cont) (sc : Scope) → 0 < length (parts_of w vs ds cs sc c)
    parts-some (Syntax.proceed s) sc = omega arith
    parts-some (Syntax.call k a) sc = omega arith
    parts-some (Syntax.group k c) sc = items-some c sc

    items-some : (c : Syntax.Conts) (sc : Scope) → 0 < length (parts_in w vs ds cs sc c)
    items-some (Syntax.last_cont c) sc = parts-some c sc
    items-some (Syntax.next_cont c r) sc = let h = items-some r sc in omega (arith, length-append (parts_of w vs ds cs sc c) (parts_in w vs ds cs sc r))

  offer-goes : {a : Resolved.Action} {r : Resolved.Rate} {k : ℕ} (ps : List Resolved.Part) → 0 < length ps → Goes t' a r ps k → Offer t' a r ps k
  unfolding Offer
  offer-goes [] l g = absurd (omega arith)
  offer-goes (p ∷ ps) l g = g

  branches-pair : {k : ℕ} (b : Resolved.Branch) (bs : List Resolved.Branch) → 0 < length bs → Pair t' node.choice (settled.Branch t' b) (settled.Branches t' bs) k → settled.Branches t' (b ∷ bs) k
  unfolding settled.Branches
  branches-pair b [] l h = absurd (omega arith)
  branches-pair b (c ∷ bs) l h = h

  branches-some : (b : Syntax.Branches) (sc : Scope) → 0 < length (resolve_branches w vs ds cs sc b)
  unfolding resolve_branches
  branches-some (Syntax.last_branch b) sc = omega arith
  branches-some (Syntax.next_branch b r) sc = omega arith

  -- ---- calls

  exprs-count : (r : Syntax.Exprs) → Table.count_exprs r ≡ count_args (Syntax.args r)
  unfolding Table.count_exprs count_args count_exprs
  exprs-count (Syntax.last_expr e) = refl
  exprs-count (Syntax.next_expr e r) = ap (λ (n : ℕ). n + 1) (exprs-count r)

  call-index : {κ j : ℕ} (k c : ℕ) → κ < 256 → kind_of c ≡ κ → token_of c ≡ j → get_or t' k 0 ≡ cell (kind_of c) (definition_of w vs ds (token_of c)) (left_of c) (third_of c)
      → Index t' κ (definition_of w vs ds j) k × (third_of (get_or t' k 0) ≡ third_of c)
  call-index {κ} {j} k c l e n y =
      let a : kind_of c < 256 = rw e l in
      let b = definition-fits w ds (token_of c) ok.definitions in
      let f = fields_fit c in
      (record { kind-is = ap kind_of y ∙ kind-of a b f.0 f.1 ∙ e; index_is = ap token_of y ∙ token-of a b f.0 f.1 ∙ ap (λ (i : ℕ). definition_of w vs ds i) n }, ap third_of y ∙ third_of_lem a b f.0 f.1)

  call-going : (j : ℕ) (p : Point) (a : ℕ) → Going p p a 0 [] (Leaf t node.call j) (Parts t' (Resolved.call (definition_of w vs ds j) [] ∷ []))
  unfolding role_of number_kind step_by cell_by
  call-going j p a =
      leaf w vs ds cs told t t' roots scopes trace first last steps role.call (omega arith) refl (λ x. absurd (let z : ◌≡◌ {A = ℕ} 0 1 = cc in omega arith)) (λ x. absurd (let z : ◌≡◌ {A = ℕ} 0 1 = cc in omega arith)) (λ c b e z. refl) (λ c b e z. tt)
      (λ k c κ n o u v x d y. called-bare (call-index k c (omega arith) κ n y).0) a

  call-does : {k j third : ℕ} (p : Point) → Node t k node.call_with j 0 third
      → Does w vs ds cs told t t' roots scopes trace first last steps k p p (cell (kind_of (get_or t k 0)) (definition_of w vs ds (token_of (get_or t k 0))) (left_of (get_or t k 0)) (third_of (get_or t k 0)))
  unfolding step cell_of step_by cell_by role_of number_kind
  call-does {k} p n =
      let r : role_at t k ≡ role.call = ap role_of (node-kind n (omega arith)) in
      record { step_is = rw r; safe = rw r tt; becomes = rw r; other = λ x. absurd (let z : ◌≡◌ {A = ℕ} 0 1 = cc (r, x) in omega arith); linked = λ x. absurd (let z : ◌≡◌ {A = ℕ} 0 1 = cc (r, x) in omega arith) }

  call-with-going : (j : ℕ) (r : Syntax.Exprs) (p : Point) (a : ℕ) → length p.scope ≤ local_limit → AllFine w vs ds cs p.scope (args_sites (Syntax.args r))
      → Going p p a 0 [] (One t node.call_with j (Table.count_exprs r) (Table.Exprs t r)) (Parts t' (Resolved.call (definition_of w vs ds j) (list_of (resolve_expr w vs ds cs p.scope) r) ∷ []))
  unfolding args_sites resolve_args
  call-with-going j r p a few f lo k h u v e =
      let x = exprs-stays w vs ds cs told t t' roots scopes trace first last steps ok.variables p.scope p few (λ i y. refl) r f a lo h.root h.holds u (omega (arith, h.above)) e in
      moved-with w vs ds cs told t t' roots scopes trace first last (moved-node w vs ds cs told t t' roots scopes trace first last steps x h.above u v (call-does p h.node))
      (λ d y.
      let i = call-index k (get_or t k 0) (omega arith) (node-kind h.node (omega arith)) (node-token h.node (omega arith)) y.1 in
      called (record {
        root = h.root;
        above = h.above;
        call-is = i.0;
        count-is = i.1 ∙ node-third h.node (omega arith) ∙ exprs-count r ∙ sym (args_count w vs ds cs ok.variables p.scope (Syntax.args r));
        holds = y.0;
      }))

  -- ---- sums and what follows branches

  -- after an action
  abbrev entered_by : Point → Syntax.Action → Point
  entered_by p x = record { scope = p.scope ++ bindings x; seen = firsts w vs p.seen (action_use w vs p.scope x); sums = p.sums; definitions = p.definitions }

  leads : {sc : Scope} {i k : ℕ} {g : Syntax.Gate} {x : Syntax.Action} {r : Syntax.Rate} {n : Syntax.Next} {c : Syntax.Cont} → BranchIn m sc i (Syntax.branch k g x r n) → n ≡ Syntax.dot c → Leads (sc ++ bindings x) c
  leads {sc} {i} {k} {g} {x} {r} {n} {c} b e =
      let h : BranchIn m sc i (Syntax.branch k g x r (Syntax.dot c)) = subst (λ (y : Syntax.Next). BranchIn m sc i (Syntax.branch k g x r y)) e b in
      record {
        sums = λ s l. continued h.stands (got_in (branches_in h.sum) i h.place) l;
        calls = λ j a l y q. ok.sites (sc ++ bindings x) y (in_call h l q);
      }

  mutual
    unfolding Table.Cont Table.Conts Table.Sum Table.Branches Table.Branch Table.Offer cont_uses conts_uses sum_uses branches_uses branch_uses next_uses cont_tree conts_tree sum_tree branches_tree branch_tree next_tree parts_of parts_in resolve_call resolve_args resolve_branches resolve_branch resolve_gate resolve_next settled.Branches settled.Branch Gated Offer branches_of branches_in items_of role_of number_kind firsts sum_number gate_sites

    pub cont-going : (c : Syntax.Cont) (p : Point) (a : ℕ) → length p.scope ≤ local_limit → Leads p.scope c → ContFrom c a
        → Going p (on p (cont_uses w vs p.scope c) (count_cont c)) a (count_cont c) (cont_tree w vs ds cs p.definitions p.scope c) (Table.Cont t c) (Parts t' (parts_of w vs ds cs p.scope c))
    cont-going (Syntax.proceed s) p a few l f lo k h u v e = moved-with w vs ds cs told t t' roots scopes trace first last (sum-going s p a few (l.sums s (itself refl)) f lo k h u v e) (λ x y. entered y)
    cont-going (Syntax.call j Syntax.no_args) p a few l f lo k h u v e = moved_to w vs ds cs told t t' roots scopes trace first last (point-is p.scope p.definitions refl (omega arith)) (call-going j p a lo k h u v e)
    cont-going (Syntax.call j (Syntax.args r)) p a few l f lo k h u v e =
        moved_to w vs ds cs told t t' roots scopes trace first last (point-is p.scope p.definitions refl (omega arith)) (call-with-going j r p a few (l.calls j (Syntax.args r) (itself refl)) lo k h u v e)
    cont-going (Syntax.group j c) p a few l f lo k h u v e =
        let x = conts-going c p a few (λ y i. record { sums = λ s o. l.sums s (grouped i o); calls = λ q b o. l.calls q b (grouped i o) }) f lo h.root h.holds u (omega (arith, h.above)) e in
        moved-with w vs ds cs told t t' roots scopes trace first last (moved-node w vs ds cs told t t' roots scopes trace first last steps x h.above u v (plain-does w vs ds cs told t t' roots scopes trace first last steps (omega arith) refl h.node))
        (λ y z.
        let κ : kind_of (get_or t' k 0) ≡ node.group = ap kind_of z.1 ∙ node-kind h.node (omega arith) in
        subst (λ (i : ℕ). Parts t' (parts_in w vs ds cs p.scope c) i) (sym h.above) (settled.grouped (rw h.above at κ) z.0))

    conts-going : (c : Syntax.Conts) (p : Point) (a : ℕ) → length p.scope ≤ local_limit → ((x : Syntax.Cont) → In x (items_of c) → Leads p.scope x) → ContsFrom c a
        → Going p (on p (conts_uses w vs p.scope c) (count_conts c)) a (count_conts c) (conts_tree w vs ds cs p.definitions p.scope c) (Table.Conts t c) (Parts t' (parts_in w vs ds cs p.scope c))
    conts-going (Syntax.last_cont c) p a few l f lo k h u v e = cont-going c p a few (l c (head refl)) f lo k h u v e
    conts-going (Syntax.next_cont c r) p a few l f lo k h u v e =
        let o = h.above in
        let x = cont-going c p a few (l c (head refl)) f.0 lo h.left h.holds-first u (omega (arith, (conts-interval r).low h.holds-second)) e in
        let y = conts-going r (on p (cont_uses w vs p.scope c) (count_cont c)) (a + count_cont c) few (λ z i. l z (tail i)) f.1 (h.left + 1) h.right h.holds-second (omega (arith, x.low)) (omega arith) x.after in
        moved_to w vs ds cs told t t' roots scopes trace first last (on-on p (cont_uses w vs p.scope c) (conts_uses w vs p.scope r) (count_cont c) (count_conts r))
        (moved-with w vs ds cs told t t' roots scopes trace first last (moved-node w vs ds cs told t t' roots scopes trace first last steps (moved-both w vs ds cs told t t' roots scopes trace first last x y) h.above u v (plain-does w vs ds cs told t t' roots scopes trace first last steps (omega arith) refl h.node))
        (λ z q.
        let κ : kind_of (get_or t' k 0) ≡ node.item = ap kind_of q.1 ∙ node-kind h.node (omega arith) in
        let g : left_of (get_or t' k 0) ≡ h.left = ap left_of q.1 ∙ node-left h.node (omega arith) in
        let g' : left_of (get_or t' (h.right + 1) 0) ≡ h.left = rw h.above at g in
        subst (λ (i : ℕ). Parts t' (parts_of w vs ds cs p.scope c ++ parts_in w vs ds cs p.scope r) i) (sym h.above)
        (items {ps = parts_of w vs ds cs p.scope c} {qs = parts_in w vs ds cs p.scope r} (rw h.above at κ) (rw g' (omega (arith, x.low, y.low))) (rw g' q.0.0) q.0.1)))

    pub sum-going : (s : Syntax.Sum) (p : Point) (a : ℕ) → length p.scope ≤ local_limit → SumIn m p.scope s → SumFrom s a
        → Going p (on p (sum_uses w vs p.scope s) (count_sum s)) a (count_sum s) (sum_tree w vs ds cs p.definitions p.scope s) (Table.Sum t s) (Index t' node.sum (sum_number s))
    sum-going (Syntax.sum n b) p a few i f lo k h u v e =
        let x = branches-going b p (a + 1) few (λ y j. let g = in-got (branches_of b) j in (g.0, record { sum = Syntax.sum n b; stands = i; place = g.1 })) f.1 lo h.root h.holds u (omega (arith, h.above)) e in
        let z : p.sums + count_branches b + 1 ≡ p.sums + (1 + count_branches b) = omega arith in
        let y = firsts w vs p.seen (branches_uses w vs p.scope b) in
        moved_to w vs ds cs told t t' roots scopes trace first last (point-is p.scope p.definitions {xs = y} {ys = y} refl z)
        (moved-with w vs ds cs told t t' roots scopes trace first last (moved_sum w vs ds cs told t t' roots scopes trace first last steps (resolve_branches w vs ds cs p.scope b) x h.above u v (rw f.0 at h.node)) (λ y i. subst (λ (q : ℕ). Index t' node.sum q k) (sym f.0) i))

    branches-going : (b : Syntax.Branches) (p : Point) (a : ℕ) → length p.scope ≤ local_limit → ((x : Syntax.Branch) → In x (branches_of b) → (i : ℕ) × BranchIn m p.scope i x) → BranchesFrom b a
        → Going p (on p (branches_uses w vs p.scope b) (count_branches b)) a (count_branches b) (branches_tree w vs ds cs p.definitions p.scope b) (Table.Branches t b) (settled.Branches t' (resolve_branches w vs ds cs p.scope b))
    branches-going (Syntax.last_branch b) p a few l f lo k h u v e = let i = l b (head refl) in branch-going b p a few i.0 i.1 f lo k h u v e
    branches-going (Syntax.next_branch b r) p a few l f lo k h u v e =
        let i = l b (head refl) in
        let q = on p (branch_uses w vs p.scope b) (count_branch b) in
        moved_to w vs ds cs told t t' roots scopes trace first last (on-on p (branch_uses w vs p.scope b) (branches_uses w vs p.scope r) (count_branch b) (count_branches r))
        (moved-with w vs ds cs told t t' roots scopes trace first last (two w vs ds cs told t t' roots scopes trace first last steps (omega arith) (λ lo left k x u l n. plain-does w vs ds cs told t t' roots scopes trace first last steps (omega arith) refl n) (λ lo k x. (branches-interval r).low x)
        (λ lo k h u v e. branch-going b p a few i.0 i.1 f.0 lo k h u v e) (λ lo k h u v e. branches-going r q (a + count_branch b) few (λ x j. l x (tail j)) f.1 lo k h u v e) lo k h u v e)
        (λ x y. branches-pair (resolve_branch w vs ds cs p.scope b) (resolve_branches w vs ds cs p.scope r) (branches-some r p.scope) y))

    branch-going : (b : Syntax.Branch) (p : Point) (a : ℕ) → length p.scope ≤ local_limit → (i : ℕ) → BranchIn m p.scope i b → BranchFrom b a
        → Going p (on p (branch_uses w vs p.scope b) (count_branch b)) a (count_branch b) (branch_tree w vs ds cs p.definitions p.scope b) (Table.Branch t b) (settled.Branch t' (resolve_branch w vs ds cs p.scope b))
    branch-going (Syntax.branch j Syntax.no_gate x r n) p a few i b f lo k h u v e =
        offer-going j x r n p a few (λ y l. in_action b l) (λ y l. ok.sites p.scope y (in_rate b l)) (ok.rates p.scope i j Syntax.no_gate x r n b) (decimals p.scope i j Syntax.no_gate x r n b) (λ c e. leads b e) f lo k h u v e
    branch-going (Syntax.branch j (Syntax.gate c) x r n) p a few i b f lo k h u v e =
        two_then w vs ds cs told t t' roots scopes trace first last steps (omega arith) (λ lo left k x u l n. plain-does w vs ds cs told t t' roots scopes trace first last steps (omega arith) refl n) (λ lo k y. (offer-interval j x r n).low y)
        (cond-stays w vs ds cs told t t' roots scopes trace first last steps ok.variables p.scope p few (λ i y. refl) c (λ y l. ok.sites p.scope y (in_gate b l)) a)
        (λ lo k h u v e. offer-going j x r n p a few (λ y l. in_action b l) (λ y l. ok.sites p.scope y (in_rate b l)) (ok.rates p.scope i j (Syntax.gate c) x r n b) (decimals p.scope i j (Syntax.gate c) x r n b) (λ c e. leads b e) f lo k h u v e) lo k h u v e

    offer-going : (j : ℕ) (x : Syntax.Action) (r : Syntax.Rate) (n : Syntax.Next) (p : Point) (a : ℕ) → length p.scope ≤ local_limit
        → ((y : Site) → In y (action_sites w x) → SiteIn w m p.scope y) → AllFine w vs ds cs p.scope (rate_sites r) → ((v : Syntax.Number) → scale_of r ≡ Syntax.fixed v → FineNumber w vs ds cs v) → ((b : Bool) (i : ℕ) → scale_of r ≡ Syntax.fixed (Syntax.number b true i) → told i) → ((c : Syntax.Cont) → n ≡ Syntax.dot c → Leads (p.scope ++ bindings x) c) → NextFrom n a
        → Going p (on p (action_use w vs p.scope x ++ next_uses w vs (p.scope ++ bindings x) n) (count_next n)) a (count_next n) (next_tree w vs ds cs p.definitions (p.scope ++ bindings x) n) (Table.Offer t j x r n)
        (Offer t' (resolve_action w vs ds cs p.scope x) (resolve_rate w vs ds cs p.scope r) (resolve_next w vs ds cs (p.scope ++ bindings x) n))
    offer-going j x r Syntax.stop p a few inside fine number decimal l f lo k h u v e =
        let q = entered_by p x in
        moved_to w vs ds cs told t t' roots scopes trace first last (point-is p.scope p.definitions (ap (firsts w vs p.seen) (sym (append-nil (action_use w vs p.scope x)))) (omega arith))
        (moved-with w vs ds cs told t t' roots scopes trace first last (two_then w vs ds cs told t t' roots scopes trace first last steps (omega arith) (λ lo left k y u l o. ending-does q (bindings x) (omega arith) refl (action-third t x lo left y) (action-role t x lo left y) (omega (arith, (action-interval x).low y)) l o p.scope refl) (λ lo k y. (rate-interval r).low y)
        (action-moves w vs ds cs told t t' roots scopes trace first last steps ok.variables p few x (λ y i. ok.sites p.scope y (inside y i)) a)
        (rate-stays w vs ds cs told t t' roots scopes trace first last steps ok.variables p.scope q few (λ i g. meaning-more w i vs p.scope (bindings x) (action-new w m new x inside) g) r number decimal fine a) lo k h u v e)
        (λ y z. record { offer = z }))
    offer-going j x r (Syntax.dot c) p a few inside fine number decimal l f lo k h u v e =
        let q = entered_by p x in
        let o = h.above in
        let low₂ = (rate-interval r).low h.holds-second in
        let low₃ = (cont-interval c).low h.holds-third in
        let x₁ = action-moves w vs ds cs told t t' roots scopes trace first last steps ok.variables p few x (λ y i. ok.sites p.scope y (inside y i)) a lo h.left h.holds-first u (omega arith) e in
        let x₂ = rate-stays w vs ds cs told t t' roots scopes trace first last steps ok.variables p.scope q few (λ i g. meaning-more w i vs p.scope (bindings x) (action-new w m new x inside) g) r number decimal fine a (h.left + 1) h.middle h.holds-second (omega (arith, x₁.low)) (omega arith) x₁.after in
        let room = (action-binds w vs ds cs ok.variables p.scope x few (λ y i. ok.sites p.scope y (inside y i))).1 in
        let x₃ = cont-going c q a (omega (arith, length-append p.scope (bindings x))) (l c refl) f (h.middle + 1) h.right h.holds-third (omega (arith, x₁.low, x₂.low)) (omega arith) x₂.after in
        moved_to w vs ds cs told t t' roots scopes trace first last (point-is p.scope p.definitions (sym (firsts-append w vs p.seen (action_use w vs p.scope x) (cont_uses w vs (p.scope ++ bindings x) c))) refl)
        (moved-with w vs ds cs told t t' roots scopes trace first last (moved-node w vs ds cs told t t' roots scopes trace first last steps (moved_then w vs ds cs told t t' roots scopes trace first last (moved_then w vs ds cs told t t' roots scopes trace first last x₁ x₂) x₃) h.above u v
        (ending-does (on q (cont_uses w vs (p.scope ++ bindings x) c) (count_cont c)) (bindings x) (omega arith) refl (action-third t x lo h.left h.holds-first) (action-role t x lo h.left h.holds-first) (omega (arith, x₁.low)) (omega arith) h.node p.scope refl))
        (λ y z.
        let g : left_of (get_or t' k 0) ≡ h.left = ap left_of z.1 ∙ node-left h.node (omega arith) in
        let g' : third_of (get_or t' k 0) ≡ h.middle = ap third_of z.1 ∙ node-third h.node (omega arith) in
        offer-goes (parts_of w vs ds cs (p.scope ++ bindings x) c) (parts-some c (p.scope ++ bindings x))
        (record {
          right = h.right;
          above = h.above;
          kind-is = ap kind_of z.1 ∙ node-kind h.node (omega arith);
          action-below = rw g (omega arith);
          rate-below = rw g' (omega arith);
          action = rw g z.0.0.0;
          rate = rw g' z.0.0.1;
          next = z.0.1;
        })))
