-- Walking a channel and an action resolves them: a lone name that is neither local nor whole variable gets its number, and the names that an action binds come into scope. From walks in one scope.
use mathlib.Core.Path.{◌≡◌, refl, ap, ◌∙◌}
use mathlib.Core.List.Memᴰ.{append_left as left}
use mathlib.Core.List.Memᴰ.{append_right as right}
use mathlib.Core.List.Memᴰ.{eq_of_singleton}
use mathlib.Core.List.Memᴰ.{head}
use mathlib.Core.List.{List, [], ◌∷◌, ◌++◌, Memᴰ as In}
use mathlib.Core.Bool.{Bool, true, false, cond, ◌&&◌}
use mathlib.Core.Logic.{inl, inr}
use Prim.Native.Nat.{ℕ, ◌+◌, ◌≤◌, ◌<◌}
use native.Mathlib.Omega.{arith}
use lib.ListN.{length, get_or}
use Rattle.grammar.specs.Syntax
use Rattle.tree.specs.Node as node
use Rattle.tree.specs.Node.{field, kind_of, token_of, left_of, third_of, number_kind}
use Rattle.tree.specs.Table
use Rattle.tree.specs.Table.{Node, Leaf, Two}
use Rattle.tree.proofs.Cells.{node-kind, node-token, node-third}
use Rattle.tree.proofs.Holds.{expr-interval, values-interval, sets-interval}
use Rattle.model.specs.Lists.{every_other}
use Rattle.model.specs.Sites.{Scope, value, bound, expr_sites, is_lone, item_sites, channel_sites, values_sites, sets_sites, count_sets, tokens_of, action_sites, bindings, Variable, Definition}
use Rattle.model.specs.Limits.{local_limit}
use Rattle.model.specs.Given.{Meaning, local, variable, nothing, is_value, meaning, place_in}
use Rattle.model.specs.Resolved
use Rattle.model.specs.Resolved.{is_channel_name, item_use, channel_use, action_use, firsts, or_zero, value_named, resolve_expr, item_named, resolve_item, resolve_channel, resolve_values, resolve_sets, resolve_action}
use Rattle.model.proofs.Channels.{firsts-append}
use Rattle.model.proofs.Members.{not-both}
use Rattle.model.specs.Faultless.{AllFine, FineNumber}
use Rattle.names.proofs.Scopes.{every-length}
use Rattle.tables.specs.Settled as settled
use Rattle.tables.specs.Settled.{channel, Index, Pair, OneOrTwo}
use Rattle.settle.specs.Walks.{Role, role_of, role_at, Point, name_cell, met_after, cell_by, step_by, cell_of, step, Binds, SafeBy}
use Rattle.settle.specs.Walks as role
use Rattle.settle.proofs.Moves.{Moves, Keeps, Does, plain-does, leaf, two, three}
use Rattle.settle.proofs.Values.{index_of, expr-stays, values-stays, sets-stays}
use Rattle.settle.proofs.Heard.{place_kept}

-- a name that is no channel name is a value
channel-or-value : (m : Meaning) → is_channel_name m ≡ false → is_value m ≡ true
unfolding is_channel_name is_value
channel-or-value (local i) e = refl
channel-or-value (variable (Syntax.number b false k)) e = refl
channel-or-value (variable (Syntax.number b true k)) e = not-both refl e
channel-or-value nothing e = not-both refl e

module _ (w : ℕ → List ℕ) (vs : List Variable) (ds : List Definition) (cs : List ℕ) (told : ℕ → Type 0) (t t' roots scopes : List ℕ) (trace : ℕ → Point) (first last : ℕ)
    (steps : (i : ℕ) → first ≤ i → i < last → trace (i + 1) ≡ step w vs ds t i (trace i)) (numbers : (v : Variable) → In v vs → FineNumber w vs ds cs v.number) where
  -- after the channel names us are met
  abbrev pub met : Point → List ℕ → Point
  met p us = record { scope = p.scope; seen = firsts w vs p.seen us; sums = p.sums; definitions = p.definitions }

  -- and the names ks are bound
  abbrev pub entered : Point → List ℕ → List ℕ → Point
  entered p us ks = record { scope = p.scope ++ ks; seen = firsts w vs p.seen us; sums = p.sums; definitions = p.definitions }

  module _ (p : Point) (few : length p.scope ≤ local_limit) where
    abbrev own : Scope
    own = p.scope

    -- ---- a channel's items

    ItemMoves : List ℕ → (ℕ → ℕ → Type 0) → (ℕ → Type 0) → Type 0
    ItemMoves us P Q = (a : ℕ) → Moves w vs ds cs told t t' roots scopes trace first last p (met p us) a 0 [] P Q

    -- a channel name
    name-moves : (k : ℕ) → is_channel_name (meaning w vs own k) ≡ true → ItemMoves (k ∷ []) (Leaf t node.named k) (settled.Item t' (Resolved.name (or_zero (place_in w k 0 cs))))
    unfolding ItemMoves role_of number_kind step_by cell_by name_cell settled.Item
    name-moves k e =
        leaf w vs ds cs told t t' roots scopes trace first last steps role.name (omega arith) refl (λ x. absurd (let z : ◌≡◌ {A = ℕ} 0 1 = cc in omega arith)) (λ x. absurd (let z : ◌≡◌ {A = ℕ} 0 1 = cc in omega arith)) (λ c b n z. rw (n, e)) (λ c b n z. tt)
        (λ i c κ n o u v x d y.
        let s : (trace (i + 1)).seen ≡ firsts w vs p.seen (k ∷ []) = ap (λ (r : Point). r.seen) x in
        let m = d.names (i + 1) (omega arith) (omega arith) in
        let q = place_kept w k vs p.seen cs m.0 (m.1 ∙ ap (λ (l : List ℕ). l ++ m.0) s) in
        index_of channel (or_zero (place_in w k 0 cs)) i (omega arith) (omega (arith, q.1, d.few)) (rw (← q.0) (rw (n, e) at y)))

    one-fine : (k : ℕ) → is_value (meaning w vs own k) ≡ true → AllFine w vs ds cs own (value k ∷ [])
    one-fine k e x i = rw (eq_of_singleton i) e

    -- a name that has a value
    value-moves : (k : ℕ) → AllFine w vs ds cs own (value k ∷ []) → ItemMoves [] (Leaf t node.named k) (settled.Item t' (Resolved.number (value_named w vs ds cs (meaning w vs own k))))
    unfolding ItemMoves settled.Item Table.Expr expr_sites resolve_expr firsts
    value-moves k h = expr-stays w vs ds cs told t t' roots scopes trace first last steps numbers own p few (λ j e. refl) (Syntax.named k) h

    named-moves : (k : ℕ) (lone named : Bool) → is_channel_name (meaning w vs own k) ≡ named → AllFine w vs ds cs own (cond lone [] (value k ∷ []))
        → ItemMoves (cond (lone && named) (k ∷ []) []) (Leaf t node.named k) (settled.Item t' (cond (lone && named) (Resolved.name (or_zero (place_in w k 0 cs))) (Resolved.number (value_named w vs ds cs (meaning w vs own k)))))
    named-moves k true true e h = name-moves k e
    named-moves k true false e h = value-moves k (one-fine k (channel-or-value (meaning w vs own k) e))
    named-moves k false named e h = value-moves k h

    item-moves : (c : Syntax.Expr) → AllFine w vs ds cs own (item_sites w c) → ItemMoves (item_use w vs own c) (Table.Expr t c) (settled.Item t' (resolve_item w vs ds cs own c))
    unfolding ItemMoves item_sites item_use resolve_item item_named settled.Item Table.Expr firsts
    item-moves (Syntax.literal b k) h = expr-stays w vs ds cs told t t' roots scopes trace first last steps numbers own p few (λ j e. refl) (Syntax.literal b k) h
    item-moves (Syntax.named k) h = named-moves k (is_lone w k) (is_channel_name (meaning w vs own k)) refl h
    item-moves (Syntax.absolute e) h = expr-stays w vs ds cs told t t' roots scopes trace first last steps numbers own p few (λ j e. refl) (Syntax.absolute e) h
    item-moves (Syntax.binary o e f) h = expr-stays w vs ds cs told t t' roots scopes trace first last steps numbers own p few (λ j e. refl) (Syntax.binary o e f) h

  module _ (p : Point) (few : length p.scope ≤ local_limit) where
    abbrev sc : Scope
    sc = p.scope

    -- ---- channels

    channel-moves : (c : Syntax.Channel) → AllFine w vs ds cs sc (channel_sites w c) → ItemMoves p few (channel_use w vs sc c) (Table.Channel t c) (settled.Channel t' (resolve_channel w vs ds cs sc c))
    unfolding ItemMoves channel_sites channel_use resolve_channel settled.Channel Table.Channel role_of number_kind
    channel-moves (Syntax.one_item e) h a = item-moves p few e h a
    channel-moves (Syntax.two_items e f) h a =
        let us = item_use w vs sc e in
        let ls = item_use w vs sc f in
        rw (firsts-append w vs p.seen us ls)
        (two w vs ds cs told t t' roots scopes trace first last steps (omega arith) (λ lo left k x u l n. plain-does w vs ds cs told t t' roots scopes trace first last steps (omega arith) refl n) (λ lo k x. (expr-interval f).low x) (item-moves p few e (λ x i. h x (left (item_sites w f) i)) a) (item-moves (met p us) few f (λ x i. h x (right (item_sites w e) i)) (a + 0)))
    channel-moves (Syntax.three_items e f g) h a =
        let us = item_use w vs sc e in
        let ls = item_use w vs sc f in
        let ms = item_use w vs sc g in
        rw (firsts-append w vs p.seen us (ls ++ ms), firsts-append w vs (firsts w vs p.seen us) ls ms)
        (three w vs ds cs told t t' roots scopes trace first last steps (omega arith) (λ k left middle n. plain-does w vs ds cs told t t' roots scopes trace first last steps (omega arith) refl n) (λ lo k x. (expr-interval f).low x) (λ lo k x. (expr-interval g).low x) (item-moves p few e (λ x i. h x (left (item_sites w f ++ item_sites w g) i)) a) (item-moves (met p us) few f (λ x i. h x (right (item_sites w e) (left (item_sites w g) i))) a) (item-moves (met (met p us) ls) few g (λ x i. h x (right (item_sites w e) (right (item_sites w f) i))) a))

    -- ---- actions

    action-does : {k κ token left third : ℕ} {q : Point} → κ < 256 → role_of κ ≡ role.action → length q.scope + third ≤ local_limit → Binds κ third → Node t k κ token left third
        → Does w vs ds cs told t t' roots scopes trace first last steps k q (record { scope = q.scope ++ every_other token third; seen = q.seen; sums = q.sums; definitions = q.definitions }) (get_or t k 0)
    unfolding step cell_of step_by cell_by
    action-does {k} {q = q} h e l binds n =
        let r : role_at t k ≡ role.action = ap role_of (node-kind n h) ∙ e in
        let a = node-token n h in
        let b = node-third n h in
        record {
          step_is = rw (r, a, b);
          safe = rw (r, b, node-kind n h) (l, binds);
          becomes = rw r;
          other = λ x. absurd (let z : ◌≡◌ {A = ℕ} 0 1 = cc (r, x) in omega arith);
          linked = λ x. absurd (let z : ◌≡◌ {A = ℕ} 0 1 = cc (r, x) in omega arith);
        }

    -- with a channel, and values or sets that stand in the scope
    module _ {κ token third : ℕ} {B : ℕ → ℕ → Type 0} {B' : ℕ → Type 0} (c : Syntax.Channel) (κ-small : κ < 256) (acts : role_of κ ≡ role.action) (binds : Binds κ third) (low : (lo k : ℕ) → B lo k → lo ≤ k) where
      with-channel : AllFine w vs ds cs sc (channel_sites w c) → length sc + third ≤ local_limit → Keeps w vs ds cs told t t' roots scopes trace first last (met p (channel_use w vs sc c)) B B'
          → (a : ℕ) → Moves w vs ds cs told t t' roots scopes trace first last p (entered p (channel_use w vs sc c) (every_other token third)) a 0 [] (Two t κ token third (Table.Channel t c) B) (Pair t' κ (settled.Channel t' (resolve_channel w vs ds cs sc c)) B')
      unfolding ItemMoves
      with-channel h l f a =
          two w vs ds cs told t t' roots scopes trace first last steps κ-small (λ lo left k x u l' n. action-does κ-small acts l binds n) low (channel-moves c h a) (f (a + 0))

    values-keep : (us : List ℕ) (v : Syntax.Values) → AllFine w vs ds cs sc (values_sites v) → Keeps w vs ds cs told t t' roots scopes trace first last (met p us) (Table.Values t v) (OneOrTwo t' (settled.Expr t') (resolve_values w vs ds cs sc v))
    values-keep us v h = values-stays w vs ds cs told t t' roots scopes trace first last steps numbers sc (met p us) few (λ j e. refl) v h

    sets-keep : (us : List ℕ) (s : Syntax.Sets) → AllFine w vs ds cs sc (sets_sites s) → Keeps w vs ds cs told t t' roots scopes trace first last (met p us) (Table.Sets t s) (OneOrTwo t' (settled.Set t') (resolve_sets w vs ds cs sc s))
    sets-keep us s h = sets-stays w vs ds cs told t t' roots scopes trace first last steps numbers sc (met p us) few (λ j e. refl) s h

    -- the names that are bound have room
    bound-room : (k n : ℕ) {m : ℕ} → AllFine w vs ds cs sc (bound (every_other k n) m ∷ []) → length sc + n ≤ local_limit
    bound-room k n {m} h = let f = h (bound (every_other k n) m) (head refl) in omega (arith, f.1, every-length k n)

    pub action-moves : (x : Syntax.Action) → AllFine w vs ds cs sc (action_sites w x)
        → (a : ℕ) → Moves w vs ds cs told t t' roots scopes trace first last p (entered p (action_use w vs sc x) (bindings x)) a 0 [] (Table.Action t x) (settled.Action t' (resolve_action w vs ds cs sc x))
    unfolding Table.Action action_sites action_use bindings tokens_of every_other resolve_action settled.Action role_of number_kind firsts step_by cell_by
    action-moves (Syntax.wait n) h =
        leaf w vs ds cs told t t' roots scopes trace first last steps role.action (omega arith) refl (λ x. absurd (let z : ◌≡◌ {A = ℕ} 0 1 = cc in omega arith)) (λ x. absurd (let z : ◌≡◌ {A = ℕ} 0 1 = cc in omega arith)) (λ c b e z. rw z) (λ c b e z. rw z (omega arith, inr (inr refl))) (λ k c κ n o u v x d y. record { kind-is = ap kind_of y ∙ κ; index_is = ap token_of y ∙ n })
    action-moves (Syntax.launch c v) h =
        with-channel c (omega arith) refl (inr (inr refl)) (λ lo k x. (values-interval v).low x) (λ x i. h x (left (values_sites v) i)) (omega arith) (values-keep (channel_use w vs sc c) v (λ x i. h x (right (channel_sites w c) i)))
    action-moves (Syntax.kill c v) h =
        with-channel c (omega arith) refl (inr (inr refl)) (λ lo k x. (values-interval v).low x) (λ x i. h x (left (values_sites v) i)) (omega arith) (values-keep (channel_use w vs sc c) v (λ x i. h x (right (channel_sites w c) i)))
    action-moves (Syntax.receive c s) h =
        with-channel c (omega arith) refl (inr (inr refl)) (λ lo k x. (sets-interval s).low x) (λ x i. h x (left (sets_sites s) i)) (omega arith) (sets-keep (channel_use w vs sc c) s (λ x i. h x (right (channel_sites w c) i)))
    action-moves (Syntax.bind c s (Syntax.names k n)) h =
        with-channel c (omega arith) refl (inl refl) (λ lo k x. (sets-interval s).low x) (λ x i. h x (left (bound (every_other k n) (count_sets s) ∷ []) (left (sets_sites s) i))) (bound-room k n (λ x i. h x (right (channel_sites w c ++ sets_sites s) i)))
        (sets-keep (channel_use w vs sc c) s (λ x i. h x (left (bound (every_other k n) (count_sets s) ∷ []) (right (channel_sites w c) i))))
    action-moves (Syntax.check c s) h =
        with-channel c (omega arith) refl (inr (inr refl)) (λ lo k x. (sets-interval s).low x) (λ x i. h x (left (sets_sites s) i)) (omega arith) (sets-keep (channel_use w vs sc c) s (λ x i. h x (right (channel_sites w c) i)))
    action-moves (Syntax.hand_send c v) h =
        with-channel c (omega arith) refl (inr (inr refl)) (λ lo k x. (values-interval v).low x) (λ x i. h x (left (values_sites v) i)) (omega arith) (values-keep (channel_use w vs sc c) v (λ x i. h x (right (channel_sites w c) i)))
    action-moves (Syntax.hand_receive c s) h =
        with-channel c (omega arith) refl (inr (inr refl)) (λ lo k x. (sets-interval s).low x) (λ x i. h x (left (sets_sites s) i)) (omega arith) (sets-keep (channel_use w vs sc c) s (λ x i. h x (right (channel_sites w c) i)))
    action-moves (Syntax.hand_bind c s (Syntax.names k n)) h =
        with-channel c (omega arith) refl (inr (inl refl)) (λ lo k x. (sets-interval s).low x) (λ x i. h x (left (bound (every_other k n) (count_sets s) ∷ []) (left (sets_sites s) i))) (bound-room k n (λ x i. h x (right (channel_sites w c ++ sets_sites s) i)))
        (sets-keep (channel_use w vs sc c) s (λ x i. h x (left (bound (every_other k n) (count_sets s) ∷ []) (right (channel_sites w c) i))))
