-- The tokens that are channel names are listed in the text's order, and are those of the branches that stand in the text. By induction on the
-- derivation, from the widths of its parts, and on the tree.
use mathlib.Core.Path.{◌≡◌, refl}
use mathlib.Core.List.Memᴰ.{append_cases}
use mathlib.Core.List.Memᴰ.{head}
use mathlib.Core.List.Memᴰ.{not-nil as nowhere}
use mathlib.Core.List.Memᴰ.{tail}
use mathlib.Core.List.{List, [], ◌∷◌, ◌++◌, Memᴰ as In}
use mathlib.Core.Bool.{Bool, true, false, cond, ◌&&◌}
use mathlib.Core.Option.{some}
use mathlib.Core.Logic.{⊎_elim}
use Prim.Native.Nat.{ℕ, suc, ◌+◌, ◌≤◌, ◌<◌}
use native.Mathlib.Omega.{arith}
use lib.ListN.{get_elem?}
use Rattle.grammar.specs.Grammar as derived
use Rattle.grammar.specs.Grammar.{flat_number, flat_expr, flat_term, flat_atom, flat_channel, flat_action, flat_rate, flat_gate, flat_prefix, flat_next, flat_cont, flat_item, flat_items, flat_choices, flat_sums, flat_body, flat_params}
use Rattle.grammar.specs.Syntax
use Rattle.grammar.specs.Syntax.{wide, expr_at, terms_at, term_at, factors_at, atom_at, channel_at, action_at, sums_prefix, sums_item, sums_choices, branch_at, next_at, cont_at, item_at, conts_at, branches_at, sum_at, sums_at, body_at, sums_body, params_at, definitions_at, model_at, syntax_of}
use Rattle.grammar.proofs.Wide.{wide-expr, wide-term, wide-atom, wide-channel, wide-action, wide-prefix, wide-next, wide-cont, wide-item, wide-items, wide-choices, wide-sum, wide-sums, wide-body}
use Rattle.model.specs.Lists.{each}
use Rattle.model.specs.Sites.{Scope, is_lone, bindings, params_of, Variable, definitions_in, definitions}
use Rattle.model.specs.Given.{meaning}
use Rattle.model.specs.Resolved.{is_channel_name, item_use, channel_use, action_use, branch_uses, next_uses, branches_uses, sum_uses, cont_uses, conts_uses, sums_uses, definition_uses}
use Rattle.model.specs.Stands.{branches_of, branches_in, items_of, sums_of, Holds, itself, grouped, SumIn, defined, continued, BranchIn}
use Rattle.model.proofs.Ascends.{Ascends, ascends-append, ascends-wider}
use Rattle.model.proofs.Members.{in-each, got_in}
use Rattle.model.proofs.Lone.{terms-none, factors-none, literal-no, two-parts}

-- a token stands at its own number
abbrev pub number : ℕ → ℕ
number k = k

-- ---- a name stands among the tokens of its expression

mutual
  unfolding expr_at terms_at term_at factors_at atom_at

  expr-at : (e : derived.Expr) (k j : ℕ) → expr_at e k ≡ Syntax.named j → (k ≤ j) × (j < k + wide (flat_expr e))
  expr-at (derived.sum t r) k j q =
      let n = terms-none _ r _ q in
      let h = term-at t k j n.1 in
      (h.0, omega (arith, h.1, (wide-expr (derived.sum t r)).width))

  term-at : (t : derived.Term) (k j : ℕ) → term_at t k ≡ Syntax.named j → (k ≤ j) × (j < k + wide (flat_term t))
  term-at (derived.product a f) k j q =
      let n = factors-none _ f _ q in
      let h = atom-at a k j n.1 in
      (h.0, omega (arith, h.1, (wide-term (derived.product a f)).width))

  atom-at : (a : derived.Atom) (k j : ℕ) → atom_at a k ≡ Syntax.named j → (k ≤ j) × (j < k + wide (flat_atom a))
  atom-at (derived.number w) k j q = literal-no w k q
  atom-at derived.name k j q = let d : k ≡ j = cc in (omega arith, omega (arith, (wide-atom derived.name).width))
  atom-at (derived.absolute x) k j q = absurd (let z : ◌≡◌ {A = ℕ} 0 1 = cc in omega arith)
  atom-at (derived.maximum x y) k j q = two-parts q
  atom-at (derived.minimum x y) k j q = two-parts q
  atom-at (derived.bracketed x) k j q = let h = expr-at x (k + 1) j q in (omega (arith, h.0), omega (arith, h.1, (wide-atom (derived.bracketed x)).width))

module _ (w : ℕ → List ℕ) (vs : List Variable) where
  -- ---- the uses of a part that is written from token k on

  use-by : (lo hi k : ℕ) (b : Bool) → lo ≤ k → k < hi → Ascends number lo (cond b (k ∷ []) []) hi
  use-by lo hi k true h g = (h, omega arith)
  use-by lo hi k false h g = omega arith

  item-ascends : (sc : Scope) (e : Syntax.Expr) (lo hi : ℕ) → lo ≤ hi → ((j : ℕ) → e ≡ Syntax.named j → (lo ≤ j) × (j < hi)) → Ascends number lo (item_use w vs sc e) hi
  unfolding item_use
  item-ascends sc (Syntax.literal b k) lo hi l h = l
  item-ascends sc (Syntax.named k) lo hi l h = let g = h k refl in use-by lo hi k (is_lone w k && is_channel_name (meaning w vs sc k)) g.0 g.1
  item-ascends sc (Syntax.absolute e) lo hi l h = l
  item-ascends sc (Syntax.binary o e f) lo hi l h = l

  item-use-at : (sc : Scope) (c : derived.Expr) (lo k hi : ℕ) → lo ≤ k → k + wide (flat_expr c) ≤ hi → Ascends number lo (item_use w vs sc (expr_at c k)) hi
  item-use-at sc c lo k hi l h = item-ascends sc (expr_at c k) lo hi (omega arith) (λ j q. let g = expr-at c k j q in (omega (arith, g.0), omega (arith, g.1)))

  channel-at : (sc : Scope) (c : derived.Channel) (lo k hi : ℕ) → lo ≤ k → k + wide (flat_channel c) ≤ hi → Ascends number lo (channel_use w vs sc (channel_at c k)) hi
  unfolding channel_use channel_at
  channel-at sc (derived.one_item e) lo k hi l h = item-use-at sc e lo k hi l (omega (arith, (wide-channel (derived.one_item e)).width))
  channel-at sc (derived.two_items e f) lo k hi l h =
      let m = k + wide (flat_expr e) + 1 in
      let n = (wide-channel (derived.two_items e f)).width in
      ascends-append number lo m hi (item_use w vs sc (expr_at e k)) (item_use w vs sc (expr_at f m)) (item-use-at sc e lo k m l (omega arith)) (item-use-at sc f m m hi (omega arith) (omega arith))
  channel-at sc (derived.three_items e f g) lo k hi l h =
      let m = k + wide (flat_expr e) + 1 in
      let p = m + wide (flat_expr f) + 1 in
      let n = (wide-channel (derived.three_items e f g)).width in
      ascends-append number lo m hi (item_use w vs sc (expr_at e k)) (item_use w vs sc (expr_at f m) ++ item_use w vs sc (expr_at g p)) (item-use-at sc e lo k m l (omega arith)) (ascends-append number m p hi (item_use w vs sc (expr_at f m)) (item_use w vs sc (expr_at g p)) (item-use-at sc f m m p (omega arith) (omega arith)) (item-use-at sc g p p hi (omega arith) (omega arith)))

  action-at : (sc : Scope) (a : derived.Action) (k hi : ℕ) → hi ≡ k + wide (flat_action a) → Ascends number k (action_use w vs sc (action_at a k)) hi
  unfolding action_use action_at
  action-at sc derived.wait k hi e = omega arith
  action-at sc (derived.launch c v) k hi e = channel-at sc c k k hi (omega arith) (omega (arith, (wide-action (derived.launch c v)).width))
  action-at sc (derived.kill c v) k hi e = channel-at sc c k k hi (omega arith) (omega (arith, (wide-action (derived.kill c v)).width))
  action-at sc (derived.receive c s) k hi e = channel-at sc c k k hi (omega arith) (omega (arith, (wide-action (derived.receive c s)).width))
  action-at sc (derived.bind c s n) k hi e = channel-at sc c k k hi (omega arith) (omega (arith, (wide-action (derived.bind c s n)).width))
  action-at sc (derived.check c s) k hi e = channel-at sc c k (k + 1) hi (omega arith) (omega (arith, (wide-action (derived.check c s)).width))
  action-at sc (derived.hand_send c v) k hi e = channel-at sc c k (k + 1) hi (omega arith) (omega (arith, (wide-action (derived.hand_send c v)).width))
  action-at sc (derived.hand_receive c s) k hi e = channel-at sc c k (k + 1) hi (omega arith) (omega (arith, (wide-action (derived.hand_receive c s)).width))
  action-at sc (derived.hand_bind c s n) k hi e = channel-at sc c k (k + 1) hi (omega arith) (omega (arith, (wide-action (derived.hand_bind c s n)).width))

  mutual
    unfolding branch_at next_at cont_at item_at conts_at branches_at branch_uses next_uses branches_uses sum_uses cont_uses conts_uses

    prefix-at : (p : derived.Prefix) (sc : Scope) (k n hi : ℕ) → hi ≡ k + wide (flat_prefix p) → Ascends number k (branch_uses w vs sc (branch_at p k n)) hi
    prefix-at (derived.prefix g a r x) sc k n hi e =
        let b = k + wide (flat_gate g) + 1 in
        let c = b + wide (flat_action a) + 1 + wide (flat_rate r) + 1 in
        ascends-append number k c hi (action_use w vs sc (action_at a b)) (next_uses w vs (sc ++ bindings (action_at a b)) (next_at x c n)) (ascends-wider number b k (b + wide (flat_action a)) c (action_use w vs sc (action_at a b)) (omega arith) (omega arith) (action-at sc a b (b + wide (flat_action a)) refl)) (next-at x (sc ++ bindings (action_at a b)) c n hi (omega (arith, (wide-prefix (derived.prefix g a r x)).width)))

    next-at : (x : derived.Next) (sc : Scope) (k n hi : ℕ) → hi ≡ k + wide (flat_next x) → Ascends number k (next_uses w vs sc (next_at x k n)) hi
    next-at derived.stop sc k n hi e = omega arith
    next-at (derived.dot c) sc k n hi e =
        ascends-wider number (k + 1) k hi hi (cont_uses w vs sc (cont_at c (k + 1) n)) (omega arith) (omega arith) (cont-at c sc (k + 1) n hi (omega (arith, (wide-next (derived.dot c)).width)))

    cont-at : (c : derived.Cont) (sc : Scope) (k n hi : ℕ) → hi ≡ k + wide (flat_cont c) → Ascends number k (cont_uses w vs sc (cont_at c k n)) hi
    cont-at (derived.chain p) sc k n hi e = prefix-at p sc k (n + 1) hi (omega (arith, (wide-cont (derived.chain p)).width))
    cont-at (derived.call a) sc k n hi e = omega arith
    cont-at (derived.group i r) sc k n hi e =
        let b = k + 1 + wide (flat_item i) in
        items_at r (item_at i (k + 1) n) sc k b (n + sums_item i) hi (ascends-wider number (k + 1) k b b (cont_uses w vs sc (item_at i (k + 1) n)) (omega arith) (omega arith) (item-at i sc (k + 1) n b refl)) (omega (arith, (wide-cont (derived.group i r)).width))

    item-at : (i : derived.Item) (sc : Scope) (k n hi : ℕ) → hi ≡ k + wide (flat_item i) → Ascends number k (cont_uses w vs sc (item_at i k n)) hi
    item-at (derived.item_sum p r) sc k n hi e =
        let b = k + wide (flat_prefix p) in
        choices-at r (branch_at p k (n + 1)) sc k b (n + 1 + sums_prefix p) hi (prefix-at p sc k (n + 1) b refl) (omega (arith, (wide-item (derived.item_sum p r)).width))
    item-at (derived.item_call a) sc k n hi e = omega arith
    item-at (derived.item_group i r) sc k n hi e =
        let b = k + 1 + wide (flat_item i) in
        items_at r (item_at i (k + 1) n) sc k b (n + sums_item i) hi (ascends-wider number (k + 1) k b b (cont_uses w vs sc (item_at i (k + 1) n)) (omega arith) (omega arith) (item-at i sc (k + 1) n b refl)) (omega (arith, (wide-item (derived.item_group i r)).width))

    items_at : (r : derived.Items) (c : Syntax.Cont) (sc : Scope) (lo k n hi : ℕ) → Ascends number lo (cont_uses w vs sc c) k → hi ≡ k + wide (flat_items r) → Ascends number lo (conts_uses w vs sc (conts_at c r k n)) hi
    items_at derived.close c sc lo k n hi h e = ascends-wider number lo lo k hi (cont_uses w vs sc c) (omega arith) (omega arith) h
    items_at (derived.also i r) c sc lo k n hi h e =
        let b = k + 1 + wide (flat_item i) in
        let x = item_at i (k + 1) n in
        ascends-append number lo k hi (cont_uses w vs sc c) (conts_uses w vs sc (conts_at x r b (n + sums_item i))) h (items_at r x sc k b (n + sums_item i) hi (ascends-wider number (k + 1) k b b (cont_uses w vs sc x) (omega arith) (omega arith) (item-at i sc (k + 1) n b refl)) (omega (arith, (wide-items (derived.also i r)).width)))

    choices-at : (r : derived.Choices) (b : Syntax.Branch) (sc : Scope) (lo k n hi : ℕ) → Ascends number lo (branch_uses w vs sc b) k → hi ≡ k + wide (flat_choices r) → Ascends number lo (branches_uses w vs sc (branches_at b r k n)) hi
    choices-at derived.no_choices b sc lo k n hi h e = ascends-wider number lo lo k hi (branch_uses w vs sc b) (omega arith) (omega arith) h
    choices-at (derived.or p r) b sc lo k n hi h e =
        let c = k + 1 + wide (flat_prefix p) in
        let x = branch_at p (k + 1) n in
        ascends-append number lo k hi (branch_uses w vs sc b) (branches_uses w vs sc (branches_at x r c (n + sums_prefix p))) h (choices-at r x sc k c (n + sums_prefix p) hi (ascends-wider number (k + 1) k c c (branch_uses w vs sc x) (omega arith) (omega arith) (prefix-at p sc (k + 1) n c refl)) (omega (arith, (wide-choices (derived.or p r)).width)))

  sum-at : (p : derived.Prefix) (r : derived.Choices) (sc : Scope) (k n hi : ℕ) → hi ≡ k + wide (λ us. flat_prefix p (flat_choices r us)) → Ascends number k (sum_uses w vs sc (sum_at p r k n)) hi
  unfolding sum_at sum_uses
  sum-at p r sc k n hi e =
      let b = k + wide (flat_prefix p) in
      choices-at r (branch_at p k (n + 1)) sc k b (n + 1 + sums_prefix p) hi (prefix-at p sc k (n + 1) b refl) (omega (arith, (wide-sum p r).width))

  sums_at_lem : (r : derived.Sums) (s : Syntax.Sum) (sc : Scope) (lo k n hi : ℕ) → Ascends number lo (sum_uses w vs sc s) k → hi ≡ k + wide (flat_sums r) → Ascends number lo (sums_uses w vs sc (sums_at s r k n)) hi
  unfolding sums_at sums_uses
  sums_at_lem derived.no_sums s sc lo k n hi h e = ascends-wider number lo lo k hi (sum_uses w vs sc s) (omega arith) (omega arith) h
  sums_at_lem (derived.beside p c r) s sc lo k n hi h e =
      let b = k + 1 + wide (λ us. flat_prefix p (flat_choices c us)) in
      let q = n + 1 + sums_prefix p + sums_choices c in
      let x = sum_at p c (k + 1) n in
      ascends-append number lo k hi (sum_uses w vs sc s) (sums_uses w vs sc (sums_at x r b q)) h (sums_at_lem r x sc k b q hi (ascends-wider number (k + 1) k b b (sum_uses w vs sc x) (omega arith) (omega arith) (sum-at p c sc (k + 1) n b refl)) (omega (arith, (wide-sums (derived.beside p c r)).width, (wide-sum p c).width)))

  body-at : (b : derived.Body) (sc : Scope) (k n hi : ℕ) → hi ≡ k + wide (flat_body b) → Ascends number k (sums_uses w vs sc (body_at b k n)) hi
  unfolding body_at
  body-at (derived.body p c r) sc k n hi e =
      let b = k + wide (λ us. flat_prefix p (flat_choices c us)) in
      sums_at_lem r (sum_at p c k n) sc k b (n + 1 + sums_prefix p + sums_choices c) hi (sum-at p c sc k n b refl) (omega (arith, (wide-body (derived.body p c r)).width, (wide-sum p c).width))

  definitions-at : (d : derived.Definitions) (k n : ℕ) → (hi : ℕ) × Ascends number k (each (definition_uses w vs) (definitions_in (definitions_at d k n))) hi
  unfolding definitions_in definitions_at each definition_uses
  definitions-at (derived.last_definition p b s) k n =
      let c = k + 1 + wide (flat_params p) + 1 in
      let hi = c + wide (flat_body b) in
      let sc = params_of (params_at p (k + 1)) in
      (hi, ascends-append number k hi hi (sums_uses w vs sc (body_at b c n)) [] (ascends-wider number c k hi hi (sums_uses w vs sc (body_at b c n)) (omega arith) (omega arith) (body-at b sc c n hi refl)) (omega arith))
  definitions-at (derived.next_definition p b d) k n =
      let c = k + 1 + wide (flat_params p) + 1 in
      let e = c + wide (flat_body b) in
      let sc = params_of (params_at p (k + 1)) in
      let r = definitions-at d (e + 1) (n + sums_body b) in
      (r.0, ascends-append number k (e + 1) r.0 (sums_uses w vs sc (body_at b c n)) _ (ascends-wider number c k e (e + 1) (sums_uses w vs sc (body_at b c n)) (omega arith) (omega arith) (body-at b sc c n e refl)) r.1)

  model-at : (m : derived.Model) (k : ℕ) → (hi : ℕ) × Ascends number k (each (definition_uses w vs) (definitions (model_at m k))) hi
  unfolding definitions model_at
  model-at (derived.definitions d) k = definitions-at d k 0
  model-at (derived.variable v m) k =
      let c = k + 2 + wide (flat_number v) + 1 in
      let r = model-at m c in
      (r.0, ascends-wider number c k r.0 r.0 (each (definition_uses w vs) (definitions (model_at m c))) (omega arith) (omega arith) r.1)

  -- the uses stand in the text's order
  pub uses-ascend : (m : derived.Model) → (hi : ℕ) × Ascends number 0 (each (definition_uses w vs) (definitions (syntax_of m))) hi
  unfolding syntax_of
  uses-ascend m = model-at m 0

  -- ---- each is one of a branch that stands in the text

  module _ (m : Syntax.Model) where
    -- a use, and its branch
    pub record UsedAt (k : ℕ) : Type 0 where
      pub scope : Scope
      pub place : ℕ
      pub first : ℕ
      pub gate : Syntax.Gate
      pub action : Syntax.Action
      pub rate : Syntax.Rate
      pub next : Syntax.Next
      pub stands : BranchIn m scope place (Syntax.branch first gate action rate next)
      pub used : In k (action_use w vs scope action)

    -- the sums that a continuation holds stand in this scope
    abbrev Held : Scope → Syntax.Cont → Type 0
    Held sc c = (t : Syntax.Sum) → Holds (Syntax.proceed t) c → SumIn m sc t

    mutual
      unfolding branch_uses next_uses branches_uses sum_uses cont_uses conts_uses branches_of branches_in items_of

      in_sum : (s : Syntax.Sum) (sc : Scope) (k : ℕ) → SumIn m sc s → In k (sum_uses w vs sc s) → UsedAt k
      in_sum (Syntax.sum n b) sc k h i = in-branches b sc 0 k (λ j x e. let d : 0 + j ≡ j = omega arith in rw d (record { sum = Syntax.sum n b; stands = h; place = e })) i

      in-branches : (b : Syntax.Branches) (sc : Scope) (i k : ℕ) → ((j : ℕ) (x : Syntax.Branch) → get_elem? (branches_of b) j ≡ some x → BranchIn m sc (i + j) x) → In k (branches_uses w vs sc b) → UsedAt k
      in-branches (Syntax.last_branch b) sc i k h l = in-branch b sc (i + 0) k (h 0 b refl) l
      in-branches (Syntax.next_branch b r) sc i k h l =
          ⊎_elim (λ (x : In k (branch_uses w vs sc b)). in-branch b sc (i + 0) k (h 0 b refl) x)
          (λ (x : In k (branches_uses w vs sc r)). in-branches r sc (i + 1) k (λ j y e. let d : i + suc j ≡ i + 1 + j = omega arith in rw d at (h (suc j) y e)) x) (append_cases (branch_uses w vs sc b) l)

      in-branch : (b : Syntax.Branch) (sc : Scope) (i k : ℕ) → BranchIn m sc i b → In k (branch_uses w vs sc b) → UsedAt k
      in-branch (Syntax.branch q g a r n) sc i k h l =
          ⊎_elim (λ (x : In k (action_use w vs sc a)). record { scope = sc; place = i; first = q; gate = g; action = a; rate = r; next = n; stands = h; used = x })
          (λ (x : In k (next_uses w vs (sc ++ bindings a) n)). in-next n (sc ++ bindings a) k (λ c e t l. continued h.stands (got_in (branches_in h.sum) i (rw e at h.place)) l) x) (append_cases (action_use w vs sc a) l)

      in-next : (n : Syntax.Next) (sc : Scope) (k : ℕ) → ((c : Syntax.Cont) → n ≡ Syntax.dot c → Held sc c) → In k (next_uses w vs sc n) → UsedAt k
      in-next Syntax.stop sc k h l = absurd (nowhere l)
      in-next (Syntax.dot c) sc k h l = in-cont c sc k (h c refl) l

      in-cont : (c : Syntax.Cont) (sc : Scope) (k : ℕ) → Held sc c → In k (cont_uses w vs sc c) → UsedAt k
      in-cont (Syntax.proceed s) sc k h l = in_sum s sc k (h s (itself refl)) l
      in-cont (Syntax.call q a) sc k h l = absurd (nowhere l)
      in-cont (Syntax.group q c) sc k h l = in-conts c sc k (λ x i t y. h t (grouped i y)) l

      in-conts : (c : Syntax.Conts) (sc : Scope) (k : ℕ) → ((x : Syntax.Cont) → In x (items_of c) → Held sc x) → In k (conts_uses w vs sc c) → UsedAt k
      in-conts (Syntax.last_cont c) sc k h l = in-cont c sc k (h c (head refl)) l
      in-conts (Syntax.next_cont c r) sc k h l =
          ⊎_elim (λ (x : In k (cont_uses w vs sc c)). in-cont c sc k (h c (head refl)) x) (λ (x : In k (conts_uses w vs sc r)). in-conts r sc k (λ y i. h y (tail i)) x) (append_cases (cont_uses w vs sc c) l)

    in-sums : (s : Syntax.Sums) (sc : Scope) (k : ℕ) → ((x : Syntax.Sum) → In x (sums_of s) → SumIn m sc x) → In k (sums_uses w vs sc s) → UsedAt k
    unfolding sums_uses sums_of
    in-sums (Syntax.last_sum s) sc k h l = in_sum s sc k (h s (head refl)) l
    in-sums (Syntax.next_sum s r) sc k h l =
        ⊎_elim (λ (x : In k (sum_uses w vs sc s)). in_sum s sc k (h s (head refl)) x) (λ (x : In k (sums_uses w vs sc r)). in-sums r sc k (λ y i. h y (tail i)) x) (append_cases (sum_uses w vs sc s) l)

    pub use-stands : {k : ℕ} → In k (each (definition_uses w vs) (definitions m)) → UsedAt k
    unfolding definition_uses
    use-stands {k} i = let d = in-each (definition_uses w vs) (definitions m) i in in-sums d.0.sums d.0.params k (λ x j. defined d.1 j) d.2
