-- The faults of a part by those of its parts: what each return of the walk, and each call of itself, needs. From what stands at a node and the sites of it.
use mathlib.Core.Path.{◌≡◌, refl, sym, ap, ◌∙◌}
use mathlib.Core.List.{List, ◌∷◌, ◌++◌}
use mathlib.Core.Bool.{true}
use mathlib.Core.Logic.{⊎_elim}
use Prim.Native.Nat.{ℕ, ◌+◌, ◌-◌, ◌*◌, ◌≤◌}
use native.Mathlib.Omega.{arith}
use lib.ListN.{length, get_or}
use Rattle.std.specs.Prelude.{None}
use Rattle.token.specs.Questions.{Found}
use Rattle.grammar.specs.Syntax
use Rattle.tree.specs.Node.{field}
use Rattle.tree.specs.Table
use Rattle.tree.proofs.Holds.{cond-interval}
use Rattle.model.specs.Lists.{each, least, every_other}
use Rattle.model.specs.Sites.{Site, branch, call, cond_sites, action_sites, rate_sites, bindings, count_args, args_sites, variables, definitions}
use Rattle.model.specs.Limits.{local_limit, site_beyond}
use Rattle.names.specs.declared.Question.{Question}
use Rattle.names.specs.declared.Lists.{Lists}
use Rattle.names.specs.declared.scope.Scope.{Scope}
use Rattle.names.specs.Faults.{earlier_of, asks_names, site_faults}
use Rattle.names.specs.Leaves.{between}
use Rattle.names.specs.Placed.{Named}
use Rattle.names.specs.Settings.{Extended, Setting, faults_at}
use Rattle.names.specs.Walks.{Part, choices, items, part_sites, faults_over, RoomFor, Place, part_faults, bound_sites, ActionRoom, PartRoom}
use Rattle.names.proofs.Earliest.{least-append, nothing-first, nothing-second}
use Rattle.names.proofs.Between.{cond-lies}
use Rattle.names.proofs.Judges.{each_append}
use Rattle.names.proofs.Scopes.{every-length, every-inside, setting-more}
use Rattle.names.proofs.Parts.{left_at, third_at, token_at, Split, Inner, Gated, Stopped, Dotted, Called, over, over-split, over-inner, over-gated, over-stopped, over-dotted, over-called}
use Rattle.names.proofs.Acts.{token-small, bound_of, bindings-are, bound-fits, is-binding, action-bound}

-- ---- the names that an action binds, in scope after it
module _ {question : Question} {low high nodes : List ℕ} {lists : Lists} {scope : Scope} (h : Setting question low high nodes lists scope) (a : Syntax.Action) (lo k : ℕ) (holds : Table.Action nodes a lo k) (below : k ≤ lists.root) where
  none_named : third_at nodes k ≡ 0 → Named h.world.kinds (every_other (token_at nodes k) (third_at nodes k))
  unfolding every_other
  none_named e = rw e tt

  pub inner-named : Named h.world.kinds (every_other (token_at nodes k) (third_at nodes k))
  inner-named = ⊎_elim (λ q. none_named q.1) (λ q. (bound-fits h a lo k holds below q.kind).2) (bound_of nodes a lo k holds)

  pub inner-inside : token_at nodes k + 2 * third_at nodes k ≤ field
  inner-inside =
      ⊎_elim (λ q. omega (arith, q.1, token-small (get_or nodes k 0)))
      (λ q. omega (arith, every-inside h.world.kinds (token_at nodes k) (third_at nodes k) inner-named (bound-fits h a lo k holds below q.kind).1, h.world.few)) (bound_of nodes a lo k holds)

  pub inner-few : RoomFor question h.world.word h.locals (bound_sites a) → asks_names question ≡ true → scope.count + length (every_other (token_at nodes k) (third_at nodes k)) ≤ local_limit
  unfolding is-binding
  inner-few room asks =
      let l = every-length (token_at nodes k) (third_at nodes k) in
      ⊎_elim (λ q. omega (arith, q.1, h.scoped.count))
      (λ q. omega (arith, (is-binding h a lo k holds below (third_at nodes k) refl (λ e. omega (arith, (bound-fits h a lo k holds below q.kind).1)) (token_at nodes k) refl room).room asks)) (bound_of nodes a lo k holds)

module _ {question : Question} {kinds low high nodes : List ℕ} {lists : Lists} {scope : Scope} (h : Place question kinds low high nodes lists scope) where
  abbrev w : ℕ → List ℕ
  w = h.setting.world.word

  abbrev judged : List ℕ → Site → List ℕ
  judged = site_faults question w (variables h.setting.world.model) (definitions h.setting.world.model)

  as-over : (i : ℕ) (p : Part) → part_faults h i p ≡ over judged (part_sites w h.setting.locals i p)
  unfolding part_faults faults_over
  as-over i p = refl

  -- ---- two parts
  module _ (i : ℕ) (p : Part) (from root : ℕ) (s : Split nodes p from root) where
    pub split-room : PartRoom h i p → PartRoom h i s.first × PartRoom h (i + 1) s.second
    split-room room = (
      λ e. nothing-first _ _ (sym (over-split (site_beyond w) nodes w h.setting.locals i p from root s) ∙ room e),
      λ e. nothing-second _ _ (sym (over-split (site_beyond w) nodes w h.setting.locals i p from root s) ∙ room e),
    )

    pub split-judged : (x y r : Found) → x ≡ least (part_faults h i s.first) → y ≡ least (part_faults h (i + 1) s.second) → r ≡ earlier_of x y → r ≡ least (part_faults h i p)
    unfolding part_faults faults_over
    split-judged x y r d e q = rw (q, d, e) (sym (over-split judged nodes w h.setting.locals i p from root s))

  -- ---- one part
  module _ (i : ℕ) (p : Part) (from root : ℕ) (s : Inner nodes p from root) where
    pub inner_room : PartRoom h i p → PartRoom h 0 s.part
    inner_room room e = sym (over-inner (site_beyond w) nodes w h.setting.locals i p from root s) ∙ room e

    pub inner-judged : (r : Found) → r ≡ least (part_faults h 0 s.part) → r ≡ least (part_faults h i p)
    unfolding part_faults faults_over
    inner-judged r e = e ∙ sym (over-inner judged nodes w h.setting.locals i p from root s)

  -- ---- a gate
  abbrev pub ungated : {p : Part} {from root : ℕ} → Gated nodes p from root → Part
  ungated s = choices (Syntax.last_branch (Syntax.branch s.first Syntax.no_gate s.action s.rate s.next))

  module _ (i : ℕ) (p : Part) (from root : ℕ) (s : Gated nodes p from root) where
    pub gated-room : PartRoom h i p → PartRoom h i (ungated s)
    gated-room room e = nothing-second _ _ (sym (over-gated (site_beyond w) nodes w h.setting.locals i p from root s) ∙ room e)

    pub gated-judged : (l : ℕ) → l ≡ left_at nodes root → (x y r : Found) → x ≡ least (each (faults_at h.setting) (between nodes from (l + 1 - from))) → y ≡ least (part_faults h i (ungated s)) → r ≡ earlier_of x y → r ≡ least (part_faults h i p)
    unfolding part_faults faults_over faults_at
    gated-judged l l-is x y r d e q =
        let b = (cond-interval s.gate).low s.holds-gate in
        let c : x ≡ least (each (judged h.setting.locals) (cond_sites s.gate)) = d ∙ ap (λ (xs : List Site). least (each (judged h.setting.locals) xs)) ((cond-lies nodes s.gate).leaves s.holds-gate (l + 1 - from) (omega arith)) in
        rw (q, c, e) (sym (over-gated judged nodes w h.setting.locals i p from root s))

  -- ---- a branch
  own_room : (sc : List ℕ) (x : Site) (a : Syntax.Action) (r : Syntax.Rate) → least (each (site_beyond w sc) (x ∷ action_sites w a ++ rate_sites r)) ≡ None → least (each (site_beyond w sc) (action_sites w a)) ≡ None
  unfolding each
  own_room sc x a r e =
      let f = site_beyond w sc in
      let g = nothing-second (least (f x)) _ (sym (least-append (f x) (each f (action_sites w a ++ rate_sites r))) ∙ e) in
      nothing-first _ (least (each f (rate_sites r))) (sym (least-append (each f (action_sites w a)) (each f (rate_sites r))) ∙ ap least (sym (each_append nodes f (action_sites w a) (rate_sites r))) ∙ g)

  module _ (i : ℕ) (p : Part) (from root : ℕ) (s : Stopped nodes p from root) where
    pub stopped-room : PartRoom h i p → ActionRoom h s.action
    stopped-room room e = own_room h.setting.locals (branch i (token_at nodes root)) s.action s.rate (sym (over-stopped (site_beyond w) nodes w h.setting.locals i p from root s) ∙ room e)

    pub stopped-judged : (r : Found) → r ≡ least (each (faults_at h.setting) (branch i (token_at nodes root) ∷ action_sites w s.action ++ rate_sites s.rate)) → r ≡ least (part_faults h i p)
    unfolding part_faults faults_over faults_at
    stopped-judged r e = e ∙ sym (over-stopped judged nodes w h.setting.locals i p from root s)

  module _ (i : ℕ) (p : Part) (from root : ℕ) (s : Dotted nodes p from root) where
    pub dotted-room : PartRoom h i p → ActionRoom h s.action
    dotted-room room e =
        own_room h.setting.locals (branch i (token_at nodes root)) s.action s.rate (nothing-first _ _ (sym (over-dotted (site_beyond w) nodes w h.setting.locals i p from root s) ∙ room e))

    module _ (below : root ≤ lists.root) (l : ℕ) (l-is : l ≡ left_at nodes root) (inner : Scope) (more : Extended scope (every_other (token_at nodes l) (third_at nodes l)) inner) (room : PartRoom h i p) where
      pub holds-left : Table.Action nodes s.action from l
      holds-left = rw l-is s.holds-action

      pub left_below : l ≤ lists.root
      left_below = omega (arith, s.below.0, s.below.1)

      pub bound-there : RoomFor question w h.setting.locals (bound_sites s.action)
      bound-there = action-bound w question h.setting.locals s.action (dotted-room room)

      -- the scope of the continuation
      unfoldable pub inner-place : Place question kinds low high nodes lists inner
      unfolding setting-more
      inner-place =
          record {
            setting = setting-more h.setting more (inner-named h.setting s.action from l holds-left left_below) (inner-few h.setting s.action from l holds-left left_below bound-there);
            closes = h.closes;
          }

      scope-same : h.setting.locals ++ bindings s.action ≡ h.setting.locals ++ every_other (token_at nodes l) (third_at nodes l)
      scope-same = ap (λ (ks : List ℕ). h.setting.locals ++ ks) (bindings-are nodes s.action from l holds-left)

      pub next-room : PartRoom inner-place 0 (items (Syntax.last_cont s.cont))
      unfolding inner-place setting-more
      next-room e =
          rw scope-same at (nothing-second _ _ (sym (over-dotted (site_beyond w) nodes w h.setting.locals i p from root s) ∙ room e))

      pub dotted-judged : (x y r : Found) → x ≡ least (each (faults_at h.setting) (branch i (token_at nodes root) ∷ action_sites w s.action ++ rate_sites s.rate)) → y ≡ least (part_faults inner-place 0 (items (Syntax.last_cont s.cont))) → r ≡ earlier_of x y → r ≡ least (part_faults h i p)
      unfolding part_faults faults_over faults_at inner-place setting-more
      dotted-judged x y r d e q = rw (q, d, e) (rw scope-same at (sym (over-dotted judged nodes w h.setting.locals i p from root s)))

  -- ---- a call
  module _ (i : ℕ) (p : Part) (from root : ℕ) (s : Called nodes p from root) where
    pub called-judged : (r : Found) → r ≡ least (each (faults_at h.setting) (call s.name (count_args s.args) ∷ args_sites s.args)) → r ≡ least (part_faults h i p)
    unfolding part_faults faults_over faults_at
    called-judged r e = e ∙ sym (over-called judged nodes w h.setting.locals i p from root s)
