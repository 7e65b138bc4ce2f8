-- The faults of definitions and of the system line: what each return of the functions over them, and each call, needs. From the forms of a tree.
use mathlib.Core.Path.{◌≡◌, refl, sym, ap, ◌∙◌, subst}
use mathlib.Core.List.{List, [], ◌∷◌, ◌++◌, append-nil, append_assoc}
use mathlib.Core.Bool.{Bool, true, false, cond, not, ◌||◌}
use Prim.Native.Nat.{ℕ, zero, suc, ◌+◌, ◌-◌, ◌*◌, ◌≤◌, ◌<◌, min}
use native.Mathlib.Omega.{arith}
use borrow.Author.Tests.{eqb-true, le-ltb, lt-ltb, ltb-true, ltb-false}
use lib.Dec.{eqb, ltb}
use lib.ListN.{length, get_or, take, drop}
use Rattle.std.specs.Prelude.{None}
use Rattle.std.specs.Bool.{then_some}
use Rattle.token.specs.Questions.{Found}
use Rattle.word.specs.Number.{worth, cap}
use Rattle.grammar.specs.Syntax
use Rattle.grammar.proofs.Follows.{inside}
use Rattle.tree.specs.Node as node
use Rattle.tree.specs.Node.{field, kind_of, token_of, number_kind}
use Rattle.tree.specs.Table
use Rattle.tree.proofs.Cells.{node-kind, node-token, node-third}
use Rattle.tree.proofs.Interval.{kind_at}
use Rattle.tree.proofs.Holds.{start-interval, system-interval, definitions-interval}
use Rattle.model.specs.Lists.{each, when, least, every_other}
use Rattle.model.specs.Sites.{call, expr_sites, tokens_of, params_of, Definition, names, variables, definitions, definitions_in, system_in, starts_in, definition_sites, sums_sites}
use Rattle.model.specs.Limits.{count_limit, parameter_limit, local_limit, whole_beyond, site_beyond, wholes_beyond, starts_beyond, start_beyond}
use Rattle.model.specs.Fresh.{repeated}
use Rattle.model.specs.Given.{is_callable, count_wholes, count_starts, site_wrong, start_wrong}
use Rattle.model.specs.Faults.{wholes_of}
use Rattle.names.specs.declared.Question.{Question}
use Rattle.names.specs.declared.Question.TheVariants.{Limits, Fresh, Given}
use Rattle.names.specs.declared.Lists.{Lists}
use Rattle.names.specs.declared.scope.Scope.{Scope}
use Rattle.names.specs.Faults.{earlier_of, asks_names, site_faults}
use Rattle.names.specs.Leaves.{between, leaf_sites}
use Rattle.names.specs.Placed.{IsName, Named, Sort, defines, counts, sort_of, SortFits}
use Rattle.names.specs.Placed as placed
use Rattle.names.specs.Settings.{Extended, World, Setting, faults_at, known_in}
use Rattle.names.specs.Walks.{sums, Holds, part_sites, faults_over, Place, Ground, part_faults, PartRoom, param_faults, definition_faults, defined, count_faults, start_faults, lines_faults, definition_judged, lines_judged, DefinitionRoom, LinesRoom}
use Rattle.names.proofs.Earliest.{least-append, nothing-first, nothing-second, told}
use Rattle.names.proofs.Between.{Lies, lies-two, expr-lies}
use Rattle.names.proofs.Scopes.{every-length, every-inside, setting-more}
use Rattle.names.proofs.Parts.{left_at, third_at, token_at, two-parts, over}
use Rattle.names.proofs.Acts.{drop-few}

-- ---- outside definitions no locals are in scope
pub none-taken : (xs : List ℕ) (n : ℕ) → n ≡ 0 → take n xs ≡ []
none-taken xs n e = rw e

module _ {question : Question} {low high nodes : List ℕ} {lists : Lists} where
  unfoldable pub setting-none : World question low high nodes lists → (s : Scope) → (length s.names ≡ local_limit) × (s.count ≡ 0) → Setting question low high nodes lists s
  setting-none h s e =
      record { world = h; locals = []; scoped = record { full = e.0; count = omega (arith, e.1); locals_are = λ a. none-taken s.names s.count e.1; named = tt } }

-- ---- the cases of `params_fault`
module _ (low high nodes : List ℕ) (lists : Lists) (first n : ℕ) where
  abbrev ParamsAnswer : Found → Question → Type 0
  ParamsAnswer r q = (h : World q low high nodes lists) → Named h.kinds (every_other first n) → r ≡ least (param_faults q h.word (names (variables h.model)) (every_other first n))

  in-limits : {r : Found} → r ≡ least (drop parameter_limit (every_other first n)) → ParamsAnswer r Limits
  unfolding param_faults
  in-limits e h m = e

  pub params-limits : {q : Question} {r : Found} → q ≡ Limits → r ≡ least (drop parameter_limit (every_other first n)) → ParamsAnswer r q
  params-limits {r = r} e f = subst (ParamsAnswer r) (sym e) (in-limits f)

  in-given : ParamsAnswer None Given
  unfolding param_faults least
  in-given h m = refl

  pub params-given : {q : Question} → q ≡ Given → ParamsAnswer None q
  params-given e = subst (ParamsAnswer None) (sym e) in-given

  module _ (s : Scope) (none : (length s.names ≡ local_limit) × (s.count ≡ 0)) where
    asks : asks_names Fresh ≡ true
    unfolding asks_names
    asks = refl

    pub fresh-params : {q : Question} → q ≡ Fresh → ((h : World q low high nodes lists) × Named h.kinds (every_other first n)) → (asks_names q ≡ true → n ≤ local_limit) → ((h : Setting Fresh low high nodes lists s) × Named h.world.kinds (every_other first n)) × (s.count + n ≤ local_limit)
    unfolding setting-none
    fresh-params e h l =
        let g = subst (λ (q : Question). ((h : World q low high nodes lists) × Named h.kinds (every_other first n)) × (asks_names q ≡ true → n ≤ local_limit)) e (h, l) in
        ((setting-none g.0.0 s none, g.0.1), omega (arith, g.1 asks, none.1))

    in-fresh : {r : Found} → ((h : Setting Fresh low high nodes lists s) → Named h.world.kinds (every_other first n) → r ≡ least (repeated h.world.word (known_in h) (every_other first n))) → ParamsAnswer r Fresh
    unfolding param_faults setting-none known_in
    in-fresh f h m = f (setting-none h s none) m ∙ ap (λ (ks : List ℕ). least (repeated h.word ks (every_other first n))) (append-nil (names (variables h.model)))

    pub params-fresh : {q : Question} {r : Found} → q ≡ Fresh → ((h : Setting Fresh low high nodes lists s) → Named h.world.kinds (every_other first n) → r ≡ least (repeated h.world.word (known_in h) (every_other first n))) → ParamsAnswer r q
    params-fresh {r = r} e f = subst (ParamsAnswer r) (sym e) (in-fresh f)

-- ---- definitions
module _ (t : List ℕ) where
  -- what a definition's node says
  pub record Stated (p : Syntax.Params) (b : Syntax.Sums) (from k : ℕ) : Type 0 where
    pub params_are : params_of p ≡ every_other (token_at t k + 2) (third_at t k)
    pub holds : Holds t (sums b) from (k - 1)
    pub above : 0 < k
    pub kind : sort_of (kind_at t k) ≡ defines

  pub stated-of : (n : ℕ) (p : Syntax.Params) (b : Syntax.Sums) (from k : ℕ) → Table.Definition t n p b from k → Stated p b from k
  unfolding Table.Definition params_of tokens_of every_other Holds sort_of number_kind
  stated-of n Syntax.no_params b from k h =
      let u : k - 1 ≡ h.root = omega (arith, h.above) in
      record { params_are = rw (node-third h.node (omega arith)); holds = rw u h.holds; above = omega (arith, h.above); kind = rw (node-kind h.node (omega arith)) }
  stated-of n (Syntax.params (Syntax.names f m)) b from k h =
      let o = h.2 in
      let u : k - 1 ≡ o.root = omega (arith, o.above) in
      record {
        params_are = rw (node-token o.node (omega arith), node-third o.node (omega arith), h.0);
        holds = rw u o.holds;
        above = omega (arith, o.above);
        kind = rw (node-kind o.node (omega arith));
      }

module _ {question : Question} {kinds low high nodes : List ℕ} {lists : Lists} (h : Ground question kinds low high nodes lists) (n : ℕ) (p : Syntax.Params) (b : Syntax.Sums) (from k : ℕ) (s : Stated nodes p b from k) (below : k ≤ lists.root) where
  abbrev ks : List ℕ
  ks = every_other (token_at nodes k + 2) (third_at nodes k)

  stated-fits : IsName h.world.kinds (token_at nodes k) × Named h.world.kinds ks
  unfolding SortFits
  stated-fits = rw s.kind at (h.world.placed k below)

  pub params-named : Named h.world.kinds ks
  params-named = stated-fits.1

  pub params-inside : token_at nodes k + 2 + 2 * third_at nodes k ≤ field
  params-inside = by (third_at nodes k) params-named
    where
      by : (m : ℕ) → Named h.world.kinds (every_other (token_at nodes k + 2) m) → token_at nodes k + 2 + 2 * m ≤ field
      by zero q = let e = stated-fits.0 in omega (arith, inside h.world.kinds (token_at nodes k) (omega arith), h.world.few)
      by (suc m) q = omega (arith, every-inside h.world.kinds (token_at nodes k + 2) (suc m) q (omega arith), h.world.few)

  module _ (room : DefinitionRoom h (defined n p b)) where
    whole_room : asks_names question ≡ true → earlier_of (least (drop parameter_limit ks)) (least (over (site_beyond h.world.word) (sums_sites h.world.word ks b))) ≡ None
    unfolding definition_judged definition_faults param_faults faults_over definition_sites site_faults
    whole_room e =
        sym (least-append (drop parameter_limit ks) (over (site_beyond h.world.word) (sums_sites h.world.word ks b)))
        ∙ rw s.params_are at (room e)

    pub params-few : asks_names question ≡ true → third_at nodes k ≤ parameter_limit
    params-few e = drop-few parameter_limit (third_at nodes k) (token_at nodes k + 2) (nothing-first _ _ (whole_room e))

    module _ (z sc : Scope) (none : (length z.names ≡ local_limit) × (z.count ≡ 0)) (more : Extended z ks sc) where
      -- the scope of the body
      unfoldable pub body-place : Place question kinds low high nodes lists sc
      unfolding setting-more setting-none
      body-place =
          record {
            setting = setting-more (setting-none h.world z none) more params-named (λ e. omega (arith, params-few e, every-length (token_at nodes k + 2) (third_at nodes k), none.1));
            closes = h.closes;
          }

      pub body-room : PartRoom body-place 0 (sums b)
      unfolding body-place setting-more setting-none part_sites
      body-room e = nothing-second _ _ (whole_room e)

      pub definition-judged : (x y r : Found) → x ≡ least (param_faults question h.world.word (names (variables h.world.model)) ks) → y ≡ least (part_faults body-place 0 (sums b)) → r ≡ earlier_of x y → r ≡ least (definition_judged h question (defined n p b))
      unfolding definition_judged definition_faults part_faults part_sites definition_sites body-place setting-more setting-none
      definition-judged x y r d e q =
          rw s.params_are
          (rw (q, d, e) (sym (least-append (param_faults question h.world.word (names (variables h.world.model)) ks) (faults_over question h.world.word (variables h.world.model) (definitions h.world.model) (sums_sites h.world.word ks b)))))

-- ---- the cases of `over_count` and `count_fault`
module _ (x k : ℕ) (w : ℕ → List ℕ) (is : x ≡ min cap (worth 0 (w k))) where
  past : ltb count_limit x ≡ ltb count_limit (worth 0 (w k))
  past = by (ltb count_limit x) refl
    where
      by : (b : Bool) → ltb count_limit x ≡ b → ltb count_limit x ≡ ltb count_limit (worth 0 (w k))
      by true e = let l = ltb-true count_limit x e in e ∙ sym (lt-ltb count_limit (worth 0 (w k)) (omega arith))
      by false e = let l = ltb-false count_limit x e in e ∙ sym (le-ltb count_limit (worth 0 (w k)) (omega arith))

  pub over-count : then_some (ltb count_limit x) k ≡ least (when (ltb count_limit (worth 0 (w k))) k)
  over-count = told (ltb count_limit x) k ∙ rw past

is-59 : (κ : ℕ) → eqb κ node.counted ≡ true → sort_of κ ≡ counts
unfolding sort_of number_kind
is-59 κ e = rw (eqb-true κ node.counted e)

is-60 : (κ : ℕ) → eqb κ node.counted_with ≡ true → sort_of κ ≡ counts
unfolding sort_of number_kind
is-60 κ e = rw (eqb-true κ node.counted_with e)

module _ (c κ : ℕ) (κ-is : κ ≡ kind_of c) (b : Bool) (is : b ≡ (eqb κ node.counted || eqb κ node.counted_with)) where
  pub counted-sort : b ≡ true → sort_of (kind_of c) ≡ counts
  counted-sort e = rw κ-is at (by (eqb κ node.counted) refl (sym is ∙ e))
    where
      by : (a : Bool) → eqb κ node.counted ≡ a → (a || eqb κ node.counted_with) ≡ true → sort_of κ ≡ counts
      by true f g = is-59 κ f
      by false f g = is-60 κ g

  count-is : (w : ℕ → List ℕ) (k : ℕ) → count_faults (kind_of c) w k ≡ cond b (when (ltb count_limit (worth 0 (w k))) k) []
  unfolding count_faults
  count-is w k = rw (← κ-is, ← is)

  pub counted-judged : b ≡ true → (k : ℕ) → k ≡ token_of c - 2 → (w : ℕ → List ℕ) (r : Found) → r ≡ least (when (ltb count_limit (worth 0 (w k))) k) → r ≡ least (count_faults (kind_of c) w (token_of c - 2))
  counted-judged e k k-is w r q = rw (← k-is) (rw (count-is w k, e) q)

  pub uncounted : b ≡ false → (w : ℕ → List ℕ) → None ≡ least (count_faults (kind_of c) w (token_of c - 2))
  unfolding least
  uncounted e w = rw (count-is w (token_of c - 2), e)

-- ---- items of the system line
wholes-are : (w : ℕ → List ℕ) (r : Syntax.Wholes) → wholes_beyond w r ≡ each (site_beyond w []) (wholes_of r)
unfolding wholes_beyond wholes_of site_beyond each
wholes-are w (Syntax.last_whole b k) = sym (append-nil (whole_beyond w b k))
wholes-are w (Syntax.next_whole b k r) = ap (λ (l : List ℕ). whole_beyond w b k ++ l) (wholes-are w r)

count_same : (r : Syntax.Wholes) → Table.count_wholes r ≡ count_wholes r
unfolding Table.count_wholes count_wholes
count_same (Syntax.last_whole b k) = refl
count_same (Syntax.next_whole b k r) = ap (λ (n : ℕ). n + 1) (count_same r)

module _ (t : List ℕ) where
  wholes-lies : (r : Syntax.Wholes) → Lies t (Table.Wholes t r) (wholes_of r)
  unfolding Table.Wholes wholes_of expr_sites leaf_sites number_kind
  wholes-lies (Syntax.last_whole b k) = expr-lies t (Syntax.literal b k)
  wholes-lies (Syntax.next_whole b k r) = lies-two refl refl (expr-lies t (Syntax.literal b k)) (wholes-lies r)

  -- 7 and 9 of an item, by its node and the leaves below it
  abbrev Beyonds : Syntax.Start → ℕ → ℕ → Type 0
  Beyonds s from k = (w : ℕ → List ℕ) → start_beyond w s ≡ count_faults (kind_at t k) w (token_at t k - 2) ++ each (site_beyond w []) (between t from (k - from))

  abbrev Wrongs : Syntax.Start → ℕ → Type 0
  Wrongs s k = (w : ℕ → List ℕ) (ds : List Definition) → start_wrong w ds s ≡ when (not (is_callable w ds (token_at t k) (third_at t k))) (token_at t k)

  leaves_none : (from k : ℕ) → k ≡ from → between t from (k - from) ≡ []
  unfolding between
  leaves_none from k e = let z : k - from ≡ 0 = omega arith in rw z

  leaves-some : (r : Syntax.Wholes) (from root k : ℕ) → k ≡ root + 1 → Table.Wholes t r from root → between t from (k - from) ≡ wholes_of r
  leaves-some r from root k e h = let l = (wholes-lies r).low h in (wholes-lies r).leaves h (k - from) (omega arith)

  pub start-beyond : (s : Syntax.Start) (from k : ℕ) → Table.Start t s from k → Beyonds s from k
  unfolding Table.Start start_beyond starts_beyond count_faults each
  start-beyond (Syntax.once n Syntax.no_starts) from k h w = rw (node-kind h.node (omega arith), leaves_none from k h.low)
  start-beyond (Syntax.once n (Syntax.starts r)) from k h w = rw (node-kind h.node (omega arith), leaves-some r from h.root k h.above h.holds) (wholes-are w r)
  start-beyond (Syntax.counted c n Syntax.no_starts) from k h w =
      let o = h.1 in
      let e : token_at t k - 2 ≡ c = omega (arith, node-token o.node (omega arith), h.0) in
      rw (node-kind o.node (omega arith), e, leaves_none from k o.low)
  start-beyond (Syntax.counted c n (Syntax.starts r)) from k h w =
      let o = h.1 in
      let e : token_at t k - 2 ≡ c = omega (arith, node-token o.node (omega arith), h.0) in
      rw (node-kind o.node (omega arith), e, leaves-some r from o.root k o.above o.holds) (ap (λ (l : List ℕ). when (ltb count_limit (worth 0 (w c))) c ++ l) (wholes-are w r))

  pub start-wrong : (s : Syntax.Start) (from k : ℕ) → Table.Start t s from k → Wrongs s k
  unfolding Table.Start start_wrong count_starts
  start-wrong (Syntax.once n Syntax.no_starts) from k h w ds = rw (node-token h.node (omega arith), node-third h.node (omega arith))
  start-wrong (Syntax.once n (Syntax.starts r)) from k h w ds = rw (node-token h.node (omega arith), node-third h.node (omega arith), count_same r)
  start-wrong (Syntax.counted c n Syntax.no_starts) from k h w ds = rw (node-token h.1.node (omega arith), node-third h.1.node (omega arith))
  start-wrong (Syntax.counted c n (Syntax.starts r)) from k h w ds = rw (node-token h.1.node (omega arith), node-third h.1.node (omega arith), count_same r)

  module _ {question : Question} {low high : List ℕ} {lists : Lists} (h : World question low high t lists) (k : ℕ) (below : k ≤ lists.root) where
    sort-there : (s : Sort) → sort_of (kind_at t k) ≡ s → SortFits s h.kinds (token_at t k) (third_at t k)
    sort-there s e = rw e at (h.placed k below)

    pub count-there : sort_of (kind_at t k) ≡ counts → (2 ≤ token_at t k) × (token_at t k - 2 < length low) × (get_or low (token_at t k - 2) 0 ≡ min cap (worth 0 (h.word (token_at t k - 2))))
    unfolding SortFits
    count-there e =
        let f = sort-there counts e in
        let g = f.2 in
        (f.0, omega (arith, inside h.kinds (token_at t k - 2) (omega arith), h.lows), h.numbers (token_at t k - 2) g)

    named-there : sort_of (kind_at t k) ≡ placed.names → IsName h.kinds (token_at t k)
    unfolding SortFits
    named-there e = sort-there placed.names e

    counted-name : sort_of (kind_at t k) ≡ counts → IsName h.kinds (token_at t k)
    unfolding SortFits
    counted-name e = (sort-there counts e).1

    pub start-name : (s : Syntax.Start) (from : ℕ) → Table.Start t s from k → IsName h.kinds (token_at t k)
    unfolding Table.Start sort_of number_kind
    start-name (Syntax.once n Syntax.no_starts) from o = named-there (rw (node-kind o.node (omega arith)))
    start-name (Syntax.once n (Syntax.starts r)) from o = named-there (rw (node-kind o.node (omega arith)))
    start-name (Syntax.counted c n Syntax.no_starts) from o = counted-name (rw (node-kind o.1.node (omega arith)))
    start-name (Syntax.counted c n (Syntax.starts r)) from o = counted-name (rw (node-kind o.1.node (omega arith)))

-- ---- the cases of `start_fault`
module _ (low high nodes : List ℕ) (lists : Lists) (from k : ℕ) where
  abbrev StartAnswer : Found → Question → Type 0
  StartAnswer r q = (h : World q low high nodes lists) (s : Syntax.Start) → Table.Start nodes s from k → r ≡ least (start_faults q h.word (definitions h.model) s)

  start-fresh' : StartAnswer None Fresh
  unfolding start_faults least
  start-fresh' h s o = refl

  pub start-fresh : {q : Question} → q ≡ Fresh → StartAnswer None q
  start-fresh e = subst (StartAnswer None) (sym e) start-fresh'

  module _ (below : k ≤ lists.root) where
    module _ (z : Scope) (none : (length z.names ≡ local_limit) × (z.count ≡ 0)) (x y r : Found) (q : r ≡ earlier_of x y) where
      abbrev Counted : Type 0
      Counted = (w : ℕ → List ℕ) → (sort_of (kind_at nodes k) ≡ counts → get_or low (token_at nodes k - 2) 0 ≡ min cap (worth 0 (w (token_at nodes k - 2)))) → x ≡ least (count_faults (kind_at nodes k) w (token_at nodes k - 2))

      abbrev Leaved : Question → Type 0
      Leaved p = (h : Setting p low high nodes lists z) → y ≡ least (each (faults_at h) (between nodes from (k - from)))

      start-limits' : Counted → Leaved Limits → StartAnswer r Limits
      unfolding start_faults setting-none faults_at site_faults
      start-limits' f g h s o =
          rw (start-beyond nodes s from k o h.word)
          (rw (q, f h.word (λ e. (count-there nodes h k below e).2), g (setting-none h z none))
          (sym (least-append (count_faults (kind_at nodes k) h.word (token_at nodes k - 2)) (each (site_beyond h.word []) (between nodes from (k - from))))))

      pub start-limits : (p : Question) → p ≡ Limits → Counted → Leaved p → StartAnswer r p
      start-limits p e f g = subst (StartAnswer r) (sym e) (start-limits' f (subst Leaved e g))

    module _ (m i : ℕ) (m-is : m ≡ token_at nodes k) (i-is : i ≡ third_at nodes k) (r : Found) where
      abbrev Called : Question → Type 0
      Called p = (h : World p low high nodes lists) (sc : List ℕ) → IsName h.kinds m → r ≡ least (site_faults p h.word (variables h.model) (definitions h.model) sc (call m i))

      start-given' : Called Given → StartAnswer r Given
      unfolding start_faults site_faults site_wrong
      start-given' f h s o =
          rw (start-wrong nodes s from k o h.word (definitions h.model))
          (rw (m-is, i-is) at (f h [] (rw m-is (start-name nodes h k below s from o))))

      pub start-given : (p : Question) → p ≡ Given → Called p → StartAnswer r p
      start-given p e f = subst (StartAnswer r) (sym e) (start-given' (subst Called e f))

-- ---- the cases of `system_fault` and `lines_fault`
module _ (t : List ℕ) where
  pub last-start : (s : Syntax.System) (from k : ℕ) → (kind_at t k ≡ node.system → ⊥) → Table.System t s from k → (x : Syntax.Start) × Table.Start t x from k × (starts_in s ≡ x ∷ [])
  unfolding Table.System starts_in
  last-start (Syntax.last_start x) from k e h = (x, h, refl)
  last-start (Syntax.next_start x r) from k e h = absurd (e (node-kind h.node (omega arith)))

  pub record Next (s : Syntax.System) (from k : ℕ) : Type 0 where
    pub first : Syntax.Start
    pub rest : Syntax.System
    pub holds-first : Table.Start t first from (left_at t k)
    pub holds-rest : Table.System t rest (left_at t k + 1) (k - 1)
    pub starts-are : starts_in s ≡ first ∷ starts_in rest
    pub below : left_at t k + 1 < k

  pub next_start : (s : Syntax.System) (from k : ℕ) → kind_at t k ≡ node.system → Table.System t s from k → Next s from k
  unfolding Table.System starts_in
  next_start (Syntax.last_start x) from k e h = absurd (omega (arith, (start-interval x).to h))
  next_start (Syntax.next_start x r) from k e h =
      let p = two-parts t (omega arith) h in
      record { first = x; rest = r; holds-first = p.0; holds-rest = p.1; starts-are = refl; below = omega (arith, p.2, (system-interval r).low p.1) }

  pub next-at : (s : Syntax.System) (from k : ℕ) (x : Next s from k) (l : ℕ) → l ≡ left_at t k → Table.Start t x.first from l × Table.System t x.rest (l + 1) (k - 1)
  next-at s from k x l e = (rw e x.holds-first, rw e x.holds-rest)

  -- a definition, and the definitions after it or the system line
  pub record Line (d : Syntax.Definitions) (from k : ℕ) : Type 0 where
    pub name : ℕ
    pub params : Syntax.Params
    pub body : Syntax.Sums
    pub holds : Table.Definition t name params body from (left_at t k)
    pub below : left_at t k + 1 < k
    pub leads : (f : Definition → List ℕ) → (xs : List ℕ) × (each f (definitions_in d) ≡ f (defined name params body) ++ xs)

  pub line_of : (d : Syntax.Definitions) (from k : ℕ) → Table.Definitions t d from k → Line d from k
  unfolding Table.Definitions definitions_in each
  line_of (Syntax.last_definition n p b s) from k h =
      let q = two-parts t (omega arith) h in
      record { name = n; params = p; body = b; holds = q.0; below = omega (arith, q.2, (system-interval s).low q.1); leads = λ f. ([], refl) }
  line_of (Syntax.next_definition n p b d) from k h =
      let q = two-parts t (omega arith) h in
      record { name = n; params = p; body = b; holds = q.0; below = omega (arith, q.2, (definitions-interval d).low q.1); leads = λ f. (each f (definitions_in d), refl) }

  pub line_at : (d : Syntax.Definitions) (from k : ℕ) (x : Line d from k) (l : ℕ) → l ≡ left_at t k → Table.Definition t x.name x.params x.body from l
  line_at d from k x l e = rw e x.holds

  pub record LastLine (d : Syntax.Definitions) (from k : ℕ) : Type 0 where
    pub name : ℕ
    pub params : Syntax.Params
    pub body : Syntax.Sums
    pub system : Syntax.System
    pub is : d ≡ Syntax.last_definition name params body system
    pub holds : Table.Definition t name params body from (left_at t k)
    pub holds-rest : Table.System t system (left_at t k + 1) (k - 1)

  pub record NextLine (d : Syntax.Definitions) (from k : ℕ) : Type 0 where
    pub name : ℕ
    pub params : Syntax.Params
    pub body : Syntax.Sums
    pub rest : Syntax.Definitions
    pub is : d ≡ Syntax.next_definition name params body rest
    pub holds : Table.Definition t name params body from (left_at t k)
    pub holds-rest : Table.Definitions t rest (left_at t k + 1) (k - 1)

  pub last_line : (d : Syntax.Definitions) (from k : ℕ) → kind_at t k ≡ node.last → Table.Definitions t d from k → LastLine d from k
  unfolding Table.Definitions
  last_line (Syntax.last_definition n p b s) from k e h =
      let q = two-parts t (omega arith) h in
      record { name = n; params = p; body = b; system = s; is = refl; holds = q.0; holds-rest = q.1 }
  last_line (Syntax.next_definition n p b d) from k e h = absurd (omega (arith, node-kind h.node (omega arith)))

  pub next-line : (d : Syntax.Definitions) (from k : ℕ) → (kind_at t k ≡ node.last → ⊥) → Table.Definitions t d from k → NextLine d from k
  unfolding Table.Definitions
  next-line (Syntax.last_definition n p b s) from k e h = absurd (e (node-kind h.node (omega arith)))
  next-line (Syntax.next_definition n p b d) from k e h =
      let q = two-parts t (omega arith) h in
      record { name = n; params = p; body = b; rest = d; is = refl; holds = q.0; holds-rest = q.1 }

  pub last-at : (d : Syntax.Definitions) (from k : ℕ) (x : LastLine d from k) (l : ℕ) → l ≡ left_at t k → Table.Definition t x.name x.params x.body from l × Table.System t x.system (l + 1) (k - 1)
  last-at d from k x l e = (rw e x.holds, rw e x.holds-rest)

  pub next-line-at : (d : Syntax.Definitions) (from k : ℕ) (x : NextLine d from k) (l : ℕ) → l ≡ left_at t k → Table.Definition t x.name x.params x.body from l × Table.Definitions t x.rest (l + 1) (k - 1)
  next-line-at d from k x l e = (rw e x.holds, rw e x.holds-rest)

pub last-judged : (f : Syntax.Start → List ℕ) (s : Syntax.System) (x : Syntax.Start) (r : Found) → starts_in s ≡ x ∷ [] → r ≡ least (f x) → r ≡ least (each f (starts_in s))
unfolding each
last-judged f s x r e q = rw e (q ∙ ap least (sym (append-nil (f x))))

pub next-judged : (f : Syntax.Start → List ℕ) (s : Syntax.System) (x : Syntax.Start) (y : Syntax.System) (a b r : Found) → starts_in s ≡ x ∷ starts_in y → a ≡ least (f x) → b ≡ least (each f (starts_in y)) → r ≡ earlier_of a b → r ≡ least (each f (starts_in s))
unfolding each
next-judged f s x y a b r e d g q = rw e (rw (q, d, g) (sym (least-append (f x) (each f (starts_in y)))))

module _ {question : Question} {kinds low high nodes : List ℕ} {lists : Lists} (h : Ground question kinds low high nodes lists) where
  abbrev starting : Question → Syntax.Start → List ℕ
  starting q = start_faults q h.world.word (definitions h.world.model)

  lines-last : (q : Question) (n : ℕ) (p : Syntax.Params) (b : Syntax.Sums) (s : Syntax.System) → least (lines_judged h q (Syntax.last_definition n p b s)) ≡ earlier_of (least (definition_judged h q (defined n p b))) (least (each (starting q) (starts_in s)))
  unfolding lines_judged lines_faults definition_judged definitions_in system_in each
  lines-last q n p b s =
      least-append (definition_judged h q (defined n p b) ++ []) (each (starting q) (starts_in s))
      ∙ ap (λ (l : List ℕ). earlier_of (least l) (least (each (starting q) (starts_in s)))) (append-nil (definition_judged h q (defined n p b)))

  lines_next : (q : Question) (n : ℕ) (p : Syntax.Params) (b : Syntax.Sums) (d : Syntax.Definitions) → least (lines_judged h q (Syntax.next_definition n p b d)) ≡ earlier_of (least (definition_judged h q (defined n p b))) (least (lines_judged h q d))
  unfolding lines_judged lines_faults definition_judged definitions_in system_in each
  lines_next q n p b d =
      let w = h.world.word in
      let f = definition_faults q w (variables h.world.model) (definitions h.world.model) in
      ap least (append_assoc (f (defined n p b)) (each f (definitions_in d)) (each (starting q) (starts_in (system_in d))))
      ∙ least-append (f (defined n p b)) (each f (definitions_in d) ++ each (starting q) (starts_in (system_in d)))

  -- question 7 has passed them
  pub line-room : (d : Syntax.Definitions) (from k : ℕ) (x : Line nodes d from k) → LinesRoom h d → DefinitionRoom h (defined x.name x.params x.body)
  unfolding lines_judged lines_faults definition_judged
  line-room d from k x room e =
      let f = definition_faults Limits h.world.word (variables h.world.model) (definitions h.world.model) in
      let g = each (starting Limits) (starts_in (system_in d)) in
      let z = nothing-first (least (each f (definitions_in d))) (least g) (sym (least-append (each f (definitions_in d)) g) ∙ room e) in
      nothing-first (least (f (defined x.name x.params x.body))) (least (x.leads f).0) (sym (least-append (f (defined x.name x.params x.body)) (x.leads f).0) ∙ ap least (sym (x.leads f).1) ∙ z)

  module _ (d : Syntax.Definitions) (from k : ℕ) (x : LastLine nodes d from k) where
    last-both : (q : Question) → least (lines_judged h q d) ≡ earlier_of (least (definition_judged h q (defined x.name x.params x.body))) (least (each (starting q) (starts_in x.system)))
    last-both q = ap (λ (y : Syntax.Definitions). least (lines_judged h q y)) x.is ∙ lines-last q x.name x.params x.body x.system

    pub last-room : LinesRoom h d → DefinitionRoom h (defined x.name x.params x.body)
    last-room room e = nothing-first _ _ (sym (last-both Limits) ∙ room e)

    pub last-line-judged : (a b r : Found) → a ≡ least (definition_judged h question (defined x.name x.params x.body)) → b ≡ least (each (starting question) (starts_in x.system)) → r ≡ earlier_of a b → r ≡ least (lines_judged h question d)
    last-line-judged a b r e g q = rw (q, e, g) (sym (last-both question))

  module _ (d : Syntax.Definitions) (from k : ℕ) (x : NextLine nodes d from k) where
    next_both : (q : Question) → least (lines_judged h q d) ≡ earlier_of (least (definition_judged h q (defined x.name x.params x.body))) (least (lines_judged h q x.rest))
    next_both q = ap (λ (y : Syntax.Definitions). least (lines_judged h q y)) x.is ∙ lines_next q x.name x.params x.body x.rest

    pub next-rooms : LinesRoom h d → DefinitionRoom h (defined x.name x.params x.body) × LinesRoom h x.rest
    next-rooms room = (λ e. nothing-first _ _ (sym (next_both Limits) ∙ room e), λ e. nothing-second _ _ (sym (next_both Limits) ∙ room e))

    pub next-line-judged : (a b r : Found) → a ≡ least (definition_judged h question (defined x.name x.params x.body)) → b ≡ least (lines_judged h question x.rest) → r ≡ earlier_of a b → r ≡ least (lines_judged h question d)
    next-line-judged a b r e g q = rw (q, e, g) (sym (next_both question))
