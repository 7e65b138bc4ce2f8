-- The tokens at fault are tokens of the text, and a token stands before another exactly where its byte does: so the place of a fault is the byte at
-- which its token starts. From where the parts of the tree are written.
use mathlib.Core.Path.{◌≡◌, refl, sym, ap, subst}
use mathlib.Core.List.Memᴰ.{append_right as right}
use mathlib.Core.List.Memᴰ.{cases_cons as cases}
use mathlib.Core.List.Memᴰ.{eq_of_singleton}
use mathlib.Core.List.Memᴰ.{head}
use mathlib.Core.List.Memᴰ.{not-nil as nowhere}
use mathlib.Core.List.{List, [], ◌∷◌, Memᴰ as In}
use mathlib.Core.Bool.{Bool}
use mathlib.Core.Logic.{◌⊎◌, inl, inr, ⊎_elim}
use Prim.Native.Nat.{ℕ, zero, suc, ◌+◌, ◌-◌, ◌≤◌, ◌<◌}
use native.Mathlib.Omega.{arith}
use lib.ListN.{length, drop, get_or, length-drop}
use borrow.Author.Tests.{lt-ltb}
use Rattle.token.specs.Token.{Mark, tokens, column, kinds_of}
use Rattle.token.proofs.Up.{Up, tokens-up}
use Rattle.grammar.specs.Grammar as derived
use Rattle.grammar.specs.Grammar.{Reads, flat_whole, flat_number, flat_action, flat_rate, flat_gate, flat_prefix, flat_next, flat_cont, flat_item, flat_items, flat_args, flat_body, flat_params, flat_wholes, flat_starts, flat_start, flat_system, flat_definitions, flat_model}
use Rattle.grammar.specs.Syntax
use Rattle.grammar.specs.Syntax.{wide, number_at, args_at, branch_at, next_at, cont_at, item_at, conts_at, params_at, literal_at, wholes_at, starts_at, start_at, system_at, body_at, sums_body, sums_item, definitions_at, model_at, syntax_of}
use Rattle.grammar.proofs.Prepends.{Prepends, longer}
use Rattle.grammar.proofs.Wide.{wide-prefix, wide-next, wide-cont, wide-item, wide-items, wide-params, wide-wholes, wide-starts, wide-start, wide-system, wide-definitions, wide-model}
use Rattle.model.specs.Lists.{each}
use Rattle.model.specs.Sites.{Scope, Site, whole, value, scale, bound, branch, call, expr_sites, number_sites, rate_sites, gate_sites, action_sites, args_sites, params_of, Variable, variables, Definition, definitions_in, definitions, system_in, system, starts_in, starts, names, titles}
use Rattle.model.specs.Words.{nth, place_of, word_of}
use Rattle.model.specs.Opening.{byte_place}
use Rattle.model.specs.Stands.{items_of, Holds, itself, grouped, BranchIn, SiteIn, beginning, in_gate, in_action, in_rate, calling, in_call}
use Rattle.model.specs.Faults.{start_name, start_list, wholes_of, start_wholes, WholeIn, in_definition, in_variable, in_system, Beyond, long-name, long-decimal, large, count, variable, definition, parameter, local, branching, LocalsIn, parameters, received, Again, NotNew, NotGiven, no_value, no_scale, no_call, no_start, uneven}
use Rattle.model.specs.Faults as faults
use Rattle.model.specs.Questions.{Yes5}
use Rattle.model.proofs.Members.{got_in, got-below, in-each}
use Rattle.model.proofs.Origins.{written}
use Rattle.model.proofs.InText.{Before, AllBefore, both, literal-before, args-before, gate-before, number-before, rate-before, names-before, action-before}

-- ---- bytes and tokens

module _ (text : List ℕ) where
  up_from : (lo hi : ℕ) (ms : List Mark) (k : ℕ) → Up lo ms hi → k < length ms → lo ≤ (nth ms k).place
  unfolding nth
  up_from lo hi [] k u h = absurd (omega arith)
  up_from lo hi (m ∷ ms) zero u h = u.0
  up_from lo hi (m ∷ ms) (suc k) u h = let r = up_from (m.place + m.size) hi ms k u.3 (omega arith) in omega (arith, u.0)

  up-two : (lo hi : ℕ) (ms : List Mark) (j k : ℕ) → Up lo ms hi → j < k → k < length ms → (nth ms j).place < (nth ms k).place
  unfolding nth
  up-two lo hi [] j k u h g = absurd (omega arith)
  up-two lo hi (m ∷ ms) j zero u h g = absurd (omega arith)
  up-two lo hi (m ∷ ms) zero (suc k) u h g = let r = up_from (m.place + m.size) hi ms k u.3 (omega arith) in omega (arith, u.1)
  up-two lo hi (m ∷ ms) (suc j) (suc k) u h g = up-two (m.place + m.size) hi ms j k u.3 (omega arith) (omega arith)

  -- of two tokens the earlier one starts at an earlier byte
  pub places-ascend : (j k : ℕ) → j < k → k < length (tokens text) → place_of text j < place_of text k
  unfolding place_of
  places-ascend j k h g = up-two 0 (length text) (tokens text) j k (tokens-up text) h g

  -- the place of a token is the byte at which it starts
  pub place_is : (k : ℕ) → k < length (tokens text) → byte_place text k ≡ place_of text k
  unfolding byte_place
  place_is k h = rw (lt-ltb k (length (tokens text)) h)

-- ---- the tree's tokens

-- a part that is written in a list ends in it
ends-in : {f : List ℕ → List ℕ} {n : ℕ} (ts : List ℕ) (k : ℕ) (us : List ℕ) → Prepends f n → 0 < wide f → drop k ts ≡ f us → k + wide f ≤ length ts
ends-in ts k us p h e = omega (arith, ap length e, longer p us, length-drop k ts)

-- what a continuation holds
holds-proceed : {x : Syntax.Cont} {s : Syntax.Sum} → Holds x (Syntax.proceed s) → Syntax.proceed s ≡ x
holds-proceed (itself e) = e

holds-call : {x : Syntax.Cont} {k : ℕ} {a : Syntax.Args} → Holds x (Syntax.call k a) → Syntax.call k a ≡ x
holds-call (itself e) = e

holds-group : {x : Syntax.Cont} {k : ℕ} {cs : Syntax.Conts} → Holds x (Syntax.group k cs) → (Syntax.group k cs ≡ x) ⊎ ((c : Syntax.Cont) × In c (items_of cs) × Holds x c)
holds-group (itself e) = inl e
holds-group (grouped {c = c} i h) = inr (c, i, h)

module _ (l : ℕ) where
  -- ---- calls in continuations

  abbrev CallsBefore : Syntax.Cont → Type 0
  CallsBefore c = (j : ℕ) (es : Syntax.Args) → Holds (Syntax.call j es) c → (j < l) × AllBefore l (args_sites es)

  sum-calls : (s : Syntax.Sum) → CallsBefore (Syntax.proceed s)
  sum-calls s j es h = let e = holds-proceed h in absurd (let z : ◌≡◌ {A = ℕ} 0 1 = cc in omega arith)

  one-call : (a : derived.Args) (k : ℕ) → k + 1 + wide (flat_args a) ≤ l → CallsBefore (Syntax.call k (args_at a (k + 1)))
  one-call a k b j es h =
      let e = holds-call h in
      let d : k ≡ j = cc in
      let f : args_at a (k + 1) ≡ es = cc in
      (omega arith, subst (λ (x : Syntax.Args). AllBefore l (args_sites x)) f (args-before l a (k + 1) b))

  group-calls : (k : ℕ) (cs : Syntax.Conts) → ((c : Syntax.Cont) → In c (items_of cs) → CallsBefore c) → CallsBefore (Syntax.group k cs)
  group-calls k cs f j es h = by (holds-group h)
    where
      by : (Syntax.group k cs ≡ Syntax.call j es) ⊎ ((c : Syntax.Cont) × In c (items_of cs) × Holds (Syntax.call j es) c) → (j < l) × AllBefore l (args_sites es)
      by (inl e) = absurd (let z : ◌≡◌ {A = ℕ} 0 1 = cc in omega arith)
      by (inr c) = f c.0 c.1 j es c.2

  mutual
    unfolding cont_at item_at conts_at items_of

    cont-calls : (c : derived.Cont) (k n : ℕ) → k + wide (flat_cont c) ≤ l → CallsBefore (cont_at c k n)
    cont-calls (derived.chain p) k n b = sum-calls _
    cont-calls (derived.call a) k n b = one-call a k (omega (arith, (wide-cont (derived.call a)).width))
    cont-calls (derived.group i r) k n b =
        group-calls k _ (λ c q. items-calls r (item_at i (k + 1) n) (k + 1 + wide (flat_item i)) (n + sums_item i) (item-calls i (k + 1) n (omega (arith, (wide-cont (derived.group i r)).width))) (omega (arith, (wide-cont (derived.group i r)).width)) c q)

    item-calls : (i : derived.Item) (k n : ℕ) → k + wide (flat_item i) ≤ l → CallsBefore (item_at i k n)
    item-calls (derived.item_sum p r) k n b = sum-calls _
    item-calls (derived.item_call a) k n b = one-call a k (omega (arith, (wide-item (derived.item_call a)).width))
    item-calls (derived.item_group i r) k n b =
        group-calls k _ (λ c q. items-calls r (item_at i (k + 1) n) (k + 1 + wide (flat_item i)) (n + sums_item i) (item-calls i (k + 1) n (omega (arith, (wide-item (derived.item_group i r)).width))) (omega (arith, (wide-item (derived.item_group i r)).width)) c q)

    items-calls : (r : derived.Items) (x : Syntax.Cont) (k n : ℕ) → CallsBefore x → k + wide (flat_items r) ≤ l → (c : Syntax.Cont) → In c (items_of (conts_at x r k n)) → CallsBefore c
    items-calls derived.close x k n f b c i = subst (λ (y : Syntax.Cont). CallsBefore y) (sym (eq_of_singleton i)) f
    items-calls (derived.also j r) x k n f b c i =
        ⊎_elim (λ (e : c ≡ x). subst (λ (y : Syntax.Cont). CallsBefore y) (sym e) f)
        (λ (q : In c (items_of (conts_at (item_at j (k + 1) n) r (k + 1 + wide (flat_item j)) (n + sums_item j)))).
        items-calls r (item_at j (k + 1) n) (k + 1 + wide (flat_item j)) (n + sums_item j) (item-calls j (k + 1) n (omega (arith, (wide-items (derived.also j r)).width))) (omega (arith, (wide-items (derived.also j r)).width)) c q) (cases i)

  -- ---- a branch

  abbrev NextBefore : Syntax.Next → Type 0
  NextBefore Syntax.stop = Unit {0}
  NextBefore (Syntax.dot c) = CallsBefore c

  -- the tokens of a branch's own sites and of the calls that follow
  abbrev BranchBefore : (ℕ → List ℕ) → Syntax.Branch → Type 0
  BranchBefore w (Syntax.branch k g a r n) = (k < l) × AllBefore l (gate_sites g) × AllBefore l (action_sites w a) × AllBefore l (rate_sites r) × NextBefore n

  next-before : (x : derived.Next) (k n : ℕ) → k + wide (flat_next x) ≤ l → NextBefore (next_at x k n)
  unfolding next_at
  next-before derived.stop k n b = tt
  next-before (derived.dot c) k n b = cont-calls c (k + 1) n (omega (arith, (wide-next (derived.dot c)).width))

  prefix-before : (w : ℕ → List ℕ) (p : derived.Prefix) (k n : ℕ) → k + wide (flat_prefix p) ≤ l → BranchBefore w (branch_at p k n)
  unfolding branch_at
  prefix-before w (derived.prefix g a r x) k n b =
      let e = (wide-prefix (derived.prefix g a r x)).width in
      let c = k + wide (flat_gate g) + 1 in
      let d = c + wide (flat_action a) + 1 in
      (omega arith, gate-before l g k (omega arith), action-before l w a c (omega arith), rate-before l r d (omega arith), next-before x (d + wide (flat_rate r) + 1) n (omega arith))

-- ---- sites

some-tokens : (p : derived.Prefix) → 0 < wide (flat_prefix p)
some-tokens (derived.prefix g a r x) = omega (arith, (wide-prefix (derived.prefix g a r x)).width)

module _ (w : ℕ → List ℕ) (ts : List ℕ) (d : derived.Model) (reads : Reads ts d) where
  abbrev s : Syntax.Model
  s = syntax_of d

  branch-before : {sc : Scope} {i : ℕ} (b : Syntax.Branch) → BranchIn s sc i b → BranchBefore (length ts) w b
  branch-before b h =
      let q = written ts d reads h in
      let e = (wide-prefix q.prefix).width in
      subst (λ (x : Syntax.Branch). BranchBefore (length ts) w x) (sym q.tree) (prefix-before (length ts) w q.prefix q.place q.number (ends-in ts q.place q.rest (wide-prefix q.prefix) (some-tokens q.prefix) q.text))

  -- a site's tokens are tokens of the text
  pub site-before : {sc : Scope} (x : Site) → SiteIn w s sc x → Before (length ts) x
  site-before x (beginning h) = (branch-before _ h).0
  site-before x (in_gate h i) = (branch-before _ h).1 x i
  site-before x (in_action h i) = (branch-before _ h).2 x i
  site-before x (in_rate h i) = (branch-before _ h).3 x i
  site-before x (calling {j = j} {es = es} h q) = ((branch-before _ h).4 j es q).0
  site-before x (in_call {j = j} {es = es} h q i) = ((branch-before _ h).4 j es q).1 x i

-- ---- outside definitions

module _ (l : ℕ) where
  abbrev VariableBefore : Variable → Type 0
  VariableBefore v = (v.name < l) × AllBefore l (number_sites v.number)

  abbrev DefinitionBefore : Definition → Type 0
  DefinitionBefore d = (d.name < l) × ((k : ℕ) → In k d.params → k < l)

  -- its name, its count, and its whole numbers
  abbrev StartBefore : Syntax.Start → Type 0
  StartBefore (Syntax.once k s) = (k < l) × AllBefore l (start_wholes s)
  StartBefore (Syntax.counted c k s) = (c < l) × (k < l) × AllBefore l (start_wholes s)

  params-before : (p : derived.Params) (k : ℕ) → k + wide (flat_params p) ≤ l → (j : ℕ) → In j (params_of (params_at p k)) → j < l
  unfolding params_of params_at
  params-before derived.no_params k b j i = absurd (nowhere i)
  params-before (derived.params n) k b j i = names-before l n (k + 1) (omega (arith, (wide-params (derived.params n)).width)) j i

  wholes-before : (r : derived.Wholes) (k : ℕ) → k + wide (flat_wholes r) ≤ l → AllBefore l (wholes_of (wholes_at r k))
  unfolding wholes_of wholes_at expr_sites literal_at
  wholes-before (derived.last_whole v) k b = literal-before l v k (omega (arith, (wide-wholes (derived.last_whole v)).width))
  wholes-before (derived.next_whole v r) k b =
      both l (expr_sites (literal_at v k)) _ (literal-before l v k (omega (arith, (wide-wholes (derived.next_whole v r)).width))) (wholes-before r (k + wide (flat_whole v) + 1) (omega (arith, (wide-wholes (derived.next_whole v r)).width)))

  starts-before : (s : derived.Starts) (k : ℕ) → k + wide (flat_starts s) ≤ l → AllBefore l (start_wholes (starts_at s k))
  unfolding start_wholes starts_at
  starts-before derived.no_starts k b = λ x i. absurd (nowhere i)
  starts-before (derived.starts r) k b = wholes-before r (k + 1) (omega (arith, (wide-starts (derived.starts r)).width))

  start-before : (s : derived.Start) (k : ℕ) → k + wide (flat_start s) ≤ l → StartBefore (start_at s k)
  unfolding start_at
  start-before (derived.once s) k b = let e = (wide-start (derived.once s)).width in (omega arith, starts-before s (k + 1) (omega arith))
  start-before (derived.counted s) k b = let e = (wide-start (derived.counted s)).width in (omega arith, omega arith, starts-before s (k + 3) (omega arith))

  system-before : (s : derived.System) (k : ℕ) → k + wide (flat_system s) ≤ l → (x : Syntax.Start) → In x (starts_in (system_at s k)) → StartBefore x
  unfolding starts_in system_at
  system-before (derived.last_start i) k b x q = subst (λ (y : Syntax.Start). StartBefore y) (sym (eq_of_singleton q)) (start-before i k (omega (arith, (wide-system (derived.last_start i)).width)))
  system-before (derived.next_start i r) k b x q =
      ⊎_elim (λ (e : x ≡ start_at i k). subst (λ (y : Syntax.Start). StartBefore y) (sym e) (start-before i k (omega (arith, (wide-system (derived.next_start i r)).width))))
      (λ (j : In x (starts_in (system_at r (k + wide (flat_start i) + 1)))). system-before r (k + wide (flat_start i) + 1) (omega (arith, (wide-system (derived.next_start i r)).width)) x j) (cases q)

  -- a definition written from token k on, after which something stands
  definition-before : (p : derived.Params) (k : ℕ) (ss : Syntax.Sums) → k + 1 + wide (flat_params p) < l → DefinitionBefore (record { name = k; params = params_of (params_at p (k + 1)); sums = ss })
  definition-before p k ss b = (omega arith, params-before p (k + 1) (omega arith))

  definitions-before : (d : derived.Definitions) (k n : ℕ) → k + wide (flat_definitions d) ≤ l
      → ((x : Definition) → In x (definitions_in (definitions_at d k n)) → DefinitionBefore x) × ((x : Syntax.Start) → In x (starts_in (system_in (definitions_at d k n))) → StartBefore x)
  unfolding definitions_in definitions_at system_in
  definitions-before (derived.last_definition p b s) k n h =
      let e = (wide-definitions (derived.last_definition p b s)).width in
      let c = k + 1 + wide (flat_params p) + 1 in
      (λ x i. subst (λ (y : Definition). DefinitionBefore y) (sym (eq_of_singleton i)) (definition-before p k (body_at b c n) (omega arith)), system-before s (c + wide (flat_body b) + 1) (omega arith))
  definitions-before (derived.next_definition p b d) k n h =
      let e = (wide-definitions (derived.next_definition p b d)).width in
      let c = k + 1 + wide (flat_params p) + 1 in
      let r = definitions-before d (c + wide (flat_body b) + 1) (n + sums_body b) (omega arith) in
      (λ x i. ⊎_elim (λ (q : _). subst (λ (y : Definition). DefinitionBefore y) (sym q) (definition-before p k (body_at b c n) (omega arith))) (λ (q : In x (definitions_in (definitions_at d (c + wide (flat_body b) + 1) (n + sums_body b)))). r.0 x q) (cases i), r.1)

  abbrev ModelBefore : Syntax.Model → Type 0
  ModelBefore m =
      ((v : Variable) → In v (variables m) → VariableBefore v) × ((x : Definition) → In x (definitions m) → DefinitionBefore x) × ((x : Syntax.Start) → In x (starts m) → StartBefore x)

  model-before : (m : derived.Model) (k : ℕ) → k + wide (flat_model m) ≤ l → ModelBefore (model_at m k)
  unfolding variables definitions starts system model_at
  model-before (derived.definitions d) k h =
      let r = definitions-before d k 0 (omega (arith, (wide-model (derived.definitions d)).width)) in
      (λ v i. absurd (nowhere i), r.0, r.1)
  model-before (derived.variable v m) k h =
      let e = (wide-model (derived.variable v m)).width in
      let r = model-before m (k + 2 + wide (flat_number v) + 1) (omega arith) in
      (λ x i. ⊎_elim (λ (q : x ≡ record { name = k; number = number_at v (k + 2) }). subst (λ (y : Variable). VariableBefore y) (sym q) (omega arith, number-before l v (k + 2) (omega arith))) (λ (q : In x (variables (model_at m (k + 2 + wide (flat_number v) + 1)))). r.0 x q) (cases i), r.1, r.2)

-- ---- the tokens at fault are tokens of the text

in-names : {A : Type 0} {k : ℕ} (f : A → ℕ) (xs : List A) → In k (each (λ x. f x ∷ []) xs) → (x : A) × In x xs × (k ≡ f x)
in-names f xs i = let e = in-each (λ x. f x ∷ []) xs i in (e.0, e.1, eq_of_singleton e.2)

again-in : {k : ℕ} (w : ℕ → List ℕ) (known ks : List ℕ) → Again w known ks k → In k ks
again-in {k} w known ks a = subst (λ (l : List ℕ). In k l) (sym a.list) (right a.before (head refl))

first_below : (ks : List ℕ) (l : ℕ) → 0 < l → ((k : ℕ) → In k ks → k < l) → get_or ks 0 0 - 1 < l
first_below [] l h f = omega arith
first_below (k ∷ ks) l h f = omega (arith, f k (head refl))

definitions-tokens : (d : derived.Definitions) → 0 < wide (flat_definitions d)
definitions-tokens (derived.last_definition p b s) = omega (arith, (wide-definitions (derived.last_definition p b s)).width)
definitions-tokens (derived.next_definition p b d) = omega (arith, (wide-definitions (derived.next_definition p b d)).width)

model-tokens : (m : derived.Model) → 0 < wide (flat_model m)
model-tokens (derived.definitions d) = omega (arith, (wide-model (derived.definitions d)).width, definitions-tokens d)
model-tokens (derived.variable v m) = omega (arith, (wide-model (derived.variable v m)).width)

module _ (text : List ℕ) (s : Syntax.Model) (y5 : Yes5 text s) where
  abbrev ts : List ℕ
  ts = kinds_of (tokens text)

  abbrev w : ℕ → List ℕ
  w = word_of text

  kinds-count : (ms : List Mark) → length (kinds_of ms) ≡ length ms
  unfolding column
  kinds-count [] = refl
  kinds-count (m ∷ ms) = ap suc (kinds-count ms)

  site-in : {sc : Scope} (x : Site) → SiteIn w s sc x → Before (length ts) x
  site-in {sc} x h = site-before w ts y5.reading y5.reads x (subst (λ (m : Syntax.Model). SiteIn w m sc x) (sym y5.tree) h)

  model_in : ModelBefore (length ts) s
  unfolding Reads wide syntax_of
  model_in =
      let e : 0 + wide (flat_model y5.reading) ≤ length ts = omega (arith, ap length y5.reads) in
      subst (λ (m : Syntax.Model). ModelBefore (length ts) m) y5.tree (model-before (length ts) y5.reading 0 e)

  some-token : 0 < length ts
  unfolding Reads wide
  some-token = omega (arith, ap length y5.reads, model-tokens y5.reading)

  start-name : (x : Syntax.Start) → StartBefore (length ts) x → start_name x < length ts
  unfolding start_name
  start-name (Syntax.once k r) h = h.0
  start-name (Syntax.counted c k r) h = h.1

  start-values : (x : Syntax.Start) → StartBefore (length ts) x → AllBefore (length ts) (start_wholes (start_list x))
  unfolding start_list
  start-values (Syntax.once k r) h = h.1
  start-values (Syntax.counted c k r) h = h.2

  whole_in : {b : Bool} {k : ℕ} → WholeIn w s b k → k < length ts
  unfolding number_sites
  whole_in {b} {k} (in_definition h) = site-in (whole b k) h
  whole_in {b} {k} (in_variable {v = v} i e) = (model_in.0 v i).1 (whole b k) (subst (λ (x : Syntax.Number). In (whole b k) (number_sites x)) (sym e) (head refl))
  whole_in {b} {k} (in_system {s = x} i j) = start-values x (model_in.2 x i) (whole b k) j

  name_in : {k : ℕ} → In k (names (variables s)) → k < length ts
  unfolding names
  name_in {k} i = let v = in-names (λ v. v.name) (variables s) i in rw v.2 (model_in.0 v.0 v.1).0

  title-in : {k : ℕ} → In k (titles (definitions s)) → k < length ts
  unfolding titles
  title-in {k} i = let d = in-names (λ d. d.name) (definitions s) i in rw d.2 (model_in.1 d.0 d.1).0

  locals-in : {sc : Scope} {ks : List ℕ} {k : ℕ} → LocalsIn w s sc ks → In k ks → k < length ts
  locals-in {k = k} (parameters {d = d} i) j = (model_in.1 d i).1 k j
  locals-in {k = k} (received {ks = ks} {n = n} h) j = site-in (bound ks n) h k j

  counted-in : {c k : ℕ} {r : Syntax.Starts} → In (Syntax.counted c k r) (starts s) → c < length ts
  counted-in {c} {k} {r} i = (model_in.2 (Syntax.counted c k r) i).0

  -- 7
  pub beyond-in : {k : ℕ} → Beyond text s k → k < length (tokens text)
  beyond-in {k} (long-name g d h) = got-below (tokens text) k g
  beyond-in {k} (long-decimal g d h) = got-below (tokens text) k g
  beyond-in (large h n) = let i = whole_in h in omega (arith, kinds-count (tokens text))
  beyond-in (count h l) = let i = counted-in h in omega (arith, kinds-count (tokens text))
  beyond-in (variable {i = j} g h) = let i = name_in (got_in (names (variables s)) j g) in omega (arith, kinds-count (tokens text))
  beyond-in (definition {i = j} g h) = let i = title-in (got_in (titles (definitions s)) j g) in omega (arith, kinds-count (tokens text))
  beyond-in (parameter {d = d} {i = j} x g h) = let i = locals-in (parameters x) (got_in d.params j g) in omega (arith, kinds-count (tokens text))
  beyond-in (local {ks = ks} j h g l) = let i = locals-in (received h) (got_in ks j g) in omega (arith, kinds-count (tokens text))
  beyond-in (branching {i = j} {k = k} h l) = let i = site-in (branch j k) h in omega (arith, kinds-count (tokens text))

  -- 8
  pub new_in : {k : ℕ} → NotNew w s k → k < length (tokens text)
  new_in (faults.variable a) = let i = name_in (again-in w [] (names (variables s)) a) in omega (arith, kinds-count (tokens text))
  new_in (faults.definition a) = let i = title-in (again-in w [] (titles (definitions s)) a) in omega (arith, kinds-count (tokens text))
  new_in (faults.local {ks = ks} h a) = let i = locals-in h (again-in w _ ks a) in omega (arith, kinds-count (tokens text))

  -- 9
  pub given-in : {k : ℕ} → NotGiven w s k → k < length (tokens text)
  given-in (no_value {k = k} h n f) = let i = site-in (value k) h in omega (arith, kinds-count (tokens text))
  given-in (no_scale {k = k} h n f) = let i = site-in (scale k) h in omega (arith, kinds-count (tokens text))
  given-in (no_call {k = k} {n = n} h f) = let i = site-in (call k n) h in omega (arith, kinds-count (tokens text))
  given-in (no_start {s = x} h f) = let i = start-name x (model_in.2 x h) in omega (arith, kinds-count (tokens text))
  given-in (uneven {ks = ks} {n = n} h f) = let i = first_below ks (length ts) some-token (site-in (bound ks n) h) in omega (arith, kinds-count (tokens text))
