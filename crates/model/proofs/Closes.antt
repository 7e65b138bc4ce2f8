-- A syntax tree without faults resolves to a well-formed model: each number that the model names leads to what is meant, with the locals that are
-- in scope there. From the laws of single parts (Resolves.antt), of sum numbers (Located.antt) and of channel names (Used.antt).
use mathlib.Core.Path.{◌≡◌, refl, sym, ap, subst, ◌∙◌}
use mathlib.Core.List.Memᴰ.{head}
use mathlib.Core.List.Memᴰ.{tail}
use mathlib.Core.List.{List, [], ◌∷◌, ◌++◌, Memᴰ as In}
use mathlib.Core.Bool.{Bool, true}
use mathlib.Core.Option.{Option, some}
use Prim.Native.Nat.{ℕ, zero, suc, ◌+◌, ◌≤◌, ◌<◌}
use native.Mathlib.Decide.{dec_le}
use native.Mathlib.Omega.{arith}
use lib.ListN.{length, get_elem?, length-append}
use borrow.Author.Tests.{eqb-true}
use Rattle.value.specs.Range.{InRange}
use Rattle.grammar.specs.Syntax
use Rattle.model.specs.Lists.{each}
use Rattle.model.specs.Sites.{Scope, Site, whole, branch, call, count_args, args_sites, bindings, Variable, variables, Definition, definitions, starts}
use Rattle.model.specs.Words.{whole_of}
use Rattle.model.specs.Limits.{local_limit, branch_limit}
use Rattle.model.specs.Given.{takes, count_wholes, count_starts, definition_named, is_callable}
use Rattle.model.specs.Resolved.{Model, channel_names, definition_number, sum_number, sum_numbers, defined, resolve_call, parts_of, parts_in, resolve_next, resolve_branch, resolve_branches, sum_tree, branches_tree, branch_tree, next_tree, cont_tree, conts_tree, sums_tree, all_sums, whole_values, start_values, resolve_start, resolved}
use Rattle.model.specs.Good.{Every, SumWith, Callable, GoodPart, GoodBranch, GoodSum, GoodDefined, GoodStart, GoodModel}
use Rattle.model.specs.Stands.{branches_of, branches_in, items_of, sums_of, Holds, itself, grouped, SumIn, continued, BranchIn, SiteIn, beginning, in_gate, in_action, in_rate, calling, in_call}
use Rattle.model.specs.Stands as stands
use Rattle.model.specs.Faults.{start_name, start_list, wholes_of, start_wholes}
use Rattle.model.proofs.Members.{never, not-both, got_in, in-got, got-some}
use Rattle.model.proofs.Meanings.{Defines, found, absent, defines}
use Rattle.model.specs.Faultless.{Faultless}
use Rattle.model.proofs.Located.{located}
use Rattle.model.proofs.Used.{branch-used, numbered_below}
use Rattle.model.proofs.Resolves.{args-good, args_count, gate-good, rate-good, action-good, action-binds}

-- ---- lists

every_append : {A : Type 0} (P : A → Type 0) (xs ys : List A) → Every P xs → Every P ys → Every P (xs ++ ys)
unfolding Every
every_append P [] ys p q = q
every_append P (x ∷ xs) ys p q = (p.0, every_append P xs ys p.1 q)

every-each : {A B : Type 0} (P : B → Type 0) (f : A → B) (xs : List A) → ((x : A) → In x xs → P (f x)) → Every P (each (λ x. f x ∷ []) xs)
unfolding Every each
every-each P f [] h = tt
every-each P f (x ∷ xs) h = (h x (head refl), every-each P f xs (λ y i. h y (tail i)))

got-each : {A B : Type 0} {x : A} (f : A → B) (xs : List A) (i : ℕ) → get_elem? xs i ≡ some x → get_elem? (each (λ x. f x ∷ []) xs) i ≡ some (f x)
unfolding each
got-each f [] i e = never e
got-each {A} {B} {x} f (y ∷ xs) zero e = let d : y ≡ x = cc in ap (λ (z : A). some (f z)) d
got-each f (y ∷ xs) (suc i) e = got-each f xs i e

pub length-each : {A B : Type 0} (f : A → B) (xs : List A) → length (each (λ x. f x ∷ []) xs) ≡ length xs
unfolding each
length-each f [] = refl
length-each f (x ∷ xs) = ap suc (length-each f xs)

module _ (w : ℕ → List ℕ) (m : Syntax.Model) where
  abbrev vs : List Variable
  vs = variables m

  abbrev ds : List Definition
  ds = definitions m

  abbrev cs : List ℕ
  cs = channel_names w vs ds

  abbrev M : Model
  M = resolved w m

  module _ (ok : Faultless w m) where
    -- ---- a scope has at most eight locals
    room : {sc : Scope} {s : Syntax.Sum} → SumIn m sc s → length sc ≤ local_limit
    room (stands.defined {d = d} i j) = let h = ok.parameters d i in omega arith
    room (continued {sc = sc} {s = s} {a = a} h i k) =
        let l = room h in
        let g = in-got (branches_in s) i in
        let b = action-binds w vs ds cs ok.variables sc a l (λ x j. ok.sites sc x (in_action (record { sum = s; stands = h; place = g.1 }) j)) in
        omega (arith, length-append sc (bindings a), b.1)

    -- ---- what numbers lead to

    sum-at : {sc : Scope} {s : Syntax.Sum} → SumIn m sc s → SumWith M (length sc) (sum_number s)
    unfolding resolved
    sum-at h = let l = located w vs ds cs m ok.numbering h in record { sum = l.0; exists = l.1; scope = l.2 }

    definition-by : {k : ℕ} (n : ℕ) (o : Option (ℕ × Definition)) → Defines w k ds 0 o → takes n o ≡ true → Callable M n (definition_number o)
    unfolding takes definition_number resolved defined
    definition-by n o (found {d = d} q g e) t =
        let z : 0 + q ≡ q = omega arith in
        record { definition = defined d; exists = rw z (got-each defined ds q g); params = eqb-true (length d.params) n t }
    definition-by n o (absent f) t = not-both t refl

    definition-at : (k n : ℕ) → is_callable w ds k n ≡ true → Callable M n (definition_number (definition_named w k 0 ds))
    unfolding is_callable
    definition-at k n h = definition-by n (definition_named w k 0 ds) (defines w k 0 ds) h

    call-good : (sc : Scope) (k : ℕ) (a : Syntax.Args) → SiteIn w m sc (call k (count_args a)) → ((x : Site) → In x (args_sites a) → SiteIn w m sc x) → GoodPart M (length sc) (resolve_call w vs ds cs sc k a)
    unfolding GoodPart resolve_call
    call-good sc k a h f =
        (rw (args_count w vs ds cs ok.variables sc a) (definition-at k (count_args a) (ok.sites sc (call k (count_args a)) h)), args-good w vs ds cs ok.variables sc a (λ x i. ok.sites sc x (f x i)))

    -- ---- continuations

    -- what a continuation holds is well formed
    record Leads (sc : Scope) (c : Syntax.Cont) : Type 0 where
      sums : (t : Syntax.Sum) → Holds (Syntax.proceed t) c → SumWith M (length sc) (sum_number t)
      calls : (k : ℕ) (a : Syntax.Args) → Holds (Syntax.call k a) c → GoodPart M (length sc) (resolve_call w vs ds cs sc k a)

    mutual
      unfolding parts_of parts_in Every GoodPart items_of

      parts-good : (c : Syntax.Cont) (sc : Scope) → Leads sc c → Every (GoodPart M (length sc)) (parts_of w vs ds cs sc c)
      parts-good (Syntax.proceed s) sc l = (l.sums s (itself refl), tt)
      parts-good (Syntax.call k a) sc l = (l.calls k a (itself refl), tt)
      parts-good (Syntax.group k c) sc l = items-good c sc (λ x i. record { sums = λ t h. l.sums t (grouped i h); calls = λ q a h. l.calls q a (grouped i h) })

      items-good : (c : Syntax.Conts) (sc : Scope) → ((x : Syntax.Cont) → In x (items_of c) → Leads sc x) → Every (GoodPart M (length sc)) (parts_in w vs ds cs sc c)
      items-good (Syntax.last_cont c) sc l = parts-good c sc (l c (head refl))
      items-good (Syntax.next_cont c r) sc l = search (every_append (GoodPart M (length sc)), parts-good c sc (l c (head refl)), items-good r sc (λ x i. l x (tail i)))

    leads : {sc : Scope} {i k : ℕ} {g : Syntax.Gate} {a : Syntax.Action} {r : Syntax.Rate} {c : Syntax.Cont} → BranchIn m sc i (Syntax.branch k g a r (Syntax.dot c)) → Leads (sc ++ bindings a) c
    leads {sc} {i} {a = a} h =
        record {
          sums = λ t l. sum-at (continued h.stands (got_in (branches_in h.sum) i h.place) l);
          calls = λ q es l. call-good (sc ++ bindings a) q es (calling h l) (λ x j. in_call h l j);
        }

    next-good : {sc : Scope} {i k : ℕ} {g : Syntax.Gate} {a : Syntax.Action} {r : Syntax.Rate} (n : Syntax.Next) → BranchIn m sc i (Syntax.branch k g a r n) → Every (GoodPart M (length (sc ++ bindings a))) (resolve_next w vs ds cs (sc ++ bindings a) n)
    unfolding resolve_next Every
    next-good Syntax.stop h = tt
    next-good {sc} {a = a} (Syntax.dot c) h = parts-good c (sc ++ bindings a) (leads h)

    -- ---- branches and sums

    branch-good : {sc : Scope} {i : ℕ} (b : Syntax.Branch) → BranchIn m sc i b → GoodBranch M (length sc) (resolve_branch w vs ds cs sc b)
    unfolding resolve_branch resolved
    branch-good {sc} {i} (Syntax.branch k g a r n) h =
        let b = action-binds w vs ds cs ok.variables sc a (room h.stands) (λ x j. ok.sites sc x (in_action h j)) in
        record {
          gate = gate-good w vs ds cs ok.variables sc g (λ x j. ok.sites sc x (in_gate h j));
          action = action-good w vs ds cs ok.variables sc M refl a (λ x j. ok.sites sc x (in_action h j)) (λ q j. numbered_below w vs q ds (branch-used w vs m q h j));
          rate = rate-good w vs ds cs ok.variables sc r (ok.rates sc i k g a r n h) (λ x j. ok.sites sc x (in_rate h j));
          next = subst (λ (l : ℕ). Every (GoodPart M l) (resolve_next w vs ds cs (sc ++ bindings a) n)) (length-append sc (bindings a) ∙ ap (λ (l : ℕ). length sc + l) b.0) (next-good n h);
        }

    every-branch : {n : ℕ} (b : Syntax.Branches) (sc : Scope) → ((x : Syntax.Branch) → In x (branches_of b) → GoodBranch M n (resolve_branch w vs ds cs sc x)) → Every (GoodBranch M n) (resolve_branches w vs ds cs sc b)
    unfolding branches_of resolve_branches Every
    every-branch (Syntax.last_branch b) sc h = (h b (head refl), tt)
    every-branch (Syntax.next_branch b r) sc h = (h b (head refl), every-branch r sc (λ x i. h x (tail i)))

    branches-count : (b : Syntax.Branches) (sc : Scope) → (length (resolve_branches w vs ds cs sc b) ≡ length (branches_of b)) × (1 ≤ length (branches_of b))
    unfolding branches_of resolve_branches
    branches-count (Syntax.last_branch b) sc = (refl, omega arith)
    branches-count (Syntax.next_branch b r) sc = let h = branches-count r sc in (ap suc h.0, omega arith)

    -- a seventeenth branch would be beyond the limit
    few-branches : {sc : Scope} (s : Syntax.Sum) → SumIn m sc s → length (branches_in s) ≤ branch_limit
    few-branches {sc} s h = by (dec_le (length (branches_in s)) branch_limit)
      where
        seventeenth : (x : Syntax.Branch) → BranchIn m sc branch_limit x → ⊥
        seventeenth (Syntax.branch k g a r n) b = let f = ok.sites sc (branch branch_limit k) (beginning b) in omega arith

        by : Dec (length (branches_in s) ≤ branch_limit) → length (branches_in s) ≤ branch_limit
        by (yes l) = l
        by (no l) = let g = got-some (branches_in s) branch_limit (omega arith) in absurd (seventeenth g.0 (record { sum = s; stands = h; place = g.1 }))

    sum-good : {sc : Scope} (n : ℕ) (b : Syntax.Branches) (d : ℕ) → d < length M.definitions → SumIn m sc (Syntax.sum n b) → GoodSum M (record { locals = length sc; definition = d; branches = resolve_branches w vs ds cs sc b })
    unfolding branches_in
    sum-good {sc} n b d u h =
        let c = branches-count b sc in
        record {
          few = room h;
          definition = u;
          some-branch = omega arith;
          few-branches = let f = few-branches (Syntax.sum n b) h in omega arith;
          branches = every-branch b sc (λ x i. let g = in-got (branches_of b) i in branch-good x (record { sum = Syntax.sum n b; stands = h; place = g.1 }));
        }

    -- ---- every sum of a tree

    -- the sums that a continuation holds stand in this scope
    abbrev Stand : Scope → Syntax.Cont → Type 0
    Stand sc c = (t : Syntax.Sum) → Holds (Syntax.proceed t) c → SumIn m sc t

    mutual
      unfolding sum_tree branches_tree branch_tree next_tree cont_tree conts_tree Every branches_of branches_in items_of

      sums-of : (s : Syntax.Sum) (d : ℕ) (u : d < length M.definitions) (sc : Scope) → SumIn m sc s → Every (GoodSum M) (sum_tree w vs ds cs d sc s)
      sums-of (Syntax.sum n b) d u sc h = (sum-good n b d u h, sums-of-branches b d u sc (λ k g a r c i t l. continued h i l))

      sums-of-branches : (b : Syntax.Branches) (d : ℕ) (u : d < length M.definitions) (sc : Scope)
          → ((k : ℕ) (g : Syntax.Gate) (a : Syntax.Action) (r : Syntax.Rate) (c : Syntax.Cont) → In (Syntax.branch k g a r (Syntax.dot c)) (branches_of b) → Stand (sc ++ bindings a) c)
          → Every (GoodSum M) (branches_tree w vs ds cs d sc b)
      sums-of-branches (Syntax.last_branch b) d u sc h = sums-of-branch b d u sc (λ k g a r c e. h k g a r c (head (sym e)))
      sums-of-branches (Syntax.next_branch b r) d u sc h =
          every_append (GoodSum M) (branch_tree w vs ds cs d sc b) (branches_tree w vs ds cs d sc r) (sums-of-branch b d u sc (λ k g a q c e. h k g a q c (head (sym e)))) (sums-of-branches r d u sc (λ k g a q c i. h k g a q c (tail i)))

      sums-of-branch : (b : Syntax.Branch) (d : ℕ) (u : d < length M.definitions) (sc : Scope)
          → ((k : ℕ) (g : Syntax.Gate) (a : Syntax.Action) (r : Syntax.Rate) (c : Syntax.Cont) → b ≡ Syntax.branch k g a r (Syntax.dot c) → Stand (sc ++ bindings a) c)
          → Every (GoodSum M) (branch_tree w vs ds cs d sc b)
      sums-of-branch (Syntax.branch k g a r n) d u sc h = sums-of-next n d u (sc ++ bindings a) (λ c e. h k g a r c (ap (λ (x : Syntax.Next). Syntax.branch k g a r x) e))

      sums-of-next : (n : Syntax.Next) (d : ℕ) (u : d < length M.definitions) (sc : Scope) → ((c : Syntax.Cont) → n ≡ Syntax.dot c → Stand sc c) → Every (GoodSum M) (next_tree w vs ds cs d sc n)
      sums-of-next Syntax.stop d u sc h = tt
      sums-of-next (Syntax.dot c) d u sc h = sums-of-cont c d u sc (h c refl)

      sums-of-cont : (c : Syntax.Cont) (d : ℕ) (u : d < length M.definitions) (sc : Scope) → Stand sc c → Every (GoodSum M) (cont_tree w vs ds cs d sc c)
      sums-of-cont (Syntax.proceed s) d u sc h = sums-of s d u sc (h s (itself refl))
      sums-of-cont (Syntax.call k a) d u sc h = tt
      sums-of-cont (Syntax.group k c) d u sc h = sums-of-conts c d u sc (λ x i t l. h t (grouped i l))

      sums-of-conts : (c : Syntax.Conts) (d : ℕ) (u : d < length M.definitions) (sc : Scope) → ((x : Syntax.Cont) → In x (items_of c) → Stand sc x) → Every (GoodSum M) (conts_tree w vs ds cs d sc c)
      sums-of-conts (Syntax.last_cont c) d u sc h = sums-of-cont c d u sc (h c (head refl))
      sums-of-conts (Syntax.next_cont c r) d u sc h =
          every_append (GoodSum M) (cont_tree w vs ds cs d sc c) (conts_tree w vs ds cs d sc r) (sums-of-cont c d u sc (h c (head refl))) (sums-of-conts r d u sc (λ x i. h x (tail i)))

    sums-of-sums : (s : Syntax.Sums) (d : ℕ) (u : d < length M.definitions) (sc : Scope) → ((x : Syntax.Sum) → In x (sums_of s) → SumIn m sc x) → Every (GoodSum M) (sums_tree w vs ds cs d sc s)
    unfolding sums_tree sums_of
    sums-of-sums (Syntax.last_sum s) d u sc h = sums-of s d u sc (h s (head refl))
    sums-of-sums (Syntax.next_sum s r) d u sc h =
        every_append (GoodSum M) (sum_tree w vs ds cs d sc s) (sums_tree w vs ds cs d sc r) (sums-of s d u sc (h s (head refl))) (sums-of-sums r d u sc (λ x i. h x (tail i)))

    sums-of-all : (es : List Definition) (n : ℕ) → n + length es ≡ length M.definitions → ((d : Definition) → In d es → In d ds) → Every (GoodSum M) (all_sums w vs ds cs n es)
    unfolding all_sums Every
    sums-of-all [] n e h = tt
    sums-of-all (d ∷ es) n e h =
        every_append (GoodSum M) (sums_tree w vs ds cs n d.params d.sums) (all_sums w vs ds cs (suc n) es) (sums-of-sums d.sums n (omega arith) d.params (λ x i. stands.defined (h d (head refl)) i)) (sums-of-all es (suc n) (omega arith) (λ x i. h x (tail i)))

    -- ---- definitions

    numbers-good : {n : ℕ} (s : Syntax.Sums) → ((x : Syntax.Sum) → In x (sums_of s) → SumWith M n (sum_number x)) → (1 ≤ length (sum_numbers s)) × Every (SumWith M n) (sum_numbers s)
    unfolding sums_of sum_numbers Every
    numbers-good (Syntax.last_sum s) h = (omega arith, (h s (head refl), tt))
    numbers-good (Syntax.next_sum s r) h = let g = numbers-good r (λ x i. h x (tail i)) in (omega arith, (h s (head refl), g.1))

    definition-good : (d : Definition) → In d ds → GoodDefined M (defined d)
    unfolding defined
    definition-good d i =
        let g = numbers-good d.sums (λ x j. sum-at (stands.defined i j)) in
        record { few-params = ok.parameters d i; some-sum = g.0; sums = g.1 }

    -- ---- the system line

    wholes-good : (r : Syntax.Wholes) → ((b : Bool) (k : ℕ) → In (whole b k) (wholes_of r) → InRange (whole_of w b k)) → (length (whole_values w vs ds cs r) ≡ count_wholes r) × Every InRange (whole_values w vs ds cs r)
    unfolding wholes_of whole_values count_wholes Every
    wholes-good (Syntax.last_whole b k) h = (refl, (h b k (head refl), tt))
    wholes-good (Syntax.next_whole b k r) h = let g = wholes-good r (λ c j i. h c j (tail i)) in (omega (arith, g.0), (h b k (head refl), g.1))

    values-good : (s : Syntax.Starts) → ((b : Bool) (k : ℕ) → In (whole b k) (start_wholes s) → InRange (whole_of w b k)) → (length (start_values w vs ds cs s) ≡ count_starts s) × Every InRange (start_values w vs ds cs s)
    unfolding start_wholes start_values count_starts Every
    values-good Syntax.no_starts h = (refl, tt)
    values-good (Syntax.starts r) h = wholes-good r h

    start-good : (s : Syntax.Start) → In s (starts m) → GoodStart M (resolve_start w vs ds cs s)
    unfolding resolve_start start_name start_list
    start-good (Syntax.once k s) i =
        let g = values-good s (λ b j l. ok.values (Syntax.once k s) b j i l) in
        record { callable = rw g.0 (definition-at k (count_starts s) (ok.items (Syntax.once k s) i)); few = omega arith; values = g.1 }
    start-good (Syntax.counted c k s) i =
        let g = values-good s (λ b j l. ok.values (Syntax.counted c k s) b j i l) in
        record { callable = rw g.0 (definition-at k (count_starts s) (ok.items (Syntax.counted c k s) i)); few = ok.counts c k s i; values = g.1 }

    -- a syntax tree without faults resolves to a well-formed model
    pub closes : GoodModel M
    unfolding resolved
    closes =
        record {
          sums = sums-of-all ds 0 (omega (arith, length-each defined ds)) (λ d i. i);
          few-definitions = omega (arith, length-each defined ds, ok.definitions);
          definitions = every-each (GoodDefined M) defined ds definition-good;
          starts = every-each (GoodStart M) (resolve_start w vs ds cs) (starts m) start-good;
        }
