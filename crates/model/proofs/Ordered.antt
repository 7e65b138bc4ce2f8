-- The sums of a text, in the order of their first tokens, have the numbers 0, 1, 2 and so on (01, State). By induction on the derivation, from the
-- widths of its parts.
use mathlib.Core.Path.{◌≡◌, refl, sym, ap, subst, ◌∙◌}
use mathlib.Core.List.Memᴰ.{append_cases}
use mathlib.Core.List.Memᴰ.{append_left as left}
use mathlib.Core.List.Memᴰ.{append_right as right}
use mathlib.Core.List.Memᴰ.{cases_cons as cases}
use mathlib.Core.List.Memᴰ.{eq_of_singleton}
use mathlib.Core.List.Memᴰ.{head}
use mathlib.Core.List.Memᴰ.{not-nil as nowhere}
use mathlib.Core.List.Memᴰ.{tail}
use mathlib.Core.List.{List, [], ◌∷◌, ◌++◌, Memᴰ as In}
use mathlib.Core.Option.{some}
use mathlib.Core.Logic.{⊎_elim}
use Prim.Native.Nat.{ℕ, zero, suc, ◌+◌, ◌≤◌, ◌<◌}
use native.Mathlib.Omega.{arith}
use lib.ListN.{length, get_elem?, length-append}
use Rattle.grammar.specs.Grammar as derived
use Rattle.grammar.specs.Grammar.{flat_number, flat_action, flat_rate, flat_gate, flat_prefix, flat_next, flat_cont, flat_item, flat_items, flat_choices, flat_sums, flat_body, flat_params}
use Rattle.grammar.specs.Syntax
use Rattle.grammar.specs.Syntax.{wide, sums_prefix, sums_item, sums_choices, branch_at, next_at, cont_at, item_at, conts_at, branches_at, sum_at, sums_at, body_at, sums_body, definitions_at, model_at, syntax_of}
use Rattle.grammar.proofs.Wide.{wide-prefix, wide-next, wide-cont, wide-item, wide-items, wide-choices, wide-sum, wide-sums, wide-body}
use Rattle.model.specs.Sites.{Scope, bindings, Definition, definitions_in, definitions}
use Rattle.model.specs.Resolved.{sum_number, resolved}
use Rattle.model.specs.Stands.{branches_of, branches_in, items_of, sums_of, Holds, itself, grouped, SumIn, defined, continued}
use Rattle.model.proofs.Members.{never, got_in, in-got, got-below, got-some}
use Rattle.model.proofs.Ascends.{Ascends, ascends-append, ascends-wider, ascends-two}
use Rattle.model.proofs.Located.{length-all}
use Rattle.model.specs.Numbering.{count_sum, count_branches, count_branch, count_next, count_cont, count_conts, count_sums, count_definitions, SumFrom, BranchesFrom, BranchFrom, NextFrom, ContFrom, ContsFrom, SumsFrom, DefinitionsFrom}
use Rattle.model.proofs.Numbered.{numbered}

-- ---- a tree's sums, each before those in its continuations

abbrev mutual
  pub sum_list : Syntax.Sum → List Syntax.Sum
  sum_list (Syntax.sum n b) = Syntax.sum n b ∷ branches_list b

  pub branches_list : Syntax.Branches → List Syntax.Sum
  branches_list (Syntax.last_branch b) = branch_list b
  branches_list (Syntax.next_branch b r) = branch_list b ++ branches_list r

  pub branch_list : Syntax.Branch → List Syntax.Sum
  branch_list (Syntax.branch k g a r n) = next_list n

  pub next_list : Syntax.Next → List Syntax.Sum
  next_list Syntax.stop = []
  next_list (Syntax.dot c) = cont_list c

  pub cont_list : Syntax.Cont → List Syntax.Sum
  cont_list (Syntax.proceed s) = sum_list s
  cont_list (Syntax.call k a) = []
  cont_list (Syntax.group k c) = conts_list c

  pub conts_list : Syntax.Conts → List Syntax.Sum
  conts_list (Syntax.last_cont c) = cont_list c
  conts_list (Syntax.next_cont c r) = cont_list c ++ conts_list r

abbrev pub sums_list : Syntax.Sums → List Syntax.Sum
sums_list (Syntax.last_sum s) = sum_list s
sums_list (Syntax.next_sum s r) = sum_list s ++ sums_list r

abbrev pub definitions_list : List Definition → List Syntax.Sum
definitions_list [] = []
definitions_list (d ∷ ds) = sums_list d.sums ++ definitions_list ds

-- the sums of a text
abbrev pub model_sums : Syntax.Model → List Syntax.Sum
model_sums m = definitions_list (definitions m)

-- ---- their numbers

-- numbered from n on
abbrev pub Counts : ℕ → List Syntax.Sum → Type 0
Counts n [] = Unit {0}
Counts n (s ∷ ss) = (sum_number s ≡ n) × Counts (n + 1) ss

counts-append : (n : ℕ) (xs ys : List Syntax.Sum) → Counts n xs → Counts (n + length xs) ys → Counts n (xs ++ ys)
counts-append n [] ys p q = let e : n + 0 ≡ n = omega arith in rw e at q
counts-append n (x ∷ xs) ys p q = let e : n + suc (length xs) ≡ n + 1 + length xs = omega arith in (p.0, counts-append (n + 1) xs ys p.1 (rw e at q))

mutual
  unfolding sum_number

  count-sum : (s : Syntax.Sum) (n : ℕ) → SumFrom s n → Counts n (sum_list s) × (length (sum_list s) ≡ count_sum s)
  count-sum (Syntax.sum k b) n f = let h = count-branches b (n + 1) f.1 in ((f.0, h.0), omega (arith, h.1))

  count-branches : (b : Syntax.Branches) (n : ℕ) → BranchesFrom b n → Counts n (branches_list b) × (length (branches_list b) ≡ count_branches b)
  count-branches (Syntax.last_branch b) n f = count-branch b n f
  count-branches (Syntax.next_branch b r) n f =
      let h = count-branch b n f.0 in
      let g = count-branches r (n + count_branch b) f.1 in
      (counts-append n (branch_list b) (branches_list r) h.0 (rw h.1 g.0), length-append (branch_list b) (branches_list r) ∙ omega (arith, h.1, g.1))

  count-branch : (b : Syntax.Branch) (n : ℕ) → BranchFrom b n → Counts n (branch_list b) × (length (branch_list b) ≡ count_branch b)
  count-branch (Syntax.branch k g a r x) n f = count_next_lem x n f

  count_next_lem : (x : Syntax.Next) (n : ℕ) → NextFrom x n → Counts n (next_list x) × (length (next_list x) ≡ count_next x)
  count_next_lem Syntax.stop n f = (tt, refl)
  count_next_lem (Syntax.dot c) n f = count-cont c n f

  count-cont : (c : Syntax.Cont) (n : ℕ) → ContFrom c n → Counts n (cont_list c) × (length (cont_list c) ≡ count_cont c)
  count-cont (Syntax.proceed s) n f = count-sum s n f
  count-cont (Syntax.call k a) n f = (tt, refl)
  count-cont (Syntax.group k c) n f = count-conts c n f

  count-conts : (c : Syntax.Conts) (n : ℕ) → ContsFrom c n → Counts n (conts_list c) × (length (conts_list c) ≡ count_conts c)
  count-conts (Syntax.last_cont c) n f = count-cont c n f
  count-conts (Syntax.next_cont c r) n f =
      let h = count-cont c n f.0 in
      let g = count-conts r (n + count_cont c) f.1 in
      (counts-append n (cont_list c) (conts_list r) h.0 (rw h.1 g.0), length-append (cont_list c) (conts_list r) ∙ omega (arith, h.1, g.1))

count-sums : (s : Syntax.Sums) (n : ℕ) → SumsFrom s n → Counts n (sums_list s) × (length (sums_list s) ≡ count_sums s)
count-sums (Syntax.last_sum s) n f = count-sum s n f
count-sums (Syntax.next_sum s r) n f =
    let h = count-sum s n f.0 in
    let g = count-sums r (n + count_sum s) f.1 in
    (counts-append n (sum_list s) (sums_list r) h.0 (rw h.1 g.0), length-append (sum_list s) (sums_list r) ∙ omega (arith, h.1, g.1))

count-definitions : (ds : List Definition) (n : ℕ) → DefinitionsFrom ds n → Counts n (definitions_list ds) × (length (definitions_list ds) ≡ count_definitions ds)
count-definitions [] n f = (tt, refl)
count-definitions (d ∷ ds) n f =
    let h = count-sums d.sums n f.0 in
    let g = count-definitions ds (n + count_sums d.sums) f.1 in
    (counts-append n (sums_list d.sums) (definitions_list ds) h.0 (rw h.1 g.0), length-append (sums_list d.sums) (definitions_list ds) ∙ omega (arith, h.1, g.1))

count_at : (n : ℕ) (ss : List Syntax.Sum) (i : ℕ) {s : Syntax.Sum} → Counts n ss → get_elem? ss i ≡ some s → sum_number s ≡ n + i
count_at n [] i c e = never e
count_at n (t ∷ ss) zero {s} c e = let d : t ≡ s = cc in ap sum_number (sym d) ∙ c.0 ∙ omega arith
count_at n (t ∷ ss) (suc i) c e = let h = count_at (n + 1) ss i c.1 e in omega arith

-- the sum at place i has the number i
pub numbered-so : (m : derived.Model) (i : ℕ) {s : Syntax.Sum} → get_elem? (model_sums (syntax_of m)) i ≡ some s → sum_number s ≡ i
numbered-so m i e = let h = count_at 0 (model_sums (syntax_of m)) i (count-definitions (definitions (syntax_of m)) 0 (numbered m)).0 e in omega arith

-- ---- their first tokens

abbrev pub first_of : Syntax.Branch → ℕ
first_of (Syntax.branch k g a r n) = k

abbrev pub first_in : Syntax.Branches → ℕ
first_in (Syntax.last_branch b) = first_of b
first_in (Syntax.next_branch b r) = first_of b

-- a sum's first token is that of its first branch
abbrev pub first_token : Syntax.Sum → ℕ
first_token (Syntax.sum n b) = first_in b

prefix-first : (p : derived.Prefix) (k n : ℕ) → first_of (branch_at p k n) ≡ k
unfolding branch_at
prefix-first (derived.prefix g a r x) k n = refl

first-prefix : (p : derived.Prefix) (k n : ℕ) → k ≤ first_of (branch_at p k n)
first-prefix p k n = omega (arith, prefix-first p k n)

choices-first : (r : derived.Choices) (b : Syntax.Branch) (k n : ℕ) → first_in (branches_at b r k n) ≡ first_of b
unfolding branches_at
choices-first derived.no_choices b k n = refl
choices-first (derived.or p r) b k n = refl

-- the sums of a part that is written from token k on have their first tokens there, before token hi
mutual
  unfolding branch_at next_at cont_at item_at conts_at branches_at

  ascend-prefix : (p : derived.Prefix) (k n hi : ℕ) → hi ≡ k + wide (flat_prefix p) → Ascends first_token (k + 1) (branch_list (branch_at p k n)) hi
  ascend-prefix (derived.prefix g a r x) k n hi e =
      let b = k + wide (flat_gate g) + 1 + wide (flat_action a) + 1 + wide (flat_rate r) + 1 in
      ascends-wider first_token b (k + 1) hi hi (next_list (next_at x b n)) (omega arith) (omega arith) (ascend-next x b n hi (omega (arith, (wide-prefix (derived.prefix g a r x)).width)))

  ascend-next : (x : derived.Next) (k n hi : ℕ) → hi ≡ k + wide (flat_next x) → Ascends first_token k (next_list (next_at x k n)) hi
  ascend-next derived.stop k n hi e = omega arith
  ascend-next (derived.dot c) k n hi e =
      ascends-wider first_token (k + 1) k hi hi (cont_list (cont_at c (k + 1) n)) (omega arith) (omega arith) (ascend-cont c (k + 1) n hi (omega (arith, (wide-next (derived.dot c)).width)))

  ascend-cont : (c : derived.Cont) (k n hi : ℕ) → hi ≡ k + wide (flat_cont c) → Ascends first_token k (cont_list (cont_at c k n)) hi
  ascend-cont (derived.chain p) k n hi e = (first-prefix p k (n + 1), rw (prefix-first p k (n + 1)) (ascend-prefix p k (n + 1) hi (omega (arith, (wide-cont (derived.chain p)).width))))
  ascend-cont (derived.call a) k n hi e = omega arith
  ascend-cont (derived.group i r) k n hi e =
      let b = k + 1 + wide (flat_item i) in
      ascend-items r (item_at i (k + 1) n) k b (n + sums_item i) hi (ascends-wider first_token (k + 1) k b b (cont_list (item_at i (k + 1) n)) (omega arith) (omega arith) (ascend-item i (k + 1) n b refl)) (omega (arith, (wide-cont (derived.group i r)).width))

  ascend-item : (i : derived.Item) (k n hi : ℕ) → hi ≡ k + wide (flat_item i) → Ascends first_token k (cont_list (item_at i k n)) hi
  ascend-item (derived.item_sum p r) k n hi e =
      let b = k + wide (flat_prefix p) in
      let f = choices-first r (branch_at p k (n + 1)) b (n + 1 + sums_prefix p) ∙ prefix-first p k (n + 1) in
      (omega arith, rw f (ascend-choices r (branch_at p k (n + 1)) (k + 1) b (n + 1 + sums_prefix p) hi (ascend-prefix p k (n + 1) b refl) (omega (arith, (wide-item (derived.item_sum p r)).width))))
  ascend-item (derived.item_call a) k n hi e = omega arith
  ascend-item (derived.item_group i r) k n hi e =
      let b = k + 1 + wide (flat_item i) in
      ascend-items r (item_at i (k + 1) n) k b (n + sums_item i) hi (ascends-wider first_token (k + 1) k b b (cont_list (item_at i (k + 1) n)) (omega arith) (omega arith) (ascend-item i (k + 1) n b refl)) (omega (arith, (wide-item (derived.item_group i r)).width))

  ascend-items : (r : derived.Items) (c : Syntax.Cont) (lo k n hi : ℕ) → Ascends first_token lo (cont_list c) k → hi ≡ k + wide (flat_items r) → Ascends first_token lo (conts_list (conts_at c r k n)) hi
  ascend-items derived.close c lo k n hi h e = ascends-wider first_token lo lo k hi (cont_list c) (omega arith) (omega arith) h
  ascend-items (derived.also i r) c lo k n hi h e =
      let b = k + 1 + wide (flat_item i) in
      let x = item_at i (k + 1) n in
      ascends-append first_token lo k hi (cont_list c) (conts_list (conts_at x r b (n + sums_item i))) h
      (ascend-items r x k b (n + sums_item i) hi (ascends-wider first_token (k + 1) k b b (cont_list x) (omega arith) (omega arith) (ascend-item i (k + 1) n b refl)) (omega (arith, (wide-items (derived.also i r)).width)))

  ascend-choices : (r : derived.Choices) (b : Syntax.Branch) (lo k n hi : ℕ) → Ascends first_token lo (branch_list b) k → hi ≡ k + wide (flat_choices r) → Ascends first_token lo (branches_list (branches_at b r k n)) hi
  ascend-choices derived.no_choices b lo k n hi h e = ascends-wider first_token lo lo k hi (branch_list b) (omega arith) (omega arith) h
  ascend-choices (derived.or p r) b lo k n hi h e =
      let c = k + 1 + wide (flat_prefix p) in
      let x = branch_at p (k + 1) n in
      ascends-append first_token lo k hi (branch_list b) (branches_list (branches_at x r c (n + sums_prefix p))) h
      (ascend-choices r x k c (n + sums_prefix p) hi (ascends-wider first_token (k + 1 + 1) k c c (branch_list x) (omega arith) (omega arith) (ascend-prefix p (k + 1) n c refl)) (omega (arith, (wide-choices (derived.or p r)).width)))

ascend-sum : (p : derived.Prefix) (r : derived.Choices) (k n hi : ℕ) → hi ≡ k + wide (λ us. flat_prefix p (flat_choices r us)) → Ascends first_token k (sum_list (sum_at p r k n)) hi
unfolding sum_at
ascend-sum p r k n hi e =
    let b = k + wide (flat_prefix p) in
    let f = choices-first r (branch_at p k (n + 1)) b (n + 1 + sums_prefix p) ∙ prefix-first p k (n + 1) in
    (omega arith, rw f (ascend-choices r (branch_at p k (n + 1)) (k + 1) b (n + 1 + sums_prefix p) hi (ascend-prefix p k (n + 1) b refl) (omega (arith, (wide-sum p r).width))))

ascend-sums : (r : derived.Sums) (s : Syntax.Sum) (lo k n hi : ℕ) → Ascends first_token lo (sum_list s) k → hi ≡ k + wide (flat_sums r) → Ascends first_token lo (sums_list (sums_at s r k n)) hi
unfolding sums_at
ascend-sums derived.no_sums s lo k n hi h e = ascends-wider first_token lo lo k hi (sum_list s) (omega arith) (omega arith) h
ascend-sums (derived.beside p c r) s lo k n hi h e =
    let b = k + 1 + wide (λ us. flat_prefix p (flat_choices c us)) in
    let q = n + 1 + sums_prefix p + sums_choices c in
    let x = sum_at p c (k + 1) n in
    ascends-append first_token lo k hi (sum_list s) (sums_list (sums_at x r b q)) h
    (ascend-sums r x k b q hi (ascends-wider first_token (k + 1) k b b (sum_list x) (omega arith) (omega arith) (ascend-sum p c (k + 1) n b refl)) (omega (arith, (wide-sums (derived.beside p c r)).width, (wide-sum p c).width)))

ascend-body : (b : derived.Body) (k n hi : ℕ) → hi ≡ k + wide (flat_body b) → Ascends first_token k (sums_list (body_at b k n)) hi
unfolding body_at
ascend-body (derived.body p c r) k n hi e =
    let b = k + wide (λ us. flat_prefix p (flat_choices c us)) in
    ascend-sums r (sum_at p c k n) k b (n + 1 + sums_prefix p + sums_choices c) hi (ascend-sum p c k n b refl) (omega (arith, (wide-body (derived.body p c r)).width, (wide-sum p c).width))

ascend-definitions : (d : derived.Definitions) (k n : ℕ) → (hi : ℕ) × Ascends first_token k (definitions_list (definitions_in (definitions_at d k n))) hi
unfolding definitions_in definitions_at
ascend-definitions (derived.last_definition p b s) k n =
    let c = k + 1 + wide (flat_params p) + 1 in
    let hi = c + wide (flat_body b) in
    (hi, ascends-append first_token k hi hi (sums_list (body_at b c n)) [] (ascends-wider first_token c k hi hi (sums_list (body_at b c n)) (omega arith) (omega arith) (ascend-body b c n hi refl)) (omega arith))
ascend-definitions (derived.next_definition p b d) k n =
    let c = k + 1 + wide (flat_params p) + 1 in
    let e = c + wide (flat_body b) in
    let r = ascend-definitions d (e + 1) (n + sums_body b) in
    (r.0, ascends-append first_token k (e + 1) r.0 (sums_list (body_at b c n)) _ (ascends-wider first_token c k e (e + 1) (sums_list (body_at b c n)) (omega arith) (omega arith) (ascend-body b c n e refl)) r.1)

ascend-model : (m : derived.Model) (k : ℕ) → (hi : ℕ) × Ascends first_token k (model_sums (model_at m k)) hi
unfolding definitions model_at
ascend-model (derived.definitions d) k = ascend-definitions d k 0
ascend-model (derived.variable v m) k =
    let c = k + 2 + wide (flat_number v) + 1 in
    let r = ascend-model m c in
    (r.0, ascends-wider first_token c k r.0 r.0 (model_sums (model_at m c)) (omega arith) (omega arith) r.1)

-- the sums of a text stand in the order of their first tokens
pub ordered-so : (m : derived.Model) → (hi : ℕ) × Ascends first_token 0 (model_sums (syntax_of m)) hi
unfolding syntax_of
ordered-so m = ascend-model m 0

-- ---- they are the sums of the text

module _ (m : Syntax.Model) where
  in-branches : {t : Syntax.Sum} {x : Syntax.Branch} (b : Syntax.Branches) → In x (branches_of b) → In t (branch_list x) → In t (branches_list b)
  unfolding branches_of
  in-branches {t} (Syntax.last_branch b) i l = subst (λ (y : Syntax.Branch). In t (branch_list y)) (eq_of_singleton i) l
  in-branches {t} {x} (Syntax.next_branch b r) i l =
      ⊎_elim (λ (e : x ≡ b). left (branches_list r) (subst (λ (y : Syntax.Branch). In t (branch_list y)) e l)) (λ (j : In x (branches_of r)). right (branch_list b) (in-branches r j l)) (cases i)

  in_sum : {t : Syntax.Sum} {x : Syntax.Branch} (s : Syntax.Sum) → In x (branches_in s) → In t (branch_list x) → In t (sum_list s)
  unfolding branches_in
  in_sum (Syntax.sum n b) i l = tail (in-branches b i l)

  in-conts : {t : Syntax.Sum} {x : Syntax.Cont} (c : Syntax.Conts) → In x (items_of c) → In t (cont_list x) → In t (conts_list c)
  unfolding items_of
  in-conts {t} (Syntax.last_cont c) i l = subst (λ (y : Syntax.Cont). In t (cont_list y)) (eq_of_singleton i) l
  in-conts {t} {x} (Syntax.next_cont c r) i l =
      ⊎_elim (λ (e : x ≡ c). left (conts_list r) (subst (λ (y : Syntax.Cont). In t (cont_list y)) e l)) (λ (j : In x (items_of r)). right (cont_list c) (in-conts r j l)) (cases i)

  in-cont : {t : Syntax.Sum} {x c : Syntax.Cont} → Holds x c → In t (cont_list x) → In t (cont_list c)
  in-cont {t} (itself e) l = subst (λ (y : Syntax.Cont). In t (cont_list y)) (sym e) l
  in-cont (grouped {cs = g} i h) l = in-conts g i (in-cont h l)

  in-sums : {t s : Syntax.Sum} (ss : Syntax.Sums) → In s (sums_of ss) → In t (sum_list s) → In t (sums_list ss)
  unfolding sums_of
  in-sums {t} (Syntax.last_sum x) i l = subst (λ (y : Syntax.Sum). In t (sum_list y)) (eq_of_singleton i) l
  in-sums {t} {s} (Syntax.next_sum x r) i l =
      ⊎_elim (λ (e : s ≡ x). left (sums_list r) (subst (λ (y : Syntax.Sum). In t (sum_list y)) e l)) (λ (j : In s (sums_of r)). right (sum_list x) (in-sums r j l)) (cases i)

  in-definitions : {t : Syntax.Sum} {d : Definition} (ds : List Definition) → In d ds → In t (sums_list d.sums) → In t (definitions_list ds)
  in-definitions [] i l = absurd (nowhere i)
  in-definitions {t} {d} (e ∷ ds) i l =
      ⊎_elim (λ (q : d ≡ e). left (definitions_list ds) (subst (λ (y : Definition). In t (sums_list y.sums)) q l)) (λ (j : In d ds). right (sums_list e.sums) (in-definitions ds j l)) (cases i)

  below_in : {sc : Scope} {s : Syntax.Sum} (t : Syntax.Sum) → SumIn m sc s → In t (sum_list s) → In t (model_sums m)
  below_in t (defined {d = d} i j) l = in-definitions (definitions m) i (in-sums d.sums j l)
  below_in t (continued {s = s} h i k) l = below_in t h (in_sum s i (in-cont k l))

  first-in : (s : Syntax.Sum) → In s (sum_list s)
  first-in (Syntax.sum n b) = head refl

  pub stands-in : {sc : Scope} {s : Syntax.Sum} → SumIn m sc s → In s (model_sums m)
  stands-in {sc} {s} h = below_in s h (first-in s)

  -- a sum with its scope
  abbrev Standing : Syntax.Sum → Type 0
  Standing t = (sc : Scope) × SumIn m sc t

  -- the sums that a continuation holds stand in this scope
  abbrev Held : Scope → Syntax.Cont → Type 0
  Held sc c = (t : Syntax.Sum) → Holds (Syntax.proceed t) c → SumIn m sc t

  mutual
    unfolding branches_of branches_in items_of

    down-sum : (s : Syntax.Sum) (sc : Scope) (t : Syntax.Sum) → SumIn m sc s → In t (sum_list s) → Standing t
    down-sum (Syntax.sum n b) sc t h l =
        ⊎_elim (λ (e : t ≡ Syntax.sum n b). (sc, subst (λ (y : Syntax.Sum). SumIn m sc y) (sym e) h)) (λ (j : In t (branches_list b)). down-branches b sc t (λ k g a r c i x q. continued h i q) j) (cases l)

    down-branches : (b : Syntax.Branches) (sc : Scope) (t : Syntax.Sum)
        → ((k : ℕ) (g : Syntax.Gate) (a : Syntax.Action) (r : Syntax.Rate) (c : Syntax.Cont) → In (Syntax.branch k g a r (Syntax.dot c)) (branches_of b) → Held (sc ++ bindings a) c) → In t (branches_list b) → Standing t
    down-branches (Syntax.last_branch b) sc t h l = down-branch b sc t (λ k g a r c e. h k g a r c (head (sym e))) l
    down-branches (Syntax.next_branch b r) sc t h l =
        ⊎_elim (λ (j : In t (branch_list b)). down-branch b sc t (λ k g a q c e. h k g a q c (head (sym e))) j) (λ (j : In t (branches_list r)). down-branches r sc t (λ k g a q c i. h k g a q c (tail i)) j) (append_cases (branch_list b) l)

    down-branch : (b : Syntax.Branch) (sc : Scope) (t : Syntax.Sum)
        → ((k : ℕ) (g : Syntax.Gate) (a : Syntax.Action) (r : Syntax.Rate) (c : Syntax.Cont) → b ≡ Syntax.branch k g a r (Syntax.dot c) → Held (sc ++ bindings a) c) → In t (branch_list b) → Standing t
    down-branch (Syntax.branch k g a r n) sc t h l = down-next n (sc ++ bindings a) t (λ c e. h k g a r c (ap (λ (x : Syntax.Next). Syntax.branch k g a r x) e)) l

    down-next : (n : Syntax.Next) (sc : Scope) (t : Syntax.Sum) → ((c : Syntax.Cont) → n ≡ Syntax.dot c → Held sc c) → In t (next_list n) → Standing t
    down-next Syntax.stop sc t h l = absurd (nowhere l)
    down-next (Syntax.dot c) sc t h l = down-cont c sc t (h c refl) l

    down-cont : (c : Syntax.Cont) (sc : Scope) (t : Syntax.Sum) → Held sc c → In t (cont_list c) → Standing t
    down-cont (Syntax.proceed s) sc t h l = down-sum s sc t (h s (itself refl)) l
    down-cont (Syntax.call k a) sc t h l = absurd (nowhere l)
    down-cont (Syntax.group k c) sc t h l = down-conts c sc t (λ x i y q. h y (grouped i q)) l

    down-conts : (c : Syntax.Conts) (sc : Scope) (t : Syntax.Sum) → ((x : Syntax.Cont) → In x (items_of c) → Held sc x) → In t (conts_list c) → Standing t
    down-conts (Syntax.last_cont c) sc t h l = down-cont c sc t (h c (head refl)) l
    down-conts (Syntax.next_cont c r) sc t h l =
        ⊎_elim (λ (j : In t (cont_list c)). down-cont c sc t (h c (head refl)) j) (λ (j : In t (conts_list r)). down-conts r sc t (λ x i. h x (tail i)) j) (append_cases (cont_list c) l)

  down-sums : (s : Syntax.Sums) (sc : Scope) (t : Syntax.Sum) → ((x : Syntax.Sum) → In x (sums_of s) → SumIn m sc x) → In t (sums_list s) → Standing t
  unfolding sums_of
  down-sums (Syntax.last_sum s) sc t h l = down-sum s sc t (h s (head refl)) l
  down-sums (Syntax.next_sum s r) sc t h l =
      ⊎_elim (λ (j : In t (sum_list s)). down-sum s sc t (h s (head refl)) j) (λ (j : In t (sums_list r)). down-sums r sc t (λ x i. h x (tail i)) j) (append_cases (sum_list s) l)

  down-definitions : (ds : List Definition) (t : Syntax.Sum) → ((d : Definition) → In d ds → In d (definitions m)) → In t (definitions_list ds) → Standing t
  down-definitions [] t h l = absurd (nowhere l)
  down-definitions (d ∷ ds) t h l =
      ⊎_elim (λ (j : In t (sums_list d.sums)). down-sums d.sums d.params t (λ x i. defined (h d (head refl)) i) j) (λ (j : In t (definitions_list ds)). down-definitions ds t (λ x i. h x (tail i)) j) (append_cases (sums_list d.sums) l)

  pub in-stands : {t : Syntax.Sum} → In t (model_sums m) → Standing t
  in-stands {t} l = down-definitions (definitions m) t (λ d i. i) l

-- ---- 01, State: sums are numbered from 0 by their first tokens

module _ (m : derived.Model) where
  -- every number below how many there are is some sum's
  pub every-number : (i : ℕ) → i < length (model_sums (syntax_of m)) → (sc : Scope) × (s : Syntax.Sum) × SumIn (syntax_of m) sc s × (sum_number s ≡ i)
  every-number i h =
      let g = got-some (model_sums (syntax_of m)) i h in
      let t = in-stands (syntax_of m) (got_in (model_sums (syntax_of m)) i g.1) in
      (t.0, g.0, t.1, numbered-so m i g.1)

  -- and each sum's number is below
  pub number-below : {sc : Scope} {s : Syntax.Sum} → SumIn (syntax_of m) sc s → sum_number s < length (model_sums (syntax_of m))
  number-below h =
      let g = in-got (model_sums (syntax_of m)) (stands-in (syntax_of m) h) in
      let e = numbered-so m g.0 g.1 in
      let l = got-below (model_sums (syntax_of m)) g.0 g.1 in
      omega arith

  -- the resolved model has as many
  pub as_many : (w : ℕ → List ℕ) → length (resolved w (syntax_of m)).sums ≡ length (model_sums (syntax_of m))
  unfolding resolved
  as_many w = length-all w _ _ _ (definitions (syntax_of m)) 0 ∙ sym (count-definitions (definitions (syntax_of m)) 0 (numbered m)).1

  -- of two sums the one with the lower number stands first
  pub numbers-ascend : {sc sc' : Scope} {s t : Syntax.Sum} → SumIn (syntax_of m) sc s → SumIn (syntax_of m) sc' t → sum_number s < sum_number t → first_token s < first_token t
  numbers-ascend h g l =
      let a = in-got (model_sums (syntax_of m)) (stands-in (syntax_of m) h) in
      let b = in-got (model_sums (syntax_of m)) (stands-in (syntax_of m) g) in
      let e = numbered-so m a.0 a.1 in
      let f = numbered-so m b.0 b.1 in
      let o = ordered-so m in
      ascends-two first_token 0 o.0 (model_sums (syntax_of m)) a.0 b.0 o.1 a.1 b.1 (omega arith)
