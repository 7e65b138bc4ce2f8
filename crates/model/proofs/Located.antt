-- In the resolved model each sum of the text stands at its number, with its scope. From the numbering of the tree; by induction on where the sum stands.
use mathlib.Core.Path.{◌≡◌, refl, sym, ap, subst, ◌∙◌}
use mathlib.Core.List.Memᴰ.{cases_cons as cases}
use mathlib.Core.List.Memᴰ.{eq_of_singleton}
use mathlib.Core.List.{List, [], ◌∷◌, ◌++◌, append_assoc, append-nil, Memᴰ as In}
use mathlib.Core.Option.{some}
use mathlib.Core.Logic.{⊎_elim}
use Prim.Native.Nat.{ℕ, zero, suc, ◌+◌}
use native.Mathlib.Omega.{arith}
use lib.ListN.{length, drop, get_elem?, length-append}
use lib.Seq.{drop-drop, drop-append_seam}
use Rattle.grammar.specs.Syntax
use Rattle.model.specs.Sites.{Scope, bindings, Variable, Definition, definitions}
use Rattle.model.specs.Resolved
use Rattle.model.specs.Resolved.{sum_number, resolve_branches, sum_tree, branches_tree, branch_tree, next_tree, cont_tree, conts_tree, sums_tree, all_sums}
use Rattle.model.specs.Stands.{branches_of, branches_in, items_of, sums_of, Holds, itself, grouped, SumIn, defined, continued, WrittenIn, own, following}
use Rattle.model.proofs.Members.{never, got_in, in-got}
use Rattle.model.specs.Numbering.{count_sum, count_branches, count_branch, count_next, count_cont, count_conts, count_sums, count_definitions, SumFrom, BranchesFrom, BranchFrom, ContFrom, ContsFrom, SumsFrom, DefinitionsFrom}

-- ---- a part of a list from a place on

module _ {A : Type 0} (all : List A) where
  -- xs stands in the list from place n on
  pub record Part (n : ℕ) (xs : List A) : Type 0 where
    pub more : List A
    pub there : drop n all ≡ xs ++ more

  pub front : {n : ℕ} (xs ys : List A) → Part n (xs ++ ys) → Part n xs
  front xs ys p = record { more = ys ++ p.more; there = p.there ∙ append_assoc xs ys p.more }

  pub behind : {n : ℕ} (xs ys : List A) → Part n (xs ++ ys) → Part (n + length xs) ys
  behind {n} xs ys p =
      record {
        more = p.more;
        there = sym (drop-drop (length xs) n all) ∙ ap (drop (length xs)) (p.there ∙ append_assoc xs ys p.more) ∙ drop-append_seam xs (ys ++ p.more);
      }

  pub whole : Part 0 all
  whole = record { more = []; there = sym (append-nil all) }

-- what stands at the front
pub at_front : {A : Type 0} {x : A} {xs : List A} (all : List A) (n : ℕ) → drop n all ≡ x ∷ xs → get_elem? all n ≡ some x
at_front (y ∷ all) zero e = cc
at_front [] zero e = absurd (let z : ◌≡◌ {A = ℕ} 0 1 = cc in omega arith)
at_front (y ∷ all) (suc n) e = at_front all n e
at_front [] (suc n) e = absurd (let z : ◌≡◌ {A = ℕ} 0 1 = cc in omega arith)

module _ (w : ℕ → List ℕ) (vs : List Variable) (ds : List Definition) (cs : List ℕ) where
  -- ---- how many sums a tree gives

  mutual
    unfolding sum_tree branches_tree branch_tree next_tree cont_tree conts_tree

    length-sum : (s : Syntax.Sum) (d : ℕ) (sc : Scope) → length (sum_tree w vs ds cs d sc s) ≡ count_sum s
    length-sum (Syntax.sum n b) d sc = let h = length-branches b d sc in omega (arith, h)

    length-branches : (b : Syntax.Branches) (d : ℕ) (sc : Scope) → length (branches_tree w vs ds cs d sc b) ≡ count_branches b
    length-branches (Syntax.last_branch b) d sc = length-branch b d sc
    length-branches (Syntax.next_branch b r) d sc = length-append (branch_tree w vs ds cs d sc b) (branches_tree w vs ds cs d sc r) ∙ let h = length-branch b d sc in let g = length-branches r d sc in omega (arith, h, g)

    length-branch : (b : Syntax.Branch) (d : ℕ) (sc : Scope) → length (branch_tree w vs ds cs d sc b) ≡ count_branch b
    length-branch (Syntax.branch k g a r n) d sc = length-next n d (sc ++ bindings a)

    length-next : (n : Syntax.Next) (d : ℕ) (sc : Scope) → length (next_tree w vs ds cs d sc n) ≡ count_next n
    length-next Syntax.stop d sc = refl
    length-next (Syntax.dot c) d sc = length-cont c d sc

    length-cont : (c : Syntax.Cont) (d : ℕ) (sc : Scope) → length (cont_tree w vs ds cs d sc c) ≡ count_cont c
    length-cont (Syntax.proceed s) d sc = length-sum s d sc
    length-cont (Syntax.call k a) d sc = refl
    length-cont (Syntax.group k c) d sc = length-conts c d sc

    length-conts : (c : Syntax.Conts) (d : ℕ) (sc : Scope) → length (conts_tree w vs ds cs d sc c) ≡ count_conts c
    length-conts (Syntax.last_cont c) d sc = length-cont c d sc
    length-conts (Syntax.next_cont c r) d sc = length-append (cont_tree w vs ds cs d sc c) (conts_tree w vs ds cs d sc r) ∙ let h = length-cont c d sc in let g = length-conts r d sc in omega (arith, h, g)

  length-sums : (s : Syntax.Sums) (d : ℕ) (sc : Scope) → length (sums_tree w vs ds cs d sc s) ≡ count_sums s
  unfolding sums_tree
  length-sums (Syntax.last_sum s) d sc = length-sum s d sc
  length-sums (Syntax.next_sum s r) d sc = length-append (sum_tree w vs ds cs d sc s) (sums_tree w vs ds cs d sc r) ∙ let h = length-sum s d sc in let g = length-sums r d sc in omega (arith, h, g)

  pub length-all : (es : List Definition) (d : ℕ) → length (all_sums w vs ds cs d es) ≡ count_definitions es
  unfolding all_sums
  length-all [] d = refl
  length-all (e ∷ es) d =
      let h = length-sums e.sums d e.params in
      let g = length-all es (suc d) in
      length-append (sums_tree w vs ds cs d e.params e.sums) (all_sums w vs ds cs (suc d) es) ∙ omega (arith, h, g)

  -- ---- a sum's tree stands from its number on
  module _ (all : List Resolved.Sum) where
    -- the trees of a sum, a branch, a continuation stand in the list from where their numbers begin
    abbrev SumPlaced : ℕ → Scope → Syntax.Sum → Type 0
    SumPlaced d sc s = (n : ℕ) × Part all n (sum_tree w vs ds cs d sc s) × SumFrom s n

    abbrev BranchPlaced : ℕ → Scope → Syntax.Branch → Type 0
    BranchPlaced d sc b = (n : ℕ) × Part all n (branch_tree w vs ds cs d sc b) × BranchFrom b n

    abbrev ContPlaced : ℕ → Scope → Syntax.Cont → Type 0
    ContPlaced d sc c = (n : ℕ) × Part all n (cont_tree w vs ds cs d sc c) × ContFrom c n

    in-branches : {x : Syntax.Branch} (b : Syntax.Branches) (d : ℕ) (sc : Scope) (n : ℕ) → In x (branches_of b) → Part all n (branches_tree w vs ds cs d sc b) → BranchesFrom b n → BranchPlaced d sc x
    unfolding branches_of branches_tree
    in-branches (Syntax.last_branch b) d sc n i p f = subst (λ (y : Syntax.Branch). BranchPlaced d sc y) (sym (eq_of_singleton i)) (n, p, f)
    in-branches {x} (Syntax.next_branch b r) d sc n i p f =
        ⊎_elim (λ (e : x ≡ b). subst (λ (y : Syntax.Branch). BranchPlaced d sc y) (sym e) (n, front all _ _ p, f.0))
        (λ (j : In x (branches_of r)). in-branches r d sc (n + count_branch b) j (subst (λ (k : ℕ). Part all (n + k) (branches_tree w vs ds cs d sc r)) (length-branch b d sc) (behind all (branch_tree w vs ds cs d sc b) _ p)) f.1) (cases i)

    in_sum : {x : Syntax.Branch} (s : Syntax.Sum) (d : ℕ) (sc : Scope) → In x (branches_in s) → SumPlaced d sc s → BranchPlaced d sc x
    unfolding branches_in sum_tree
    in_sum (Syntax.sum k b) d sc i (n, p, f) = in-branches b d sc (n + 1) i (behind all (record { locals = length sc; definition = d; branches = resolve_branches w vs ds cs sc b } ∷ []) (branches_tree w vs ds cs d sc b) p) f.1

    in-conts : {x : Syntax.Cont} (c : Syntax.Conts) (d : ℕ) (sc : Scope) (n : ℕ) → In x (items_of c) → Part all n (conts_tree w vs ds cs d sc c) → ContsFrom c n → ContPlaced d sc x
    unfolding items_of conts_tree
    in-conts (Syntax.last_cont c) d sc n i p f = subst (λ (y : Syntax.Cont). ContPlaced d sc y) (sym (eq_of_singleton i)) (n, p, f)
    in-conts {x} (Syntax.next_cont c r) d sc n i p f =
        ⊎_elim (λ (e : x ≡ c). subst (λ (y : Syntax.Cont). ContPlaced d sc y) (sym e) (n, front all _ _ p, f.0))
        (λ (j : In x (items_of r)). in-conts r d sc (n + count_cont c) j (subst (λ (k : ℕ). Part all (n + k) (conts_tree w vs ds cs d sc r)) (length-cont c d sc) (behind all (cont_tree w vs ds cs d sc c) _ p)) f.1) (cases i)

    in-cont : {x c : Syntax.Cont} (d : ℕ) (sc : Scope) → Holds x c → ContPlaced d sc c → ContPlaced d sc x
    unfolding cont_tree
    in-cont d sc (itself e) p = rw e at p
    in-cont d sc (grouped {cs = g} i h) (n, p, f) = in-cont d sc h (in-conts g d sc n i p f)

    in-sums : {x : Syntax.Sum} (s : Syntax.Sums) (d : ℕ) (sc : Scope) (n : ℕ) → In x (sums_of s) → Part all n (sums_tree w vs ds cs d sc s) → SumsFrom s n → SumPlaced d sc x
    unfolding sums_of sums_tree
    in-sums (Syntax.last_sum s) d sc n i p f = subst (λ (y : Syntax.Sum). SumPlaced d sc y) (sym (eq_of_singleton i)) (n, p, f)
    in-sums {x} (Syntax.next_sum s r) d sc n i p f =
        ⊎_elim (λ (e : x ≡ s). subst (λ (y : Syntax.Sum). SumPlaced d sc y) (sym e) (n, front all _ _ p, f.0))
        (λ (j : In x (sums_of r)). in-sums r d sc (n + count_sum s) j (subst (λ (k : ℕ). Part all (n + k) (sums_tree w vs ds cs d sc r)) (length-sum s d sc) (behind all (sum_tree w vs ds cs d sc s) _ p)) f.1) (cases i)

    in-definitions : {x : Syntax.Sum} {e : Definition} (es : List Definition) (d n i : ℕ) → get_elem? es i ≡ some e → In x (sums_of e.sums) → Part all n (all_sums w vs ds cs d es) → DefinitionsFrom es n → SumPlaced (d + i) e.params x
    unfolding all_sums
    in-definitions [] d n i q j p f = never q
    in-definitions {x} {e} (g ∷ es) d n zero q j p f =
        let r : g ≡ e = cc in
        let z : d ≡ d + 0 = omega arith in
        subst (λ (y : Definition). SumPlaced (d + 0) y.params x) r
        (subst (λ (k : ℕ). SumPlaced k g.params x) z
        (in-sums g.sums d g.params n (subst (λ (y : Definition). In x (sums_of y.sums)) (sym r) j) (front all (sums_tree w vs ds cs d g.params g.sums) (all_sums w vs ds cs (suc d) es) p) f.0))
    in-definitions {x} {e} (g ∷ es) d n (suc i) q j p f =
        let z : suc d + i ≡ d + suc i = omega arith in
        subst (λ (k : ℕ). SumPlaced k e.params x) z
        (in-definitions es (suc d) (n + count_sums g.sums) i q j (subst (λ (l : ℕ). Part all (n + l) (all_sums w vs ds cs (suc d) es)) (length-sums g.sums d g.params) (behind all (sums_tree w vs ds cs d g.params g.sums) _ p)) f.1)

-- ---- in the resolved model

module _ (w : ℕ → List ℕ) (vs : List Variable) (ds : List Definition) (cs : List ℕ) (m : Syntax.Model) (from : DefinitionsFrom (definitions m) 0) where
  abbrev all : List Resolved.Sum
  all = all_sums w vs ds cs 0 (definitions m)

  in-text : {x : Syntax.Sum} {e : Definition} (n : ℕ) → get_elem? (definitions m) n ≡ some e → In x (sums_of e.sums) → SumPlaced w vs ds cs all n e.params x
  in-text {x} {e} n q j = let z : 0 + n ≡ n = omega arith in subst (λ (k : ℕ). SumPlaced w vs ds cs all k e.params x) z (in-definitions w vs ds cs all (definitions m) 0 0 n q j (whole all) from)

  -- a sum's tree stands in the list from its number on, with its scope and its definition
  placed : {n : ℕ} {s : Syntax.Sum} → WrittenIn m n s → (sc : Scope) × SumIn m sc s × SumPlaced w vs ds cs all n sc s
  unfolding branch_tree next_tree cont_tree
  placed {n} (own {d = d} e j) =
      (d.params, defined (got_in (definitions m) n e) j, in-text n e j)
  placed {n} (following {s = s} {a = a} h i k) =
      let p = placed h in
      let b = in_sum w vs ds cs all s n p.0 i p.2 in
      (p.0 ++ bindings a, continued p.1 i k, in-cont w vs ds cs all n (p.0 ++ bindings a) k b)

  -- a sum of the text is in some definition's, and its tree stands there
  written : {sc : Scope} {s : Syntax.Sum} → SumIn m sc s → (n : ℕ) × WrittenIn m n s × SumPlaced w vs ds cs all n sc s
  unfolding branch_tree next_tree cont_tree
  written (defined i j) = let g = in-got (definitions m) i in (g.0, own g.1 j, in-text g.0 g.1 j)
  written (continued {sc = sc} {s = s} {a = a} h i k) =
      let p = written h in
      let b = in_sum w vs ds cs all s p.0 sc i p.2 in
      (p.0, following p.1 i k, in-cont w vs ds cs all p.0 (sc ++ bindings a) k b)

  found-sum : (d : ℕ) (sc : Scope) (s : Syntax.Sum) → SumPlaced w vs ds cs all d sc s → (x : Resolved.Sum) × (get_elem? all (sum_number s) ≡ some x) × (x.locals ≡ length sc) × (x.definition ≡ d)
  unfolding sum_tree sum_number
  found-sum d sc (Syntax.sum k b) (n, p, f) =
      (record { locals = length sc; definition = d; branches = resolve_branches w vs ds cs sc b }, ap (get_elem? all) f.0 ∙ at_front all n p.there, refl, refl)

  -- a sum stands at its number, with as many locals as it has in scope
  pub located : {sc : Scope} {s : Syntax.Sum} → SumIn m sc s → (x : Resolved.Sum) × (get_elem? all (sum_number s) ≡ some x) × (x.locals ≡ length sc)
  located {sc} {s} h = let p = written h in let f = found-sum p.0 sc s p.2 in (f.0, f.1, f.2)

  -- a sum that the text of definition n holds stands at its number, with n for its definition
  pub located-in : {n : ℕ} {s : Syntax.Sum} → WrittenIn m n s → (x : Resolved.Sum) × (get_elem? all (sum_number s) ≡ some x) × (x.definition ≡ n)
  located-in {n} {s} h = let p = placed h in let f = found-sum n p.0 s p.2 in (f.0, f.1, f.3)

  -- and some definition's text holds every sum of the text
  pub in-definition : {sc : Scope} {s : Syntax.Sum} → SumIn m sc s → (n : ℕ) × WrittenIn m n s
  in-definition h = let p = written h in (p.0, p.1)

  -- a sum stands at its number, with its branches resolved in its scope, and with the number of the definition whose text holds it
  pub located-sum : {sc : Scope} {k : ℕ} {b : Syntax.Branches}
      → SumIn m sc (Syntax.sum k b)
      → (n : ℕ) × WrittenIn m n (Syntax.sum k b) × (get_elem? all k ≡ some (record { locals = length sc; definition = n; branches = resolve_branches w vs ds cs sc b }))
  unfolding sum_tree
  located-sum h = let p = written h in (p.0, p.1, ap (get_elem? all) p.2.2.0 ∙ at_front all p.2.0 p.2.1.there)
