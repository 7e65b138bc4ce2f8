-- A sum of a text stands in one scope: the sums with their scopes, in the text's order, are its sums, whose numbers differ. By induction on the tree.
use mathlib.Core.Path.{◌≡◌, refl, sym, ap, subst, ◌∙◌}
use mathlib.Core.List.Memᴰ.{append_left as left}
use mathlib.Core.List.Memᴰ.{append_right as right}
use mathlib.Core.List.Memᴰ.{cases_cons as cases}
use mathlib.Core.List.Memᴰ.{eq_of_singleton}
use mathlib.Core.List.Memᴰ.{head}
use mathlib.Core.List.Memᴰ.{not-nil as nowhere}
use mathlib.Core.List.Memᴰ.{tail}
use mathlib.Core.List.{List, [], ◌∷◌, ◌++◌, Memᴰ as In}
use mathlib.Core.Option.{some}
use mathlib.Core.Logic.{⊎_elim}
use Prim.Native.Nat.{ℕ, zero, suc}
use lib.ListN.{get_elem?}
use Rattle.grammar.specs.Grammar as derived
use Rattle.grammar.specs.Syntax
use Rattle.grammar.specs.Syntax.{syntax_of}
use Rattle.model.specs.Sites.{Scope, bindings, Definition, definitions}
use Rattle.model.specs.Stands.{branches_of, branches_in, items_of, sums_of, Holds, itself, grouped, SumIn, defined, continued}
use Rattle.model.proofs.Members.{never, in-got}
use Rattle.model.proofs.Ordered.{sum_list, branches_list, branch_list, next_list, cont_list, conts_list, sums_list, definitions_list, numbered-so}

pub record Stood : Type 0 where
  pub scope : Scope
  pub sum : Syntax.Sum

abbrev mutual
  sum_pairs : Scope → Syntax.Sum → List Stood
  sum_pairs sc (Syntax.sum n b) = record { scope = sc; sum = Syntax.sum n b } ∷ branches_pairs sc b

  branches_pairs : Scope → Syntax.Branches → List Stood
  branches_pairs sc (Syntax.last_branch b) = branch_pairs sc b
  branches_pairs sc (Syntax.next_branch b r) = branch_pairs sc b ++ branches_pairs sc r

  branch_pairs : Scope → Syntax.Branch → List Stood
  branch_pairs sc (Syntax.branch k g a r n) = next_pairs (sc ++ bindings a) n

  next_pairs : Scope → Syntax.Next → List Stood
  next_pairs sc Syntax.stop = []
  next_pairs sc (Syntax.dot c) = cont_pairs sc c

  cont_pairs : Scope → Syntax.Cont → List Stood
  cont_pairs sc (Syntax.proceed s) = sum_pairs sc s
  cont_pairs sc (Syntax.call k a) = []
  cont_pairs sc (Syntax.group k c) = conts_pairs sc c

  conts_pairs : Scope → Syntax.Conts → List Stood
  conts_pairs sc (Syntax.last_cont c) = cont_pairs sc c
  conts_pairs sc (Syntax.next_cont c r) = cont_pairs sc c ++ conts_pairs sc r

abbrev sums_pairs : Scope → Syntax.Sums → List Stood
sums_pairs sc (Syntax.last_sum s) = sum_pairs sc s
sums_pairs sc (Syntax.next_sum s r) = sum_pairs sc s ++ sums_pairs sc r

abbrev definitions_pairs : List Definition → List Stood
definitions_pairs [] = []
definitions_pairs (d ∷ ds) = sums_pairs d.params d.sums ++ definitions_pairs ds

abbrev seconds : List Stood → List Syntax.Sum
seconds [] = []
seconds (x ∷ xs) = x.sum ∷ seconds xs

seconds-append : (xs ys : List Stood) → seconds (xs ++ ys) ≡ seconds xs ++ seconds ys
seconds-append [] ys = refl
seconds-append (x ∷ xs) ys = ap (λ (l : List Syntax.Sum). x.sum ∷ l) (seconds-append xs ys)

both : (xs ys : List Stood) {ss ts : List Syntax.Sum} → seconds xs ≡ ss → seconds ys ≡ ts → seconds (xs ++ ys) ≡ ss ++ ts
both xs ys {ss} {ts} e f = seconds-append xs ys ∙ ap (λ (l : List Syntax.Sum). l ++ seconds ys) e ∙ ap (λ (l : List Syntax.Sum). ss ++ l) f

mutual
  of-sum : (s : Syntax.Sum) (sc : Scope) → seconds (sum_pairs sc s) ≡ sum_list s
  of-sum (Syntax.sum n b) sc = ap (λ (l : List Syntax.Sum). Syntax.sum n b ∷ l) (of-branches b sc)

  of-branches : (b : Syntax.Branches) (sc : Scope) → seconds (branches_pairs sc b) ≡ branches_list b
  of-branches (Syntax.last_branch b) sc = of-branch b sc
  of-branches (Syntax.next_branch b r) sc = both (branch_pairs sc b) (branches_pairs sc r) (of-branch b sc) (of-branches r sc)

  of-branch : (b : Syntax.Branch) (sc : Scope) → seconds (branch_pairs sc b) ≡ branch_list b
  of-branch (Syntax.branch k g a r n) sc = of-next n (sc ++ bindings a)

  of-next : (n : Syntax.Next) (sc : Scope) → seconds (next_pairs sc n) ≡ next_list n
  of-next Syntax.stop sc = refl
  of-next (Syntax.dot c) sc = of-cont c sc

  of-cont : (c : Syntax.Cont) (sc : Scope) → seconds (cont_pairs sc c) ≡ cont_list c
  of-cont (Syntax.proceed s) sc = of-sum s sc
  of-cont (Syntax.call k a) sc = refl
  of-cont (Syntax.group k c) sc = of-conts c sc

  of-conts : (c : Syntax.Conts) (sc : Scope) → seconds (conts_pairs sc c) ≡ conts_list c
  of-conts (Syntax.last_cont c) sc = of-cont c sc
  of-conts (Syntax.next_cont c r) sc = both (cont_pairs sc c) (conts_pairs sc r) (of-cont c sc) (of-conts r sc)

of-sums : (s : Syntax.Sums) (sc : Scope) → seconds (sums_pairs sc s) ≡ sums_list s
of-sums (Syntax.last_sum s) sc = of-sum s sc
of-sums (Syntax.next_sum s r) sc = both (sum_pairs sc s) (sums_pairs sc r) (of-sum s sc) (of-sums r sc)

of-definitions : (ds : List Definition) → seconds (definitions_pairs ds) ≡ definitions_list ds
of-definitions [] = refl
of-definitions (d ∷ ds) = both (sums_pairs d.params d.sums) (definitions_pairs ds) (of-sums d.sums d.params) (of-definitions ds)

module _ (m : Syntax.Model) where
  in-branches : {t : Stood} {x : Syntax.Branch} (b : Syntax.Branches) (sc : Scope) → In x (branches_of b) → In t (branch_pairs sc x) → In t (branches_pairs sc b)
  unfolding branches_of
  in-branches {t} (Syntax.last_branch b) sc i l = subst (λ (y : Syntax.Branch). In t (branch_pairs sc y)) (eq_of_singleton i) l
  in-branches {t} {x} (Syntax.next_branch b r) sc i l =
      ⊎_elim (λ (e : x ≡ b). left (branches_pairs sc r) (subst (λ (y : Syntax.Branch). In t (branch_pairs sc y)) e l)) (λ (j : In x (branches_of r)). right (branch_pairs sc b) (in-branches r sc j l)) (cases i)

  in_sum : {t : Stood} {x : Syntax.Branch} (s : Syntax.Sum) (sc : Scope) → In x (branches_in s) → In t (branch_pairs sc x) → In t (sum_pairs sc s)
  unfolding branches_in
  in_sum (Syntax.sum n b) sc i l = tail (in-branches b sc i l)

  in-conts : {t : Stood} {x : Syntax.Cont} (c : Syntax.Conts) (sc : Scope) → In x (items_of c) → In t (cont_pairs sc x) → In t (conts_pairs sc c)
  unfolding items_of
  in-conts {t} (Syntax.last_cont c) sc i l = subst (λ (y : Syntax.Cont). In t (cont_pairs sc y)) (eq_of_singleton i) l
  in-conts {t} {x} (Syntax.next_cont c r) sc i l =
      ⊎_elim (λ (e : x ≡ c). left (conts_pairs sc r) (subst (λ (y : Syntax.Cont). In t (cont_pairs sc y)) e l)) (λ (j : In x (items_of r)). right (cont_pairs sc c) (in-conts r sc j l)) (cases i)

  in-cont : {t : Stood} {x c : Syntax.Cont} (sc : Scope) → Holds x c → In t (cont_pairs sc x) → In t (cont_pairs sc c)
  in-cont {t} sc (itself e) l = subst (λ (y : Syntax.Cont). In t (cont_pairs sc y)) (sym e) l
  in-cont sc (grouped {cs = g} i h) l = in-conts g sc i (in-cont sc h l)

  in-sums : {t : Stood} {s : Syntax.Sum} (ss : Syntax.Sums) (sc : Scope) → In s (sums_of ss) → In t (sum_pairs sc s) → In t (sums_pairs sc ss)
  unfolding sums_of
  in-sums {t} (Syntax.last_sum x) sc i l = subst (λ (y : Syntax.Sum). In t (sum_pairs sc y)) (eq_of_singleton i) l
  in-sums {t} {s} (Syntax.next_sum x r) sc i l =
      ⊎_elim (λ (e : s ≡ x). left (sums_pairs sc r) (subst (λ (y : Syntax.Sum). In t (sum_pairs sc y)) e l)) (λ (j : In s (sums_of r)). right (sum_pairs sc x) (in-sums r sc j l)) (cases i)

  in-definitions : {t : Stood} {d : Definition} (ds : List Definition) → In d ds → In t (sums_pairs d.params d.sums) → In t (definitions_pairs ds)
  in-definitions [] i l = absurd (nowhere i)
  in-definitions {t} {d} (e ∷ ds) i l =
      ⊎_elim (λ (q : d ≡ e). left (definitions_pairs ds) (subst (λ (y : Definition). In t (sums_pairs y.params y.sums)) q l)) (λ (j : In d ds). right (sums_pairs e.params e.sums) (in-definitions ds j l)) (cases i)

  below_in : {sc : Scope} {s : Syntax.Sum} (t : Stood) → SumIn m sc s → In t (sum_pairs sc s) → In t (definitions_pairs (definitions m))
  below_in t (defined {d = d} i j) l = in-definitions (definitions m) i (in-sums d.sums d.params j l)
  below_in t (continued {sc = sc} {s = s} {a = a} h i k) l = below_in t h (in_sum s sc i (in-cont (sc ++ bindings a) k l))

  first-in : (s : Syntax.Sum) (sc : Scope) → In (record { scope = sc; sum = s }) (sum_pairs sc s)
  first-in (Syntax.sum n b) sc = head refl

  stood : {sc : Scope} {s : Syntax.Sum} → SumIn m sc s → In (record { scope = sc; sum = s }) (definitions_pairs (definitions m))
  stood {sc} {s} h = below_in (record { scope = sc; sum = s }) h (first-in s sc)

second-got : {x : Stood} (xs : List Stood) (i : ℕ) → get_elem? xs i ≡ some x → get_elem? (seconds xs) i ≡ some x.sum
second-got [] i e = never e
second-got {x} (y ∷ xs) zero e = let d : y ≡ x = cc in ap (λ (z : Stood). some z.sum) d
second-got (y ∷ xs) (suc i) e = second-got xs i e

-- a sum of a text stands in one scope
pub one-scope : (m : derived.Model) {sc sc' : Scope} {s : Syntax.Sum} → SumIn (syntax_of m) sc s → SumIn (syntax_of m) sc' s → sc ≡ sc'
one-scope m {sc} {sc'} {s} h g =
    let ps = definitions_pairs (definitions (syntax_of m)) in
    let a = in-got ps (stood (syntax_of m) h) in
    let b = in-got ps (stood (syntax_of m) g) in
    let q = of-definitions (definitions (syntax_of m)) in
    let e = numbered-so m a.0 (subst (λ (l : List Syntax.Sum). get_elem? l a.0 ≡ some s) q (second-got ps a.0 a.1)) in
    let f = numbered-so m b.0 (subst (λ (l : List Syntax.Sum). get_elem? l b.0 ≡ some s) q (second-got ps b.0 b.1)) in
    let i : a.0 ≡ b.0 = sym e ∙ f in
    let j : ◌≡◌ {A = Stood} (record { scope = sc; sum = s }) (record { scope = sc'; sum = s }) = cc (a.1, b.1, i) in
    ap (λ (z : Stood). z.scope) j
