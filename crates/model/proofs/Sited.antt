-- The sites that Sites.antt lists, each with its scope, are those that stand in the text by Stands.antt. By induction on the tree one way, on
-- where a sum stands the other way; assumes nothing.
use mathlib.Core.Path.{◌≡◌, refl, ap}
use mathlib.Core.List.Memᴰ.{append_cases}
use mathlib.Core.List.Memᴰ.{append_left as left}
use mathlib.Core.List.Memᴰ.{append_right as right}
use mathlib.Core.List.Memᴰ.{cases_cons as cases}
use mathlib.Core.List.Memᴰ.{head}
use mathlib.Core.List.Memᴰ.{not-nil as nowhere}
use mathlib.Core.List.Memᴰ.{tail}
use mathlib.Core.List.{List, [], ◌∷◌, ◌++◌, Memᴰ as In}
use mathlib.Core.Option.{some}
use mathlib.Core.Logic.{◌⊎◌, inl, inr, ⊎_elim}
use Prim.Native.Nat.{ℕ, zero, suc, ◌+◌}
use native.Mathlib.Omega.{arith}
use lib.ListN.{get_elem?}
use Rattle.grammar.specs.Syntax
use Rattle.model.specs.Sites.{Scope, Site, branch, call, Sited, gate_sites, action_sites, rate_sites, bindings, count_args, args_sites, within, branch_sites, next_sites, branches_sites, sum_sites, cont_sites, conts_sites, sums_sites, definitions, definition_sites, sites, over_sites}
use Rattle.model.specs.Stands.{branches_of, branches_in, items_of, sums_of, Holds, itself, grouped, SumIn, defined, continued, BranchIn, SiteIn, beginning, in_gate, in_action, in_rate, calling, in_call}
use Rattle.model.proofs.Members.{never, in-each, each_in, got_in, in-got}

abbrev at : Scope → Site → Sited
at sc x = record { scope = sc; site = x }

-- ---- sites in one scope

pub in_within : {y : Sited} (sc : Scope) (xs : List Site) → In y (within sc xs) → (y.scope ≡ sc) × In y.site xs
unfolding within
in_within sc [] i = absurd (nowhere i)
in_within {y} sc (x ∷ xs) i = by (λ (j : In y (within sc xs)). in_within sc xs j) (cases i)
  where
    by : (In y (within sc xs) → (y.scope ≡ sc) × In y.site xs) → (y ≡ at sc x) ⊎ In y (within sc xs) → (y.scope ≡ sc) × In y.site (x ∷ xs)
    by r (inl e) = (ap (λ (v : Sited). v.scope) e, head (ap (λ (v : Sited). v.site) e))
    by r (inr j) = ((r j).0, tail (r j).1)

pub within_in : {x : Site} (sc : Scope) (xs : List Site) → In x xs → In (at sc x) (within sc xs)
unfolding within
within_in sc [] i = absurd (nowhere i)
within_in {x} sc (z ∷ xs) i = ⊎_elim (λ (e : x ≡ z). head (ap (λ (v : Site). at sc v) e)) (λ (j : In x xs). tail (within_in sc xs j)) (cases i)

module _ (w : ℕ → List ℕ) (m : Syntax.Model) where
  -- ---- what is listed, stands

  -- a site as its pair
  abbrev Known : Sited → Type 0
  Known y = SiteIn w m y.scope y.site

  known : {y : Sited} {sc : Scope} {x : Site} → y.scope ≡ sc → y.site ≡ x → SiteIn w m sc x → Known y
  known {y} {sc} {x} e f k = rw (e, f) k

  -- a branch's own sites, in the scope it stands in
  abbrev own : Scope → ℕ → ℕ → Syntax.Gate → Syntax.Action → Syntax.Rate → List Sited
  own sc i k g a r = within sc (branch i k ∷ gate_sites g ++ action_sites w a ++ rate_sites r)

  own-lists : {sc : Scope} {i k : ℕ} {g : Syntax.Gate} {a : Syntax.Action} {r : Syntax.Rate} {n : Syntax.Next} {y : Sited}
      → BranchIn m sc i (Syntax.branch k g a r n) → In y (own sc i k g a r) → Known y
  own-lists {sc} {i} {k} {g} {a} {r} {n} {y} h j = let o = in_within sc _ j in first o.0 (cases o.1)
    where
      second : y.scope ≡ sc → In y.site (gate_sites g) ⊎ In y.site (action_sites w a) → Known y
      second e (inl l) = known e refl (in_gate h l)
      second e (inr l) = known e refl (in_action h l)

      third : y.scope ≡ sc → In y.site (gate_sites g ++ action_sites w a) ⊎ In y.site (rate_sites r) → Known y
      third e (inl l) = second e (append_cases (gate_sites g) l)
      third e (inr l) = known e refl (in_rate h l)

      first : y.scope ≡ sc → (y.site ≡ branch i k) ⊎ In y.site (gate_sites g ++ action_sites w a ++ rate_sites r) → Known y
      first e (inl f) = known e f (beginning h)
      first e (inr l) = third e (append_cases (gate_sites g ++ action_sites w a) l)

  -- what a continuation holds stands in this scope
  record Below (sc : Scope) (c : Syntax.Cont) : Type 0 where
    sums : (t : Syntax.Sum) → Holds (Syntax.proceed t) c → SumIn m sc t
    calls : (q : ℕ) (es : Syntax.Args) → Holds (Syntax.call q es) c → SiteIn w m sc (call q (count_args es))
    values : (q : ℕ) (es : Syntax.Args) (x : Site) → Holds (Syntax.call q es) c → In x (args_sites es) → SiteIn w m sc x

  below-branch : {sc : Scope} {i k : ℕ} {g : Syntax.Gate} {a : Syntax.Action} {r : Syntax.Rate} {c : Syntax.Cont}
      → BranchIn m sc i (Syntax.branch k g a r (Syntax.dot c)) → Below (sc ++ bindings a) c
  below-branch {i = i} h =
      record {
        sums = λ t l. continued h.stands (got_in (branches_in h.sum) i h.place) l;
        calls = λ q es l. calling h l;
        values = λ q es x l j. in_call h l j;
      }

  below-item : {sc : Scope} {q : ℕ} {cs : Syntax.Conts} {c : Syntax.Cont} → Below sc (Syntax.group q cs) → In c (items_of cs) → Below sc c
  below-item b i =
      record {
        sums = λ t l. b.sums t (grouped i l);
        calls = λ q es l. b.calls q es (grouped i l);
        values = λ q es x l j. b.values q es x (grouped i l) j;
      }

  call-lists : (q : ℕ) (es : Syntax.Args) (sc : Scope) (y : Sited) → Below sc (Syntax.call q es) → In y (within sc (call q (count_args es) ∷ args_sites es)) → Known y
  call-lists q es sc y b j = let o = in_within sc _ j in by o.0 (cases o.1)
    where
      by : y.scope ≡ sc → (y.site ≡ call q (count_args es)) ⊎ In y.site (args_sites es) → Known y
      by e (inl f) = known e f (b.calls q es (itself refl))
      by e (inr l) = known e refl (b.values q es y.site (itself refl) l)

  mutual
    unfolding branch_sites next_sites branches_sites sum_sites cont_sites conts_sites branches_of branches_in items_of

    branch-lists : (b : Syntax.Branch) (sc : Scope) (i : ℕ) (y : Sited) → BranchIn m sc i b → In y (branch_sites w sc i b) → Known y
    branch-lists (Syntax.branch k g a r n) sc i y h j =
        ⊎_elim (λ (l : In y (own sc i k g a r)). own-lists h l)
        (λ (l : In y (next_sites w (sc ++ bindings a) n)). next-lists n (sc ++ bindings a) y (λ c e. below-branch (rw e at h)) l) (append_cases _ j)

    next-lists : (n : Syntax.Next) (sc : Scope) (y : Sited) → ((c : Syntax.Cont) → n ≡ Syntax.dot c → Below sc c) → In y (next_sites w sc n) → Known y
    next-lists Syntax.stop sc y h j = absurd (nowhere j)
    next-lists (Syntax.dot c) sc y h j = cont-lists c sc y (h c refl) j

    branches-list : (b : Syntax.Branches) (sc : Scope) (i : ℕ) (y : Sited) → ((j : ℕ) (x : Syntax.Branch) → get_elem? (branches_of b) j ≡ some x → BranchIn m sc (i + j) x) → In y (branches_sites w sc i b) → Known y
    branches-list (Syntax.last_branch b) sc i y h j = let e : i + 0 ≡ i = omega arith in branch-lists b sc i y (rw e at (h 0 b refl)) j
    branches-list (Syntax.next_branch b r) sc i y h j =
        let e : i + 0 ≡ i = omega arith in
        ⊎_elim (λ (l : In y (branch_sites w sc i b)). branch-lists b sc i y (rw e at (h 0 b refl)) l)
        (λ (l : In y (branches_sites w sc (i + 1) r)). branches-list r sc (i + 1) y (λ q x f. let d : i + suc q ≡ i + 1 + q = omega arith in rw d at (h (suc q) x f)) l) (append_cases _ j)

    sum-lists : (s : Syntax.Sum) (sc : Scope) (y : Sited) → SumIn m sc s → In y (sum_sites w sc s) → Known y
    sum-lists (Syntax.sum n b) sc y h j =
        branches-list b sc 0 y (λ q x f. let d : 0 + q ≡ q = omega arith in rw d (record { sum = Syntax.sum n b; stands = h; place = f })) j

    cont-lists : (c : Syntax.Cont) (sc : Scope) (y : Sited) → Below sc c → In y (cont_sites w sc c) → Known y
    cont-lists (Syntax.proceed s) sc y b j = sum-lists s sc y (b.sums s (itself refl)) j
    cont-lists (Syntax.call q es) sc y b j = call-lists q es sc y b j
    cont-lists (Syntax.group q cs) sc y b j = conts-list cs sc y (λ c i. below-item b i) j

    conts-list : (cs : Syntax.Conts) (sc : Scope) (y : Sited) → ((c : Syntax.Cont) → In c (items_of cs) → Below sc c) → In y (conts_sites w sc cs) → Known y
    conts-list (Syntax.last_cont c) sc y b j = cont-lists c sc y (b c (head refl)) j
    conts-list (Syntax.next_cont c q) sc y b j =
        ⊎_elim (λ (l : In y (cont_sites w sc c)). cont-lists c sc y (b c (head refl)) l)
        (λ (l : In y (conts_sites w sc q)). conts-list q sc y (λ x i. b x (tail i)) l) (append_cases _ j)

  sums-list : (ss : Syntax.Sums) (sc : Scope) (y : Sited) → ((s : Syntax.Sum) → In s (sums_of ss) → SumIn m sc s) → In y (sums_sites w sc ss) → Known y
  unfolding sums_sites sums_of
  sums-list (Syntax.last_sum s) sc y h j = sum-lists s sc y (h s (head refl)) j
  sums-list (Syntax.next_sum s r) sc y h j =
      ⊎_elim (λ (l : In y (sum_sites w sc s)). sum-lists s sc y (h s (head refl)) l)
      (λ (l : In y (sums_sites w sc r)). sums-list r sc y (λ x i. h x (tail i)) l) (append_cases _ j)

  -- a listed site stands in the text, in its scope
  pub listed-stands : {y : Sited} → In y (sites w m) → SiteIn w m y.scope y.site
  unfolding sites definition_sites
  listed-stands {y} i = let d = in-each (definition_sites w) (definitions m) i in sums-list d.0.sums d.0.params y (λ s j. defined d.1 j) d.2

  -- ---- what stands, is listed

  abbrev Listed : Scope → Site → Type 0
  Listed sc x = In (at sc x) (sites w m)

  in-branches : {y : Sited} {b : Syntax.Branch} (bs : Syntax.Branches) (sc : Scope) (i j : ℕ) → get_elem? (branches_of bs) j ≡ some b → In y (branch_sites w sc (i + j) b) → In y (branches_sites w sc i bs)
  unfolding branches_sites branches_of
  in-branches {y} {b} (Syntax.last_branch c) sc i zero e l =
      let d : i + 0 ≡ i = omega arith in let f : b ≡ c = cc in rw (d, f) at l
  in-branches (Syntax.last_branch c) sc i (suc j) e l = never e
  in-branches {y} {b} (Syntax.next_branch c r) sc i zero e l =
      let d : i + 0 ≡ i = omega arith in let f : b ≡ c = cc in left (branches_sites w sc (i + 1) r) (rw (d, f) at l)
  in-branches (Syntax.next_branch c r) sc i (suc j) e l =
      let d : i + suc j ≡ i + 1 + j = omega arith in right (branch_sites w sc i c) (in-branches r sc (i + 1) j e (rw d at l))

  in_sum : {y : Sited} {b : Syntax.Branch} (s : Syntax.Sum) (sc : Scope) (j : ℕ) → get_elem? (branches_in s) j ≡ some b → In y (branch_sites w sc j b) → In y (sum_sites w sc s)
  unfolding sum_sites branches_in
  in_sum (Syntax.sum n b) sc j e l = let d : 0 + j ≡ j = omega arith in in-branches b sc 0 j e (rw d l)

  in-conts : {y : Sited} {c : Syntax.Cont} (cs : Syntax.Conts) (sc : Scope) → In c (items_of cs) → In y (cont_sites w sc c) → In y (conts_sites w sc cs)
  unfolding conts_sites items_of
  in-conts {y} {c} (Syntax.last_cont x) sc i l = ⊎_elim (λ (e : c ≡ x). rw e at l) (λ j. absurd (nowhere j)) (cases i)
  in-conts {y} {c} (Syntax.next_cont x r) sc i l =
      ⊎_elim (λ (e : c ≡ x). left (conts_sites w sc r) (rw e at l)) (λ (j : In c (items_of r)). right (cont_sites w sc x) (in-conts r sc j l)) (cases i)

  in-cont : {y : Sited} {x c : Syntax.Cont} (sc : Scope) → Holds x c → In y (cont_sites w sc x) → In y (cont_sites w sc c)
  unfolding cont_sites
  in-cont sc (itself e) l = rw e l
  in-cont sc (grouped {cs = cs} i h) l = in-conts cs sc i (in-cont sc h l)

  in-sums : {y : Sited} {s : Syntax.Sum} (ss : Syntax.Sums) (sc : Scope) → In s (sums_of ss) → In y (sum_sites w sc s) → In y (sums_sites w sc ss)
  unfolding sums_sites sums_of
  in-sums {y} {s} (Syntax.last_sum x) sc i l = ⊎_elim (λ (e : s ≡ x). rw e at l) (λ j. absurd (nowhere j)) (cases i)
  in-sums {y} {s} (Syntax.next_sum x r) sc i l =
      ⊎_elim (λ (e : s ≡ x). left (sums_sites w sc r) (rw e at l)) (λ (j : In s (sums_of r)). right (sum_sites w sc x) (in-sums r sc j l)) (cases i)

  -- what a branch's continuation holds is among the branch's sites
  in-next : {y : Sited} {x c : Syntax.Cont} (sc : Scope) (i k : ℕ) (g : Syntax.Gate) (a : Syntax.Action) (r : Syntax.Rate)
      → Holds x c → In y (cont_sites w (sc ++ bindings a) x) → In y (branch_sites w sc i (Syntax.branch k g a r (Syntax.dot c)))
  unfolding branch_sites
  in-next sc i k g a r h l = right (own sc i k g a r) (in-cont (sc ++ bindings a) h l)

  sum-listed : {sc : Scope} {s : Syntax.Sum} (y : Sited) → SumIn m sc s → In y (sum_sites w sc s) → In y (sites w m)
  unfolding sites definition_sites cont_sites
  sum-listed y (defined {d = d} i j) l = each_in (definition_sites w) (definitions m) i (in-sums d.sums d.params j l)
  sum-listed y (continued {sc = sc} {s = s} {k = k} {g = g} {a = a} {r = r} h i q) l =
      let o = in-got (branches_in s) i in sum-listed y h (in_sum s sc o.0 o.1 (in-next sc o.0 k g a r q l))

  branch-listed : {sc : Scope} {i : ℕ} {b : Syntax.Branch} (y : Sited) → BranchIn m sc i b → In y (branch_sites w sc i b) → In y (sites w m)
  branch-listed {sc} {i} y h l = sum-listed y h.stands (in_sum h.sum sc i h.place l)

  -- a site that stands in the text is listed, in its scope
  pub stands-listed : {sc : Scope} {x : Site} → SiteIn w m sc x → In (at sc x) (sites w m)
  unfolding branch_sites cont_sites within
  stands-listed (beginning {sc = sc} h) = branch-listed _ h (head refl)
  stands-listed (in_gate {sc = sc} {g = g} {a = a} {r = r} h i) = branch-listed _ h (left _ (tail (within_in sc _ (left (rate_sites r) (left (action_sites w a) i)))))
  stands-listed (in_action {sc = sc} {g = g} {a = a} {r = r} h i) = branch-listed _ h (left _ (tail (within_in sc _ (left (rate_sites r) (right (gate_sites g) i)))))
  stands-listed (in_rate {sc = sc} {g = g} {a = a} {r = r} h i) = branch-listed _ h (left _ (tail (within_in sc _ (right (gate_sites g ++ action_sites w a) i))))
  stands-listed (calling {sc = sc} {i = i} {k = k} {g = g} {a = a} {r = r} h l) = branch-listed _ h (in-next sc i k g a r l (head refl))
  stands-listed (in_call {sc = sc} {i = i} {k = k} {g = g} {a = a} {r = r} h l j) = branch-listed _ h (in-next sc i k g a r l (tail (within_in (sc ++ bindings a) _ j)))

  -- ---- what a question asks at every site

  pub over-in : {k : ℕ} {sc : Scope} {x : Site} (f : Scope → Site → List ℕ) → SiteIn w m sc x → In k (f sc x) → In k (over_sites w f m)
  unfolding over_sites
  over-in f h i = each_in (λ s. f s.scope s.site) (sites w m) (stands-listed h) i

  pub in-over : {k : ℕ} (f : Scope → Site → List ℕ) → In k (over_sites w f m) → (y : Sited) × SiteIn w m y.scope y.site × In k (f y.scope y.site)
  unfolding over_sites
  in-over f i = let e = in-each (λ s. f s.scope s.site) (sites w m) i in (e.0, listed-stands e.1, e.2)
