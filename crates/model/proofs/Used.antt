-- A channel name that is used has its number among the channel names. By induction on where its branch stands, and on the list of uses.
use mathlib.Core.Path.{◌≡◌, refl, ap, subst, ◌∙◌}
use mathlib.Core.List.Memᴰ.{append_cases, append_left as left}
use mathlib.Core.List.Memᴰ.{append_right as right}
use mathlib.Core.List.Memᴰ.{cases_cons as cases}
use mathlib.Core.List.Memᴰ.{eq_of_singleton}
use mathlib.Core.List.Memᴰ.{head}
use mathlib.Core.List.Memᴰ.{not-nil as nowhere}
use mathlib.Core.List.{List, [], ◌∷◌, ◌++◌, Memᴰ as In}
use mathlib.Core.Bool.{Bool, true, false, cond}
use mathlib.Core.Option.{Option}
use mathlib.Core.Logic.{◌⊎◌, inl, inr, ⊎_elim}
use Prim.Native.Nat.{ℕ, ◌<◌}
use native.Mathlib.Omega.{arith}
use lib.ListN.{length}
use Rattle.grammar.specs.Syntax
use Rattle.model.specs.Lists.{each, any}
use Rattle.model.specs.Sites.{Scope, bindings, Variable, Definition, definitions}
use Rattle.model.specs.Words.{same}
use Rattle.model.specs.Given.{place_in}
use Rattle.model.specs.Resolved.{action_use, branch_uses, branches_uses, sum_uses, cont_uses, conts_uses, sums_uses, definition_uses, firsts, channel_names, or_zero}
use Rattle.model.specs.Stands.{branches_of, branches_in, items_of, sums_of, Holds, itself, grouped, SumIn, defined, continued, BranchIn}
use Rattle.model.proofs.Members.{each_in, got_in, got-below, any-in}
use Rattle.model.proofs.Repeats.{same_bytes_lem}
use Rattle.model.proofs.Meanings.{Placed, found, absent, placed}

module _ (w : ℕ → List ℕ) (vs : List Variable) where
  -- ---- a branch's uses are among the uses

  in-branches : {k : ℕ} {x : Syntax.Branch} (b : Syntax.Branches) (sc : Scope) → In x (branches_of b) → In k (branch_uses w vs sc x) → In k (branches_uses w vs sc b)
  unfolding branches_of branches_uses
  in-branches {k} (Syntax.last_branch b) sc i l = subst (λ (y : Syntax.Branch). In k (branch_uses w vs sc y)) (eq_of_singleton i) l
  in-branches {k} {x} (Syntax.next_branch b r) sc i l =
      ⊎_elim (λ (e : x ≡ b). left (branches_uses w vs sc r) (subst (λ (y : Syntax.Branch). In k (branch_uses w vs sc y)) e l))
      (λ (j : In x (branches_of r)). right (branch_uses w vs sc b) (in-branches r sc j l)) (cases i)

  in_sum : {k : ℕ} {x : Syntax.Branch} (s : Syntax.Sum) (sc : Scope) → In x (branches_in s) → In k (branch_uses w vs sc x) → In k (sum_uses w vs sc s)
  unfolding branches_in sum_uses
  in_sum (Syntax.sum n b) sc i l = in-branches b sc i l

  in-conts : {k : ℕ} {x : Syntax.Cont} (c : Syntax.Conts) (sc : Scope) → In x (items_of c) → In k (cont_uses w vs sc x) → In k (conts_uses w vs sc c)
  unfolding items_of conts_uses
  in-conts {k} (Syntax.last_cont c) sc i l = subst (λ (y : Syntax.Cont). In k (cont_uses w vs sc y)) (eq_of_singleton i) l
  in-conts {k} {x} (Syntax.next_cont c r) sc i l =
      ⊎_elim (λ (e : x ≡ c). left (conts_uses w vs sc r) (subst (λ (y : Syntax.Cont). In k (cont_uses w vs sc y)) e l))
      (λ (j : In x (items_of r)). right (cont_uses w vs sc c) (in-conts r sc j l)) (cases i)

  in-cont : {k : ℕ} {x c : Syntax.Cont} (sc : Scope) → Holds x c → In k (cont_uses w vs sc x) → In k (cont_uses w vs sc c)
  unfolding cont_uses
  in-cont sc (itself e) l = rw e l
  in-cont sc (grouped {cs = g} i h) l = in-conts g sc i (in-cont sc h l)

  in-sums : {k : ℕ} {x : Syntax.Sum} (s : Syntax.Sums) (sc : Scope) → In x (sums_of s) → In k (sum_uses w vs sc x) → In k (sums_uses w vs sc s)
  unfolding sums_of sums_uses
  in-sums {k} (Syntax.last_sum s) sc i l = subst (λ (y : Syntax.Sum). In k (sum_uses w vs sc y)) (eq_of_singleton i) l
  in-sums {k} {x} (Syntax.next_sum s r) sc i l =
      ⊎_elim (λ (e : x ≡ s). left (sums_uses w vs sc r) (subst (λ (y : Syntax.Sum). In k (sum_uses w vs sc y)) e l))
      (λ (j : In x (sums_of r)). right (sum_uses w vs sc s) (in-sums r sc j l)) (cases i)

  in-next : {k : ℕ} {x c : Syntax.Cont} (sc : Scope) (j : ℕ) (g : Syntax.Gate) (a : Syntax.Action) (r : Syntax.Rate) → Holds x c → In k (cont_uses w vs (sc ++ bindings a) x) → In k (branch_uses w vs sc (Syntax.branch j g a r (Syntax.dot c)))
  unfolding branch_uses
  in-next sc j g a r h l = right (action_use w vs sc a) (in-cont (sc ++ bindings a) h l)

  module _ (m : Syntax.Model) where
    abbrev uses : List ℕ
    uses = each (definition_uses w vs) (definitions m)

    sum-used : {sc : Scope} {s : Syntax.Sum} (k : ℕ) → SumIn m sc s → In k (sum_uses w vs sc s) → In k uses
    unfolding definition_uses cont_uses
    sum-used k (defined {d = d} i j) l = each_in (definition_uses w vs) (definitions m) i (in-sums d.sums d.params j l)
    sum-used k (continued {sc = sc} {s = s} {k = j} {g = g} {a = a} {r = r} h i q) l = sum-used k h (in_sum s sc i (in-next sc j g a r q l))

    pub branch-used : {sc : Scope} {i j : ℕ} {g : Syntax.Gate} {a : Syntax.Action} {r : Syntax.Rate} {n : Syntax.Next} (k : ℕ) → BranchIn m sc i (Syntax.branch j g a r n) → In k (action_use w vs sc a) → In k uses
    unfolding branch_uses
    branch-used {sc} {i} k h l = sum-used k h.stands (in_sum h.sum sc (got_in (branches_in h.sum) i h.place) (left _ l))

  -- ---- each use has its name among the first ones

  stays : {j : ℕ} (seen ks : List ℕ) → In j seen → In j (firsts w vs seen ks)
  unfolding firsts
  stays seen [] i = i
  stays {j} seen (k ∷ ks) i = by _ (stays seen ks i) (stays (seen ++ k ∷ []) ks (left (k ∷ []) i))
    where
      by : (b : Bool) → In j (firsts w vs seen ks) → In j (firsts w vs (seen ++ k ∷ []) ks) → In j (cond b (firsts w vs seen ks) (firsts w vs (seen ++ k ∷ []) ks))
      by true p q = p
      by false p q = q

  -- js has a use with k's name
  abbrev Met : List ℕ → ℕ → Type 0
  Met js k = (j : ℕ) × In j js × (w k ≡ w j)

  pub first_of : {k : ℕ} (seen ks : List ℕ) → In k ks → Met (firsts w vs seen ks) k
  unfolding firsts
  first_of seen [] i = absurd (nowhere i)
  first_of {k} seen (x ∷ ks) i = by _ _ refl (λ j l. search (left ks l, right seen l)) (λ (y : ℕ) (l : In y ks). first_of seen ks l) (λ (l : In k ks). first_of (seen ++ x ∷ []) ks l) (cases i)
    where
      -- x is seen, or used later
      known : {j : ℕ} → In j seen ⊎ In j ks → ((y : ℕ) → In y ks → Met (firsts w vs seen ks) y) → Met (firsts w vs seen ks) j
      known {j} (inl l) p = (j, stays seen ks l, refl)
      known {j} (inr l) p = p j l

      by : (b : Bool) (js : List ℕ) → any (same w x) js ≡ b → ((j : ℕ) → In j js → In j (seen ++ ks)) → ((y : ℕ) → In y ks → Met (firsts w vs seen ks) y)
          → (In k ks → Met (firsts w vs (seen ++ x ∷ []) ks) k) → (k ≡ x) ⊎ In k ks → Met (cond b (firsts w vs seen ks) (firsts w vs (seen ++ x ∷ []) ks)) k
      by true js e h p q (inl d) =
          let s = any-in (same w x) js e in
          let r = known (append_cases seen (h s.0 s.1)) p in
          (r.0, r.1, ap w d ∙ same_bytes_lem w x s.0 s.2 ∙ r.2)
      by true js e h p q (inr l) = p k l
      by false js e h p q (inl d) = (x, stays (seen ++ x ∷ []) ks (right seen (head refl)), ap w d)
      by false js e h p q (inr l) = q l

  -- so its number is below how many there are
  pub numbered_below : (k : ℕ) (ds : List Definition) → In k (each (definition_uses w vs) ds) → or_zero (place_in w k 0 (channel_names w vs ds)) < length (channel_names w vs ds)
  unfolding channel_names or_zero
  numbered_below k ds i =
      let f = first_of [] (each (definition_uses w vs) ds) i in
      by (channel_names w vs ds) f.0 f.1 f.2 (place_in w k 0 (channel_names w vs ds)) (placed w k 0 (channel_names w vs ds))
    where
      by : (cs : List ℕ) (j : ℕ) → In j cs → w k ≡ w j → (o : Option ℕ) → Placed w k cs 0 o → or_zero o < length cs
      by cs j l e o (found q g h) = let b = got-below cs q g in omega arith
      by cs j l e o (absent h) = absurd (h j l e)
