-- A text without offenders, in which every call is given, has a steady model: each of its continuations has one part at most, and calls definitions with one sum at most.
-- From where the sums of a resolved model stand in the text.
use mathlib.Core.Path.{◌≡◌, refl, sym, ap, subst, ◌∙◌}
use mathlib.Core.List.Memᴰ.{head}
use mathlib.Core.List.Memᴰ.{tail}
use mathlib.Core.List.{List, [], ◌∷◌, ◌++◌, Memᴰ as In}
use mathlib.Core.Option.{Option, some}
use Prim.Native.Nat.{ℕ, zero, suc, ◌+◌, ◌≤◌, ◌<◌}
use native.Mathlib.Decide.{dec_le}
use native.Mathlib.Omega.{arith}
use lib.ListN.{length, get_elem?}
use Rattle.grammar.specs.Grammar as derived
use Rattle.grammar.specs.Syntax
use Rattle.grammar.specs.Syntax.{syntax_of}
use Rattle.model.specs.Lists.{each}
use Rattle.model.specs.Sites.{Scope, bindings, Variable, Definition, variables, definitions}
use Rattle.model.specs.Good.{Every}
use Rattle.model.specs.Resolved
use Rattle.model.specs.Resolved.{channel_names, definition_number, sum_numbers, resolve_call, parts_of, parts_in, resolve_next, resolve_branch, resolve_branches, resolved}
use Rattle.model.specs.Opening.{sums_in}
use Rattle.model.specs.Stands.{branches_of, branches_in, items_of, sums_of, Holds, itself, grouped, SumIn, BranchIn, calling}
use Rattle.model.specs.Faults.{NotGiven, no_call}
use Rattle.model.proofs.Members.{never, got_in, in-got}
use Rattle.model.proofs.Meanings.{Defines, found, absent, defines}
use Rattle.model.proofs.Written.{sum_is}
use Rattle.profile.specs.Unsteady.{Follows, Offends, grouping}
use Rattle.profile.specs.Unsteady as offends
use Rattle.profile.specs.Steady.{OneProcess, SteadyNext, SteadySum, Steady}

-- ---- lists

every-at : {A : Type 0} (P : A → Type 0) (xs : List A) → ((i : ℕ) (x : A) → get_elem? xs i ≡ some x → P x) → Every P xs
unfolding Every
every-at P [] f = tt
every-at P (x ∷ xs) f = (f 0 x refl, every-at P xs (λ i y e. f (suc i) y e))

at_most_one : (n : ℕ) → (1 < n → ⊥) → n ≤ 1
at_most_one n h = by (dec_le n 1)
  where
    by : Dec (n ≤ 1) → n ≤ 1
    by (yes l) = l
    by (no l) = absurd (h (omega arith))

-- a definition's sums, by their numbers
as_many : (ss : Syntax.Sums) → length (sum_numbers ss) ≡ length (sums_of ss)
unfolding sum_numbers sums_of
as_many (Syntax.last_sum s) = refl
as_many (Syntax.next_sum s r) = ap suc (as_many r)

sums-of : (ds : List Definition) (q : ℕ) {d : Definition} → get_elem? ds q ≡ some d → sums_in (each (λ e. Resolved.defined e ∷ []) ds) q ≡ length (sums_of d.sums)
unfolding sums_in each Resolved.defined
sums-of [] q e = never e
sums-of (x ∷ ds) zero {d} e = let f : x ≡ d = cc in as_many x.sums ∙ ap (λ (y : Definition). length (sums_of y.sums)) f
sums-of (x ∷ ds) (suc q) e = sums-of ds q e

some-items : (cs : Syntax.Conts) → 1 ≤ length (items_of cs)
unfolding items_of
some-items (Syntax.last_cont c) = omega arith
some-items (Syntax.next_cont c r) = omega arith

module _ (w : ℕ → List ℕ) (t : derived.Model) (steady : (k : ℕ) → Offends w (syntax_of t) k → ⊥) (given : (k : ℕ) → NotGiven w (syntax_of t) k → ⊥) where
  abbrev m : Syntax.Model
  m = syntax_of t

  abbrev vs : List Variable
  vs = variables m

  abbrev ds : List Definition
  ds = definitions m

  abbrev cs : List ℕ
  cs = channel_names w vs ds

  abbrev model : Resolved.Model
  model = resolved w m

  -- ---- a continuation

  -- a call that follows a prefix is given, and of a definition with one sum at most
  call-one : {k : ℕ} {es : Syntax.Args} (o : Option (ℕ × Definition)) → Follows m (Syntax.call k es) → (((d : Definition) → In d ds → w k ≡ w d.name → ⊥) → ⊥) → Defines w k ds 0 o → sums_in model.definitions (definition_number o) ≤ 1
  unfolding resolved definition_number
  call-one o f g (found {d = d} q e same) =
      let l = at_most_one (length (sums_of d.sums)) (λ h. steady _ (offends.calling f (got_in ds q e) same h)) in
      let n : 0 + q ≡ q = omega arith in
      subst (λ (n : ℕ). sums_in model.definitions n ≤ 1) (sym n) (subst (λ (n : ℕ). n ≤ 1) (sym (sums-of ds q e)) l)
  call-one o f g (absent h) = absurd (g h)

  -- each call in it is given
  abbrev Given : Syntax.Cont → Type 0
  Given c = (k : ℕ) (es : Syntax.Args) → Holds (Syntax.call k es) c → ((d : Definition) → In d ds → w k ≡ w d.name → ⊥) → ⊥

  mutual
    unfolding parts_of parts_in resolve_call OneProcess Every items_of

    cont-steady : (c : Syntax.Cont) (sc : Scope) → ((x : Syntax.Cont) → Holds x c → Follows m x) → Given c → SteadyNext model (parts_of w vs ds cs sc c)
    cont-steady (Syntax.proceed s) sc f g = record { few = omega arith; parts = (tt, tt) }
    cont-steady (Syntax.call k es) sc f g =
        record { few = omega arith; parts = (call-one _ (f (Syntax.call k es) (itself refl)) (g k es (itself refl)) (defines w k 0 ds), tt) }
    cont-steady (Syntax.group k c) sc f g = conts-steady c k sc f g

    conts-steady : (c : Syntax.Conts) (k : ℕ) (sc : Scope) → ((x : Syntax.Cont) → Holds x (Syntax.group k c) → Follows m x) → Given (Syntax.group k c) → SteadyNext model (parts_in w vs ds cs sc c)
    conts-steady (Syntax.last_cont c) k sc f g = cont-steady c sc (λ x h. f x (grouped (head refl) h)) (λ j es h. g j es (grouped (head refl) h))
    conts-steady (Syntax.next_cont c r) k sc f g =
        absurd (steady k (grouping (f (Syntax.group k (Syntax.next_cont c r)) (itself refl)) (let l = some-items r in omega arith)))

  -- ---- a branch of a sum

  branch-steady : (b : Syntax.Branch) (sc : Scope) (i : ℕ) → BranchIn m sc i b → SteadyNext model (resolve_branch w vs ds cs sc b).next
  unfolding resolve_branch resolve_next Every
  branch-steady (Syntax.branch k g a r Syntax.stop) sc i h = record { few = omega arith; parts = tt }
  branch-steady (Syntax.branch k g a r (Syntax.dot c)) sc i h =
      cont-steady c (sc ++ bindings a)
      (λ x y. record { scope = sc; sum = h.sum; stands = h.stands; first = k; gate = g; action = a; rate = r; cont = c; branch = got_in (branches_in h.sum) i h.place; held = y })
      (λ j es y n. given j (no_call (calling h y) (λ d. n d.definition d.member (sym d.same))))

  branches-steady : (b : Syntax.Branches) (sc : Scope) → ((x : Syntax.Branch) → In x (branches_of b) → SteadyNext model (resolve_branch w vs ds cs sc x).next) → Every (λ (x : Resolved.Branch). SteadyNext model x.next) (resolve_branches w vs ds cs sc b)
  unfolding resolve_branches branches_of Every
  branches-steady (Syntax.last_branch b) sc f = (f b (head refl), tt)
  branches-steady (Syntax.next_branch b r) sc f = (f b (head refl), branches-steady r sc (λ x i. f x (tail i)))

  sum-steady : (b : Syntax.Branches) (k : ℕ) (sc : Scope) → SumIn m sc (Syntax.sum k b) → Every (λ (x : Resolved.Branch). SteadyNext model x.next) (resolve_branches w vs ds cs sc b)
  unfolding branches_in
  sum-steady b k sc h =
      branches-steady b sc (λ x i. let n = in-got (branches_of b) i in branch-steady x sc n.0 (record { sum = Syntax.sum k b; stands = h; place = n.1 }))

  -- 02, note 11: the text's model is steady
  pub resolved-steady : Steady model
  unfolding Steady
  resolved-steady =
      every-at (SteadySum model) model.sums (λ k x e.
      let s = sum_is w t k x e in
      subst (λ (bs : List Resolved.Branch). Every (λ (b : Resolved.Branch). SteadyNext model b.next) bs) (sym s.branches) (sum-steady s.tree k s.scope s.stands))
