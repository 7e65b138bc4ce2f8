-- Question 12 finds no branch exactly when all have their values, and else the first, by place and then branch, that lacks one. By induction on branches and processes.
use mathlib.Core.Path.{◌≡◌, refl, ap}
use mathlib.Core.List.{List, [], ◌∷◌}
use mathlib.Core.Bool.{cond}
use mathlib.Core.Logic.{◌↔◌, ◌⊎◌, inl, inr, ⊎_elim}
use mathlib.Core.Option.{Option, none, some, Option-elim, some-injective}
use Prim.Native.Nat.{ℕ, zero, suc, ◌+◌, ◌≤◌, ◌<◌}
use native.Mathlib.Omega.{arith}
use lib.IntN.{ℤ}
use Rattle.model.specs.Resolved
use Rattle.rules.specs.Offers as offers
use Rattle.rules.specs.Rules.{Nth, first, later}
use Rattle.machine.specs.Evaluate.{eval_branch}
use Rattle.machine.specs.Offer.{Process, branches_of, is_none, missing_branch, missing}
use Rattle.machine.specs.Questions.{Evaluated, Lacks, FirstLacking}
use Rattle.machine.proofs.Branches.{none-not-some}

-- ---- branches

-- branch n is the first of a list that lacks a value
record FirstBranch (ls : List ℤ) (bs : List Resolved.Branch) (n : ℕ) : Type 0 where
  branch : Resolved.Branch
  at : Nth bs n branch
  lacks : eval_branch ls branch ≡ none
  none_before : (k : ℕ) (b : Resolved.Branch) → Nth bs k b → eval_branch ls b ≡ none → n ≤ k

-- no branch of a list lacks a value
abbrev Full : List ℤ → List Resolved.Branch → Type 0
Full ls bs = (k : ℕ) (b : Resolved.Branch) → Nth bs k b → (g : offers.Guard) × (eval_branch ls b ≡ some g)

-- what the search among branches, counted from j on, can find
data Branches (ls : List ℤ) (j : ℕ) (bs : List Resolved.Branch) : Option ℕ → Type 0 where
  full : Full ls bs → Branches ls j bs none
  lacking : {k n : ℕ} → FirstBranch ls bs n → k ≡ j + n → Branches ls j bs (some k)

branches-found : (ls : List ℤ) (j : ℕ) (bs : List Resolved.Branch) → Branches ls j bs (missing_branch ls j bs)
unfolding missing_branch is_none
branches-found ls j [] = full (λ k b h. elim h [ ])
branches-found ls j (b ∷ bs) = go (eval_branch ls b) refl (branches-found ls (suc j) bs)
  where
    here : eval_branch ls b ≡ none → FirstBranch ls (b ∷ bs) 0
    here e = record { branch = b; at = first; lacks = e; none_before = λ k c h l. omega arith }

    still : {g : offers.Guard} → eval_branch ls b ≡ some g → Full ls bs → Full ls (b ∷ bs)
    still {g} e f zero c first = (g, e)
    still e f (suc k) c (later h) = f k c h

    apart : {g : offers.Guard} → eval_branch ls b ≡ some g → (n : ℕ) → FirstBranch ls bs n
        → (k : ℕ) (c : Resolved.Branch) → Nth (b ∷ bs) k c → eval_branch ls c ≡ none → suc n ≤ k
    apart {g} e n f zero c first l = none-not-some (eval_branch ls b) g l e
    apart e n f (suc k) c (later h) l = omega (arith, f.none_before k c h l)

    there : {g : offers.Guard} → eval_branch ls b ≡ some g → (n : ℕ) → FirstBranch ls bs n → FirstBranch ls (b ∷ bs) (suc n)
    there e n f = record { branch = f.branch; at = later f.at; lacks = f.lacks; none_before = apart e n f }

    next : {g : offers.Guard} → eval_branch ls b ≡ some g → {o : Option ℕ} → Branches ls (suc j) bs o → Branches ls j (b ∷ bs) o
    next e (full f) = full (still e f)
    next e (lacking {k = k} {n = n} f q) = lacking {k = k} (there e n f) (omega arith)

    go : (o : Option offers.Guard) → eval_branch ls b ≡ o → Branches ls (suc j) bs (missing_branch ls (suc j) bs)
        → Branches ls j (b ∷ bs) (cond (is_none o) (some j) (missing_branch ls (suc j) bs))
    go none e r = lacking {k = j} (here e) (omega arith)
    go (some g) e r = next e r

-- ---- processes

-- what the search among processes, counted from place i on, can find
data Processes (m : Resolved.Model) (i : ℕ) (ps : List Process) : Option (ℕ × ℕ) → Type 0 where
  full : Evaluated m ps → Processes m i ps none
  lacking : {h k j : ℕ} → FirstLacking m ps k j → h ≡ i + k → Processes m i ps (some (h, j))

module _ (m : Resolved.Model) where
  none-evaluated : Evaluated m []
  none-evaluated = record { guard = λ h. elim h.place [ ] }

  module _ (p : Process) (ps : List Process) where
    here : {n : ℕ} → FirstBranch p.locals (branches_of m p) n → FirstLacking m (p ∷ ps) 0 n
    here {n} f = record {
      lacking = record { process = p; branch = f.branch; at = record { place = first; branch = f.at }; lacks = f.lacks };
      none_before = λ k j l. before l.at.place l.at.branch l.lacks;
    }
      where
        before : {k j : ℕ} {q : Process} {b : Resolved.Branch}
            → Nth (p ∷ ps) k q → Nth (branches_of m q) j b → eval_branch q.locals b ≡ none → (0 < k) ⊎ ((0 ≡ k) × (n ≤ j))
        before first h l = inr (refl, f.none_before _ _ h l)
        before (later g) h l = inl (omega arith)

    later-lacks : {i j : ℕ} → Lacks m ps i j → Lacks m (p ∷ ps) (suc i) j
    later-lacks l = record { process = l.process; branch = l.branch; at = record { place = later l.at.place; branch = l.at.branch }; lacks = l.lacks }

    module _ (f : Full p.locals (branches_of m p)) where
      still : Evaluated m ps → Evaluated m (p ∷ ps)
      still e = record { guard = λ h. go h.place h.branch }
        where
          go : {i j : ℕ} {q : Process} {b : Resolved.Branch} → Nth (p ∷ ps) i q → Nth (branches_of m q) j b → (g : offers.Guard) × (eval_branch q.locals b ≡ some g)
          go first h = f _ _ h
          go (later g) h = e.guard (record { place = g; branch = h })

      there : {i j : ℕ} → FirstLacking m ps i j → FirstLacking m (p ∷ ps) (suc i) j
      there {i} {j} e = record {
        lacking = later-lacks e.lacking;
        none_before = λ k n l. before l.at.place l.at.branch l.lacks;
      }
        where
          before : {k n : ℕ} {q : Process} {b : Resolved.Branch}
              → Nth (p ∷ ps) k q → Nth (branches_of m q) n b → eval_branch q.locals b ≡ none → (suc i < k) ⊎ ((suc i ≡ k) × (j ≤ n))
          before first h l = let r = f _ _ h in none-not-some _ r.0 l r.1
          before (later g) h l =
              ⊎_elim (λ t. inl (omega arith)) (λ t. inr (omega arith, t.1))
              (e.none_before _ _ (record { process = _; branch = _; at = record { place = g; branch = h }; lacks = l }))

  searched : (i : ℕ) (ps : List Process) → Processes m i ps (missing m i ps)
  unfolding missing Option-elim
  searched i [] = full none-evaluated
  searched i (p ∷ ps) = go (branches-found p.locals 0 (branches_of m p)) (searched (suc i) ps)
    where
      next : Full p.locals (branches_of m p) → {o : Option (ℕ × ℕ)} → Processes m (suc i) ps o → Processes m i (p ∷ ps) o
      next f (full e) = full (still p ps f e)
      next f (lacking {h = h} e q) = lacking {h = h} (there p ps f e) (omega arith)

      go : {o : Option ℕ} → Branches p.locals 0 (branches_of m p) o → Processes m (suc i) ps (missing m (suc i) ps)
          → Processes m i (p ∷ ps) (Option-elim o (missing m (suc i) ps) (λ j. some (i, j)))
      go (full f) r = next f r
      go (lacking {k = k} {n = n} f q) r = let e : n ≡ k = omega arith in lacking {h = i} (here p ps (rw e at f)) (omega arith)

  -- ---- what question 12 answers
  module _ (ps : List Process) where
    -- a first branch that lacks a value is the only first one
    first-once : {i j k n : ℕ} → FirstLacking m ps i j → FirstLacking m ps k n → (i ≡ k) × (j ≡ n)
    first-once {i} {j} {k} {n} e f = go (e.none_before k n f.lacking) (f.none_before i j e.lacking)
      where
        go : (i < k) ⊎ ((i ≡ k) × (j ≤ n)) → (k < i) ⊎ ((k ≡ i) × (n ≤ j)) → (i ≡ k) × (j ≡ n)
        go (inl a) (inl b) = absurd (omega arith)
        go (inl a) (inr b) = absurd (omega arith)
        go (inr a) (inl b) = absurd (omega arith)
        go (inr a) (inr b) = (omega arith, omega arith)

    apart : {i j : ℕ} {B : Type 0} → Evaluated m ps → FirstLacking m ps i j → B
    apart e f = let r = e.guard f.lacking.at in none-not-some _ r.0 f.lacking.lacks r.1

    -- nothing is found exactly when every branch of every process has its values
    pub nothing-lacks : (missing m 0 ps ≡ none) ↔ Evaluated m ps
    nothing-lacks = (out (searched 0 ps), back (searched 0 ps))
      where
        out : {o : Option (ℕ × ℕ)} → Processes m 0 ps o → o ≡ none → Evaluated m ps
        out (full e) q = e
        out (lacking f e) q = none-not-some _ _ q refl

        back : {o : Option (ℕ × ℕ)} → Processes m 0 ps o → Evaluated m ps → o ≡ none
        back (full e) f = refl
        back (lacking f e) g = apart g f

    -- what is found is the first branch that lacks a value
    pub first-lacks : (i j : ℕ) → (missing m 0 ps ≡ some (i, j)) ↔ FirstLacking m ps i j
    first-lacks i j = (out (searched 0 ps), back (searched 0 ps))
      where
        out : {o : Option (ℕ × ℕ)} → Processes m 0 ps o → o ≡ some (i, j) → FirstLacking m ps i j
        out (full e) q = none-not-some _ _ refl q
        out (lacking {h = h} {k = k} {j = n} f e) q =
            let a : k ≡ i = omega (arith, ap (λ (t : ℕ × ℕ). t.0) (some-injective _ _ q)) in
            let b : n ≡ j = ap (λ (t : ℕ × ℕ). t.1) (some-injective _ _ q) in
            rw (← a, ← b) f

        back : {o : Option (ℕ × ℕ)} → Processes m 0 ps o → FirstLacking m ps i j → o ≡ some (i, j)
        back (full e) f = apart e f
        back (lacking {h = h} {k = k} {j = n} f e) g = let r = first-once f g in let a : h ≡ i = omega arith in rw (a, r.1)
