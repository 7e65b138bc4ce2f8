-- Question 17 asks of an entry whether every argument of every call of the continuations that it enters has a value: by cases of calls, and of the rules that give the entry.
use mathlib.Core.Path.{◌≡◌, refl, sym, ap, ◌∙◌}
use mathlib.Core.List.Memᴰ
use mathlib.Core.List.{List, [], ◌∷◌, ◌++◌, append-nil, Memᴰ as In}
use mathlib.Core.Bool.{Bool, true, false, ◌&&◌}
use mathlib.Core.Logic.{⊎_elim}
use mathlib.Core.Option.{some, Option-elim}
use Prim.Native.Nat.{ℕ}
use native.Mathlib.Omega.{arith}
use lib.IntN.{ℤ}
use Rattle.std.specs.Prelude.{None, Some}
use Rattle.value.specs.Range.{Value}
use Rattle.value.proofs.Kit.{true-not-false, false-not-true}
use Rattle.model.specs.Resolved
use Rattle.rules.specs.Offers as offers
use Rattle.rules.specs.Rules.{Change, unchanged, label, plain, Offered, takes, takes_bind, rule18, Alone, Key, key, Moves, alone, together}
use Rattle.rules.specs.Kind as kind
use Rattle.rules.specs.Step.{bound_by, sent_by, on_action}
use Rattle.rules.proofs.Decides.{Decides, holds, fails, on, passes, along}
use Rattle.rules.proofs.Places.{Accepts, unbound, bound, acting, meeting, branching}
use Rattle.rules.proofs.Moved.{offered-bound, offered-sent, no-handshake}
use Rattle.machine.specs.Evaluate.{eval_expr, eval_branch}
use Rattle.machine.specs.Offer.{Process, branches, offered, is_value, all_values, arguments_given}
use Rattle.machine.specs.State.{State}
use Rattle.machine.specs.Machine.{branch_arguments, on_guard, entry_arguments}
use Rattle.machine.specs.Questions as questions
use Rattle.machine.specs.Questions.{BranchAt, Enters, Given, AllGiven}
use Rattle.machine.proofs.Branches.{nth-map, nth-get, guard-is, Writes, writes}

-- ---- calls
-- every expression of a list has a value
abbrev Valued : List ℤ → List Resolved.Expr → Type 0
Valued ls es = (e : Resolved.Expr) → In e es → (z : ℤ) × (eval_expr ls e ≡ Some z)

all-valued : (ls : List ℤ) (es : List Resolved.Expr) → Decides (Valued ls es) (all_values ls es)
unfolding all_values is_value
all-valued ls [] = holds (λ e i. absurd (Memᴰ.not-nil i))
all-valued ls (e ∷ es) = go (eval_expr ls e) refl (all-valued ls es)
  where
    both : {z : ℤ} → eval_expr ls e ≡ Some z → Valued ls es → Valued ls (e ∷ es)
    both {z} q f d i = ⊎_elim (λ r. (z, rw r q)) (f d) (Memᴰ.cases_cons i)

    go : (v : Value) → eval_expr ls e ≡ v → {b : Bool} → Decides (Valued ls es) b → Decides (Valued ls (e ∷ es)) (is_value v && b)
    go (Some z) q d = along (both q) (λ f x i. f x (In.tail i)) d
    go None q d = fails (λ f. let r = f e (In.head refl) in let n : ◌≡◌ {A = ℕ} 0 1 = cc (q, r.1) in omega arith)

calls-given : (ls : List ℤ) (xs : List Resolved.Part) → Decides (Given ls xs) (arguments_given ls xs)
unfolding arguments_given
calls-given ls [] = holds (record { value = λ i j. absurd (Memᴰ.not-nil i) })
calls-given ls (Resolved.enter n ∷ xs) = along over back (calls-given ls xs)
  where
    over : Given ls xs → Given ls (Resolved.enter n ∷ xs)
    over g = record { value = λ i j. ⊎_elim (λ e. let z : ◌≡◌ {A = ℕ} 0 1 = cc in absurd (omega arith)) (λ h. g.value h j) (Memᴰ.cases_cons i) }

    back : Given ls (Resolved.enter n ∷ xs) → Given ls xs
    back g = record { value = λ i j. g.value (In.tail i) j }
calls-given ls (Resolved.call d es ∷ xs) = go (all-valued ls es) (calls-given ls xs)
  where
    over : Valued ls es → Given ls xs → Given ls (Resolved.call d es ∷ xs)
    over f g = record { value = λ {d} {es = fs} {e} i j. ⊎_elim (λ q. let r : fs ≡ es = cc in f e (rw r at j)) (λ h. g.value h j) (Memᴰ.cases_cons i) }

    back : Given ls (Resolved.call d es ∷ xs) → Given ls xs
    back g = record { value = λ i j. g.value (In.tail i) j }

    front : Given ls (Resolved.call d es ∷ xs) → Valued ls es
    front g e j = g.value (In.head refl) j

    go : {a b : Bool} → Decides (Valued ls es) a → Decides (Given ls xs) b → Decides (Given ls (Resolved.call d es ∷ xs)) (a && b)
    go (holds f) d = along (over f) back d
    go (fails f) (holds g) = fails (λ h. f (front h))
    go (fails f) (fails g) = fails (λ h. f (front h))

-- ---- what names take
receiver-binds : {lit : List offers.Pair} {g : offers.Guard} {w : offers.Query} {r q : ℕ} {n : Change} {vs : List ℤ} (us : List ℤ)
    → Offered lit g (label (offers.take w) r q n vs) → on_action [] (bound_by us) g ≡ []
unfolding on_action bound_by
receiver-binds us takes = refl
receiver-binds us (rule18 f) = receiver-binds us f

binder-binds : {lit : List offers.Pair} {g : offers.Guard} {w : offers.Query} {r q : ℕ} {n : Change} {vs : List ℤ} (us : List ℤ)
    → Offered lit g (label (offers.take_bind w) r q n vs) → on_action [] (bound_by us) g ≡ us
unfolding on_action bound_by
binder-binds us (takes_bind x h e) = refl
binder-binds us (rule18 f) = binder-binds us f

both_true : (a b : Bool) → a && b ≡ true → (a ≡ true) × (b ≡ true)
both_true true b e = (refl, e)
both_true false b e = false-not-true e

module _ (m : Resolved.Model) (s : State) where
  branch-arguments : {i j : ℕ} {p : Process} {b : Resolved.Branch} (vs : List ℤ)
      → BranchAt m s.processes i j p b → branch_arguments m s i j vs ≡ arguments_given (p.locals ++ vs) b.next
  unfolding branch_arguments Option-elim
  branch-arguments vs h = rw (nth-get h.place, nth-get h.branch)

  on-guard : {i j : ℕ} {p : Process} {b : Resolved.Branch} {g : offers.Guard} (f : offers.Action → List ℤ)
      → BranchAt m s.processes i j p b → eval_branch p.locals b ≡ some g → on_guard m s i j f ≡ on_action [] f g
  unfolding on_guard branches Option-elim
  on-guard {p = p} {b = b} f h e = rw (nth-get h.place, nth-get (nth-map (offered m p.locals) h.branch), guard-is m p.locals b e)

  -- ---- the function at each continuation
  alone-arguments : {a : offers.Action} {c i j r q : ℕ} {n : Change} {vs : List ℤ} {p : Process} {b : Resolved.Branch} {g : offers.Guard}
      → Alone a c → BranchAt m s.processes i j p b → eval_branch p.locals b ≡ some g → Offered s.pairs g (label a r q n vs)
      → entry_arguments m s (key c i j 0 0 q) ≡ arguments_given (p.locals ++ vs) b.next
  unfolding entry_arguments
  alone-arguments {vs = vs} c h e f = rw (no-handshake c, on-guard _ h e, offered-bound f c) (branch-arguments vs h)

  unbound-arguments : {i j : ℕ} {p : Process} {b : Resolved.Branch} → BranchAt m s.processes i j p b → branch_arguments m s i j [] ≡ arguments_given p.locals b.next
  unbound-arguments {p = p} {b = b} h = branch-arguments [] h ∙ ap (λ (ls : List ℤ). arguments_given ls b.next) (append-nil p.locals)

  -- of a handshake's receiver, whatever is sent
  received : ℕ → ℕ → List ℤ → Bool
  received k n us = branch_arguments m s k n (on_guard m s k n (bound_by us))

  receiver-arguments : {k n : ℕ} {p : Process} {b : Resolved.Branch} {g : offers.Guard} {w : offers.Query} {r : ℕ} (us : List ℤ)
      → BranchAt m s.processes k n p b → eval_branch p.locals b ≡ some g → Offered s.pairs g (plain (offers.take w) r)
      → received k n us ≡ arguments_given p.locals b.next
  unfolding received
  receiver-arguments us h e f = rw (on-guard (bound_by us) h e, receiver-binds us f) (unbound-arguments h)

  binder-arguments : {k n : ℕ} {p : Process} {b : Resolved.Branch} {g : offers.Guard} {w : offers.Query} {r : ℕ} {vs : List ℤ} (us : List ℤ)
      → BranchAt m s.processes k n p b → eval_branch p.locals b ≡ some g → Offered s.pairs g (label (offers.take_bind w) r 0 unchanged vs)
      → received k n us ≡ arguments_given (p.locals ++ us) b.next
  unfolding received
  binder-arguments us h e f = rw (on-guard (bound_by us) h e, binder-binds us f) (branch-arguments us h)

  sent : {i j : ℕ} {p : Process} {b : Resolved.Branch} {g : offers.Guard} {x : offers.Pair} {r : ℕ}
      → BranchAt m s.processes i j p b → eval_branch p.locals b ≡ some g → Offered s.pairs g (plain (offers.send x) r) → on_guard m s i j sent_by ≡ x.values
  sent h e f = on-guard sent_by h e ∙ offered-sent f

  two-arguments : (i j k n : ℕ) → entry_arguments m s (key kind.handshake i j k n 0) ≡ branch_arguments m s i j [] && received k n (on_guard m s i j sent_by)
  unfolding entry_arguments received
  two-arguments i j k n = refl

  -- ---- from the function to the question
  two-given : (i j k n : ℕ) → entry_arguments m s (key kind.handshake i j k n 0) ≡ true
      → (branch_arguments m s i j [] ≡ true) × (received k n (on_guard m s i j sent_by) ≡ true)
  two-given i j k n q = both_true (branch_arguments m s i j []) (received k n (on_guard m s i j sent_by)) (sym (two-arguments i j k n) ∙ q)

  enters-given : {k : Key} {i : ℕ} {ls : List ℤ} {xs : List Resolved.Part} → Enters m s k i ls xs → entry_arguments m s k ≡ true → Given ls xs
  enters-given (questions.alone c h e f) q = on (calls-given _ _) (sym (alone-arguments c h e f) ∙ q)
  enters-given (questions.sender {i = i} {j = j} {k = k} {n = n} h) q = on (calls-given _ _) (sym (unbound-arguments h) ∙ (two-given i j k n q).0)
  enters-given (questions.receiver {i = i} {j = j} {k = k} {n = n} h e f) q =
      on (calls-given _ _) (sym (receiver-arguments (on_guard m s i j sent_by) h e f) ∙ (two-given i j k n q).1)
  enters-given (questions.binder {i = i} {j = j} {k = k} {n = n} {x = x} h e f h' e' f') q =
      on (calls-given _ _) (sym (ap (received k n) (sent h e f) ∙ binder-arguments x.values h' e' f') ∙ (two-given i j k n q).1)

  -- ---- and back, for an entry that the rules derive
  -- of a handshake's receiver, by what it does
  received-given : {i j k n r₁ r₂ : ℕ} {p p' : Process} {a a' : offers.Branch Process} {x : offers.Pair} {act : offers.Action} {vs : List ℤ}
      → Accepts x act vs → Writes m s.pairs s.processes i j p a (plain (offers.send x) r₁) → Writes m s.pairs s.processes k n p' a' (label act r₂ 0 unchanged vs)
      → AllGiven m s (key kind.handshake i j k n 0) → received k n (on_guard m s i j sent_by) ≡ true
  received-given (unbound h) v w g =
      receiver-arguments _ w.at w.evaluates w.offered ∙ passes (calls-given _ _) (g.given (questions.receiver w.at w.evaluates w.offered))
  received-given {k = k} {n = n} {x = x} (bound h) v w g =
      ap (received k n) (sent v.at v.evaluates v.offered) ∙ binder-arguments x.values w.at w.evaluates w.offered
      ∙ passes (calls-given _ _) (g.given (questions.binder v.at v.evaluates v.offered w.at w.evaluates w.offered))

  given-arguments : {k : Key} {w : ℕ} {n : Change} {ps : List Process} → Moves (branches m) s k w n ps → AllGiven m s k → entry_arguments m s k ≡ true
  given-arguments (alone c a) g =
      let t = acting (branches m) s.pairs a in
      let b = branching t.chooses in
      let w = writes m t.at b.at b.offered in
      alone-arguments c w.at w.evaluates w.offered ∙ passes (calls-given _ _) (g.given (questions.alone c w.at w.evaluates w.offered))
  given-arguments (together {i = i} {j = j} {k = k} {m = n} h) g =
      let t = meeting (branches m) s.pairs h in
      let b = branching t.sender.chooses in
      let b' = branching t.receiver.chooses in
      let v = writes m t.sender.at b.at b.offered in
      let w = writes m t.receiver.at b'.at b'.offered in
      let p = unbound-arguments v.at ∙ passes (calls-given _ _) (g.given (questions.sender v.at)) in
      two-arguments i j k n ∙ rw (p, received-given t.accepts v w g)

  -- 17 is what the function answers of an entry that the rules derive
  pub arguments-asked : {k : Key} {w : ℕ} {n : Change} {ps : List Process} → Moves (branches m) s k w n ps → Decides (AllGiven m s k) (entry_arguments m s k)
  arguments-asked {k} d = go (entry_arguments m s k) refl
    where
      go : (b : Bool) → entry_arguments m s k ≡ b → Decides (AllGiven m s k) b
      go true e = holds (record { given = λ f. enters-given f e })
      go false e = fails (λ g. true-not-false (sym (given-arguments d g) ∙ e))
