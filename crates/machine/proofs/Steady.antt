-- In a steady model no entry that is taken raises the number of processes, so that 18 is never answered from a state with at most 256 (02, note 11). From what continuations
-- become, and how long the lists are that a step splices.
use mathlib.Core.Path.{◌≡◌, refl, sym, subst}
use mathlib.Core.List.{List, [], ◌∷◌, map}
use mathlib.Core.Bool.{Bool, true, false, cond}
use mathlib.Core.Option.{Option, none, some, Option-elim}
use Prim.Native.Nat.{ℕ, zero, suc, ◌≤◌}
use native.Mathlib.Omega.{arith}
use borrow.Author.Tests.{leb-false}
use lib.Dec.{eqb, leb}
use lib.IntN.{ℤ}
use lib.ListN.{length, get_elem?, length-append}
use Rattle.model.specs.Resolved
use Rattle.model.specs.Good.{Every}
use Rattle.model.specs.Opening.{process_limit}
use Rattle.profile.specs.Steady.{OneProcess, SteadyNext, SteadySum, Steady}
use Rattle.rules.specs.Offers as offers
use Rattle.rules.specs.Kind as kind
use Rattle.rules.specs.Rules.{Key, key}
use Rattle.rules.specs.Listing.{Entry, key_of}
use Rattle.rules.specs.Draw.{weights, total, chosen}
use Rattle.rules.specs.Step as steps
use Rattle.rules.specs.Step.{replace, replace_both}
use Rattle.machine.specs.Evaluate.{eval_expr}
use Rattle.machine.specs.Offer.{Process, or_zero, branches_of, process_at, called, part_processes, next_processes, offered, branches}
use Rattle.machine.specs.State.{State, pair_limit}
use Rattle.machine.specs.Machine.{listed_as, entry_arguments, entry_state, Turn, refusing, accepting, taken, drawn}
use Rattle.machine.proofs.Branches.{get_nth}
use Rattle.machine.proofs.Everys.{every-nth, every_map}
use Rattle.machine.proofs.Stays.{sums-in}

-- ---- lists that are spliced

-- one process at most in the place of one
replace-few : {A : Type 0} (i : ℕ) (ks ps : List A) → length ks ≤ 1 → length (replace i ks ps) ≤ length ps
unfolding replace
replace-few zero ks [] h = omega arith
replace-few zero ks (p ∷ ps) h = omega (arith, length-append ks ps)
replace-few (suc i) ks [] h = omega arith
replace-few (suc i) ks (p ∷ ps) h = let l = replace-few i ks ps h in omega arith

-- of a handshake twice
both-few : {A : Type 0} (i : ℕ) (ks : List A) (k : ℕ) (ls ps : List A) → length ks ≤ 1 → length ls ≤ 1 → length (replace_both i ks k ls ps) ≤ length ps
unfolding replace_both
both-few zero ks zero ls ps h g = omega arith
both-few zero ks (suc k) ls [] h g = omega arith
both-few zero ks (suc k) ls (p ∷ ps) h g = omega (arith, length-append ks (replace k ls ps), replace-few k ls ps g)
both-few (suc i) ks zero ls [] h g = omega arith
both-few (suc i) ks zero ls (p ∷ ps) h g = omega (arith, length-append ls (replace i ks ps), replace-few i ks ps h)
both-few (suc i) ks (suc k) ls [] h g = omega arith
both-few (suc i) ks (suc k) ls (p ∷ ps) h g = let l = both-few i ks k ls ps h g in omega arith

-- ---- turns of a state

-- no more processes afterwards; and not refused with 18 where there are at most 256
pub record Kept (s : State) (t : Turn State) : Type 0 where
  pub few : length t.machine.processes ≤ length s.processes
  pub not-eighteen : length s.processes ≤ process_limit → t.answer.number ≡ 18 → ⊥

-- ---- what a branch leaves

-- one process at most, whatever is bound
abbrev LeavesOne : offers.Branch Process → Type 0
LeavesOne b = (vs : List ℤ) → length (b.next vs) ≤ 1

module _ (m : Resolved.Model) (steady : Steady m) where
  part-one : (ls : List ℤ) (x : Resolved.Part) → OneProcess m x → length (part_processes m ls x) ≤ 1
  unfolding part_processes OneProcess called
  part-one ls (Resolved.enter n) h = omega arith
  part-one ls (Resolved.call d es) h = subst (λ (n : ℕ). n ≤ 1) (sym (sums-in (λ n. process_at m n (map (λ e. or_zero (eval_expr ls e)) es)) m.definitions d)) h

  next_one : (ls : List ℤ) (xs : List Resolved.Part) → SteadyNext m xs → length (next_processes m ls xs) ≤ 1
  unfolding next_processes Every
  next_one ls [] h = omega arith
  next_one ls (x ∷ []) h = omega (arith, length-append (part_processes m ls x) [], part-one ls x h.parts.0)
  next_one ls (x ∷ y ∷ xs) h = absurd (omega (arith, h.few))

  sum_one : (o : Option Resolved.Sum) → ((s : Resolved.Sum) → o ≡ some s → SteadySum m s) → Every (λ (b : Resolved.Branch). SteadyNext m b.next) (Option-elim o [] (λ s. s.branches))
  unfolding Option-elim Every
  sum_one none f = tt
  sum_one (some s) f = f s refl

  branches-one : (p : Process) → Every LeavesOne (branches m p)
  unfolding branches branches_of offered Steady
  branches-one p =
      every_map (λ (b : Resolved.Branch). SteadyNext m b.next) LeavesOne (offered m p.locals) (λ b h vs. next_one _ b.next h) (branches_of m p)
      (sum_one (get_elem? m.sums p.sum) (λ s e. every-nth (SteadySum m) steady (get_nth m.sums p.sum e)))

  -- ---- what an entry does

  module _ (s : State) where
    abbrev Few : steps.Outcome Process → Type 0
    Few o = length (steps.state_after s o).processes ≤ length s.processes

    at-few : (i j : ℕ) (f : offers.Branch Process → steps.Outcome Process) → ((b : offers.Branch Process) → LeavesOne b → Few (f b)) → Few (steps.at_branch (branches m) s i j f)
    unfolding steps.at_branch steps.state_after Option-elim
    at-few i j f h = by (get_elem? s.processes i)
      where
        at : (bs : List (offers.Branch Process)) → Every LeavesOne bs → (o : Option (offers.Branch Process)) → get_elem? bs j ≡ o → Few (Option-elim o steps.stays f)
        at bs e none g = omega arith
        at bs e (some b) g = h b (every-nth LeavesOne e (get_nth bs j g))

        by : (o : Option Process) → Few (Option-elim o steps.stays (λ p. Option-elim (get_elem? (branches m p) j) steps.stays f))
        by none = omega arith
        by (some p) = at (branches m p) (branches-one p) (get_elem? (branches m p) j) refl

    -- 02, note 11: an entry that is taken leaves no more processes than there were
    pub entry-few : (k : Key) → length (entry_state m s k).processes ≤ length s.processes
    unfolding entry_state steps.step steps.one_acts steps.both_act steps.state_after
    entry-few (key c i j k n q) =
        at-few i j _ (λ b h. by (eqb c kind.handshake) b h)
      where
        by : (t : Bool) (b : offers.Branch Process) → LeavesOne b → Few (cond t (steps.at_branch (branches m) s k n (λ b'. steps.both_act (branches m) s i k b b')) (steps.one_acts (branches m) s i q b))
        by true b h = at-few k n _ (λ b' g. both-few i (b.next []) k _ s.processes (h []) (g _))
        by false b h = replace-few i _ s.processes (h _)

    -- ---- 17 to 19 of it, and a draw

    refusing-kept : (es : List Entry) (n : ℕ) → (n ≡ 18 → ⊥) → Kept s (refusing s es n)
    unfolding listed_as
    refusing-kept es n h = record { few = omega arith; not-eighteen = λ l e. h e }

    pub taken-kept : (es : List Entry) (c : ℕ) (k : Key) → Kept s (taken m s es c k)
    unfolding taken listed_as
    taken-kept es c k = by (entry_arguments m s k) (leb (length (entry_state m s k).processes) process_limit) refl (leb (length (entry_state m s k).pairs) pair_limit)
      where
        by : (a b : Bool) → leb (length (entry_state m s k).processes) process_limit ≡ b → (d : Bool) → Kept s (cond a (cond b (cond d (accepting (entry_state m s k) es c) (refusing s es 19)) (refusing s es 18)) (refusing s es 17))
        by false b e d = refusing-kept es 17 (λ e. omega arith)
        by true true e true = record { few = entry-few k; not-eighteen = λ l e. omega arith }
        by true true e false = refusing-kept es 19 (λ e. omega arith)
        by true false e d = record { few = omega arith; not-eighteen = λ l f. omega (arith, leb-false (length (entry_state m s k).processes) process_limit e, entry-few k) }

    pub drawn-kept : (es : List Entry) (d : ℕ) → Kept s (drawn m s es d)
    unfolding drawn Option-elim
    drawn-kept es d = by (eqb (total (weights es)) 0) (chosen (weights es) d)
      where
        at : (c : ℕ) (o : Option Entry) → Kept s (Option-elim o (refusing s es 16) (λ e. taken m s es c (key_of e)))
        at c none = refusing-kept es 16 (λ e. omega arith)
        at c (some e) = taken-kept es c (key_of e)

        by : (b : Bool) (o : Option ℕ) → Kept s (cond b (refusing s es 15) (Option-elim o (refusing s es 16) (λ c. Option-elim (get_elem? es c) (refusing s es 16) (λ e. taken m s es c (key_of e)))))
        by true o = refusing-kept es 15 (λ e. omega arith)
        by false none = refusing-kept es 16 (λ e. omega arith)
        by false (some c) = at c (get_elem? es c)
