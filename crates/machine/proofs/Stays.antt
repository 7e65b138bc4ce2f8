-- In a good model the opened state is a state over the model, and an accepted step leads from one to another: processes by what continuations become, pairs by what is launched.
use mathlib.Core.Path.{◌≡◌, refl, sym, ap, subst, ◌∙◌}
use mathlib.Core.List.{List, [], ◌∷◌, ◌++◌, map}
use mathlib.Core.Logic.{⊎_elim}
use mathlib.Core.Option.{some, Option-elim}
use Prim.Native.Nat.{ℕ, zero, suc, ◌+◌, ◌*◌, ◌≤◌}
use native.Mathlib.Nat.{zero-mul, suc-mul}
use native.Mathlib.Omega.{arith}
use lib.IntN.{ℤ}
use lib.ListN.{length, get_elem?, length-append, length-map}
use Rattle.value.specs.Range.{InRange}
use Rattle.model.specs.Resolved
use Rattle.model.specs.Opening.{process_limit}
use Rattle.model.specs.Opening as opening
use Rattle.rules.specs.Offers as offers
use Rattle.rules.specs.Order.{Ascending}
use Rattle.rules.specs.Rules.{Change, unchanged, launched, killed, label, Key, Moves, alone, together}
use Rattle.rules.specs.Listing.{Entry}
use Rattle.rules.specs.Pairs.{Before, insert, remove, pairs_after}
use Rattle.rules.proofs.Places.{acting, meeting, branching}
use Rattle.rules.proofs.Moved.{chooses-goes, acts-goes, handshakes-goes}
use Rattle.rules.proofs.Launched.{launch-adds}
use Rattle.rules.proofs.Killed.{kill-takes, pairs-ascend}
use Rattle.machine.specs.Evaluate.{eval_action}
use Rattle.model.specs.Good.{Every, names_bound, GoodPart, GoodBranch, GoodStart, GoodModel}
use Rattle.machine.specs.Offer.{Process, branches, called}
use Rattle.machine.specs.State.{State, pair_limit, GoodPair, GoodProcess, GoodState}
use Rattle.machine.specs.Machine.{copies, start_processes, opened_state}
use Rattle.machine.specs.Questions.{Ready}
use Rattle.machine.proofs.Branches.{Writes, writes}
use Rattle.machine.proofs.Everys.{every_in, in-every, every-nth, every_append, every-replace, every-replace_both}
use Rattle.machine.proofs.Offering.{comes}
use Rattle.machine.proofs.Ranges.{action-good, GoodOffer}
use Rattle.machine.proofs.Continues.{called-good, next-good, at-good}
use Rattle.machine.proofs.Bound.{names-bound, label-action, BoundGood, alone-bound, accepted-bound, GoodChange, change-good}

-- ---- how many processes start
copies_length : {A : Type 0} (n : ℕ) (xs : List A) → length (copies n xs) ≡ n * length xs
unfolding copies
copies_length zero xs = sym (zero-mul (length xs))
copies_length (suc n) xs = omega (arith, length-append xs (copies n xs), copies_length n xs, suc-mul n (length xs))

pub sums-in : (f : ℕ → Process) (ds : List Resolved.Defined) (d : ℕ) → length (Option-elim (get_elem? ds d) [] (λ (e : Resolved.Defined). map f e.sums)) ≡ opening.sums_in ds d
unfolding Option-elim opening.sums_in
sums-in f [] d = refl
sums-in f (e ∷ ds) zero = length-map e.sums f
sums-in f (e ∷ ds) (suc d) = sums-in f ds d

-- the number that question 10 asks about
pub start-count : (m : Resolved.Model) (ss : List Resolved.Start) → length (start_processes m ss) ≡ opening.processes_at_start m.definitions ss
unfolding start_processes opening.processes_at_start called
start-count m [] = refl
start-count m (s ∷ ss) =
    let ps = called m s.definition s.values in
    let e : length ps ≡ opening.sums_in m.definitions s.definition = sums-in _ m.definitions s.definition in
    let f : length (copies s.count ps) ≡ s.count * opening.sums_in m.definitions s.definition = copies_length s.count ps ∙ ap (λ (k : ℕ). s.count * k) e in
    omega (arith, f, length-append (copies s.count ps) (start_processes m ss), start-count m ss)

module _ (m : Resolved.Model) (good : GoodModel m) where
  -- ---- the opened state
  copies-good : (n : ℕ) (ps : List Process) → Every (GoodProcess m) ps → Every (GoodProcess m) (copies n ps)
  unfolding copies Every
  copies-good zero ps h = tt
  copies-good (suc n) ps h = every_append (GoodProcess m) ps (copies n ps) h (copies-good n ps h)

  pub starts-good : (ss : List Resolved.Start) → Every (GoodStart m) ss → Every (GoodProcess m) (start_processes m ss)
  unfolding start_processes Every
  starts-good [] h = tt
  starts-good (s ∷ ss) h =
      every_append (GoodProcess m) (copies s.count (called m s.definition s.values)) (start_processes m ss)
      (copies-good s.count _ (called-good m good s.definition s.values h.0.callable h.0.values)) (starts-good ss h.1)

  -- of a good model that starts with at most 256 processes
  pub opened-good : opening.processes_at_start m.definitions m.starts ≤ process_limit → GoodState m (opened_state m)
  unfolding opened_state Every Ascending
  opened-good l = record {
    few-processes = omega (arith, start-count m m.starts, l);
    processes = starts-good m.starts good.starts;
    few-pairs = omega arith;
    pairs = tt;
    ascending = tt;
  }

  -- ---- pairs
  pairs-good : (n : Change) (L : List offers.Pair) → Ascending Before L → GoodChange m n → Every (GoodPair m) L → Every (GoodPair m) (pairs_after n L)
  unfolding pairs_after GoodChange
  pairs-good unchanged L a g h = h
  pairs-good (launched x) L a g h = in-every (GoodPair m) (insert x L) (λ z i. ⊎_elim (λ e. rw e g) (every_in (GoodPair m) L h z) ((launch-adds x L z).0 i))
  pairs-good (killed x) L a g h = in-every (GoodPair m) (remove x L) (λ z i. every_in (GoodPair m) L h z ((kill-takes x L a z).0 i).0)

  module _ (s : State) (state : GoodState m s) where
    -- ---- one process's continuation
    module _ {i j : ℕ} {p : Process} {b : offers.Branch Process} {a : offers.Action} {r q : ℕ} {n : Change} {vs : List ℤ}
        (w : Writes m s.pairs s.processes i j p b (label a r q n vs)) where
      process : GoodProcess m p
      process = every-nth (GoodProcess m) state.processes w.at.place

      branch : GoodBranch m (length p.locals) w.branch
      branch = at-good m good process w.at

      action : eval_action p.locals w.branch.action ≡ some a
      action = label-action w.offered (comes p.locals w.branch w.guard w.evaluates)

      offer : GoodOffer m a
      offer = action-good m p.locals process.values (length p.locals) w.branch.action a branch.action action

      continues : BoundGood a vs → Every (GoodProcess m) (b.next vs)
      continues g =
          let e = names-bound p.locals a w.branch.action action in
          let l : length p.locals + names_bound w.branch.action ≡ length (p.locals ++ vs) = omega (arith, e, g.number, length-append p.locals vs) in
          rw (w.next vs)
          (next-good m good (p.locals ++ vs) (every_append InRange p.locals vs process.values g.values) w.branch.next
          (subst (λ (k : ℕ). Every (GoodPart m k) w.branch.next) l branch.next))

    -- ---- what the rules move to
    pub record Moved (n : Change) (ps : List Process) : Type 0 where
      pub processes : Every (GoodProcess m) ps
      pub change : GoodChange m n

    pub moved : {k : Key} {v : ℕ} {n : Change} {ps : List Process} → Moves (branches m) s k v n ps → Moved n ps
    unfolding Every GoodOffer GoodChange
    moved (alone {i = i} {n = n} {vs = vs} c a) =
        let t = acting (branches m) s.pairs a in
        let b = branching t.chooses in
        let w = writes m t.at b.at b.offered in
        let h : Every (GoodProcess m) t.after = rw (chooses-goes t.chooses) at (continues w (alone-bound m state.pairs c w.offered)) in
        record {
          processes = rw (acts-goes (branches m) s.pairs a) at (every-replace (GoodProcess m) i t.after s.processes h state.processes);
          change = change-good m w.offered (offer w);
        }
    moved (together {i = i} {k = k} h) =
        let t = meeting (branches m) s.pairs h in
        let b = branching t.sender.chooses in
        let b' = branching t.receiver.chooses in
        let v = writes m t.sender.at b.at b.offered in
        let w = writes m t.receiver.at b'.at b'.offered in
        let f : Every (GoodProcess m) t.sender.after = rw (chooses-goes t.sender.chooses) at (continues v (record { number = refl; values = tt })) in
        let g : Every (GoodProcess m) t.receiver.after = rw (chooses-goes t.receiver.chooses) at (continues w (accepted-bound m (offer v) t.accepts)) in
        record {
          processes =
              rw (handshakes-goes (branches m) s.pairs h) at
              (every-replace_both (GoodProcess m) i t.sender.after k t.receiver.after s.processes f g state.processes);
          change = tt;
        }

    -- ---- what the rules move to, within the limits
    pub moves-good : {k : Key} {v : ℕ} {n : Change} {ps : List Process}
        → Moves (branches m) s k v n ps → length ps ≤ process_limit → length (pairs_after n s.pairs) ≤ pair_limit
        → GoodState m (record { processes = ps; pairs = pairs_after n s.pairs })
    moves-good {n = n} h l f =
        let t = moved h in
        record {
          few-processes = omega (arith, l);
          processes = t.processes;
          few-pairs = omega (arith, f);
          pairs = pairs-good n s.pairs state.ascending t.change state.pairs;
          ascending = pairs-ascend n s.pairs state.ascending;
        }

    -- an accepted step
    pub step-good : {es : List Entry} {d c : ℕ} {n : Change} {ps : List Process}
        → Ready m s es d c n ps → length ps ≤ process_limit → length (pairs_after n s.pairs) ≤ pair_limit
        → GoodState m (record { processes = ps; pairs = pairs_after n s.pairs })
    step-good r l f = moves-good r.moves l f
