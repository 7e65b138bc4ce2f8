-- Over any buffers of right lengths that hold a model and a state, a list, a step, a report and a search answer what the questions allow: from the exact test and the rule machine's own listings and steps.
use mathlib.Core.Path.{◌≡◌, refl, sym, ap, subst, ◌∙◌}
use mathlib.Core.Bool.{Bool, true, false, cond, ◌&&◌}
use mathlib.Core.List.{List}
use mathlib.Core.Option.{Option-elim}
use Prim.Native.Nat.{ℕ}
use borrow.Author.Tests.{eq-eqb}
use lib.Dec.{eqb}
use lib.ListN.{length}
use Rattle.model.specs.Resolved
use Rattle.rules.specs.Listing.{Entry}
use Rattle.machine.specs.State.{State, state_length, state_numbers}
use Rattle.machine.specs.Machine.{model_length, listing_length, Shown, as_lent, filled, Answer, no, listed_as, reported_as, found_as, moves_to, is_depth, searched_as, searches, Listed, entries_are, refused_with, turn, drawn, showing, lists, sharing, reports, choosing, steps_with, held, Machine, holding, on_state, list', step', report', search', on', acts, Part, model, state, saves, clock, search, size, two_parts, is_lent, all_parts, has_lengths, on_machine}
use Rattle.machine.specs.Machine as machine
use Rattle.machine.specs.Report.{report_length, report_of}
use Rattle.machine.specs.Questions.{Lists}
use Rattle.machine.proofs.Listing.{asked, accepted}
use Rattle.machine.proofs.Stepping as step
use Rattle.machine.proofs.Searching as searching
use Rattle.runs.specs.Tree as tree
use Rattle.runs.specs.Walk as walk
use Rattle.buffers.specs.Listing.{shown, listing_numbers}
use Rattle.buffers.specs.Parts.{Engine, numbers_of, with_state}
use Rattle.buffers.specs.Effect.{Effect, machine_in, untouched, left_in, leaves, requested, answered, effect}
use Rattle.buffers.specs.Answers as answers
use Rattle.buffers.specs.Answers.{ListsAs, StepsAs, ReportsAs, SearchesAs}
use Rattle.buffers.proofs.Machines.{machine-over}
use Rattle.buffers.proofs.Lent.{same-engine}
use Rattle.buffers.proofs.Transitions.{fills}

-- a search is lent no output
pub search-shows : (m : Resolved.Model) (n : List ℕ) (s : State) (d : ℕ) → (searches n d m s).answer.listing ≡ as_lent
unfolding searches searched_as found_as no
search-shows m n s d = by (is_depth d) (walk.search (moves_to m n) s d)
  where
    by : (b : Bool) (w : tree.Answer) → (cond b (searched_as w) (no 26 0 0 as_lent)).listing ≡ as_lent
    by true (tree.found r) = refl
    by true tree.nothing = refl
    by true tree.unsure = refl
    by false w = refl

module _ (x : Engine) (l : List ℕ) (long : length (x model) ≡ model_length) (numbers : length (x state) ≡ state_length)
    (m : Resolved.Model) (s : State) (holds : machine_in two_parts x ≡ holding (held m s)) where
  -- the lengths are right
  lent-all : (right : ℕ) → length l ≡ right
      → (all_parts (λ (p : Part). eqb (length (x p)) (size p)) two_parts && eqb (length l) right) ≡ true
  unfolding all_parts
  lent-all right room = rw (eq-eqb _ _ long, eq-eqb _ _ numbers, eq-eqb _ _ room)

  -- the state's numbers are those lent
  same : state_numbers s ≡ x state
  same = (machine-over x m s numbers holds).numbers

  -- what is left by a turn to the state r
  moved : (r : State) → left_in two_parts x (holding (held m r)) ≡ with_state x (state_numbers r)
  unfolding left_in is_lent numbers_of with_state
  moved r = same-engine at
    where
      at : (p : Part) → left_in two_parts x (holding (held m r)) p ≡ with_state x (state_numbers r) p
      at model = refl
      at state = refl
      at saves = refl
      at clock = refl
      at search = refl

  still : with_state x (state_numbers s) ≡ x
  unfolding with_state
  still = same-engine at
    where
      at : (p : Part) → with_state x (state_numbers s) p ≡ x p
      at model = refl
      at state = same
      at saves = refl
      at clock = refl
      at search = refl

  leaving : State → Answer → Effect
  leaving r a = leaves two_parts x l (turn (holding (held m r)) a)

  gives : (r : State) (a : Answer) → leaving r a ≡ record { answer = a; left = with_state x (state_numbers r); output = shown a.listing l }
  unfolding leaving leaves
  gives r a = ap (λ (z : Engine). record { answer = a; left = z; output = shown a.listing l }) (moved r)

  -- an answer that moves nothing
  kept : (a : Answer) → leaving s a ≡ record { answer = a; left = x; output = shown a.listing l }
  kept a = gives s a ∙ ap (λ (z : Engine). record { answer = a; left = z; output = shown a.listing l }) still

  -- 01, Listing
  pub lists-as : length l ≡ listing_length → ListsAs m s x l (effect (on' list') x l)
  unfolding effect has_lengths Option-elim answered requested machine_in on_machine acts on_state lists showing listed_as shown leaving
  lists-as room =
      subst (ListsAs m s x l) (sym (ap (λ (b : Bool). cond b (answered (on' list') x l) (untouched x l)) (lent-all listing_length room) ∙ ap (λ (y : Machine). leaves two_parts x l (on_machine list' y)) holds))
      (by (machine.listing m s) ((asked m s (machine.listing m s)).0 refl))
    where
      by : (k : Listed) → Lists m s k → ListsAs m s x l (leaving (showing s k).machine (showing s k).answer)
      by (entries_are es) h = subst (ListsAs m s x l) (sym (kept (listed_as 0 0 es))) (answers.ListsAs.yes14 h)
      by (refused_with a) h = subst (ListsAs m s x l) (sym (kept a)) (answers.ListsAs.no14 h)

  filled-so : (k : Shown) (es : List Entry) → k ≡ filled es → shown k l ≡ listing_numbers es
  unfolding shown
  filled-so k es e = ap (λ (k : Shown). shown k l) e

  -- 01, Listing and stepping
  pub steps-as : length l ≡ listing_length → (d : ℕ) → StepsAs m s x l d (effect (on' (step' d)) x l)
  unfolding effect has_lengths Option-elim answered requested machine_in on_machine acts on_state steps_with choosing leaving
  steps-as room d =
      subst (StepsAs m s x l d) (sym (ap (λ (b : Bool). cond b (answered (on' (step' d)) x l) (untouched x l)) (lent-all listing_length room) ∙ ap (λ (y : Machine). leaves two_parts x l (on_machine (step' d) y)) holds))
      (by (machine.listing m s) refl)
    where
      taken : (es : List Entry) → machine.listing m s ≡ entries_are es → StepsAs m s x l d (leaving (drawn m s es d).machine (drawn m s es d).answer)
      taken es q =
          let h = subst (Lists m s) q ((asked m s (machine.listing m s)).0 refl) in
          let t = (step.asked m s es ((accepted m s es).0 q).1 d (drawn m s es d)).0 refl in
          subst (StepsAs m s x l d) (sym (gives (drawn m s es d).machine (drawn m s es d).answer))
          (subst
          (λ (k : List ℕ). StepsAs m s x l d (record { answer = (drawn m s es d).answer; left = with_state x (state_numbers (drawn m s es d).machine); output = k }))
          (sym (filled-so (drawn m s es d).answer.listing es (fills t)))
          (answers.StepsAs.drawn h t))

      by : (k : Listed) → machine.listing m s ≡ k → StepsAs m s x l d (leaving (choosing m s d k).machine (choosing m s d k).answer)
      by (entries_are es) q = taken es q
      by (refused_with a) q = subst (StepsAs m s x l d) (sym (kept a)) (answers.StepsAs.no14 (subst (Lists m s) q ((asked m s (machine.listing m s)).0 refl)))

  -- 02, note 6
  pub reports-as : length l ≡ report_length → ReportsAs m s x l (effect (on' report') x l)
  unfolding effect has_lengths Option-elim answered requested machine_in on_machine acts on_state reports sharing reported_as shown leaving
  reports-as room =
      subst (ReportsAs m s x l) (sym (ap (λ (b : Bool). cond b (answered (on' report') x l) (untouched x l)) (lent-all report_length room) ∙ ap (λ (y : Machine). leaves two_parts x l (on_machine report' y)) holds))
      (by (machine.listing m s) ((asked m s (machine.listing m s)).0 refl))
    where
      by : (k : Listed) → Lists m s k → ReportsAs m s x l (leaving (sharing m s k).machine (sharing m s k).answer)
      by (entries_are es) h = subst (ReportsAs m s x l) (sym (kept (reported_as (report_of m s es) es))) (answers.ReportsAs.yes14 h)
      by (refused_with a) h = subst (ReportsAs m s x l) (sym (kept a)) (answers.ReportsAs.no14 h)

  lent_both : (all_parts (λ (p : Part). eqb (length (x p)) (size p)) two_parts && true) ≡ true
  unfolding all_parts
  lent_both = rw (eq-eqb _ _ long, eq-eqb _ _ numbers)

  -- 02, notes 8 and 9
  pub searches-as : (n : List ℕ) (d : ℕ) → SearchesAs m s x l n d (effect (on' (search' n d)) x l)
  unfolding effect has_lengths Option-elim answered requested machine_in on_machine acts on_state searches shown leaving
  searches-as n d =
      subst (SearchesAs m s x l n d) (sym (ap (λ (b : Bool). cond b (answered (on' (search' n d)) x l) (untouched x l)) lent_both ∙ ap (λ (y : Machine). leaves two_parts x l (on_machine (search' n d) y)) holds))
      (subst (SearchesAs m s x l n d)
      (sym (kept (searches n d m s).answer ∙ ap (λ (k : Shown). record { answer = (searches n d m s).answer; left = x; output = shown k l }) (search-shows m n s d)))
      (answers.SearchesAs.searched ((searching.asked m n s d (searches n d m s).answer).0 refl)))
