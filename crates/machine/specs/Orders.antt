-- Two entries taken in either order by the rule machine, where the process that acts calls a definition of several sums (02, note 14): by computation, one to a row.
use Rattle.std.specs.Prelude.{◌≡◌, refl, List, [], ◌∷◌, ℕ, pos}
use Rattle.std.proofs.Math.Option.{none, Option-elim}
use Rattle.value.specs.Range.{value_of}
use Rattle.model.specs.Resolved
use Rattle.rules.specs.Kind as kind
use Rattle.rules.specs.Rules.{Key, key}
use Rattle.rules.specs.Listing as lists
use Rattle.rules.specs.Pairs as pairs
use Rattle.rules.specs.Draw.{weights, total, chosen}
use Rattle.rules.specs.Step as steps
use Rattle.rules.specs.Carried as carries
use Rattle.rules.specs.Carried.{carried}
use Rattle.machine.specs.Evaluate as evaluate
use Rattle.machine.specs.Offer as offer
use Rattle.machine.specs.Offer.{Process, branches}
use Rattle.machine.specs.State.{State}
use Rattle.machine.specs.Machine as machine
use Rattle.machine.specs.Machine.{accepting, opened_state, steps_with}

-- a sum of definition d that waits with rate 1 and goes on so
abbrev waits : ℕ → List Resolved.Part → Resolved.Sum
waits d next = record { locals = 0; definition = d; branches = record { gate = none; action = Resolved.wait 0; rate = Resolved.plain (Resolved.fixed (pos 10000)); next = next } ∷ [] }

-- P[] = {a,1}.Q[]; Q[] = {b,1} || {c,1}; P[] || P[]
abbrev several : Resolved.Model
several = record {
  sums = waits 0 (Resolved.call 1 [] ∷ []) ∷ waits 1 [] ∷ waits 1 [] ∷ [];
  definitions = record { params = 0; sums = 0 ∷ [] } ∷ record { params = 0; sums = 1 ∷ 2 ∷ [] } ∷ [];
  channels = 0;
  starts = record { definition = 0; count = 2; values = [] } ∷ [];
  words = λ k. [];
}

-- P's process, and Q's two
abbrev p : Process
p = record { sum = 0; locals = []; definition = 0 }

abbrev b : Process
b = record { sum = 1; locals = []; definition = 1 }

abbrev c : Process
c = record { sum = 2; locals = []; definition = 1 }

abbrev with : List Process → State
with ps = record { processes = ps; pairs = [] }

-- the wait of the process at place i
abbrev at : ℕ → Key
at i = key kind.wait i 0 0 0 0

-- the listing of so many processes
abbrev two : List lists.Entry
two = lists.entry (at 0) 100000000 ∷ lists.entry (at 1) 100000000 ∷ []

abbrev three : List lists.Entry
three = lists.entry (at 0) 100000000 ∷ lists.entry (at 1) 100000000 ∷ lists.entry (at 2) 100000000 ∷ []

pub rows :
    (opened_state several ≡ with (p ∷ p ∷ []))
    -- the first, then the second, which two processes have moved by one
    × (carried (branches several) (with (p ∷ p ∷ [])) (at 0) (at 1) ≡ at 2)
    × (steps_with 0 several (with (p ∷ p ∷ [])) ≡ accepting (with (b ∷ c ∷ p ∷ [])) two 0)
    × (steps_with 200000000 several (with (b ∷ c ∷ p ∷ [])) ≡ accepting (with (b ∷ c ∷ b ∷ c ∷ [])) three 2)
    -- the second, then the first, which stands where it stood
    × (carried (branches several) (with (p ∷ p ∷ [])) (at 1) (at 0) ≡ at 0)
    × (steps_with 100000000 several (with (p ∷ p ∷ [])) ≡ accepting (with (p ∷ b ∷ c ∷ [])) two 1)
    × (steps_with 0 several (with (p ∷ b ∷ c ∷ [])) ≡ accepting (with (b ∷ c ∷ b ∷ c ∷ [])) three 0)
unfolding
    opened_state machine.start_processes machine.copies offer.definition_of offer.process_at offer.called machine.listing machine.counted offer.missing offer.missing_branch offer.is_none offer.branches
    offer.branches_of offer.offered offer.part_processes offer.next_processes offer.or_zero evaluate.eval_branch evaluate.eval_gate evaluate.eval_offer evaluate.eval_rate
    evaluate.eval_scale evaluate.in_rate evaluate.eval_action evaluate.eval_all evaluate.with_value evaluate.valued evaluate.given value_of lists.entries lists.gather lists.when
    lists.unless lists.of_process lists.of_guard lists.of_action steps_with machine.choosing machine.drawn machine.taken machine.entry_state machine.entry_arguments
    machine.branch_arguments machine.on_guard offer.arguments_given offer.all_values offer.is_value steps.state_after steps.step steps.at_branch steps.one_acts
    steps.on_action steps.change_of steps.bound_by steps.values_at steps.replace pairs.pairs_after weights lists.weight_of lists.key_of total chosen Option-elim
    carried carries.moved carries.placed carries.place_after carries.becomes carries.becoming carries.of_branch
rows = (refl, refl, refl, refl, refl, refl, refl)
