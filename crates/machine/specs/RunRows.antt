-- Runs over a resolved model written by hand (docs/DECISIONS.md, R.1 to R.7), by computation: the numbers of the answer and of the events, and the state and clock afterwards.
use Rattle.std.specs.Prelude.{◌≡◌, refl, List, [], ◌∷◌, ℕ, pos}
use Rattle.std.proofs.Math.Option.{Option-elim}
use Rattle.value.specs.Range.{value_of}
use Rattle.value.specs.Arithmetic.{sum_of, floor_quotient, quotient_of}
use Rattle.model.specs.Resolved
use Rattle.rules.specs.Offers as offers
use Rattle.rules.specs.Listing as lists
use Rattle.rules.specs.Order as order
use Rattle.rules.specs.Pairs as pairs
use Rattle.rules.specs.Draw.{weights, total, chosen}
use Rattle.rules.specs.Step as steps
use Rattle.waits.specs.Runs.{next_in_run, read, settled, waiting, wait_of}
use Rattle.words.specs.Words.{usable, is_used, drawing, draw_of}
use Rattle.clock.specs.declared.Clock.{Clock}
use Rattle.clock.specs.Clock.{ticks_of, forwarded, waited, brought_by}
use Rattle.machine.specs.Evaluate as evaluate
use Rattle.machine.specs.Offer as offer
use Rattle.machine.specs.State.{State}
use Rattle.machine.specs.Timed.{timed}
use Rattle.machine.specs.Machine as machine
use Rattle.machine.specs.Machine.{Run, ran_as}
use Rattle.machine.specs.Runs.{event_row, event_rows, event_numbers}
use Rattle.machine.specs.Specimens.{single, alone, fixed}

-- A[] = {go,1}.A[], whose total is 100,000,000
abbrev again : Resolved.Model
again = alone (single (Resolved.wait 5) (fixed (pos 10000)) (Resolved.enter 0 ∷ []) ∷ [])

abbrev one : State
one = record { processes = record { sum = 0; locals = []; definition = 0 } ∷ []; pairs = [] }

abbrev at : ℕ → ℕ → Clock
at t u = record { ticks = t; draws = u }

-- words of which the second is turned away, and waiting draws of two waits, with one left over
abbrev runs1 : (limit room : ℕ) → Run
runs1 limit room = machine.runs_with limit room (7 ∷ 18446744073709551615 ∷ 8 ∷ []) (40000 ∷ 50000 ∷ 0 ∷ 0 ∷ 9 ∷ []) again one (at 5 7)

-- number; steps, words and waiting draws used; count; total; state and clock
abbrev Ends : Run → ℕ → List ℕ → ℕ → ℕ → Clock → Type 0
Ends r n u c w k = ((ran_as r).number ≡ n) × (((ran_as r).used ≡ u) × (((ran_as r).count ≡ c) × (((ran_as r).total ≡ w) × (r.timed ≡ timed one k))))

pub rows :
    -- up to its limit, and its events over seventeen lent numbers: the ticks first, then the entry
    Ends (runs1 2 5) 0 (2 ∷ 3 ∷ 4 ∷ []) 1 100000000 (at 6108 11)
    × ((event_numbers (runs1 2 5).events (9 ∷ 9 ∷ 9 ∷ 9 ∷ 9 ∷ 9 ∷ 9 ∷ 9 ∷ 9 ∷ 9 ∷ 9 ∷ 9 ∷ 9 ∷ 9 ∷ 9 ∷ 9 ∷ 9 ∷ []) ≡ 6108 ∷ 1 ∷ 0 ∷ 0 ∷ 0 ∷ 0 ∷ 0 ∷ 100000000 ∷ 6108 ∷ 1 ∷ 0 ∷ 0 ∷ 0 ∷ 0 ∷ 0 ∷ 100000000 ∷ 9 ∷ [])
    -- up to its room, and without any
    × (Ends (runs1 5 1) 0 (1 ∷ 1 ∷ 2 ∷ []) 1 100000000 (at 6108 9)
    × (Ends (runs1 5 0) 0 (0 ∷ 0 ∷ 0 ∷ []) 0 0 (at 5 7)
    -- up to the end of its words: none of a step that isn't taken is used
    × (Ends (runs1 5 5) 0 (2 ∷ 3 ∷ 4 ∷ []) 1 100000000 (at 6108 11)
    × (Ends (machine.runs_with 5 5 (18446744073709551615 ∷ []) [] again one (at 5 7)) 0 (0 ∷ 0 ∷ 0 ∷ []) 1 100000000 (at 5 7)
    -- 23: its waiting draws end
    × Ends (machine.runs_with 5 5 (0 ∷ []) (7 ∷ []) again one (at 5 7)) 23 (0 ∷ 0 ∷ 0 ∷ []) 1 100000000 (at 5 7))))))
unfolding
    offer.definition_of offer.process_at offer.called machine.listing machine.counted offer.missing offer.missing_branch offer.is_none offer.branches offer.branches_of offer.offered
    offer.part_processes offer.next_processes offer.or_zero evaluate.eval_branch evaluate.eval_gate evaluate.eval_offer evaluate.eval_rate evaluate.eval_scale
    evaluate.in_rate evaluate.eval_action evaluate.eval_pair evaluate.eval_query evaluate.eval_item evaluate.eval_channel evaluate.eval_all evaluate.eval_value evaluate.eval_set
    evaluate.eval_cond evaluate.related evaluate.eval_expr evaluate.apply evaluate.with_value evaluate.valued evaluate.given sum_of quotient_of floor_quotient
    value_of lists.entries lists.gather lists.when lists.unless lists.of_process lists.of_guard lists.of_action lists.partners_in lists.partner
    lists.partner_action lists.matches lists.same_item lists.same_channel lists.all_within offers.within machine.steps_with machine.choosing machine.drawn machine.taken
    machine.entry_state machine.entry_arguments machine.branch_arguments machine.on_guard offer.arguments_given offer.all_values offer.is_value steps.state_after
    steps.step steps.at_branch steps.one_acts steps.both_act steps.on_action steps.change_of steps.bound_by steps.values_at steps.sent_by steps.replace
    steps.replace_both pairs.pairs_after pairs.insert pairs.remove pairs.before pairs.numbers pairs.item_numbers pairs.item_kind pairs.item_value pairs.channel_numbers order.less machine.lists machine.showing
    machine.times_with machine.steps_in machine.with_wait machine.refused_as brought_by waited forwarded ticks_of wait_of waiting settled read next_in_run machine.listed_as machine.no weights lists.weight_of lists.key_of total chosen Option-elim
    machine.runs_with machine.running machine.run_step machine.draw_at machine.drawn_step machine.going_on machine.follows machine.entry_shown machine.ran_as usable is_used drawing draw_of event_row event_rows event_numbers
rows =
    ((refl, (refl, (refl, (refl, refl)))), (refl, ((refl, (refl, (refl, (refl, refl)))), ((refl, (refl, (refl, (refl, refl)))), ((refl, (refl, (refl, (refl, refl)))), ((refl, (refl, (refl, (refl, refl)))), (refl, (refl, (refl, (refl, refl))))))))))
