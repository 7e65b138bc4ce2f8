-- Timed steps over a resolved model written by hand (02, note 4), by computation, one to a row: the number, and the state and clock afterwards.
use Rattle.std.specs.Prelude.{◌≡◌, refl, List, [], ◌∷◌, ℕ, ℤ, pos}
use Rattle.std.proofs.Math.Option.{Option-elim}
use Rattle.value.specs.Range.{value_of}
use Rattle.value.specs.Arithmetic.{sum_of, floor_quotient, quotient_of}
use Rattle.grammar.specs.Syntax.{divide}
use Rattle.model.specs.Resolved
use Rattle.rules.specs.Offers as offers
use Rattle.rules.specs.Listing as lists
use Rattle.rules.specs.Order as order
use Rattle.rules.specs.Pairs as pairs
use Rattle.rules.specs.Draw.{weights, total, chosen}
use Rattle.rules.specs.Step as steps
use Rattle.waits.specs.Runs.{next_in_run, read, settled, waiting, wait_of}
use Rattle.waits.specs.Examples.{evens}
use Rattle.clock.specs.declared.Clock.{Clock}
use Rattle.clock.specs.Clock.{ticks_of, forwarded, waited, brought_by}
use Rattle.machine.specs.Evaluate as evaluate
use Rattle.machine.specs.Offer as offer
use Rattle.machine.specs.State.{State}
use Rattle.machine.specs.Timed.{Timed, timed}
use Rattle.machine.specs.Machine as machine
use Rattle.machine.specs.Machine.{Turn}
use Rattle.machine.specs.Specimens.{single, alone, fixed}

-- A[] = {go,r}, and then these
abbrev going : ℤ → List Resolved.Part → Resolved.Model
going r xs = alone (single (Resolved.wait 5) (fixed r) xs ∷ [])

-- 1/0, for a definition that takes no value: an argument all the same
abbrev missing : Resolved.Expr
missing = Resolved.binary divide (Resolved.constant (pos 1)) (Resolved.constant (pos 0))

-- one process, and none
abbrev one : State
one = record { processes = record { sum = 0; locals = []; definition = 0 } ∷ []; pairs = [] }

abbrev gone : State
gone = record { processes = []; pairs = [] }

abbrev at : ℕ → ℕ → Clock
at t u = record { ticks = t; draws = u }

-- the largest number of a clock
abbrev top : ℕ
top = 9223372036854775807

-- what a timed step at rate 1, whose total is 100,000,000, leaves
abbrev steps1 : List ℕ → ℕ → Clock → Turn Timed
steps1 ds d c = machine.times_with ds d (going (pos 10000) []) one c

abbrev Gives : Turn Timed → ℕ → State → Clock → Type 0
Gives t n s c = (t.answer.number ≡ n) × (t.machine ≡ timed s c)

pub rows :
    -- E 40,000 and two draws: 6,103 ticks
    Gives (steps1 (40000 ∷ 50000 ∷ []) 0 (at 0 0)) 0 gone (at 6103 2)
    -- draws left over are neither used nor counted
    × Gives (steps1 (40000 ∷ 50000 ∷ 7 ∷ []) 99999999 (at 5 7)) 0 gone (at 6108 9)
    -- 23: no draw, a lone one; 24 at the 32nd run of even length
    × Gives (steps1 [] 0 (at 5 7)) 23 one (at 5 7)
    × Gives (steps1 (7 ∷ []) 0 (at 5 7)) 23 one (at 5 7)
    × Gives (steps1 (evens 31 (3 ∷ 3 ∷ [])) 0 (at 5 7)) 0 gone (at 310005 102)
    × Gives (steps1 (evens 32 []) 0 (at 5 7)) 24 one (at 5 7)
    -- 25 at the ticks and at the draws, and one below; E 0 takes no time at the top
    × Gives (steps1 (40000 ∷ 50000 ∷ []) 0 (at 9223372036854769704 0)) 0 gone (at top 2)
    × Gives (steps1 (40000 ∷ 50000 ∷ []) 0 (at 9223372036854769705 0)) 25 one (at 9223372036854769705 0)
    × Gives (steps1 (40000 ∷ 50000 ∷ []) 0 (at 0 9223372036854775805)) 0 gone (at 6103 top)
    × Gives (steps1 (40000 ∷ 50000 ∷ []) 0 (at 0 9223372036854775806)) 25 one (at 0 9223372036854775806)
    × Gives (steps1 (0 ∷ 0 ∷ []) 0 (at top 0)) 0 gone (at top 2)
    -- 15, 16 and 17 come first, whatever the draws are
    × Gives (machine.times_with [] 0 (going (pos 0) []) one (at 5 7)) 15 one (at 5 7)
    × Gives (steps1 [] 100000000 (at 5 7)) 16 one (at 5 7)
    × Gives (machine.times_with [] 0 (going (pos 10000) (Resolved.call 0 (missing ∷ []) ∷ [])) one (at 5 7)) 17 one (at 5 7)
    -- 23 carries count and total, and no entry
    × ((steps1 [] 0 (at 5 7)).answer ≡ machine.listed_as 23 0 (lists.entries (offer.branches (going (pos 10000) [])) one))
unfolding
    offer.definition_of offer.process_at offer.called machine.listing machine.counted offer.missing offer.missing_branch offer.is_none offer.branches offer.branches_of offer.offered
    offer.part_processes offer.next_processes offer.or_zero evaluate.eval_branch evaluate.eval_gate evaluate.eval_offer evaluate.eval_rate evaluate.eval_scale
    evaluate.in_rate evaluate.eval_action evaluate.eval_pair evaluate.eval_query evaluate.eval_item evaluate.eval_channel evaluate.eval_all evaluate.eval_value evaluate.eval_set
    evaluate.eval_cond evaluate.related evaluate.eval_expr evaluate.apply evaluate.with_value evaluate.valued evaluate.given sum_of quotient_of floor_quotient
    value_of lists.entries lists.gather lists.when lists.unless lists.of_process lists.of_guard lists.of_action lists.partners_in lists.partner
    lists.partner_action lists.matches lists.same_item lists.same_channel lists.all_within offers.within machine.steps_with machine.choosing machine.drawn machine.taken
    machine.entry_state machine.entry_arguments machine.branch_arguments machine.on_guard offer.arguments_given offer.all_values offer.is_value steps.state_after
    steps.step steps.at_branch steps.one_acts steps.both_act steps.on_action steps.change_of steps.bound_by steps.values_at steps.sent_by steps.replace
    steps.replace_both pairs.pairs_after pairs.insert pairs.remove pairs.before pairs.numbers pairs.item_numbers pairs.item_kind pairs.item_value pairs.channel_numbers order.less machine.lists machine.showing
    machine.times_with machine.steps_in machine.with_wait machine.refused_as brought_by waited forwarded ticks_of wait_of waiting settled read next_in_run evens machine.listed_as machine.no weights lists.weight_of lists.key_of total chosen Option-elim
rows = ((refl, refl), (refl, refl), (refl, refl), (refl, refl), (refl, refl), (refl, refl), (refl, refl), (refl, refl), (refl, refl), (refl, refl), (refl, refl), (refl, refl), (refl, refl), (refl, refl), refl)
