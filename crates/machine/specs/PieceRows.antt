-- Searches in pieces over a resolved model written by hand (02, note 10), by computation, one to a row: what is answered and what is left.
use Rattle.std.specs.Prelude.{◌≡◌, refl, List, [], ◌∷◌, false, ℕ}
use Rattle.std.proofs.Math.Option.{Option, none, some, Option-elim}
use Rattle.value.specs.Range.{value_of}
use Rattle.value.specs.Arithmetic.{sum_of, floor_quotient, quotient_of}
use Rattle.token.specs.Token.{same_bytes}
use Rattle.model.specs.Lists.{each, any}
use Rattle.model.specs.Words as words
use Rattle.model.specs.Given.{place_in}
use Rattle.model.specs.Resolved
use Rattle.waitnames.specs.Names as names
use Rattle.rules.specs.Listing as lists
use Rattle.rules.specs.Pairs as pairs
use Rattle.rules.specs.Draw.{weights, total, chosen}
use Rattle.rules.specs.Step as steps
use Rattle.runs.specs.Tree as tree
use Rattle.runs.specs.Walk as walk
use Rattle.runs.specs.Marks as marks
use Rattle.runs.specs.Marks.{mark}
use Rattle.machine.specs.Evaluate as evaluate
use Rattle.machine.specs.Offer as offer
use Rattle.machine.specs.Machine as machine
use Rattle.clock.specs.Clock.{fresh_clock}
use Rattle.machine.specs.State.{State}
use Rattle.machine.specs.Saves.{no_saves}
use Rattle.machine.specs.Machine.{listing_length, as_lent, no, progress_as, Turn, turn, Search, search_from, begins, carries_by, Held, held, held_whole, holding, Request, step', begin', carry', on', acts, size, Call, call}
use Rattle.machine.specs.Pieces.{in_force}
use Rattle.machine.specs.Pieces as pieces
use Rattle.machine.specs.SearchRows.{model, waits, sum, one, lost, chain, nothing}

-- {1,1}.{2,1}: a search for the second wait, number 1, of depth 2, after so many states, the last of which was at the end of this run; there are three states
abbrev after : ℕ → Option (List ℕ) → Search
after c r = record { start = one; wait = some 1; depth = 2; count = c; mark = mark r false }

-- carried on by n
abbrev by : ℕ → ℕ → Option (List ℕ) → Turn (Option Search)
by n c r = carries_by n (model chain) (some (after c r))

-- on the way, at the end, and 28
abbrev on : ℕ → Option (List ℕ) → Turn (Option Search)
on c r = turn (some (after c r)) (progress_as 0 c 0 [])

-- the run to the second wait
abbrev found : Turn (Option Search)
found = turn none (progress_as 0 3 1 (0 ∷ 0 ∷ []))

abbrev refused : ℕ → Option (List ℕ) → Turn (Option Search)
refused c r = turn (some (after c r)) (no 28 0 0 as_lent)

-- the same model with a search for a name that no wait has, and one whose wait is refused by 17
abbrev unknown : Option Search
unknown = some (search_from one none 2)

abbrev failing : List Resolved.Sum
failing = sum (waits 2 1 lost ∷ []) ∷ []

-- after its first step, with this search under way
abbrev two : State
two = record { processes = record { sum = 1; locals = []; definition = 0 } ∷ []; pairs = [] }

abbrev now : Option Search → Held
now o = held_whole (model chain) two no_saves fresh_clock o

-- of the right lengths
abbrev asks : Request → ℕ → Call
asks r o = call (on' r) size o

abbrev meanwhile : List Call
meanwhile = asks (begin' (2 ∷ []) 2) 0 ∷ asks (carry' 1) 0 ∷ asks (step' 0) listing_length ∷ asks (begin' (1 ∷ []) 9) 0 ∷ asks (carry' 1) 0 ∷ []

pub rows :
    -- begun: nothing is walked; another beginning replaces it; 26 leaves it
    (begins (2 ∷ []) 2 (model chain) one none ≡ turn (some (after 0 none)) nothing)
    × (begins (2 ∷ []) 2 (model chain) one (some (after 2 (some (0 ∷ [])))) ≡ turn (some (after 0 none)) nothing)
    × (begins (9 ∷ []) 2 (model chain) one none ≡ turn unknown nothing)
    × (begins (2 ∷ []) 0 (model chain) one (some (after 1 (some []))) ≡ turn (some (after 1 (some []))) (no 26 0 0 as_lent))
    × (begins (2 ∷ []) 9 (model chain) one none ≡ turn none (no 26 0 0 as_lent))
    -- by 0 nothing is walked; the empty run is counted first
    × (by 0 0 none ≡ on 0 none)
    × (by 1 0 none ≡ on 1 (some []))
    × (by 0 1 (some []) ≡ on 1 (some []))
    × (by 1 1 (some []) ≡ on 2 (some (0 ∷ [])))
    -- the third is the wait's: by just so many or more, from any place
    × (by 3 0 none ≡ found)
    × (by 9 0 none ≡ found)
    × (by 1 2 (some (0 ∷ [])) ≡ found)
    -- no wait: the call that walks the last run says that it has ended
    × (carries_by 2 (model chain) unknown ≡ turn (some (record { start = one; wait = none; depth = 2; count = 2; mark = mark (some (0 ∷ [])) false })) (progress_as 0 2 0 []))
    × (carries_by 3 (model chain) unknown ≡ turn none (progress_as 0 3 1 []))
    -- 27 ends it too; what is refused isn't counted
    × (carries_by 1 (model failing) (some (search_from one (some 0) 2)) ≡ turn none (progress_as 27 1 1 []))
    -- 28: none under way; count and number together up to 9,000,000,000,000,000,000, and one beyond, which walks nothing
    × (carries_by 0 (model chain) none ≡ turn none (no 28 0 0 as_lent))
    × (by 1 8999999999999999999 (some []) ≡ on 9000000000000000000 (some (0 ∷ [])))
    × (by 2 8999999999999999999 (some []) ≡ refused 8999999999999999999 (some []))
    × (by 0 9000000000000000000 (some []) ≡ on 9000000000000000000 (some []))
    × (by 1 9000000000000000000 (some []) ≡ refused 9000000000000000000 (some []))
    -- nothing wraps
    × (by 18446744073709551615 1 (some []) ≡ refused 1 (some []))
    × (by 18446744073709551615 0 none ≡ refused 0 none)
    -- the present state is another: the search goes on from its own
    × (acts (carry' 2) (now (some (after 0 none))) ≡ turn (now (some (after 2 (some (0 ∷ []))))) (progress_as 0 2 0 []))
    × (acts (carry' 3) (now (some (after 0 none))) ≡ turn (now none) (progress_as 0 3 1 (0 ∷ 0 ∷ [])))
    -- begun at the first state, carried on, a step, a beginning that is refused, carried on
    × (in_force none (holding (held (model chain) one)) meanwhile ≡ some (record { model = model chain; state = one; name = 2 ∷ []; depth = 2; pieces = 2 }))
unfolding
    offer.definition_of offer.process_at offer.called machine.listing machine.counted offer.missing offer.missing_branch offer.is_none offer.branches offer.branches_of offer.offered
    offer.part_processes offer.next_processes offer.or_zero evaluate.eval_branch evaluate.eval_gate evaluate.eval_offer evaluate.eval_rate evaluate.eval_scale
    evaluate.in_rate evaluate.eval_action evaluate.eval_expr evaluate.apply evaluate.with_value evaluate.valued evaluate.given sum_of quotient_of floor_quotient
    value_of lists.entries lists.gather lists.when lists.unless lists.of_process lists.of_guard lists.of_action lists.partners_in lists.partner
    lists.partner_action machine.taken
    machine.entry_state machine.entry_arguments machine.branch_arguments machine.on_guard offer.arguments_given offer.all_values offer.is_value steps.state_after
    steps.step steps.at_branch steps.one_acts steps.both_act steps.on_action steps.change_of steps.bound_by steps.values_at steps.sent_by steps.replace
    steps.replace_both pairs.pairs_after machine.listed_as machine.no weights lists.weight_of lists.key_of total Option-elim
    machine.is_depth machine.moves_to machine.moves_of machine.way_of machine.way_taken machine.is_sought machine.is_wait same_bytes tree.way_in tree.way_unsought tree.unsought
    walk.behind walk.end_of walk.of_way walk.of_ways walk.of_listed walk.events walk.events_from walk.levels walk.next walk.later_same walk.later walk.ending walk.met_before walk.next_of
    marks.stepped marks.settled_by marks.ahead marks.onward marks.onwards marks.settled marks.carry_on
    names.wait_token names.branch_waits names.sum_waits names.all_waits names.insert names.ascending names.wait_tokens names.name_tokens names.wait_names names.number_in names.wait_number
    each any words.same place_in Resolved.firsts Resolved.or_zero
    begins carries_by machine.moves_by machine.carried_as machine.ended_as progress_as acts machine.on_search machine.on_state machine.steps_with machine.choosing machine.drawn chosen
    in_force pieces.heard pieces.noted pieces.further pieces.beginning_at machine.calls machine.asked_of_machine machine.on_machine machine.has_lengths machine.all_parts
rows = (refl, refl, refl, refl, refl, refl, refl, refl, refl, refl, refl, refl, refl, refl, refl, refl, refl, refl, refl, refl, refl, refl, refl, refl, refl)
