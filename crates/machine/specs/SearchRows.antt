-- Searches over resolved models written by hand (02, notes 8 and 9), by computation, one to a row: what is answered.
use Rattle.std.specs.Prelude.{◌≡◌, refl, List, [], ◌∷◌, ℕ, pos}
use Rattle.std.proofs.Math.Option.{none, Option-elim}
use Rattle.value.specs.Range.{value_of}
use Rattle.value.specs.Arithmetic.{sum_of, floor_quotient, quotient_of}
use Rattle.grammar.specs.Syntax.{divide}
use Rattle.token.specs.Token.{same_bytes}
use Rattle.model.specs.Resolved
use Rattle.rules.specs.Listing as lists
use Rattle.rules.specs.Pairs as pairs
use Rattle.rules.specs.Draw.{weights, total}
use Rattle.rules.specs.Step as steps
use Rattle.runs.specs.Tree as tree
use Rattle.runs.specs.Walk as walk
use Rattle.machine.specs.Evaluate as evaluate
use Rattle.machine.specs.Offer as offer
use Rattle.machine.specs.State.{State}
use Rattle.machine.specs.Machine as machine
use Rattle.machine.specs.Machine.{as_lent, Answer, no, found_as}

-- one definition without parameters, whose sum is the first; the name of a token is its number
abbrev pub model : List Resolved.Sum → Resolved.Model
model ss = record {
  sums = ss;
  definitions = record { params = 0; sums = 0 ∷ [] } ∷ [];
  channels = 0;
  starts = record { definition = 0; count = 1; values = [] } ∷ [];
  words = λ k. k ∷ [];
}

-- {n,r}, and then these
abbrev pub waits : ℕ → ℕ → List Resolved.Part → Resolved.Branch
waits n r next = record { gate = none; action = Resolved.wait n; rate = Resolved.plain (Resolved.fixed (pos r)); next = next }

abbrev pub sum : List Resolved.Branch → Resolved.Sum
sum bs = record { locals = 0; definition = 0; branches = bs }

-- a process of the first sum
abbrev pub one : State
one = record { processes = record { sum = 0; locals = []; definition = 0 } ∷ []; pairs = [] }

-- a call with an argument that has no value, which 17 refuses
abbrev pub lost : List Resolved.Part
lost = Resolved.call 0 (Resolved.binary divide (Resolved.constant (pos 1)) (Resolved.constant (pos 0)) ∷ []) ∷ []

-- a rate beyond its range, which 12 refuses
abbrev beyond : ℕ
beyond = 1000000001

-- what a search for the name n answers
abbrev searched : List Resolved.Sum → ℕ → ℕ → Answer
searched ss n d = (machine.searches (n ∷ []) d (model ss) one).answer

-- {1,1}.{2,1}
abbrev pub chain : List Resolved.Sum
chain = sum (waits 1 10000 (Resolved.enter 1 ∷ []) ∷ []) ∷ sum (waits 2 10000 [] ∷ []) ∷ []

-- none, and a number alone
abbrev pub nothing : Answer
nothing = no 0 0 0 as_lent

pub rows :
    -- the wait itself, the wait behind another, and one too deep
    (searched chain 1 1 ≡ found_as (0 ∷ []))
    × (searched chain 2 2 ≡ found_as (0 ∷ 0 ∷ []))
    × (searched chain 2 8 ≡ found_as (0 ∷ 0 ∷ []))
    × (searched chain 2 1 ≡ nothing)
    -- a name that no wait has, and the empty one
    × (searched chain 3 8 ≡ nothing)
    × ((machine.searches [] 8 (model chain) one).answer ≡ nothing)
    -- 26
    × (searched chain 1 0 ≡ no 26 0 0 as_lent)
    × (searched chain 1 9 ≡ no 26 0 0 as_lent)
    -- a wait of weight zero is never taken, and has its number
    × (searched (sum (waits 1 0 [] ∷ []) ∷ []) 1 8 ≡ nothing)
    × (searched (sum (waits 1 0 [] ∷ waits 1 1 [] ∷ []) ∷ []) 1 1 ≡ found_as (1 ∷ []))
    -- its continuation's refusal doesn't count either
    × (searched (sum (waits 1 0 lost ∷ []) ∷ []) 2 8 ≡ nothing)
    -- note 9: the first of two runs of one length; a shorter run before one with smaller numbers
    × (searched (sum (waits 3 1 (Resolved.enter 1 ∷ []) ∷ waits 4 1 (Resolved.enter 1 ∷ []) ∷ []) ∷ sum (waits 2 1 [] ∷ []) ∷ []) 2 2 ≡ found_as (0 ∷ 0 ∷ []))
    × (searched (sum (waits 3 1 (Resolved.enter 1 ∷ []) ∷ waits 2 1 [] ∷ []) ∷ sum (waits 2 1 [] ∷ []) ∷ []) 2 2 ≡ found_as (1 ∷ []))
    -- 27: taking is refused, and beside a run it isn't; the wait itself refused is no run
    × (searched (sum (waits 3 1 lost ∷ []) ∷ []) 2 1 ≡ no 27 0 0 as_lent)
    × (searched (sum (waits 3 1 lost ∷ waits 2 1 [] ∷ []) ∷ []) 2 1 ≡ found_as (1 ∷ []))
    × (searched (sum (waits 2 1 lost ∷ []) ∷ []) 2 1 ≡ no 27 0 0 as_lent)
    -- 27: a listing is refused, now or after fewer entries than the depth; at the depth none is made
    × (searched (sum (waits 2 beyond [] ∷ []) ∷ []) 2 1 ≡ no 27 0 0 as_lent)
    × (searched (sum (waits 3 1 (Resolved.enter 1 ∷ []) ∷ []) ∷ sum (waits 2 beyond [] ∷ []) ∷ []) 2 2 ≡ no 27 0 0 as_lent)
    × (searched (sum (waits 3 1 (Resolved.enter 1 ∷ []) ∷ []) ∷ sum (waits 2 beyond [] ∷ []) ∷ []) 2 1 ≡ nothing)
unfolding
    offer.definition_of offer.process_at offer.called machine.listing machine.counted offer.missing offer.missing_branch offer.is_none offer.branches offer.branches_of offer.offered
    offer.part_processes offer.next_processes offer.or_zero evaluate.eval_branch evaluate.eval_gate evaluate.eval_offer evaluate.eval_rate evaluate.eval_scale
    evaluate.in_rate evaluate.eval_action evaluate.eval_expr evaluate.apply evaluate.with_value evaluate.valued evaluate.given sum_of quotient_of floor_quotient
    value_of lists.entries lists.gather lists.when lists.unless lists.of_process lists.of_guard lists.of_action lists.partners_in lists.partner
    lists.partner_action machine.taken
    machine.entry_state machine.entry_arguments machine.branch_arguments machine.on_guard offer.arguments_given offer.all_values offer.is_value steps.state_after
    steps.step steps.at_branch steps.one_acts steps.both_act steps.on_action steps.change_of steps.bound_by steps.values_at steps.sent_by steps.replace
    steps.replace_both pairs.pairs_after machine.listed_as machine.no weights lists.weight_of lists.key_of total Option-elim
    machine.searches machine.is_depth machine.searched_as machine.found_as machine.moves_to machine.moves_of machine.way_of machine.way_taken machine.is_sought machine.is_wait same_bytes
    tree.way_in walk.behind walk.of_way walk.of_ways walk.of_listed walk.events walk.levels walk.walk walk.ending walk.judge walk.search
rows = (refl, refl, refl, refl, refl, refl, refl, refl, refl, refl, refl, refl, refl, refl, refl, refl, refl, refl, refl)
