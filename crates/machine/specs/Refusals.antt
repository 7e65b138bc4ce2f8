-- Refusals 12 to 14 and 17 to 19, at both ends of their limits, over resolved models written by hand, by computation, one to a row: the number that is answered.
use Rattle.std.specs.Prelude.{◌≡◌, refl, List, [], ◌∷◌, ℕ, zero, suc, ℤ, pos, replicate}
use Rattle.std.proofs.Math.Option.{none, Option-elim}
use Rattle.value.specs.Range.{value_of}
use Rattle.value.specs.Arithmetic.{sum_of, floor_quotient, quotient_of}
use Rattle.grammar.specs.Syntax.{divide}
use Rattle.value.specs.Items.{one_item}
use Rattle.model.specs.Resolved
use Rattle.rules.specs.Offers as offers
use Rattle.rules.specs.Listing as lists
use Rattle.rules.specs.Order as order
use Rattle.rules.specs.Pairs as pairs
use Rattle.rules.specs.Draw.{weights, total, chosen}
use Rattle.rules.specs.Step as steps
use Rattle.machine.specs.Evaluate as evaluate
use Rattle.machine.specs.Offer as offer
use Rattle.machine.specs.State.{State}
use Rattle.machine.specs.Machine as machine
use Rattle.machine.specs.Specimens.{single, alone, fixed, chain, unnamed}

-- what a list call and a step with draw 0 are answered
abbrev listed : Resolved.Model → State → ℕ
listed m s = (machine.lists m s).answer.number

abbrev stepped : Resolved.Model → State → ℕ
stepped m s = (machine.steps_with 0 m s).answer.number

-- ---- 12 and 13

-- {go,r}
abbrev waits : ℤ → Resolved.Branch
waits r = record { gate = none; action = Resolved.wait 0; rate = fixed r; next = [] }

-- a sum without locals
abbrev sum_over : List Resolved.Branch → Resolved.Sum
sum_over bs = record { locals = 0; definition = 0; branches = bs }

-- n processes, at sum 0
abbrev crowd : ℕ → State
crowd n = record { processes = replicate n (record { sum = 0; locals = []; definition = 0 }); pairs = [] }

-- ---- 14: a sender, and receivers that all match, each with rate 100000

-- the sender may have other branches
abbrev handing : List Resolved.Branch → Resolved.Model
handing bs =
    alone
    (sum_over (record { gate = none; action = Resolved.hand_send (one_item (Resolved.name 0)) (Resolved.constant (pos 1) ∷ []); rate = fixed (pos 1000000000); next = [] } ∷ bs)
    ∷ single (Resolved.hand_receive (one_item (Resolved.name 0)) (Resolved.single (Resolved.constant (pos 1)) ∷ [])) (fixed (pos 1000000000)) [] ∷ [])

-- one process at sum 0, and n at sum 1
abbrev hall : ℕ → State
hall n = record { processes = record { sum = 0; locals = []; definition = 0 } ∷ replicate n (record { sum = 1; locals = []; definition = 0 }); pairs = [] }

-- ---- 17 and 18

-- A[x] = {go,1}, and then these
abbrev going : List Resolved.Part → Resolved.Model
going xs = record {
  sums = record { locals = 1; definition = 0; branches = record { gate = none; action = Resolved.wait 0; rate = fixed (pos 10000); next = xs } ∷ [] } ∷ [];
  definitions = record { params = 1; sums = 0 ∷ [] } ∷ [];
  channels = 0;
  starts = record { definition = 0; count = 1; values = pos 1 ∷ [] } ∷ [];
  words = unnamed;
}

-- A[1]
abbrev begun : State
begun = record { processes = record { sum = 0; locals = pos 1 ∷ []; definition = 0 } ∷ []; pairs = [] }

-- 1/0
abbrev missing : Resolved.Expr
missing = Resolved.binary divide (Resolved.constant (pos 1)) (Resolved.constant (pos 0))

-- A[] = {@c![n],1} || {@c?[n](v),1}.B[10/v] and B[x] = {go,1}
abbrev dividing : ℕ → Resolved.Model
dividing n = record {
  sums =
      single (Resolved.hand_send (one_item (Resolved.name 0)) (Resolved.constant (pos n) ∷ [])) (fixed (pos 10000)) []
      ∷ single (Resolved.hand_bind (one_item (Resolved.name 0)) (Resolved.single (Resolved.constant (pos n)) ∷ [])) (fixed (pos 10000))
      (Resolved.call 1 (Resolved.binary divide (Resolved.constant (pos 10)) (Resolved.local_at 0) ∷ []) ∷ [])
      ∷ record { locals = 1; definition = 1; branches = waits (pos 10000) ∷ [] } ∷ [];
  definitions = record { params = 0; sums = 0 ∷ 1 ∷ [] } ∷ record { params = 1; sums = 2 ∷ [] } ∷ [];
  channels = 1;
  starts = record { definition = 0; count = 1; values = [] } ∷ [];
  words = unnamed;
}

-- ---- 19

-- the pairs (c, [k]), (c, [k+1]) and on, n of them
unfoldable pub lamps : ℕ → ℕ → List offers.Pair
lamps k zero = []
lamps k (suc n) = record { channel = one_item (offers.named 0); values = pos k ∷ [] } ∷ lamps (suc k) n

-- {c![k],1}, and {c#[k],1}
abbrev lighting : ℕ → Resolved.Model
lighting k = alone (single (Resolved.launch (one_item (Resolved.name 0)) (Resolved.constant (pos k) ∷ [])) (fixed (pos 10000)) [] ∷ [])

abbrev dousing : ℕ → Resolved.Model
dousing k = alone (single (Resolved.kill (one_item (Resolved.name 0)) (Resolved.constant (pos k) ∷ [])) (fixed (pos 10000)) [] ∷ [])

pub refusals :
    -- 12 names the second process and its second branch
    (machine.listing (alone (sum_over (waits (pos 1) ∷ []) ∷ sum_over (waits (pos 1) ∷ waits (pos 1000000001) ∷ []) ∷ []))
    (hall 1)
    ≡ machine.refused_with (machine.no 12 1 1 machine.zeroed))
    -- 1,024 entries are listed, 1,025 are refused
    × (listed (alone (sum_over (replicate 4 (waits (pos 1))) ∷ [])) (crowd 256) ≡ 0)
    × (listed (alone (sum_over (replicate 5 (waits (pos 1))) ∷ [])) (crowd 205) ≡ 13)
    -- nine handshakes at the largest rates are listed, and with the least rate beside them refused
    × (listed (handing []) (hall 9) ≡ 0)
    × (listed (handing (waits (pos 1) ∷ [])) (hall 9) ≡ 14)
    -- 256 processes afterwards are accepted, 257 refused; an argument without value is found first
    × (stepped (going (replicate 256 (Resolved.enter 0))) begun ≡ 0)
    × (stepped (going (replicate 257 (Resolved.enter 0))) begun ≡ 18)
    × (stepped (going (replicate 257 (Resolved.call 0 (missing ∷ [])))) begun ≡ 17)
    -- the value handed over is the divisor
    × (stepped (dividing 2) (hall 1) ≡ 0)
    × (stepped (dividing 0) (hall 1) ≡ 17)
    -- with 256 pairs lit another is refused, one that is lit is not, nor a kill
    × (stepped (lighting 256) (chain 0 (lamps 0 255)) ≡ 0)
    × (stepped (lighting 256) (chain 0 (lamps 0 256)) ≡ 19)
    × (stepped (lighting 255) (chain 0 (lamps 0 256)) ≡ 0)
    × (stepped (dousing 255) (chain 0 (lamps 0 256)) ≡ 0)
unfolding
    offer.definition_of offer.process_at offer.called machine.listing machine.counted offer.missing offer.missing_branch offer.is_none offer.branches offer.branches_of offer.offered
    offer.part_processes offer.next_processes offer.or_zero evaluate.eval_branch evaluate.eval_gate evaluate.eval_offer evaluate.eval_rate evaluate.eval_scale
    evaluate.in_rate evaluate.eval_action evaluate.eval_pair evaluate.eval_query evaluate.eval_item evaluate.eval_channel evaluate.eval_all evaluate.eval_value evaluate.eval_set
    evaluate.eval_cond evaluate.related evaluate.eval_expr evaluate.apply evaluate.with_value evaluate.valued evaluate.given sum_of quotient_of floor_quotient
    value_of lists.entries lists.gather lists.when lists.unless lists.of_process lists.of_guard lists.of_action lists.partners_in lists.partner
    lists.partner_action lists.matches lists.same_item lists.same_channel lists.all_within offers.within machine.steps_with machine.choosing machine.drawn machine.taken
    machine.entry_state machine.entry_arguments machine.branch_arguments machine.on_guard offer.arguments_given offer.all_values offer.is_value steps.state_after
    steps.step steps.at_branch steps.one_acts steps.both_act steps.on_action steps.change_of steps.bound_by steps.values_at steps.sent_by steps.replace
    steps.replace_both pairs.pairs_after pairs.insert pairs.remove pairs.before pairs.numbers pairs.item_numbers pairs.item_kind pairs.item_value pairs.channel_numbers order.less machine.lists machine.showing
    machine.listed_as machine.no lamps weights lists.weight_of lists.key_of total chosen Option-elim
refusals = (refl, refl, refl, refl, refl, refl, refl, refl, refl, refl, refl, refl, refl, refl)
