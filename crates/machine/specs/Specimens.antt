-- The specimens of 01 that concern evaluation, listing, step and the rule machine, over resolved models written by hand, by computation, one to a row.
use Rattle.std.specs.Prelude.{◌≡◌, refl, List, [], ◌∷◌, true, false, ℕ, ℤ, pos, negsuc, neg_ℤ}
use Rattle.std.proofs.Math.Option.{Option, none, some, Option-elim}
use Rattle.value.specs.Range.{value_of}
use Rattle.value.specs.Arithmetic.{sum_of, floor_quotient, quotient_of}
use Rattle.grammar.specs.Grammar.{less, greater}
use Rattle.grammar.specs.Syntax.{plus, divide}
use Rattle.value.specs.Items.{one_item}
use Rattle.model.specs.Texts as texts
use Rattle.model.specs.Words.{word_of}
use Rattle.model.specs.Resolved
use Rattle.rules.specs.Offers as offers
use Rattle.rules.specs.Kind as kind
use Rattle.rules.specs.Rules.{key}
use Rattle.rules.specs.Listing as lists
use Rattle.rules.specs.Order as order
use Rattle.rules.specs.Pairs as pairs
use Rattle.rules.specs.Draw.{weights, total, chosen}
use Rattle.rules.specs.Step as steps
use Rattle.machine.specs.Evaluate as evaluate
use Rattle.machine.specs.Evaluate.{eval_cond, eval_rate, eval_branch}
use Rattle.machine.specs.Offer as offer
use Rattle.machine.specs.Offer.{Process}
use Rattle.machine.specs.State.{State, empty_state}
use Rattle.machine.specs.Machine as machine
use Rattle.machine.specs.Machine.{listing_length, as_lent, zeroed, no, entries_are, refused_with, listing, refusing, accepting, drawn, opened_state, closed, turn, list', on', size, call, steps_with, calls}

-- ---- 01, A bench sheet in full

-- n + 1 of the local n
abbrev pub one_more : Resolved.Expr
one_more = Resolved.binary plus (Resolved.local_at 0) (Resolved.constant (pos 1))

-- Lamp[n] = {@pass![n],2}.Lamp[n+1] + [n<3] -> {go,g*n}.Lamp[n+1], where g = 0.25
abbrev pub lamp : Resolved.Sum
lamp = record {
  locals = 1;
  definition = 0;
  branches =
      record {
        gate = none;
        action = Resolved.hand_send (one_item (Resolved.name 0)) (Resolved.local_at 0 ∷ []);
        rate = Resolved.plain (Resolved.fixed (pos 20000));
        next = Resolved.call 0 (one_more ∷ []) ∷ [];
      }
      ∷ record {
        gate = some (Resolved.compare false less (Resolved.local_at 0) (Resolved.constant (pos 3)));
        action = Resolved.wait 34;
        rate = Resolved.scaled (Resolved.fixed (pos 2500)) (Resolved.local_at 0);
        next = Resolved.call 0 (one_more ∷ []) ∷ [];
      }
      ∷ [];
}

-- Post[a] = {@pass?[a..a+1](v),1.5}.Post[v]
abbrev pub post : Resolved.Sum
post = record {
  locals = 1;
  definition = 1;
  branches =
      record {
        gate = none;
        action = Resolved.hand_bind (one_item (Resolved.name 0)) (Resolved.range (Resolved.local_at 0) one_more ∷ []);
        rate = Resolved.plain (Resolved.fixed (pos 15000));
        next = Resolved.call 1 (Resolved.local_at 1 ∷ []) ∷ [];
      }
      ∷ [];
}

-- Lamp[1] || Lamp[4] || Post[1]
abbrev pub sheet : Resolved.Model
sheet = record {
  sums = lamp ∷ post ∷ [];
  definitions = record { params = 1; sums = 0 ∷ [] } ∷ record { params = 1; sums = 1 ∷ [] } ∷ [];
  channels = 1;
  starts =
      record { definition = 0; count = 1; values = pos 1 ∷ [] } ∷ record { definition = 0; count = 1; values = pos 4 ∷ [] }
      ∷ record { definition = 1; count = 1; values = pos 1 ∷ [] } ∷ [];
  words = word_of texts.sheet;
}

-- a process of sum n with one local; here each definition has one sum, of the same number
abbrev process : ℕ → ℤ → Process
process n z = record { sum = n; locals = z ∷ []; definition = n }

-- lamps with these numbers and a post
abbrev bench : ℤ → ℤ → ℤ → State
bench x y z = record { processes = process 0 x ∷ process 0 y ∷ process 1 z ∷ []; pairs = [] }

-- the first lamp and the post shake hands, or the lamp waits with this weight
abbrev rows : ℕ → List lists.Entry
rows w = lists.entry (key kind.handshake 0 0 2 0 0) 300000000 ∷ lists.entry (key kind.wait 0 1 0 0 0) w ∷ []

-- ---- a model of one definition without parameters, and one process

-- a sum of one branch
abbrev pub single : Resolved.Action → Resolved.Rate → List Resolved.Part → Resolved.Sum
single a r next = record { locals = 0; definition = 0; branches = record { gate = none; action = a; rate = r; next = next } ∷ [] }

-- tokens that tell no name
abbrev pub unnamed : ℕ → List ℕ
unnamed k = []

-- one definition, whose sum is the first
abbrev pub alone : List Resolved.Sum → Resolved.Model
alone ss = record { sums = ss; definitions = record { params = 0; sums = 0 ∷ [] } ∷ []; channels = 1; starts = record { definition = 0; count = 1; values = [] } ∷ []; words = unnamed }

-- A[] = {go,r}
abbrev rated : Resolved.Rate → Resolved.Model
rated r = alone (single (Resolved.wait 5) r [] ∷ [])

-- a rate in ten-thousandths
abbrev pub fixed : ℤ → Resolved.Rate
fixed z = Resolved.plain (Resolved.fixed z)

-- A[] = {c![1],1}.{c![1],1}.{c#[1],1}
abbrev lights : Resolved.Model
lights =
    alone
    (single (Resolved.launch (one_item (Resolved.name 0)) (Resolved.constant (pos 1) ∷ [])) (fixed (pos 10000)) (Resolved.enter 1 ∷ [])
    ∷ single (Resolved.launch (one_item (Resolved.name 0)) (Resolved.constant (pos 1) ∷ [])) (fixed (pos 10000)) (Resolved.enter 2 ∷ [])
    ∷ single (Resolved.kill (one_item (Resolved.name 0)) (Resolved.constant (pos 1) ∷ [])) (fixed (pos 10000)) [] ∷ [])

-- (c, [1])
abbrev lit : offers.Pair
lit = record { channel = one_item (offers.named 0); values = pos 1 ∷ [] }

-- one process, at sum n
abbrev pub chain : ℕ → List offers.Pair → State
chain n L = record { processes = record { sum = n; locals = []; definition = 0 } ∷ []; pairs = L }

-- an entry of this kind, with rate 1
abbrev entry_of : ℕ → List lists.Entry
entry_of c = lists.entry (key c 0 0 0 0 0) 100000000 ∷ []

-- ---- gates, `&` and `|`, over the locals i and y

-- y/i
abbrev quotient : Resolved.Expr
quotient = Resolved.binary divide (Resolved.local_at 1) (Resolved.local_at 0)

-- i>0
abbrev above : Resolved.Cond
above = Resolved.compare false greater (Resolved.local_at 0) (Resolved.constant (pos 0))

-- ~ i>0
abbrev not_above : Resolved.Cond
not_above = Resolved.compare true greater (Resolved.local_at 0) (Resolved.constant (pos 0))

-- y/i<1
abbrev divided : Resolved.Cond
divided = Resolved.compare false less quotient (Resolved.constant (pos 1))

-- {go,1*(y/i)} behind this gate
abbrev gated : Option Resolved.Cond → Resolved.Branch
gated g = record { gate = g; action = Resolved.wait 0; rate = Resolved.scaled (Resolved.fixed (pos 10000)) quotient; next = [] }

pub specimens :
    -- this sheet and its total
    (opened_state sheet ≡ bench (pos 1) (pos 4) (pos 1))
    × (listing sheet (opened_state sheet) ≡ entries_are (rows 25000000))
    × (total (weights (rows 25000000)) ≡ 325000000)
    -- draws take row one and row two, or none
    × (steps_with 299999999 sheet (opened_state sheet) ≡ accepting (bench (pos 2) (pos 4) (pos 1)) (rows 25000000) 0)
    × (steps_with 300000000 sheet (opened_state sheet) ≡ accepting (bench (pos 2) (pos 4) (pos 1)) (rows 25000000) 1)
    × (steps_with 325000000 sheet (opened_state sheet) ≡ refusing (opened_state sheet) (rows 25000000) 16)
    -- the next lamp hands over 2, which is bound
    × (steps_with 0 sheet (bench (pos 2) (pos 4) (pos 1)) ≡ accepting (bench (pos 3) (pos 4) (pos 2)) (rows 50000000) 0)
    -- behind a false i>0, y/i is not evaluated; behind a true one it is, and without a gate
    × (eval_branch (pos 0 ∷ pos 7 ∷ []) (gated (some above)) ≡ some offers.shut)
    × (eval_branch (pos 2 ∷ pos 7 ∷ []) (gated (some above)) ≡ some (offers.opened offers.wait 30000))
    × (eval_branch (pos 0 ∷ pos 7 ∷ []) (gated (some not_above)) ≡ none)
    × (eval_branch (pos 0 ∷ pos 7 ∷ []) (gated none) ≡ none)
    -- `&` and `|` skip their right side when the left decides, and only then
    × (eval_cond (pos 0 ∷ pos 7 ∷ []) (Resolved.both above divided) ≡ some false)
    × (eval_cond (pos 0 ∷ pos 7 ∷ []) (Resolved.either not_above divided) ≡ some true)
    × (eval_cond (pos 0 ∷ pos 7 ∷ []) (Resolved.both not_above divided) ≡ none)
    × (eval_cond (pos 0 ∷ pos 7 ∷ []) (Resolved.either above divided) ≡ none)
    -- rate 100000 stands, 100000.0001 gives 12
    × (listing (rated (fixed (pos 1000000000))) (chain 0 []) ≡ entries_are (lists.entry (key kind.wait 0 0 0 0 0) 10000000000000 ∷ []))
    × (listing (rated (fixed (pos 1000000001))) (chain 0 []) ≡ refused_with (no 12 0 0 zeroed))
    -- 100001*0 has no scale; 0*-5 and -0.0 are rate 0
    × (listing (rated (Resolved.scaled (Resolved.fixed (pos 1000010000)) (Resolved.constant (pos 0)))) (chain 0 []) ≡ refused_with (no 12 0 0 zeroed))
    × (eval_rate [] (Resolved.scaled (Resolved.fixed (pos 0)) (Resolved.constant (negsuc 4))) ≡ some 0)
    × (eval_rate [] (fixed (neg_ℤ (pos 0))) ≡ some 0)
    -- launch, launch, kill: unlit
    × (opened_state lights ≡ chain 0 [])
    × (steps_with 0 lights (chain 0 []) ≡ accepting (chain 1 (lit ∷ [])) (entry_of kind.launch) 0)
    × (steps_with 0 lights (chain 1 (lit ∷ [])) ≡ accepting (chain 2 (lit ∷ [])) (entry_of kind.launch) 0)
    × (steps_with 0 lights (chain 2 (lit ∷ [])) ≡ accepting empty_state (entry_of kind.kill) 0)
    -- and then nothing is left to do
    × (steps_with 0 lights empty_state ≡ refusing empty_state [] 15)
    -- the fresh machine has no model to list; a buffer of a wrong length is found before that
    × (calls closed (call (on' list') size listing_length) ≡ turn closed (no 11 0 0 as_lent))
    × (calls closed (call (on' list') size 7169) ≡ turn closed (no 1 0 0 as_lent))
unfolding
    opened_state machine.start_processes machine.copies offer.definition_of offer.process_at offer.called listing machine.counted offer.missing offer.missing_branch offer.is_none offer.branches
    offer.branches_of offer.offered offer.part_processes offer.next_processes offer.or_zero eval_branch evaluate.eval_gate evaluate.eval_offer eval_rate
    evaluate.eval_scale evaluate.in_rate evaluate.eval_action evaluate.eval_pair evaluate.eval_query evaluate.eval_item evaluate.eval_channel evaluate.eval_all evaluate.eval_value
    evaluate.eval_set eval_cond evaluate.related evaluate.eval_expr evaluate.apply evaluate.with_value evaluate.valued evaluate.given sum_of quotient_of
    floor_quotient value_of lists.entries lists.gather lists.when lists.unless lists.of_process lists.of_guard lists.of_action lists.partners_in lists.partner
    lists.partner_action lists.matches lists.same_item lists.same_channel lists.all_within offers.within steps_with machine.choosing drawn machine.taken machine.entry_state machine.entry_arguments
    machine.branch_arguments machine.on_guard offer.arguments_given offer.all_values offer.is_value steps.state_after steps.step steps.at_branch steps.one_acts
    steps.both_act steps.on_action steps.change_of steps.bound_by steps.values_at steps.sent_by steps.replace steps.replace_both pairs.pairs_after pairs.insert
    pairs.remove pairs.before pairs.numbers pairs.item_numbers pairs.item_kind pairs.item_value pairs.channel_numbers order.less empty_state calls machine.has_lengths machine.all_parts machine.asked_of_machine machine.on_machine weights lists.weight_of lists.key_of
    total chosen Option-elim
specimens = (refl, refl, refl, refl, refl, refl, refl, refl, refl, refl, refl, refl, refl, refl, refl, refl, refl, refl, refl, refl, refl, refl, refl, refl, refl, refl, refl)
