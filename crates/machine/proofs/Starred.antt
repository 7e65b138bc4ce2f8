-- Every starred specimen of 01 holds for the definitions: each text with its derivation is read, and the machine's answers are computed.
use mathlib.Core.Path.{◌≡◌, refl, sym, ap, ◌∙◌}
use mathlib.Core.List.{List, ◌∷◌}
use mathlib.Core.Option.{some, Option-elim}
use Prim.Native.Nat.{ℕ}
use Rattle.std.specs.Prelude.{Ok}
use Rattle.value.specs.Range.{value_of}
use Rattle.value.specs.Arithmetic.{sum_of, floor_quotient, quotient_of}
use Rattle.grammar.specs.Grammar as derived
use Rattle.model.specs.Opening.{Opening, refused, opened, opening}
use Rattle.model.proofs.Examples.{missing-bracket, sheet_model, sheet-opens}
use Rattle.model.proofs.Computes.{judged_bytes, kinds_in, written, judged_tree, opens-so}
use Rattle.rules.specs.Offers as offers
use Rattle.rules.specs.Listing as lists
use Rattle.rules.specs.Order as order
use Rattle.rules.specs.Pairs as pairs
use Rattle.rules.specs.Draw.{weights, total, chosen}
use Rattle.rules.specs.Step as steps
use Rattle.machine.specs.Evaluate as evaluate
use Rattle.machine.specs.Offer as offer
use Rattle.machine.specs.State.{empty_state}
use Rattle.machine.specs.Saves.{no_saves}
use Rattle.machine.specs.Machine as machine
use Rattle.machine.specs.Machine.{open', Call, closed, opens, answers, after}
use Rattle.machine.specs.Starred.{Specimen, sheet, row_one, row_two, minus_by_two, by_minus_two, both_minus, turned, three_and_five, unlit, unbound, two_bound, enabled, no_handshake, bracket, Result, machine_with, due, lent, Row, Holds, row}

-- ---- what the machine computes

-- what comes of a machine that opened to this, by these calls
unfoldable answering : Opening → List Call → Result
unfolding answers after machine.no machine.listed_as opens machine.calls machine.has_lengths machine.all_parts machine.asked_of_machine machine.on_machine machine.acts machine.on_state machine.lists machine.showing machine.steps_with machine.choosing
    machine.opened_state machine.start_processes machine.copies offer.definition_of offer.process_at offer.called machine.listing machine.counted offer.missing offer.missing_branch offer.is_none offer.branches
    offer.branches_of offer.offered offer.part_processes offer.next_processes offer.or_zero evaluate.eval_branch evaluate.eval_gate evaluate.eval_offer evaluate.eval_rate
    evaluate.eval_scale evaluate.in_rate evaluate.eval_action evaluate.eval_pair evaluate.eval_query evaluate.eval_item evaluate.eval_channel evaluate.eval_all evaluate.eval_value
    evaluate.eval_set evaluate.joined evaluate.eval_cond evaluate.related evaluate.eval_expr evaluate.apply evaluate.with_value evaluate.valued evaluate.given sum_of quotient_of
    floor_quotient value_of lists.entries lists.gather lists.when lists.unless lists.of_process lists.of_guard lists.of_action lists.partners_in lists.partner
    lists.partner_action lists.matches lists.same_item lists.same_channel lists.all_within lists.any_match offers.within machine.drawn machine.taken machine.entry_state machine.entry_arguments
    machine.branch_arguments machine.on_guard offer.arguments_given offer.all_values offer.is_value steps.state_after steps.step steps.at_branch steps.one_acts
    steps.both_act steps.on_action steps.change_of steps.bound_by steps.values_at steps.sent_by steps.replace steps.replace_both pairs.pairs_after pairs.insert
    pairs.remove pairs.before pairs.numbers pairs.item_numbers pairs.item_kind pairs.item_value pairs.channel_numbers order.less empty_state no_saves weights lists.weight_of lists.key_of total chosen Option-elim
answering o cs = record { answered = (opens o).answer ∷ answers (opens o).machine cs; left = some (after (opens o).machine cs) }

-- a text that opens to o
opened-to : (text : List ℕ) (o : Opening) (cs : List Call) → opening text ≡ o
    → record { answered = answers closed (lent (open' text) 0 ∷ cs); left = some (after closed (lent (open' text) 0 ∷ cs)) } ≡ answering o cs
unfolding answers after machine.calls machine.has_lengths machine.all_parts machine.asked_of_machine Option-elim answering
opened-to text o cs e = ap (λ (p : Opening). record { answered = (opens p).answer ∷ answers (opens p).machine cs; left = some (after (opens p).machine cs) }) e

module _ (r : Row) where
  -- a row whose text opens to o
  opening-to : (o : Opening) → opening r.text ≡ o → answering o r.calls ≡ due o r.expected → Holds r
  unfolding Holds
  opening-to o e a = opened-to r.text o r.calls e ∙ a ∙ sym (ap (λ (p : Opening). due p r.expected) e)

  -- a row whose text has a derivation
  fitting : (d : derived.Model) → judged_bytes r.text ≡ Ok tt → written d ≡ kinds_in r.text → answering (judged_tree r.text d) r.calls ≡ due (judged_tree r.text d) r.expected → Holds r
  fitting d b w a = opening-to (judged_tree r.text d) (opens-so r.text d (judged_tree r.text d) b w refl) a

-- ---- derivations

-- a name; a whole number, perhaps with `-`; a quotient of two
abbrev a_name : derived.Expr
a_name = derived.sum (derived.product derived.name derived.no_factors) derived.no_terms

abbrev number : derived.Whole → derived.Expr
number w = derived.sum (derived.product (derived.number w) derived.no_factors) derived.no_terms

abbrev a_whole : derived.Expr
a_whole = number derived.whole

abbrev a_negative : derived.Expr
a_negative = number derived.negative

abbrev quotient : derived.Whole → derived.Whole → derived.Expr
quotient v w = derived.sum (derived.product (derived.number v) (derived.divide (derived.number w) derived.no_factors)) derived.no_terms

-- a set of one expression; 1..2; a list of one set
abbrev single : derived.Expr → derived.Set
single e = derived.set (derived.single e) derived.no_parts

abbrev one_to_two : derived.Set
one_to_two = derived.set (derived.range a_whole a_whole) derived.no_parts

abbrev sets : derived.Set → derived.Sets
sets s = derived.one_set s

-- an action without gate at a whole rate, then what follows
abbrev prefix : derived.Action → derived.Next → derived.Prefix
prefix a n = derived.prefix derived.no_gate a (derived.plain (derived.fixed (derived.integer derived.whole))) n

abbrev then : derived.Prefix → derived.Next
then p = derived.dot (derived.chain p)

-- {c?[s],1}; {c![1],1} and a prefix after it
abbrev receives : derived.Set → derived.Prefix
receives s = prefix (derived.receive (derived.one_item a_name) (sets s)) derived.stop

abbrev launches_then : derived.Prefix → derived.Prefix
launches_then p = prefix (derived.launch (derived.one_item a_name) (derived.one_value a_whole)) (then p)

-- a definition without parameters, and A[];
abbrev defined : derived.Prefix → derived.Choices → derived.Model
defined p c = derived.definitions (derived.last_definition derived.no_params (derived.body p c derived.no_sums) (derived.last_start (derived.once derived.no_starts)))

abbrev alone : derived.Prefix → derived.Model
alone p = defined p derived.no_choices

-- {c![e],1} and a prefix after it
abbrev launch_then : derived.Expr → derived.Prefix → derived.Model
launch_then e p = alone (prefix (derived.launch (derived.one_item a_name) (derived.one_value e)) (then p))

-- {@c![1],1}+{@c?[1],1}
abbrev both : derived.Model
both = defined (prefix (derived.hand_send (derived.one_item a_name) (derived.one_value a_whole)) derived.stop) (derived.or (prefix (derived.hand_receive (derived.one_item a_name) (sets (single a_whole))) derived.stop) derived.no_choices)

-- name[whole number]
abbrev item : derived.Start
item = derived.once (derived.starts (derived.last_whole derived.whole))

-- a receiver of 3..5\4 and three senders
abbrev heard : derived.Model
heard =
    derived.definitions
    (derived.next_definition derived.no_params
    (derived.body (prefix (derived.hand_receive (derived.one_item a_name) (sets (derived.set (derived.range a_whole a_whole) (derived.without (derived.single a_whole) derived.no_parts)))) derived.stop) derived.no_choices derived.no_sums)
    (derived.last_definition (derived.params derived.last_name) (derived.body (prefix (derived.hand_send (derived.one_item a_name) (derived.one_value a_name)) derived.stop) derived.no_choices derived.no_sums)
    (derived.next_start (derived.once derived.no_starts) (derived.next_start item (derived.next_start item (derived.last_start item))))))

-- 01, Specimens: every row
pub holds : (s : Specimen) → Holds (row s)
unfolding row machine_with judged_bytes kinds_in written judged_tree answering
holds sheet = opening-to _ (opened sheet_model) sheet-opens refl
holds row_one = opening-to _ (opened sheet_model) sheet-opens refl
holds row_two = opening-to _ (opened sheet_model) sheet-opens refl
holds minus_by_two = fitting _ (launch_then (quotient derived.negative derived.whole) (receives (single a_negative))) refl refl refl
holds by_minus_two = fitting _ (launch_then (quotient derived.whole derived.negative) (receives (single a_negative))) refl refl refl
holds both_minus = fitting _ (launch_then (quotient derived.negative derived.negative) (receives (single a_whole))) refl refl refl
holds turned = fitting _ (launch_then (quotient derived.negative derived.negative) (receives (single a_whole))) refl refl refl
holds three_and_five = fitting _ heard refl refl refl
holds unlit = fitting _ (launch_then a_whole (launches_then (prefix (derived.kill (derived.one_item a_name) (derived.one_value a_whole)) (then (prefix (derived.check (derived.one_item a_name) (sets (single a_whole))) derived.stop))))) refl refl refl
holds unbound = fitting _ (launch_then a_whole (launches_then (receives one_to_two))) refl refl refl
holds two_bound = fitting _ (launch_then a_whole (launches_then (prefix (derived.bind (derived.one_item a_name) (sets one_to_two) derived.last_name) derived.stop))) refl refl refl
holds enabled = fitting _ (alone (prefix (derived.check (derived.one_item a_name) (sets (single a_whole))) derived.stop)) refl refl refl
holds no_handshake = fitting _ both refl refl refl
holds bracket = opening-to _ (refused 5 15) missing-bracket refl
