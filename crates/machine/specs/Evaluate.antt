-- What the parts of a branch come to, given the locals of its process (01, Values). A part without value makes the whole without value.
-- Assumes nothing: these are definitions.
use Rattle.std.specs.Prelude.{List, [], ◌∷◌, Bool, true, false, cond, not, ℕ, leb, ℤ, pos, negsuc, ◌*ℤ◌, get_or, None, Some}
use Rattle.std.proofs.Math.Option.{Option, none, some}
use Rattle.value.specs.Range.{Value}
use Rattle.value.specs.Arithmetic.{is_less, is_at_most, is_same, sum_of, difference_of, product_of, quotient_of, abs_of, max_of, min_of}
use Rattle.word.specs.Number.{unit}
use Rattle.grammar.specs.Grammar.{Relation, less, at_most, greater, at_least, same, differs}
use Rattle.grammar.specs.Syntax.{Op, plus, minus, times, divide, maximum, minimum, Join, without, union, inter}
use Rattle.value.specs.Items.{one_item, two_items, three_items}
use Rattle.model.specs.Resolved
use Rattle.rules.specs.Offers as offers

-- 01, Values: f of a part's value, and nothing where the part has none; for values, for values that lead to other things, and for other things
unfoldable pub with_value : Value → (ℤ → Value) → Value
with_value (Some x) f = f x
with_value None f = None

unfoldable pub valued : {A : Type 0} → Value → (ℤ → Option A) → Option A
valued (Some x) f = f x
valued None f = none

unfoldable pub given : {A B : Type 0} → Option A → (A → Option B) → Option B
given (some x) f = f x
given none f = none

-- ---- expressions

-- 01, Model text, expressions: the operators
unfoldable pub apply : Op → ℤ → ℤ → Value
apply plus x y = sum_of x y
apply minus x y = difference_of x y
apply times x y = product_of x y
apply divide x y = quotient_of x y
apply maximum x y = Some (max_of x y)
apply minimum x y = Some (min_of x y)

-- 01, Values: every part of an expression has a value, or the whole has none
unfoldable pub eval_expr : List ℤ → Resolved.Expr → Value
eval_expr ls (Resolved.constant z) = Some z
eval_expr ls (Resolved.local_at i) = Some (get_or ls i (pos 0))
eval_expr ls (Resolved.absolute e) = with_value (eval_expr ls e) abs_of
eval_expr ls (Resolved.binary o e f) = with_value (eval_expr ls e) (λ x. with_value (eval_expr ls f) (λ y. apply o x y))

-- ---- sets

-- 01, Model text, sets: the operators
unfoldable pub joined : Join → offers.Set → offers.Set → offers.Set
joined without x y = offers.without x y
joined union x y = offers.union x y
joined inter x y = offers.inter x y

-- 01, Model text, sets: a lone expression is the range from itself to itself
unfoldable pub eval_set : List ℤ → Resolved.Set → Option offers.Set
eval_set ls (Resolved.single e) = valued (eval_expr ls e) (λ x. some (offers.range x x))
eval_set ls (Resolved.range e f) = valued (eval_expr ls e) (λ x. valued (eval_expr ls f) (λ y. some (offers.range x y)))
eval_set ls (Resolved.joined j s r) = given (eval_set ls s) (λ x. given (eval_set ls r) (λ y. some (joined j x y)))

-- ---- conditions

-- 01, Model text, conditions: the relations
unfoldable pub related : Relation → ℤ → ℤ → Bool
related less x y = is_less x y
related at_most x y = is_at_most x y
related greater x y = is_less y x
related at_least x y = is_at_most y x
related same x y = is_same x y
related differs x y = not (is_same x y)

-- 01, Values: `&` and `|` skip their right side when the left decides
unfoldable pub eval_cond : List ℤ → Resolved.Cond → Option Bool
eval_cond ls (Resolved.compare turned r e f) =
    valued (eval_expr ls e) (λ x. valued (eval_expr ls f) (λ y. some (cond turned (not (related r x y)) (related r x y))))
eval_cond ls (Resolved.both c d) = given (eval_cond ls c) (λ b. cond b (eval_cond ls d) (some false))
eval_cond ls (Resolved.either c d) = given (eval_cond ls c) (λ b. cond b (some true) (eval_cond ls d))

-- ---- rates, in ten-thousandths

-- 01, Values: scale and product lie in 0 to this
abbrev pub rate_limit : ℕ
rate_limit = 1000000000

-- 01, Values: a rate's range
unfoldable pub in_rate : ℤ → Option ℕ
in_rate (pos n) = cond (leb n rate_limit) (some n) none
in_rate (negsuc n) = none

-- 01, Values: a decimal or whole number in ten-thousandths (Resolved.antt), or a local times 10,000; in the range of a rate by itself
unfoldable pub eval_scale : List ℤ → Resolved.Scale → Option ℕ
eval_scale ls (Resolved.fixed z) = in_rate z
eval_scale ls (Resolved.scale_local i) = in_rate (get_or ls i (pos 0) *ℤ pos unit)

-- 01, Values: scale times atom, in the range too
unfoldable pub eval_rate : List ℤ → Resolved.Rate → Option ℕ
eval_rate ls (Resolved.plain s) = eval_scale ls s
eval_rate ls (Resolved.scaled s e) = given (eval_scale ls s) (λ n. valued (eval_expr ls e) (λ v. in_rate (pos n *ℤ v)))

-- ---- channels, values, sets, actions

-- 01, Model text, actions: an item of a channel is an expression or a name
unfoldable pub eval_item : List ℤ → Resolved.Item → Option offers.Item
eval_item ls (Resolved.number e) = valued (eval_expr ls e) (λ x. some (offers.number x))
eval_item ls (Resolved.name n) = some (offers.named n)

-- 02, note 7: one to three items, in order
unfoldable pub eval_channel : List ℤ → Resolved.Channel → Option offers.Channel
eval_channel ls (one_item a) = given (eval_item ls a) (λ x. some (one_item x))
eval_channel ls (two_items a b) = given (eval_item ls a) (λ x. given (eval_item ls b) (λ y. some (two_items x y)))
eval_channel ls (three_items a b c) = given (eval_item ls a) (λ x. given (eval_item ls b) (λ y. given (eval_item ls c) (λ z. some (three_items x y z))))

-- 01, Values: every one of a list, in order
unfoldable pub eval_all : {A B : Type 0} → (A → Option B) → List A → Option (List B)
eval_all f [] = some []
eval_all f (x ∷ xs) = given (f x) (λ y. given (eval_all f xs) (λ ys. some (y ∷ ys)))

-- one of the values launched, killed or sent
unfoldable pub eval_value : List ℤ → Resolved.Expr → Option ℤ
eval_value ls e = valued (eval_expr ls e) some

-- 01, Values: channel, then values
unfoldable pub eval_pair : List ℤ → Resolved.Channel → List Resolved.Expr → Option offers.Pair
eval_pair ls c es = given (eval_channel ls c) (λ x. given (eval_all (eval_value ls) es) (λ vs. some (record { channel = x; values = vs })))

-- 01, Values: channel, then sets
unfoldable pub eval_query : List ℤ → Resolved.Channel → List Resolved.Set → Option offers.Query
eval_query ls c ss = given (eval_channel ls c) (λ x. given (eval_all (eval_set ls) ss) (λ ys. some (record { channel = x; sets = ys })))

-- 01, Model text, actions: each in turn
unfoldable pub eval_action : List ℤ → Resolved.Action → Option offers.Action
eval_action ls (Resolved.wait k) = some offers.wait
eval_action ls (Resolved.launch c v) = given (eval_pair ls c v) (λ x. some (offers.launch x))
eval_action ls (Resolved.kill c v) = given (eval_pair ls c v) (λ x. some (offers.kill x))
eval_action ls (Resolved.receive c s) = given (eval_query ls c s) (λ w. some (offers.receive w))
eval_action ls (Resolved.bind c s) = given (eval_query ls c s) (λ w. some (offers.bind w))
eval_action ls (Resolved.check c s) = given (eval_query ls c s) (λ w. some (offers.check w))
eval_action ls (Resolved.hand_send c v) = given (eval_pair ls c v) (λ x. some (offers.send x))
eval_action ls (Resolved.hand_receive c s) = given (eval_query ls c s) (λ w. some (offers.take w))
eval_action ls (Resolved.hand_bind c s) = given (eval_query ls c s) (λ w. some (offers.take_bind w))

-- ---- branches

-- 01, Values: rate, then channel, values or sets, used or not
unfoldable pub eval_offer : List ℤ → (offers.Action → ℕ → offers.Guard) → Resolved.Branch → Option offers.Guard
eval_offer ls f b = given (eval_rate ls b.rate) (λ r. given (eval_action ls b.action) (λ a. some (f a r)))

-- 01, Values: a false gate hides its branch; nothing else there is evaluated
unfoldable pub eval_gate : List ℤ → Option Resolved.Cond → Resolved.Branch → Option offers.Guard
eval_gate ls none b = eval_offer ls offers.bare b
eval_gate ls (some c) b = given (eval_cond ls c) (λ g. cond g (eval_offer ls offers.opened b) (some offers.shut))

-- what a branch offers; nothing where a part has no value or a rate is beyond its range
unfoldable pub eval_branch : List ℤ → Resolved.Branch → Option offers.Guard
eval_branch ls b = eval_gate ls b.gate b
