-- What a table holds of each sort of tree depends on an interval of its nodes, whose root has one of the kinds of the sort: a clause for each
-- constructor, from the four forms of Interval.antt. Each law has the fields low, keep, from and to.
use mathlib.Core.Path.{◌≡◌, refl}
use mathlib.Core.List.{List}
use mathlib.Core.Bool.{Bool, true, false}
use Prim.Native.Nat.{ℕ}
use Rattle.grammar.specs.Grammar.{Relation, less, at_most, greater, at_least, same, differs}
use Rattle.grammar.specs.Syntax
use Rattle.grammar.specs.Syntax.{Op, plus, minus, times, divide, maximum, minimum, Join, without, union, inter}
use Rattle.tree.specs.Node.{op_kind, join_kind, relation_kind, test_kind, number_kind}
use Rattle.tree.specs.Table
use Rattle.tree.proofs.Interval.{Interval, among, leaf, one, two, three, wider, beside, beside_two}

pub op-among : (o : Op) → among 5 10 (op_kind o) ≡ true
unfolding op_kind
op-among plus = refl
op-among minus = refl
op-among times = refl
op-among divide = refl
op-among maximum = refl
op-among minimum = refl

pub join-among : (j : Join) → among 12 14 (join_kind j) ≡ true
unfolding join_kind
join-among without = refl
join-among union = refl
join-among inter = refl

pub test-among : (b : Bool) (r : Relation) → among 15 26 (test_kind b r) ≡ true
unfolding test_kind relation_kind
test-among false less = refl
test-among false at_most = refl
test-among false greater = refl
test-among false at_least = refl
test-among false same = refl
test-among false differs = refl
test-among true less = refl
test-among true at_most = refl
test-among true greater = refl
test-among true at_least = refl
test-among true same = refl
test-among true differs = refl

number-among : (b d : Bool) → among 29 32 (number_kind b d) ≡ true
unfolding number_kind
number-among false false = refl
number-among false true = refl
number-among true false = refl
number-among true true = refl

pub expr-interval : (e : Syntax.Expr) → Interval 1 10 (λ t. Table.Expr t e)
unfolding Table.Expr
expr-interval (Syntax.literal false n) = leaf refl
expr-interval (Syntax.literal true n) = leaf refl
expr-interval (Syntax.named n) = leaf refl
expr-interval (Syntax.absolute e) = one refl (expr-interval e)
expr-interval (Syntax.binary o e f) = wider (two (op-among o) (expr-interval e) (expr-interval f)) refl

pub exprs-interval : (r : Syntax.Exprs) → Interval 1 52 (λ t. Table.Exprs t r)
unfolding Table.Exprs
exprs-interval (Syntax.last_expr e) = wider (expr-interval e) refl
exprs-interval (Syntax.next_expr e r) = two refl (expr-interval e) (exprs-interval r)

pub set-interval : (s : Syntax.Set) → Interval 1 14 (λ t. Table.Set t s)
unfolding Table.Set
set-interval (Syntax.single e) = wider (expr-interval e) refl
set-interval (Syntax.range e f) = two refl (expr-interval e) (expr-interval f)
set-interval (Syntax.joined j s r) = wider (two (join-among j) (set-interval s) (set-interval r)) refl

pub cond-interval : (c : Syntax.Cond) → Interval 15 28 (λ t. Table.Cond t c)
unfolding Table.Cond
cond-interval (Syntax.compare b r e f) = wider (two (test-among b r) (expr-interval e) (expr-interval f)) refl
cond-interval (Syntax.both c d) = two refl (cond-interval c) (cond-interval d)
cond-interval (Syntax.either c d) = two refl (cond-interval c) (cond-interval d)

pub number-interval : (v : Syntax.Number) → Interval 29 32 (λ t. Table.Number t v)
unfolding Table.Number
number-interval (Syntax.number b d n) = leaf (number-among b d)

-- a number is one node
pub number-low : (t : List ℕ) (v : Syntax.Number) (lo k : ℕ) → Table.Number t v lo k → k ≡ lo
unfolding Table.Number
number-low t (Syntax.number b d n) lo k h = h.low

pub scale-interval : (s : Syntax.Scale) → Interval 29 33 (λ t. Table.Scale t s)
unfolding Table.Scale
scale-interval (Syntax.fixed v) = wider (number-interval v) refl
scale-interval (Syntax.named_scale n) = leaf refl

pub rate-interval : (r : Syntax.Rate) → Interval 29 34 (λ t. Table.Rate t r)
unfolding Table.Rate
rate-interval (Syntax.plain s) = wider (scale-interval s) refl
rate-interval (Syntax.scaled s e) = two refl (scale-interval s) (expr-interval e)

pub values-interval : (v : Syntax.Values) → Interval 1 35 (λ t. Table.Values t v)
unfolding Table.Values
values-interval (Syntax.one_value e) = wider (expr-interval e) refl
values-interval (Syntax.two_values e f) = two refl (expr-interval e) (expr-interval f)

pub sets-interval : (s : Syntax.Sets) → Interval 1 35 (λ t. Table.Sets t s)
unfolding Table.Sets
sets-interval (Syntax.one_set s) = wider (set-interval s) refl
sets-interval (Syntax.two_sets s r) = two refl (set-interval s) (set-interval r)

pub channel-interval : (c : Syntax.Channel) → Interval 1 68 (λ t. Table.Channel t c)
unfolding Table.Channel
channel-interval (Syntax.one_item e) = wider (expr-interval e) refl
channel-interval (Syntax.two_items e f) = two refl (expr-interval e) (expr-interval f)
channel-interval (Syntax.three_items e f g) = three refl (expr-interval e) (expr-interval f) (expr-interval g)

pub action-interval : (a : Syntax.Action) → Interval 36 44 (λ t. Table.Action t a)
unfolding Table.Action
action-interval (Syntax.wait n) = leaf refl
action-interval (Syntax.launch c v) = two refl (channel-interval c) (values-interval v)
action-interval (Syntax.kill c v) = two refl (channel-interval c) (values-interval v)
action-interval (Syntax.receive c s) = two refl (channel-interval c) (sets-interval s)
action-interval (Syntax.bind c s (Syntax.names n m)) = two refl (channel-interval c) (sets-interval s)
action-interval (Syntax.check c s) = two refl (channel-interval c) (sets-interval s)
action-interval (Syntax.hand_send c v) = two refl (channel-interval c) (values-interval v)
action-interval (Syntax.hand_receive c s) = two refl (channel-interval c) (sets-interval s)
action-interval (Syntax.hand_bind c s (Syntax.names n m)) = two refl (channel-interval c) (sets-interval s)

mutual
  unfolding Table.Branch Table.Offer Table.Branches Table.Sum Table.Cont Table.Conts

  pub branch-interval : (b : Syntax.Branch) → Interval 45 47 (λ t. Table.Branch t b)
  branch-interval (Syntax.branch f Syntax.no_gate a r n) = wider (offer-interval f a r n) refl
  branch-interval (Syntax.branch f (Syntax.gate c) a r n) = two refl (cond-interval c) (offer-interval f a r n)

  pub offer-interval : (f : ℕ) (a : Syntax.Action) (r : Syntax.Rate) (n : Syntax.Next) → Interval 45 46 (λ t. Table.Offer t f a r n)
  offer-interval f a r Syntax.stop = two refl (action-interval a) (rate-interval r)
  offer-interval f a r (Syntax.dot c) = three refl (action-interval a) (rate-interval r) (cont-interval c)

  pub branches-interval : (b : Syntax.Branches) → Interval 45 48 (λ t. Table.Branches t b)
  branches-interval (Syntax.last_branch b) = wider (branch-interval b) refl
  branches-interval (Syntax.next_branch b r) = two refl (branch-interval b) (branches-interval r)

  pub sum-interval : (s : Syntax.Sum) → Interval 49 49 (λ t. Table.Sum t s)
  sum-interval (Syntax.sum n b) = one refl (branches-interval b)

  pub cont-interval : (c : Syntax.Cont) → Interval 49 53 (λ t. Table.Cont t c)
  cont-interval (Syntax.proceed s) = wider (sum-interval s) refl
  cont-interval (Syntax.call n Syntax.no_args) = leaf refl
  cont-interval (Syntax.call n (Syntax.args r)) = one refl (exprs-interval r)
  cont-interval (Syntax.group n c) = one refl (conts-interval c)

  pub conts-interval : (c : Syntax.Conts) → Interval 49 54 (λ t. Table.Conts t c)
  conts-interval (Syntax.last_cont c) = wider (cont-interval c) refl
  conts-interval (Syntax.next_cont c r) = two refl (cont-interval c) (conts-interval r)

pub sums-interval : (s : Syntax.Sums) → Interval 49 55 (λ t. Table.Sums t s)
unfolding Table.Sums
sums-interval (Syntax.last_sum s) = wider (sum-interval s) refl
sums-interval (Syntax.next_sum s r) = two refl (sum-interval s) (sums-interval r)

pub definition-interval : (n : ℕ) (p : Syntax.Params) (b : Syntax.Sums) → Interval 56 56 (λ t. Table.Definition t n p b)
unfolding Table.Definition
definition-interval n Syntax.no_params b = one refl (sums-interval b)
definition-interval n (Syntax.params (Syntax.names f m)) b = beside_two (one refl (sums-interval b))

pub wholes-interval : (w : Syntax.Wholes) → Interval 1 61 (λ t. Table.Wholes t w)
unfolding Table.Wholes
wholes-interval (Syntax.last_whole b n) = wider (expr-interval (Syntax.literal b n)) refl
wholes-interval (Syntax.next_whole b n r) = two refl (expr-interval (Syntax.literal b n)) (wholes-interval r)

pub start-interval : (s : Syntax.Start) → Interval 57 60 (λ t. Table.Start t s)
unfolding Table.Start
start-interval (Syntax.once n Syntax.no_starts) = leaf refl
start-interval (Syntax.once n (Syntax.starts w)) = one refl (wholes-interval w)
start-interval (Syntax.counted c n Syntax.no_starts) = beside (leaf refl)
start-interval (Syntax.counted c n (Syntax.starts w)) = beside (one refl (wholes-interval w))

pub system-interval : (s : Syntax.System) → Interval 57 62 (λ t. Table.System t s)
unfolding Table.System
system-interval (Syntax.last_start s) = wider (start-interval s) refl
system-interval (Syntax.next_start s r) = two refl (start-interval s) (system-interval r)

pub definitions-interval : (d : Syntax.Definitions) → Interval 63 64 (λ t. Table.Definitions t d)
unfolding Table.Definitions
definitions-interval (Syntax.last_definition n p b s) = two refl (definition-interval n p b) (system-interval s)
definitions-interval (Syntax.next_definition n p b d) = two refl (definition-interval n p b) (definitions-interval d)

pub model-interval : (m : Syntax.Model) → Interval 63 65 (λ t. Table.Model t m)
unfolding Table.Model
model-interval (Syntax.definitions d) = wider (definitions-interval d) refl
model-interval (Syntax.variable n v m) = two refl (number-interval v) (model-interval m)
