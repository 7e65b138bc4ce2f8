-- Well-formed models, as every opened model is (01, Opening a text, questions 7 and 9; proofs/Opened.antt): numbers lie in their ranges, numbers of locals, channel
-- names, sums and definitions exist, every count fits, and there are as many values as names. So evaluation, listing and step never miss anything. Assumes
-- nothing: these are definitions.
use Rattle.std.specs.Prelude.{◌≡◌, List, [], ◌∷◌, ℕ, ◌+◌, ◌*◌, ◌<◌, ◌≤◌, nat_abs, length}
use Rattle.std.proofs.Math.Option.{Option, none, some}
use Rattle.std.proofs.Math.ListN.{get_elem?}
use Rattle.value.specs.Range.{farthest, InRange}
use Rattle.value.specs.Items.{one_item, two_items, three_items}
use Rattle.word.specs.Number.{unit}
use Rattle.model.specs.Limits.{count_limit, definition_limit, parameter_limit, local_limit, branch_limit}
use Rattle.model.specs.Resolved.{Expr, constant, local_at, absolute, binary, Set, single, range, joined, Cond, compare, both, either, Scale, fixed, scale_local, Rate, plain, scaled, Item, number, name, Channel, Action, wait, launch, kill, receive, bind, check, hand_send, hand_receive, hand_bind, Part, enter, call, Branch, Sum, Defined, Start, Model}

-- each member of a list has it
unfoldable pub Every : {A : Type 0} → (A → Type 0) → List A → Type 0
Every P [] = Unit {0}
Every P (x ∷ xs) = P x × Every P xs

-- 01, Model text, actions: one or two values, or sets
pub record OneOrTwo {A : Type 0} (xs : List A) : Type 0 where
  pub one : 1 ≤ length xs
  pub two : length xs ≤ 2

-- ---- what stands in a scope of n locals

-- 01, 7: whole numbers in range; 9: each name used as a value is given
unfoldable pub GoodExpr : ℕ → Expr → Type 0
GoodExpr n (constant z) = InRange z
GoodExpr n (local_at i) = i < n
GoodExpr n (absolute e) = GoodExpr n e
GoodExpr n (binary o e f) = GoodExpr n e × GoodExpr n f

-- 01, Set: every end and member
unfoldable pub GoodSet : ℕ → Set → Type 0
GoodSet n (single e) = GoodExpr n e
GoodSet n (range e f) = GoodExpr n e × GoodExpr n f
GoodSet n (joined j s r) = GoodSet n s × GoodSet n r

-- 01, Condition: both sides of every relation
unfoldable pub GoodCond : ℕ → Cond → Type 0
GoodCond n (compare b r e f) = GoodExpr n e × GoodExpr n f
GoodCond n (both c d) = GoodCond n c × GoodCond n d
GoodCond n (either c d) = GoodCond n c × GoodCond n d

-- 01, Guarded prefix: its condition, if it has one
unfoldable pub GoodGate : ℕ → Option Cond → Type 0
GoodGate n none = Unit {0}
GoodGate n (some c) = GoodCond n c

-- 01, Values: a rate's scale before question 12 asks for its range; a whole number's ten-thousandths are never more
abbrev pub scale_limit : ℕ
scale_limit = farthest * unit

-- 01, Rate: a number, or a local in scope
unfoldable pub GoodScale : ℕ → Scale → Type 0
GoodScale n (fixed z) = nat_abs z ≤ scale_limit
GoodScale n (scale_local i) = i < n

-- 01, Rate: scale and atom
unfoldable pub GoodRate : ℕ → Rate → Type 0
GoodRate n (plain s) = GoodScale n s
GoodRate n (scaled s e) = GoodScale n s × GoodExpr n e

-- 01, 9: as many names as sets
unfoldable pub names_bound : Action → ℕ
names_bound (wait k) = 0
names_bound (launch c v) = 0
names_bound (kill c v) = 0
names_bound (receive c s) = 0
names_bound (bind c s) = length s
names_bound (check c s) = 0
names_bound (hand_send c v) = 0
names_bound (hand_receive c s) = 0
names_bound (hand_bind c s) = length s

module _ (m : Model) where
  -- ---- actions

  -- 01, State: channel names by their numbers
  unfoldable pub GoodItem : ℕ → Item → Type 0
  GoodItem n (number e) = GoodExpr n e
  GoodItem n (name k) = k < m.channels

  unfoldable pub GoodName : ℕ → Channel → Type 0
  GoodName n (one_item a) = GoodItem n a
  GoodName n (two_items a b) = GoodItem n a × GoodItem n b
  GoodName n (three_items a b c) = GoodItem n a × GoodItem n b × GoodItem n c

  -- 01, Actions: a channel with one or two values
  pub record GoodValues (n : ℕ) (c : Channel) (v : List Expr) : Type 0 where
    pub channel : GoodName n c
    pub number : OneOrTwo v
    pub values : Every (GoodExpr n) v

  -- 01, Actions: a channel with one or two sets
  pub record GoodSets (n : ℕ) (c : Channel) (s : List Set) : Type 0 where
    pub channel : GoodName n c
    pub number : OneOrTwo s
    pub sets : Every (GoodSet n) s

  -- 01, Actions: each with its channel, values or sets
  unfoldable pub GoodAction : ℕ → Action → Type 0
  GoodAction n (wait k) = Unit {0}
  GoodAction n (launch c v) = GoodValues n c v
  GoodAction n (kill c v) = GoodValues n c v
  GoodAction n (receive c s) = GoodSets n c s
  GoodAction n (bind c s) = GoodSets n c s
  GoodAction n (check c s) = GoodSets n c s
  GoodAction n (hand_send c v) = GoodValues n c v
  GoodAction n (hand_receive c s) = GoodSets n c s
  GoodAction n (hand_bind c s) = GoodSets n c s

  -- ---- sums

  -- a sum with this number, and with n locals in scope
  pub record SumWith (n k : ℕ) : Type 0 where
    pub sum : Sum
    pub exists : get_elem? m.sums k ≡ some sum
    pub scope : sum.locals ≡ n

  -- a definition with this number, and with n parameters
  pub record Callable (n d : ℕ) : Type 0 where
    pub definition : Defined
    pub exists : get_elem? m.definitions d ≡ some definition
    pub params : definition.params ≡ n

  -- 01, 9: a call has as many values as parameters; a sum in a continuation keeps all the locals
  unfoldable pub GoodPart : ℕ → Part → Type 0
  GoodPart n (enter k) = SumWith n k
  GoodPart n (call d es) = Callable (length es) d × Every (GoodExpr n) es

  -- 01, Model text, last paragraph: the names that a prefix binds are in scope in its continuation alone
  pub record GoodBranch (n : ℕ) (b : Branch) : Type 0 where
    pub gate : GoodGate n b.gate
    pub action : GoodAction n b.action
    pub rate : GoodRate n b.rate
    pub next : Every (GoodPart (n + names_bound b.action)) b.next

  -- 01, 7: at most 8 locals, and 16 branches; a definition's text holds it
  pub record GoodSum (s : Sum) : Type 0 where
    pub few : s.locals ≤ local_limit
    pub definition : s.definition < length m.definitions
    pub some-branch : 1 ≤ length s.branches
    pub few-branches : length s.branches ≤ branch_limit
    pub branches : Every (GoodBranch s.locals) s.branches

  -- 01, 7: at most 6 parameters; a definition's sums have them for locals
  pub record GoodDefined (d : Defined) : Type 0 where
    pub few-params : d.params ≤ parameter_limit
    pub some-sum : 1 ≤ length d.sums
    pub sums : Every (SumWith d.params) d.sums

  -- 01, 7, 9: an item of the system line
  pub record GoodStart (s : Start) : Type 0 where
    pub callable : Callable (length s.values) s.definition
    pub few : s.count ≤ count_limit
    pub values : Every InRange s.values

-- a model whose parts fit together
pub record GoodModel (m : Model) : Type 0 where
  pub sums : Every (GoodSum m) m.sums
  pub few-definitions : length m.definitions ≤ definition_limit
  pub definitions : Every (GoodDefined m) m.definitions
  pub starts : Every (GoodStart m) m.starts
