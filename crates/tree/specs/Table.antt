-- What a table of nodes holds: a tree's nodes are an interval of the table, each node after its parts, the root last. A part's root is found from
-- its parent: the last part's is the node before it, an earlier part's stands in a field. Assumes nothing: these are definitions.
use Rattle.std.specs.Prelude.{◌≡◌, List, true, false, ℕ, ◌+◌, ◌<◌, get_or}
use Rattle.grammar.specs.Syntax
use Rattle.tree.specs.Node as node
use Rattle.tree.specs.Node.{field, cell, op_kind, join_kind, test_kind, number_kind}

-- node k of the table has this kind and these fields
pub record Node (t : List ℕ) (k kind token left third : ℕ) : Type 0 where
  pub written : get_or t k 0 ≡ cell kind token left third
  pub token-fits : token < field
  pub left-fits : left < field
  pub third-fits : third < field

-- the tree's nodes are those from lo to its root k: none but the root; and one, two or three parts before it
pub record Leaf (t : List ℕ) (kind token lo k : ℕ) : Type 0 where
  pub node : Node t k kind token 0 0
  pub low : k ≡ lo

pub record One (t : List ℕ) (kind token third : ℕ) (part : ℕ → ℕ → Type 0) (lo k : ℕ) : Type 0 where
  pub root : ℕ
  pub above : k ≡ root + 1
  pub node : Node t k kind token 0 third
  pub holds : part lo root

pub record Two (t : List ℕ) (kind token third : ℕ) (first second : ℕ → ℕ → Type 0) (lo k : ℕ) : Type 0 where
  pub left : ℕ
  pub right : ℕ
  pub above : k ≡ right + 1
  pub node : Node t k kind token left third
  pub holds-first : first lo left
  pub holds-second : second (left + 1) right

pub record Three (t : List ℕ) (kind token : ℕ) (first second third : ℕ → ℕ → Type 0) (lo k : ℕ) : Type 0 where
  pub left : ℕ
  pub middle : ℕ
  pub right : ℕ
  pub above : k ≡ right + 1
  pub node : Node t k kind token left middle
  pub holds-first : first lo left
  pub holds-second : second (left + 1) middle
  pub holds-third : third (middle + 1) right

-- the first token of the first branch
unfoldable pub first_of : Syntax.Branch → ℕ
first_of (Syntax.branch f g a r n) = f

unfoldable pub first_token : Syntax.Branches → ℕ
first_token (Syntax.last_branch b) = first_of b
first_token (Syntax.next_branch b r) = first_of b

unfoldable pub count_exprs : Syntax.Exprs → ℕ
count_exprs (Syntax.last_expr e) = 1
count_exprs (Syntax.next_expr e r) = count_exprs r + 1

unfoldable pub count_wholes : Syntax.Wholes → ℕ
count_wholes (Syntax.last_whole b k) = 1
count_wholes (Syntax.next_whole b k r) = count_wholes r + 1

module _ (t : List ℕ) where
  unfoldable pub Expr : Syntax.Expr → ℕ → ℕ → Type 0
  Expr (Syntax.literal false n) = Leaf t node.literal n
  Expr (Syntax.literal true n) = Leaf t node.negative n
  Expr (Syntax.named n) = Leaf t node.named n
  Expr (Syntax.absolute e) = One t node.absolute 0 0 (Expr e)
  Expr (Syntax.binary o e f) = Two t (op_kind o) 0 0 (Expr e) (Expr f)

  unfoldable pub Exprs : Syntax.Exprs → ℕ → ℕ → Type 0
  Exprs (Syntax.last_expr e) = Expr e
  Exprs (Syntax.next_expr e r) = Two t node.argument 0 0 (Expr e) (Exprs r)

  unfoldable pub Set : Syntax.Set → ℕ → ℕ → Type 0
  Set (Syntax.single e) = Expr e
  Set (Syntax.range e f) = Two t node.range 0 0 (Expr e) (Expr f)
  Set (Syntax.joined j s r) = Two t (join_kind j) 0 0 (Set s) (Set r)

  unfoldable pub Cond : Syntax.Cond → ℕ → ℕ → Type 0
  Cond (Syntax.compare b r e f) = Two t (test_kind b r) 0 0 (Expr e) (Expr f)
  Cond (Syntax.both c d) = Two t node.both 0 0 (Cond c) (Cond d)
  Cond (Syntax.either c d) = Two t node.either 0 0 (Cond c) (Cond d)

  unfoldable pub Number : Syntax.Number → ℕ → ℕ → Type 0
  Number (Syntax.number b d n) = Leaf t (number_kind b d) n

  unfoldable pub Scale : Syntax.Scale → ℕ → ℕ → Type 0
  Scale (Syntax.fixed v) = Number v
  Scale (Syntax.named_scale n) = Leaf t node.scale_name n

  unfoldable pub Rate : Syntax.Rate → ℕ → ℕ → Type 0
  Rate (Syntax.plain s) = Scale s
  Rate (Syntax.scaled s e) = Two t node.scaled 0 0 (Scale s) (Expr e)

  unfoldable pub Values : Syntax.Values → ℕ → ℕ → Type 0
  Values (Syntax.one_value e) = Expr e
  Values (Syntax.two_values e f) = Two t node.pair 0 0 (Expr e) (Expr f)

  unfoldable pub Sets : Syntax.Sets → ℕ → ℕ → Type 0
  Sets (Syntax.one_set s) = Set s
  Sets (Syntax.two_sets s r) = Two t node.pair 0 0 (Set s) (Set r)

  unfoldable pub Channel : Syntax.Channel → ℕ → ℕ → Type 0
  Channel (Syntax.one_item e) = Expr e
  Channel (Syntax.two_items e f) = Two t node.two_items 0 0 (Expr e) (Expr f)
  Channel (Syntax.three_items e f g) = Three t node.three_items 0 (Expr e) (Expr f) (Expr g)

  -- bound names stand in the node: the token of the first and how many
  unfoldable pub Action : Syntax.Action → ℕ → ℕ → Type 0
  Action (Syntax.wait n) = Leaf t node.wait n
  Action (Syntax.launch c v) = Two t node.launch 0 0 (Channel c) (Values v)
  Action (Syntax.kill c v) = Two t node.kill 0 0 (Channel c) (Values v)
  Action (Syntax.receive c s) = Two t node.receive 0 0 (Channel c) (Sets s)
  Action (Syntax.bind c s (Syntax.names n m)) = Two t node.bind n m (Channel c) (Sets s)
  Action (Syntax.check c s) = Two t node.check 0 0 (Channel c) (Sets s)
  Action (Syntax.hand_send c v) = Two t node.hand_send 0 0 (Channel c) (Values v)
  Action (Syntax.hand_receive c s) = Two t node.hand_receive 0 0 (Channel c) (Sets s)
  Action (Syntax.hand_bind c s (Syntax.names n m)) = Two t node.hand_bind n m (Channel c) (Sets s)

  -- a branch's first token stands in its nodes; the gate's node stands above the rest
  unfoldable mutual
    pub Branch : Syntax.Branch → ℕ → ℕ → Type 0
    Branch (Syntax.branch f Syntax.no_gate a r n) = Offer f a r n
    Branch (Syntax.branch f (Syntax.gate c) a r n) = Two t node.gate f 0 (Cond c) (Offer f a r n)

    pub Offer : ℕ → Syntax.Action → Syntax.Rate → Syntax.Next → ℕ → ℕ → Type 0
    Offer f a r Syntax.stop = Two t node.stop f 0 (Action a) (Rate r)
    Offer f a r (Syntax.dot c) = Three t node.dot f (Action a) (Rate r) (Cont c)

    pub Branches : Syntax.Branches → ℕ → ℕ → Type 0
    Branches (Syntax.last_branch b) = Branch b
    Branches (Syntax.next_branch b r) = Two t node.choice 0 0 (Branch b) (Branches r)

    -- a sum's number, and its first token in the third field
    pub Sum : Syntax.Sum → ℕ → ℕ → Type 0
    Sum (Syntax.sum n b) = One t node.sum n (first_token b) (Branches b)

    pub Cont : Syntax.Cont → ℕ → ℕ → Type 0
    Cont (Syntax.proceed s) = Sum s
    Cont (Syntax.call n Syntax.no_args) = Leaf t node.call n
    Cont (Syntax.call n (Syntax.args r)) = One t node.call_with n (count_exprs r) (Exprs r)
    Cont (Syntax.group n c) = One t node.group n 0 (Conts c)

    pub Conts : Syntax.Conts → ℕ → ℕ → Type 0
    Conts (Syntax.last_cont c) = Cont c
    Conts (Syntax.next_cont c r) = Two t node.item 0 0 (Cont c) (Conts r)

  unfoldable pub Sums : Syntax.Sums → ℕ → ℕ → Type 0
  Sums (Syntax.last_sum s) = Sum s
  Sums (Syntax.next_sum s r) = Two t node.beside 0 0 (Sum s) (Sums r)

  -- a definition's name, and how many parameters: the first is the second token after the name
  unfoldable pub Definition : ℕ → Syntax.Params → Syntax.Sums → ℕ → ℕ → Type 0
  Definition n Syntax.no_params b lo k = One t node.definition n 0 (Sums b) lo k
  Definition n (Syntax.params (Syntax.names f m)) b lo k = (f ≡ n + 2) × (0 < m) × One t node.definition n m (Sums b) lo k

  unfoldable pub Wholes : Syntax.Wholes → ℕ → ℕ → Type 0
  Wholes (Syntax.last_whole b n) = Expr (Syntax.literal b n)
  Wholes (Syntax.next_whole b n r) = Two t node.whole 0 0 (Expr (Syntax.literal b n)) (Wholes r)

  -- an item of the system line: its name, and how many values; a count is the second token before the name
  unfoldable pub Start : Syntax.Start → ℕ → ℕ → Type 0
  Start (Syntax.once n Syntax.no_starts) lo k = Leaf t node.start n lo k
  Start (Syntax.once n (Syntax.starts w)) lo k = One t node.start_with n (count_wholes w) (Wholes w) lo k
  Start (Syntax.counted c n Syntax.no_starts) lo k = (n ≡ c + 2) × Leaf t node.counted n lo k
  Start (Syntax.counted c n (Syntax.starts w)) lo k = (n ≡ c + 2) × One t node.counted_with n (count_wholes w) (Wholes w) lo k

  unfoldable pub System : Syntax.System → ℕ → ℕ → Type 0
  System (Syntax.last_start s) = Start s
  System (Syntax.next_start s r) = Two t node.system 0 0 (Start s) (System r)

  unfoldable pub Definitions : Syntax.Definitions → ℕ → ℕ → Type 0
  Definitions (Syntax.last_definition n p b s) = Two t node.last 0 0 (Definition n p b) (System s)
  Definitions (Syntax.next_definition n p b d) = Two t node.next 0 0 (Definition n p b) (Definitions d)

  unfoldable pub Model : Syntax.Model → ℕ → ℕ → Type 0
  Model (Syntax.definitions d) = Definitions d
  Model (Syntax.variable n v m) = Two t node.variable n 0 (Number v) (Model m)
