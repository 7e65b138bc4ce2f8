-- What the settled table of nodes holds: the branches of a resolved model (model: Resolved), each part at its root. A part's root is found as in a
-- syntax tree's table: the last part's is the node before, an earlier part's stands in a field. Assumes nothing: these are definitions.
use Rattle.std.specs.Prelude.{◌≡◌, refl, List, [], ◌∷◌, ◌++◌, false, ℕ, suc, ◌+◌, ◌-◌, ◌*◌, ◌/◌, ◌<◌, ℤ, pos, negsuc, nat_abs, ◌-ℤ◌, length, get_or}
use Rattle.std.proofs.Math.Option.{Option, none, some}
use Rattle.tree.specs.Node as node
use Rattle.tree.specs.Node.{kind_of, token_of, left_of, third_of, op_kind, join_kind, test_kind, number_kind}
use Rattle.value.specs.Items.{one_item, two_items, three_items}
use Rattle.model.specs.Resolved

-- ---- cells with a number: kind, and the number above this offset, which every value and every scale in ten-thousandths keeps to on both sides
abbrev pub offset : ℕ
offset = 36028797018963968

unfoldable pub lifted : ℤ → ℕ
lifted (pos n) = offset + n
lifted (negsuc n) = offset - suc n

unfoldable pub number_cell : ℕ → ℤ → ℕ
number_cell kind z = kind + 256 * lifted z

-- the number of such a cell
unfoldable pub number_of : ℕ → ℤ
number_of c = pos (c / 256) -ℤ pos offset

-- a channel name's number: the kind that the tree's list leaves free
abbrev pub channel : ℕ
channel = 66

-- a rate's number, whatever its sign and its decimals: as the tree's whole number without `-`
abbrev pub scale_number : ℕ
scale_number = 29

scale-number-is : scale_number ≡ number_kind false false
unfolding number_kind
scale-number-is = refl

-- ---- parts by their roots
module _ (t : List ℕ) where
  abbrev pub kind_at : ℕ → ℕ
  kind_at k = kind_of (get_or t k 0)

  -- a number that fits its cell
  pub record Number (kind : ℕ) (z : ℤ) (k : ℕ) : Type 0 where
    pub cell-is : get_or t k 0 ≡ number_cell kind z
    pub fits : nat_abs z < offset

  -- a local, a channel name or a definition by its number
  pub record Index (kind n k : ℕ) : Type 0 where
    pub kind-is : kind_at k ≡ kind
    pub index_is : token_of (get_or t k 0) ≡ n

  pub record Over (kind : ℕ) (part : ℕ → Type 0) (k : ℕ) : Type 0 where
    pub root : ℕ
    pub above : k ≡ root + 1
    pub kind-is : kind_at k ≡ kind
    pub holds : part root

  pub record Pair (kind : ℕ) (first second : ℕ → Type 0) (k : ℕ) : Type 0 where
    pub right : ℕ
    pub above : k ≡ right + 1
    pub kind-is : kind_at k ≡ kind
    pub below : left_of (get_or t k 0) < k
    pub holds-first : first (left_of (get_or t k 0))
    pub holds-second : second right

  pub record Triple (kind : ℕ) (first second third : ℕ → Type 0) (k : ℕ) : Type 0 where
    pub right : ℕ
    pub above : k ≡ right + 1
    pub kind-is : kind_at k ≡ kind
    pub first_below : left_of (get_or t k 0) < k
    pub second_below : third_of (get_or t k 0) < k
    pub holds-first : first (left_of (get_or t k 0))
    pub holds-second : second (third_of (get_or t k 0))
    pub holds-third : third right

  unfoldable pub Expr : Resolved.Expr → ℕ → Type 0
  Expr (Resolved.constant z) = Number node.literal z
  Expr (Resolved.local_at i) = Index node.named i
  Expr (Resolved.absolute e) = Over node.absolute (Expr e)
  Expr (Resolved.binary o e f) = Pair (op_kind o) (Expr e) (Expr f)

  unfoldable pub Set : Resolved.Set → ℕ → Type 0
  Set (Resolved.single e) = Expr e
  Set (Resolved.range e f) = Pair node.range (Expr e) (Expr f)
  Set (Resolved.joined j s r) = Pair (join_kind j) (Set s) (Set r)

  unfoldable pub Cond : Resolved.Cond → ℕ → Type 0
  Cond (Resolved.compare b r e f) = Pair (test_kind b r) (Expr e) (Expr f)
  Cond (Resolved.both c d) = Pair node.both (Cond c) (Cond d)
  Cond (Resolved.either c d) = Pair node.either (Cond c) (Cond d)

  unfoldable pub Scale : Resolved.Scale → ℕ → Type 0
  Scale (Resolved.fixed z) = Number scale_number z
  Scale (Resolved.scale_local i) = Index node.scale_name i

  unfoldable pub Rate : Resolved.Rate → ℕ → Type 0
  Rate (Resolved.plain s) = Scale s
  Rate (Resolved.scaled s e) = Pair node.scaled (Scale s) (Expr e)

  unfoldable pub Item : Resolved.Item → ℕ → Type 0
  Item (Resolved.number e) = Expr e
  Item (Resolved.name n) = Index channel n

  unfoldable pub Channel : Resolved.Channel → ℕ → Type 0
  Channel (one_item a) = Item a
  Channel (two_items a b) = Pair node.two_items (Item a) (Item b)
  Channel (three_items a b c) = Triple node.three_items (Item a) (Item b) (Item c)

  -- one or two
  unfoldable pub OneOrTwo : {A : Type 0} → (A → ℕ → Type 0) → List A → ℕ → Type 0
  OneOrTwo P [] k = ⊥
  OneOrTwo P (x ∷ []) k = P x k
  OneOrTwo P (x ∷ y ∷ []) k = Pair node.pair (P x) (P y) k
  OneOrTwo P (x ∷ y ∷ z ∷ xs) k = ⊥

  unfoldable pub Action : Resolved.Action → ℕ → Type 0
  Action (Resolved.wait n) k = Index node.wait n k
  Action (Resolved.launch c v) k = Pair node.launch (Channel c) (OneOrTwo Expr v) k
  Action (Resolved.kill c v) k = Pair node.kill (Channel c) (OneOrTwo Expr v) k
  Action (Resolved.receive c s) k = Pair node.receive (Channel c) (OneOrTwo Set s) k
  Action (Resolved.bind c s) k = Pair node.bind (Channel c) (OneOrTwo Set s) k
  Action (Resolved.check c s) k = Pair node.check (Channel c) (OneOrTwo Set s) k
  Action (Resolved.hand_send c v) k = Pair node.hand_send (Channel c) (OneOrTwo Expr v) k
  Action (Resolved.hand_receive c s) k = Pair node.hand_receive (Channel c) (OneOrTwo Set s) k
  Action (Resolved.hand_bind c s) k = Pair node.hand_bind (Channel c) (OneOrTwo Set s) k

  -- the arguments of a call, one or more
  unfoldable pub Arguments : List Resolved.Expr → ℕ → Type 0
  Arguments [] k = ⊥
  Arguments (e ∷ []) k = Expr e k
  Arguments (e ∷ f ∷ es) k = Pair node.argument (Expr e) (Arguments (f ∷ es)) k

  -- a call's definition is in its first field, its number of arguments in the third
  pub record Called (d : ℕ) (es : List Resolved.Expr) (k : ℕ) : Type 0 where
    pub root : ℕ
    pub above : k ≡ root + 1
    pub call-is : Index node.call_with d k
    pub count-is : third_of (get_or t k 0) ≡ length es
    pub holds : Arguments es root

  -- the processes of a continuation, left to right: a group's node is above its items, an item's above itself and those after it
  pub data Parts : List Resolved.Part → ℕ → Type 0 where
    entered : {n k : ℕ} → Index node.sum n k → Parts (Resolved.enter n ∷ []) k
    called-bare : {d k : ℕ} → Index node.call d k → Parts (Resolved.call d [] ∷ []) k
    called : {d k : ℕ} {es : List Resolved.Expr} → Called d es k → Parts (Resolved.call d es ∷ []) k
    grouped : {ps : List Resolved.Part} {k : ℕ} → kind_at (k + 1) ≡ node.group → Parts ps k → Parts ps (k + 1)
    items : {ps qs : List Resolved.Part} {k : ℕ} → kind_at (k + 1) ≡ node.item → left_of (get_or t (k + 1) 0) < k → Parts ps (left_of (get_or t (k + 1) 0)) → Parts qs k → Parts (ps ++ qs) (k + 1)

  -- a branch without its gate: action and rate, and perhaps a continuation, whose root is the node before
  pub record Stops (a : Resolved.Action) (r : Resolved.Rate) (k : ℕ) : Type 0 where
    pub offer : Pair node.stop (Action a) (Rate r) k

  pub record Goes (a : Resolved.Action) (r : Resolved.Rate) (ps : List Resolved.Part) (k : ℕ) : Type 0 where
    pub right : ℕ
    pub above : k ≡ right + 1
    pub kind-is : kind_at k ≡ node.dot
    pub action-below : left_of (get_or t k 0) < k
    pub rate-below : third_of (get_or t k 0) < k
    pub action : Action a (left_of (get_or t k 0))
    pub rate : Rate r (third_of (get_or t k 0))
    pub next : Parts ps right

  unfoldable pub Offer : Resolved.Action → Resolved.Rate → List Resolved.Part → ℕ → Type 0
  Offer a r [] k = Stops a r k
  Offer a r (p ∷ ps) k = Goes a r (p ∷ ps) k

  unfoldable pub Gated : Option Resolved.Cond → (ℕ → Type 0) → ℕ → Type 0
  Gated none offer k = offer k
  Gated (some c) offer k = Pair node.gate (Cond c) offer k

  unfoldable pub Branch : Resolved.Branch → ℕ → Type 0
  Branch b = Gated b.gate (Offer b.action b.rate b.next)

  unfoldable pub Branches : List Resolved.Branch → ℕ → Type 0
  Branches [] k = ⊥
  Branches (b ∷ []) k = Branch b k
  Branches (b ∷ c ∷ bs) k = Pair node.choice (Branch b) (Branches (c ∷ bs)) k
