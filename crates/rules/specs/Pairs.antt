-- The lit pairs as an ascending list: their order, and what launch and kill do to it. Definitions only.
use Rattle.std.specs.Prelude.{◌≡◌, refl, List, [], ◌∷◌, Bool, true, cond, ℕ, ℤ, pos, length}
use Rattle.value.specs.Items.{one_item, two_items, three_items}
use Rattle.rules.specs.Offers.{Item, number, named, Channel, Pair}
use Rattle.rules.specs.Order.{less}
use Rattle.rules.specs.Rules.{Change, unchanged, launched, killed}

-- 01, State: an item's kind, 0 for a number, 1 for a name
unfoldable pub item_kind : Item → ℕ
item_kind (number z) = 0
item_kind (named n) = 1

-- 01, State: an item's value, of a name its number
unfoldable pub item_value : Item → ℤ
item_value (number z) = z
item_value (named n) = pos n

-- both, before what follows
unfoldable pub item_numbers : Item → List ℤ → List ℤ
item_numbers a l = pos (item_kind a) ∷ item_value a ∷ l

-- an item that is not there
abbrev pub no_item : List ℤ → List ℤ
no_item l = pos 0 ∷ pos 0 ∷ l

-- 02, note 7: the item count, then kind and value of three items
unfoldable pub channel_numbers : Channel → List ℤ → List ℤ
channel_numbers (one_item a) l = pos 1 ∷ item_numbers a (no_item (no_item l))
channel_numbers (two_items a b) l = pos 2 ∷ item_numbers a (item_numbers b (no_item l))
channel_numbers (three_items a b c) l = pos 3 ∷ item_numbers a (item_numbers b (item_numbers c l))

-- 01, State: channel, count, values
unfoldable pub numbers : Pair → List ℤ
numbers x = channel_numbers x.channel (pos (length x.values) ∷ x.values)

-- 01, State: pairs ascend by these numbers
unfoldable pub before : Pair → Pair → Bool
before x y = less (numbers x) (numbers y)

-- 02, note 7: on one channel a pair with one value stands before one with two, whatever the values
pub fewer-first : before (record { channel = one_item (named 0); values = pos 9 ∷ [] }) (record { channel = one_item (named 0); values = pos 1 ∷ pos 2 ∷ [] }) ≡ true
unfolding before numbers channel_numbers item_numbers item_kind item_value less
fewer-first = refl

-- the same as a statement
abbrev pub Before : Pair → Pair → Type 0
Before x y = before x y ≡ true

-- 000, (3): with x lit; in its place, once
unfoldable pub insert : Pair → List Pair → List Pair
insert x [] = x ∷ []
insert x (y ∷ ys) = cond (before x y) (x ∷ y ∷ ys) (cond (before y x) (y ∷ insert x ys) (y ∷ ys))

-- 000, (4): with x unlit
unfoldable pub remove : Pair → List Pair → List Pair
remove x [] = []
remove x (y ∷ ys) = cond (before x y) (y ∷ ys) (cond (before y x) (y ∷ remove x ys) ys)

-- 01, State, step: launch adds its pair, kill takes it away if lit; nothing else alters pairs
unfoldable pub pairs_after : Change → List Pair → List Pair
pairs_after unchanged L = L
pairs_after (launched x) L = insert x L
pairs_after (killed x) L = remove x L
