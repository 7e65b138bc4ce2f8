-- A channel as four numbers: its shape, and the values of its items (02, note 7). Assumes nothing: these are definitions.
use Rattle.std.specs.Prelude.{◌≡◌, List, [], ◌∷◌, ℕ, ◌+◌, ◌*◌, ◌/◌, ◌%◌, ℤ, pos, Some, None}
use Rattle.std.specs.Prelude.{Option as RustOption}
use Rattle.std.proofs.Math.Option.{Option, none, some}
use Rattle.value.specs.Items.{one_item, two_items, three_items}
use Rattle.model.specs.Resolved
use Rattle.rules.specs.Offers as offers
use Rattle.rules.specs.Pairs.{item_kind, item_value}
use Rattle.machine.specs.Evaluate.{eval_item, eval_channel}
use Rattle.eval.specs.declared.channel.Item.{Item}
use Rattle.eval.specs.declared.channel.Item.TheVariants.{Number, Name}
use Rattle.eval.specs.declared.channel.Channel.{Channel}

-- n items of these kinds, 0 for those that aren't there
unfoldable pub shape : ℕ → ℕ → ℕ → ℕ → ℕ
shape n a b c = 8 * n + a + 2 * b + 4 * c

-- 02, note 7: the shape of a channel
unfoldable pub shape_of : offers.Channel → ℕ
shape_of (one_item a) = shape 1 (item_kind a) 0 0
shape_of (two_items a b) = shape 2 (item_kind a) (item_kind b) 0
shape_of (three_items a b c) = shape 3 (item_kind a) (item_kind b) (item_kind c)

-- 02, note 7: the values of its items, 0 for those that aren't there
unfoldable pub first_of : offers.Channel → ℤ
first_of (one_item a) = item_value a
first_of (two_items a b) = item_value a
first_of (three_items a b c) = item_value a

unfoldable pub second_of : offers.Channel → ℤ
second_of (one_item a) = pos 0
second_of (two_items a b) = item_value b
second_of (three_items a b c) = item_value b

unfoldable pub third_of : offers.Channel → ℤ
third_of (one_item a) = pos 0
third_of (two_items a b) = pos 0
third_of (three_items a b c) = item_value c

-- four numbers show a channel
pub record ShowsChannel (s : ℕ) (a b c : ℤ) (x : offers.Channel) : Type 0 where
  pub shape_is : s ≡ shape_of x
  pub first-is : a ≡ first_of x
  pub second_is : b ≡ second_of x
  pub third-is : c ≡ third_of x

-- 02, note 7: the numbers of a channel in a pair's row: item count, kind and value of three items
unfoldable pub numbers_of : ℕ → ℤ → ℤ → ℤ → List ℤ
numbers_of s a b c = pos (s / 8) ∷ pos (s % 2) ∷ a ∷ pos (s / 2 % 2) ∷ b ∷ pos (s / 4 % 2) ∷ c ∷ []

-- ---- what is evaluated

-- 01, State: an item's kind, 0 of a number and 1 of a name, and its value
abbrev pub kind_of : Item → ℕ
kind_of (Number z) = 0
kind_of (Name z) = 1

abbrev pub value_of : Item → ℤ
value_of (Number z) = z
value_of (Name z) = z

-- 01, State: an item, if it has a value
unfoldable pub item_of : Option offers.Item → RustOption Item
item_of (some (offers.number z)) = Some (Number z)
item_of (some (offers.named n)) = Some (Name (pos n))
item_of none = None

unfoldable pub item_answer : List ℤ → Resolved.Item → RustOption Item
item_answer ls a = item_of (eval_item ls a)

-- 02, note 7: a channel's four numbers, if all its items have values
unfoldable pub channel_of : Option offers.Channel → RustOption Channel
channel_of (some x) = Some (record { shape = shape_of x; first = first_of x; second = second_of x; third = third_of x })
channel_of none = None

unfoldable pub channel_answer : List ℤ → Resolved.Channel → RustOption Channel
channel_answer ls c = channel_of (eval_channel ls c)
