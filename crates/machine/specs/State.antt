-- States over a model, and their numbers (01, State). Assumes nothing: these are definitions.
use Rattle.std.specs.Prelude.{◌≡◌, List, [], ◌∷◌, ◌++◌, ℕ, ◌+◌, ◌-◌, ◌*◌, ◌≤◌, ◌<◌, ℤ, pos, length, replicate}
use Rattle.value.specs.Range.{InRange}
use Rattle.value.specs.Items.{one_item, two_items, three_items}
use Rattle.model.specs.Limits.{local_limit}
use Rattle.model.specs.Opening.{process_limit}
use Rattle.model.specs.Resolved
use Rattle.rules.specs.Offers as offers
use Rattle.rules.specs.Order.{Ascending}
use Rattle.rules.specs.Pairs.{numbers, Before}
use Rattle.model.specs.Good.{Every, OneOrTwo, SumWith}
use Rattle.machine.specs.Offer.{Process}

-- 01, State: how many pairs may be lit
abbrev pub pair_limit : ℕ
pair_limit = 256

-- 01, State, and 02, note 6: sum number, 8 locals, definition number
abbrev pub process_width : ℕ
process_width = 2 + local_limit

-- 02, note 7: item count, kind and value of 3 items
abbrev pub channel_width : ℕ
channel_width = 7

-- 02, note 7: channel, count of values, 2 values
abbrev pub pair_width : ℕ
pair_width = channel_width + 3

-- 01, State: the numbers of all processes, and of all pairs
abbrev pub process_room : ℕ
process_room = process_limit * process_width

abbrev pub pair_room : ℕ
pair_room = pair_limit * pair_width

-- 02, note 7: both counts, the processes, the pairs: 5,122 numbers
abbrev pub state_length : ℕ
state_length = 2 + process_room + pair_room

-- 01, State: a list of processes, and a set of lit pairs, kept as an ascending list
abbrev pub State : Type 0
State = offers.State Process

-- ---- which states there are

-- 01, Listing, 11: number items in range, channel names that exist
unfoldable pub GoodItem : Resolved.Model → offers.Item → Type 0
GoodItem m (offers.number z) = InRange z
GoodItem m (offers.named n) = n < m.channels

unfoldable pub GoodChannel : Resolved.Model → offers.Channel → Type 0
GoodChannel m (one_item a) = GoodItem m a
GoodChannel m (two_items a b) = GoodItem m a × GoodItem m b
GoodChannel m (three_items a b c) = GoodItem m a × GoodItem m b × GoodItem m c

-- 01, Listing, 11: 1 or 2 values in range
pub record GoodPair (m : Resolved.Model) (x : offers.Pair) : Type 0 where
  pub channel : GoodChannel m x.channel
  pub number : OneOrTwo x.values
  pub values : Every InRange x.values

-- 01, Listing, 11: a sum that exists, with as many locals as it has in scope, in range; 02, note 6: the definition whose text holds the sum
pub record GoodProcess (m : Resolved.Model) (p : Process) : Type 0 where
  pub sum : SumWith m (length p.locals) p.sum
  pub values : Every InRange p.locals
  pub definition : p.definition ≡ sum.sum.definition

-- 01, Listing, 11: a state over the model
pub record GoodState (m : Resolved.Model) (s : State) : Type 0 where
  pub few-processes : length s.processes ≤ process_limit
  pub processes : Every (GoodProcess m) s.processes
  pub few-pairs : length s.pairs ≤ pair_limit
  pub pairs : Every (GoodPair m) s.pairs
  pub ascending : Ascending Before s.pairs

-- ---- its numbers

-- 01, State: unused numbers are 0
unfoldable pub padded : ℕ → List ℤ → List ℤ
padded n zs = zs ++ replicate (n - length zs) (pos 0)

-- 01, State, and 02, note 6: sum number, 8 locals, definition number
unfoldable pub process_numbers : Process → List ℤ
process_numbers p = pos p.sum ∷ (padded local_limit p.locals ++ pos p.definition ∷ [])

-- 02, note 7: channel, count of values, 2 values
unfoldable pub pair_numbers : offers.Pair → List ℤ
pair_numbers x = padded pair_width (numbers x)

-- one after the other
unfoldable pub flatten : {A : Type 0} → (A → List ℤ) → List A → List ℤ
flatten f [] = []
flatten f (x ∷ xs) = f x ++ flatten f xs

-- 02, note 7: the 5,122 numbers of a state
unfoldable pub state_numbers : State → List ℤ
state_numbers s =
    pos (length s.processes) ∷ pos (length s.pairs)
    ∷ (padded process_room (flatten process_numbers s.processes) ++ padded pair_room (flatten pair_numbers s.pairs))

-- 01, Fresh: no process, no pair
unfoldable pub empty_state : State
empty_state = record { processes = []; pairs = [] }
