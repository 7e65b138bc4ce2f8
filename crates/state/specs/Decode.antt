-- The state that numbers are those of (01, State). Definitions only.
use Rattle.std.specs.Prelude.{cond, List, map, ℕ, ◌+◌, ℤ, pos, nat_abs, get_or, take, drop}
use Rattle.value.specs.Arithmetic.{is_less, is_same}
use Rattle.value.specs.Items.{one_item, two_items, three_items}
use Rattle.model.specs.Limits.{local_limit}
use Rattle.model.specs.Scope.{locals_in}
use Rattle.rules.specs.Offers as offers
use Rattle.machine.specs.Offer.{Process}
use Rattle.machine.specs.State.{State, process_width, channel_width, pair_width}
use Rattle.state.specs.Test.{rows, at, process_part, pair_part}

-- 01, State: sum number, the locals that the sum has in scope; 02, note 6: the definition number, after all locals
unfoldable pub process_of : List ℕ → List ℤ → Process
process_of scopes row = record {
  sum = nat_abs (at row 0);
  locals = take (locals_in (get_or scopes (nat_abs (at row 0)) 0)) (drop 1 row);
  definition = nat_abs (at row (1 + local_limit));
}

-- 01, State: item kind 0 is a number, 1 a name
unfoldable pub item_of : ℤ → ℤ → offers.Item
item_of kind z = cond (is_same kind (pos 0)) (offers.number z) (offers.named (nat_abs z))

-- 02, note 7: item count, then kind and value of each item
unfoldable pub channel_of : List ℤ → offers.Channel
channel_of row =
    cond (is_less (pos 2) (at row 0)) (three_items (item_of (at row 1) (at row 2)) (item_of (at row 3) (at row 4)) (item_of (at row 5) (at row 6)))
    (cond (is_less (pos 1) (at row 0)) (two_items (item_of (at row 1) (at row 2)) (item_of (at row 3) (at row 4))) (one_item (item_of (at row 1) (at row 2))))

-- 02, note 7: channel, count of values, values
unfoldable pub pair_of : List ℤ → offers.Pair
pair_of row = record { channel = channel_of row; values = take (nat_abs (at row channel_width)) (drop (channel_width + 1) row) }

-- 01, State: the counts tell how many processes and pairs there are
unfoldable pub decode : List ℕ → List ℤ → State
decode scopes zs = record {
  processes = map (process_of scopes) (rows process_width (nat_abs (at zs 0)) (process_part zs));
  pairs = map pair_of (rows pair_width (nat_abs (at zs 1)) (pair_part zs));
}
