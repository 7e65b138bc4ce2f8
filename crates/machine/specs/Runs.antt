-- A run by the numbers of its events, and where a step leaves it (docs/DECISIONS.md, R.4, R.6). Definitions only.
use Rattle.std.specs.Prelude.{Bool, true, false, List, [], ◌∷◌, ℕ, ◌*◌, length, drop}
use Rattle.rules.specs.Rules.{key}
use Rattle.rules.specs.Listing.{Entry, entry}
use Rattle.machine.specs.Machine.{event_width, Event, Run, Next, on, over}

-- R.4: an event's numbers, and what stands after them
unfoldable pub event_row : (ticks : ℕ) → Entry → List ℕ → List ℕ
event_row t (entry (key c i j k m q) w) rest = t ∷ c ∷ i ∷ j ∷ k ∷ m ∷ q ∷ w ∷ rest

unfoldable pub event_rows : List Event → List ℕ → List ℕ
event_rows [] rest = rest
event_rows (e ∷ es) rest = event_row e.ticks e.entry (event_rows es rest)

-- R.4: the events over what was lent
unfoldable pub event_numbers : List Event → (lent : List ℕ) → List ℕ
event_numbers es z = event_rows es (drop (length es * event_width) z)

-- R.6: the run that a step leaves, and whether it has ended
unfoldable pub run_of : Next → Run
run_of (on r) = r
run_of (over r) = r

unfoldable pub is_over : Next → Bool
is_over (on r) = false
is_over (over r) = true
