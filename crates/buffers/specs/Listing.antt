-- The listing buffer (01, Transitions): seven numbers for each entry, unused numbers 0; the report's (02, note 6) and that of a run's events. Definitions only.
use Rattle.std.specs.Prelude.{List, [], ◌∷◌, ◌++◌, ℕ, ◌-◌, length, replicate}
use Rattle.rules.specs.Rules.{key}
use Rattle.rules.specs.Listing.{Entry, entry}
use Rattle.machine.specs.Runs.{event_numbers}
use Rattle.machine.specs.Machine.{Shown, as_lent, zeroed, filled, reported, happened, listing_length}

-- 01, Transitions: kind, place, branch, partner, partner branch, pair, weight
unfoldable pub entry_numbers : Entry → List ℕ
entry_numbers (entry (key c i j k m q) w) = c ∷ i ∷ j ∷ k ∷ m ∷ q ∷ w ∷ []

-- 01, Transitions: one entry after the other
unfoldable pub entries_numbers : List Entry → List ℕ
entries_numbers [] = []
entries_numbers (e ∷ es) = entry_numbers e ++ entries_numbers es

-- 01, Transitions: the whole buffer, unused numbers 0
unfoldable pub listing_numbers : List Entry → List ℕ
listing_numbers es = entries_numbers es ++ replicate (listing_length - length (entries_numbers es)) 0

-- 01, Rule machine: what becomes of a lent listing buffer; 02, note 6: or of a report's, zeroed like a listing; R.4: or of a run's events, over what was lent
unfoldable pub shown : Shown → List ℕ → List ℕ
shown as_lent l = l
shown zeroed l = replicate (length l) 0
shown (filled es) l = listing_numbers es
shown (reported ns) l = ns
shown (happened es) l = event_numbers es l
