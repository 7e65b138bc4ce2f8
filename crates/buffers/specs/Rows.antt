-- The numbers of buffers, with literal numbers, by computation, one to a row: the sheet's listing, an entry's places, a model buffer's first bytes.
use Rattle.std.specs.Prelude.{◌≡◌, refl, List, [], ◌∷◌, take}
use Rattle.rules.specs.Rules.{key}
use Rattle.rules.specs.Listing.{Entry, entry}
use Rattle.buffers.specs.Held.{model_bytes}
use Rattle.buffers.specs.Listing.{entry_numbers, entries_numbers, listing_numbers}

-- 01, A bench sheet in full
abbrev sheet : List Entry
sheet = entry (key 7 0 0 2 0 0) 300000000 ∷ entry (key 1 0 1 0 0 0) 25000000 ∷ []

pub rows :
    -- the sheet's two rows, and a zero after them
    (take 15 (listing_numbers sheet) ≡ 7 ∷ 0 ∷ 0 ∷ 2 ∷ 0 ∷ 0 ∷ 300000000 ∷ 1 ∷ 0 ∷ 1 ∷ 0 ∷ 0 ∷ 0 ∷ 25000000 ∷ 0 ∷ [])
    -- kind, place, branch, partner, partner branch, pair, weight
    × (entry_numbers (entry (key 11 12 13 14 15 16) 17) ≡ 11 ∷ 12 ∷ 13 ∷ 14 ∷ 15 ∷ 16 ∷ 17 ∷ [])
    -- a text of three bytes: its length in two, low byte first, then the text, then zeros
    × (take 6 (model_bytes (65 ∷ 91 ∷ 93 ∷ [])) ≡ 3 ∷ 0 ∷ 65 ∷ 91 ∷ 93 ∷ 0 ∷ [])
unfolding listing_numbers entries_numbers entry_numbers model_bytes
rows = (refl, refl, refl)
