-- The tables of places and sizes that reading a text leaves (01, Model text). Definitions only.
use Rattle.std.specs.Prelude.{◌≡◌, List, ◌++◌, ℕ, length, drop, Err, Ok}
use Rattle.opening.specs.Models.{Held}
use Rattle.opening.specs.Sound.{SoundOr}
use Rattle.opening.specs.Trees.{Tree}
use Rattle.token.specs.Token.{tokens, places_of, sizes_of}

-- the places and sizes of the text's tokens, and after them both tables as they were lent
pub record Marked (text places sizes places' sizes' : List ℕ) : Type 0 where
  pub places-are : places' ≡ places_of (tokens text) ++ drop (length (tokens text)) places
  pub sizes-are : sizes' ≡ sizes_of (tokens text) ++ drop (length (tokens text)) sizes

-- of a text that fits
unfoldable pub TreeMarked : (text places sizes places' sizes' : List ℕ) → Tree → Type 0
TreeMarked text places sizes places' sizes' (Err r) = Unit {0}
TreeMarked text places sizes places' sizes' (Ok t) = Marked text places sizes places' sizes'

-- of a text whose names are sound
unfoldable pub SoundMarked : (text places sizes places' sizes' : List ℕ) → SoundOr → Type 0
SoundMarked text places sizes places' sizes' (Err r) = Unit {0}
SoundMarked text places sizes places' sizes' (Ok t) = Marked text places sizes places' sizes'

-- of a text that holds a model
unfoldable pub ModelMarked : (text places sizes places' sizes' : List ℕ) → Held → Type 0
ModelMarked text places sizes places' sizes' (Err r) = Unit {0}
ModelMarked text places sizes places' sizes' (Ok f) = Marked text places sizes places' sizes'
