-- The choosing draw of a step of a run, from 64-bit words by rejection (docs/DECISIONS.md, R.1). Definitions only.
use Rattle.std.specs.Prelude.{Bool, cond, List, [], ◌∷◌, ℕ, ◌+◌, ◌*◌, ◌/◌, ◌%◌, ◌≤◌, ◌<◌, ltb, None, Some, Option}

-- R.1: a word has 64 bits
abbrev pub word_values : ℕ
word_values = 18446744073709551616

-- R.1: the largest multiple of the total that fits into so many values
unfoldable pub usable : (values total : ℕ) → ℕ
usable values total = total * (values / total)

-- R.1: a word below it is used, any other is turned away
unfoldable pub is_used : (values total word : ℕ) → Bool
is_used values total w = ltb w (usable values total)

-- R.1: the draw, and how many words were used; or they ended first
abbrev pub Drawn : Type 0
Drawn = Option (ℕ × ℕ)

-- R.1: the first word that is used gives itself modulo the total; n words were turned away before these
unfoldable pub drawing : (total n : ℕ) → List ℕ → Drawn
drawing total n [] = None
drawing total n (w ∷ ws) = cond (is_used word_values total w) (Some (w % total, n + 1)) (drawing total (n + 1) ws)

-- R.1: the draw, and how many words were used, those turned away counted
unfoldable pub draw_of : (total : ℕ) → List ℕ → Drawn
draw_of total ws = drawing total 0 ws

-- ---- bounds

-- a draw below the total, from no more words than there are
unfoldable pub Within : (total n : ℕ) → Drawn → Type 0
Within total n (Some (d, u)) = (d < total) × (u ≤ n)
Within total n None = Unit {0}
