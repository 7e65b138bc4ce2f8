-- A save's name as two numbers of base 256, the first letter lowest (02, note 2; docs/LAYOUT.md). Definitions only.
use Rattle.std.specs.Prelude.{List, [], ◌∷◌, ◌++◌, Bool, true, false, cond, ◌&&◌, ℕ, zero, suc, ◌/◌, ◌%◌, ◌^◌, eqb, leb, ℤ, pos, negsuc, take, drop}
use Rattle.word.specs.Name.{word_bytes, pack}
use Rattle.machine.specs.Saves.{is_letter}

-- the first eight letters, and the others
abbrev pub low_of : List ℕ → ℕ
low_of n = pack (take word_bytes n)

abbrev pub high_of : List ℕ → ℕ
high_of n = pack (drop word_bytes n)

abbrev pub key_numbers : List ℕ → List ℤ
key_numbers n = pos (low_of n) ∷ pos (high_of n) ∷ []

-- ---- which numbers are a name's

-- at most k letters
unfoldable pub is_word : ℕ → ℕ → Bool
is_word zero w = eqb w 0
is_word (suc k) w = cond (eqb w 0) true (is_letter (w % 256) && is_word k (w / 256))

-- no word of fewer than eight letters is as large
abbrev pub full_word : ℕ
full_word = 256 ^ 7

-- the second number is 0, or the first has eight letters
unfoldable pub is_second : ℕ → ℕ → Bool
is_second a b = cond (eqb b 0) true (leb full_word a && is_word word_bytes b)

-- at least one letter
unfoldable pub is_key : ℕ → ℕ → Bool
is_key a b = leb 1 a && (is_word word_bytes a && is_second a b)

unfoldable pub is_key_of : ℤ → ℤ → Bool
is_key_of (pos a) (pos b) = is_key a b
is_key_of (pos a) (negsuc b) = false
is_key_of (negsuc a) z = false

-- ---- and of which name

unfoldable pub letters_in : ℕ → ℕ → List ℕ
letters_in zero w = []
letters_in (suc k) w = cond (eqb w 0) [] (w % 256 ∷ letters_in k (w / 256))

unfoldable pub name_in : ℕ → ℕ → List ℕ
name_in a b = letters_in word_bytes a ++ letters_in word_bytes b
