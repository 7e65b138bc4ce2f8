-- The line `independent I J` after its first five bytes, as the code reads it: a state for what came, and the next byte. Definitions only.
use Rattle.std.specs.Prelude.{ℕ, ◌+◌, ◌*◌, cond, List, [], ◌∷◌, ◌==◌, nat_lt, Option, Some, None}
use Rattle.lines.specs.declared.line.Line.{Line}
use Rattle.lines.specs.declared.line.Line.TheVariants.{Independent}
use Rattle.lines.specs.declared.two.Two.{Two}
use Rattle.lines.specs.declared.two.Two.TheVariants.{Word, First, Gap, Both, Other}
use Rattle.lines.specs.Limit.{limit}
use Rattle.lines.specs.OneByte.{byte_next}

-- byte n of `endent `
unfoldable pub word_byte : ℕ → ℕ
word_byte n = cond (n == 0) 101 (cond (n == 1) 110 (cond (n == 2) 100 (cond (n == 3) 101 (cond (n == 4) 110 (cond (n == 5) 116 32)))))

-- one more byte of the word
unfoldable pub word_next : ℕ → ℕ → Two
word_next n b = cond (nat_lt n 7) (cond (b == word_byte n) (Word (n + 1)) Other) Other

-- a number with one more digit
unfoldable pub grown_first : ℕ → ℕ → Two
grown_first v d = cond (nat_lt (v * 10 + d) limit) (First (v * 10 + d)) Other

unfoldable pub grown_second : ℕ → ℕ → ℕ → Two
grown_second v w d = cond (nat_lt (w * 10 + d) limit) (Both v (w * 10 + d)) Other

-- one more digit
abbrev pub digit_next : Two → ℕ → Two
digit_next (Word n) d = cond (n == 7) (First d) Other
digit_next (First v) d = grown_first v d
digit_next (Gap v) d = Both v d
digit_next (Both v w) d = grown_second v w d
digit_next Other d = Other

-- one more byte that is no digit
abbrev pub letter_next : Two → ℕ → Two
letter_next (Word n) b = word_next n b
letter_next (First v) b = cond (b == 32) (Gap v) Other
letter_next (Gap v) b = Other
letter_next (Both v w) b = Other
letter_next Other b = Other

-- one more byte
unfoldable pub two_next : Two → ℕ → Two
two_next t b = byte_next digit_next letter_next t b

-- after these bytes
unfoldable pub run : Two → List ℕ → Two
run t [] = t
run t (b ∷ s) = run (two_next t b) s

-- from the beginning
abbrev pub begun : Two
begun = Word 0

-- what the line says
abbrev pub paired : Two → Option Line
paired (Word n) = None
paired (First v) = None
paired (Gap v) = None
paired (Both v w) = Some (Independent v w)
paired Other = None
