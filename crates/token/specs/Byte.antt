-- The bytes that are looked at as bytes (01, Model text, first paragraph), as numbers; what is a token's kind stands in Kind.antt. Cite them as `byte.point` after
-- `use Rattle.token.specs.Byte as byte`.
use Rattle.std.specs.Prelude.{ℕ}

-- `!`
abbrev pub bang : ℕ
bang = 33

-- `(`
abbrev pub open_round : ℕ
open_round = 40

-- `)`
abbrev pub close_round : ℕ
close_round = 41

-- `-`
abbrev pub minus : ℕ
minus = 45

-- `.`
abbrev pub point : ℕ
point = 46

-- `/`
abbrev pub slash : ℕ
slash = 47

-- `<`
abbrev pub less : ℕ
less = 60

-- `=`
abbrev pub equals : ℕ
equals = 61

-- `>`
abbrev pub greater : ℕ
greater = 62

-- `|`
abbrev pub bar : ℕ
bar = 124
