-- The bound of a line's numbers. Definitions only.
use Rattle.std.specs.Prelude.{ℕ}

-- 2 ^ 64: a draw, a number of bytes and an entry's number are below it
abbrev pub limit : ℕ
limit = 18446744073709551616
