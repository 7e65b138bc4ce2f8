-- The kinds of entries. Definitions only.
use Rattle.std.specs.Prelude.{ℕ}

-- 01, Transitions: kind, 1 to 7
abbrev pub wait : ℕ
wait = 1

abbrev pub launch : ℕ
launch = 2

abbrev pub kill : ℕ
kill = 3

abbrev pub receive : ℕ
receive = 4

abbrev pub bind : ℕ
bind = 5

abbrev pub check : ℕ
check = 6

abbrev pub handshake : ℕ
handshake = 7
