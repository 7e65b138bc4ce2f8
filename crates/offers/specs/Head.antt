-- The head of an offer's row: its small numbers in one. Assumes nothing: these are definitions.
use Rattle.std.specs.Prelude.{ℕ, ◌+◌, ◌*◌, ◌/◌, ◌%◌}

-- kind, shape of the channel, count of values or sets, branch, place, rate
unfoldable pub head : ℕ → ℕ → ℕ → ℕ → ℕ → ℕ → ℕ
head kind shape count branch place rate = kind + 64 * (shape + 32 * (count + 4 * (branch + 16 * (place + 256 * rate))))

unfoldable pub kind_in : ℕ → ℕ
kind_in h = h % 64

unfoldable pub shape_in : ℕ → ℕ
shape_in h = h / 64 % 32

unfoldable pub count_in : ℕ → ℕ
count_in h = h / 2048 % 4

unfoldable pub branch_in : ℕ → ℕ
branch_in h = h / 8192 % 16

unfoldable pub place_in : ℕ → ℕ
place_in h = h / 131072 % 256

unfoldable pub rate_in : ℕ → ℕ
rate_in h = h / 33554432
