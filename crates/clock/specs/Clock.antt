-- The clock and how a timed step brings it forward (02, note 4). Definitions only.
use Rattle.std.specs.Prelude.{Bool, cond, ◌&&◌, List, ℕ, ◌+◌, ◌*◌, ◌/◌, ◌≤◌, leb, Result, Err, Ok}
use Rattle.waits.specs.declared.Unread.{Unread}
use Rattle.waits.specs.declared.Unread.TheVariants as unread
use Rattle.waits.specs.Runs.{draw_values, wait_of, Wait}
use Rattle.clock.specs.declared.Clock.{Clock}
use Rattle.clock.specs.declared.Late.{Late}
use Rattle.clock.specs.declared.Late.TheVariants as late

-- 02, note 4: each of its numbers is 0 to this
abbrev pub clock_limit : ℕ
clock_limit = 9223372036854775807

-- 02, note 4: zero when fresh
abbrev pub fresh_clock : Clock
fresh_clock = record { ticks = 0; draws = 0 }

-- 02, note 4: both numbers in range, which 11 asks
pub record InRange (c : Clock) : Type 0 where
  pub ticks : c.ticks ≤ clock_limit
  pub draws : c.draws ≤ clock_limit

-- the same as a test
unfoldable pub is_in_range : Clock → Bool
is_in_range c = leb c.ticks clock_limit && leb c.draws clock_limit

-- 02, note 4: E times 10^12 divided by 65,536 times the total, rounded down
unfoldable pub ticks_of : (e total : ℕ) → ℕ
ticks_of e total = (e * 1000000000000) / (draw_values * total)

-- a wait takes fewer ticks than this, at any total above zero
abbrev pub tick_limit : ℕ
tick_limit = 32000000000000

-- 02, note 4: why the draws give no time
abbrev pub late_of : Unread → Late
late_of u = late.Wait u

-- 02, note 4: 23, 24 and 25
abbrev pub late_number : Late → ℕ
late_number (late.Wait unread.Ended) = 23
late_number (late.Wait unread.Long) = 24
late_number late.Past = 25

-- 02, note 4: the clock afterwards, or why it stays as it was
abbrev pub Brought : Type 0
Brought = Result Clock Late

-- 02, note 4: the clock later by so many ticks and draws; 25 when a number would pass its range
unfoldable pub forwarded : Clock → (ticks used : ℕ) → Brought
forwarded c t u = cond (leb (c.ticks + t) clock_limit && leb (c.draws + u) clock_limit) (Ok (record { ticks = c.ticks + t; draws = c.draws + u })) (Err late.Past)

-- 02, note 4: 23, then 24, then 25
unfoldable pub waited : Clock → (total : ℕ) → Wait → Brought
waited c total (Ok (e, n)) = forwarded c (ticks_of e total) n
waited c total (Err u) = Err (late_of u)

unfoldable pub brought_by : Clock → List ℕ → (total : ℕ) → Brought
brought_by c ds total = waited c total (wait_of ds)
