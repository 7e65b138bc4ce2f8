-- What waiting draws come to (02, note 4). Definitions only.
use Rattle.std.specs.Prelude.{Bool, true, not, cond, List, [], ◌∷◌, ℕ, ◌+◌, ◌*◌, ◌≤◌, ◌<◌, eqb, ltb, Err, Ok, Result}
use Rattle.waits.specs.declared.Unread.{Unread}
use Rattle.waits.specs.declared.Unread.TheVariants.{Ended, Long}
use Rattle.waits.specs.declared.Run.{Run}
use Rattle.waits.specs.declared.Run.TheVariants.{Before, In, Known, Over}

-- 02, note 4: a waiting draw has 16 bits
abbrev pub draw_values : ℕ
draw_values = 65536

-- 02, note 4: once k would be this, 24
abbrev pub run_limit : ℕ
run_limit = 32

-- so E is below this
abbrev pub wait_limit : ℕ
wait_limit = run_limit * draw_values

-- 02, note 4: a draw within a run that began with `first`: while it is less than the one before, the run goes on. The first that isn't ends the run and is used up:
-- at odd length E is k times 65,536 plus the first, otherwise k rises by one and a new run begins
unfoldable pub next_in_run : (k first last : ℕ) → (odd : Bool) → (draw : ℕ) → Run
next_in_run k first last odd draw =
    cond (ltb draw last) (In k first draw (not odd)) (cond odd (Known (k * draw_values + first)) (cond (eqb (k + 1) run_limit) Over (Before (k + 1))))

-- 02, note 4: one more draw; the first of a run makes its length 1
unfoldable pub read : Run → (draw : ℕ) → Run
read (Before k) d = In k d d true
read (In k first last odd) d = next_in_run k first last odd d
read (Known e) d = Known e
read Over d = Over

-- 02, note 4: E and how many draws were used, or why there is none
abbrev pub Wait : Type 0
Wait = Result (ℕ × ℕ) Unread

-- what a reading has come to after n draws, and otherwise what comes next
unfoldable pub settled : Run → (n : ℕ) → Wait → Wait
settled (Before k) n w = w
settled (In k first last odd) n w = w
settled (Known e) n w = Ok (e, n)
settled Over n w = Err Long

-- 02, note 4: draw by draw, n of them used so far; where they end, 23
unfoldable pub waiting : Run → (n : ℕ) → List ℕ → Wait
waiting r n [] = Err Ended
waiting r n (d ∷ ds) = settled (read r d) (n + 1) (waiting (read r d) (n + 1) ds)

-- 02, note 4: set k to 0
unfoldable pub wait_of : List ℕ → Wait
wait_of ds = waiting (Before 0) 0 ds

-- ---- bounds

-- k below 32 and draws of 16 bits
unfoldable pub Fits : Run → Type 0
Fits (Before k) = k < run_limit
Fits (In k first last odd) = (k < run_limit) × (first < draw_values)
Fits (Known e) = e < wait_limit
Fits Over = Unit {0}

-- E below its limit, and no more draws used than there are
unfoldable pub Within : ℕ → Wait → Type 0
Within n (Ok (e, u)) = (e < wait_limit) × (u ≤ n)
Within n (Err Ended) = Unit {0}
Within n (Err Long) = Unit {0}
