-- How many lists of waiting draws give each E (02, note 4): what Von Neumann's method is for. Definitions only; proofs/Law.antt has that the law holds.
use Rattle.std.specs.Prelude.{◌≡◌, Bool, true, false, cond, List, [], ◌∷◌, ℕ, zero, suc, ◌+◌, ◌-◌, ◌*◌, ◌^◌, ◌≤◌, ◌<◌, eqb, Err, Ok}
use Rattle.waits.specs.declared.Unread.TheVariants.{Ended, Long}
use Rattle.waits.specs.Runs.{draw_values, run_limit, wait_limit, wait_of, Wait}

-- f 0 + f 1 + .. up to and without f n
unfoldable pub sum_below : (n : ℕ) → (ℕ → ℕ) → ℕ
sum_below zero f = 0
sum_below (suc n) f = sum_below n f + f n

-- of all lists of n draws, each below `values`, how many pass a test
unfoldable pub how_many : (values n : ℕ) → (List ℕ → Bool) → ℕ
how_many values zero test = cond (test []) 1 0
how_many values (suc n) test = sum_below values (λ d. how_many values n (λ ds. test (d ∷ ds)))

-- the draws give this E
unfoldable pub is_given : (e : ℕ) → Wait → Bool
is_given e (Ok (x, u)) = eqb x e
is_given e (Err Ended) = false
is_given e (Err Long) = false

-- they end first: 23
unfoldable pub is_ended : Wait → Bool
is_ended (Ok (x, u)) = false
is_ended (Err Ended) = true
is_ended (Err Long) = false

-- k would be 32: 24
unfoldable pub is_long : Wait → Bool
is_long (Ok (x, u)) = false
is_long (Err Ended) = false
is_long (Err Long) = true

-- of the lists of n draws with so many values, how many come to what a test asks
abbrev pub waits : (values n : ℕ) → (Wait → Bool) → ℕ
waits values n test = how_many values n (λ ds. test (wait_of ds))

-- With `values` for 65,536: draws are below it, and E is k times 65,536 plus u with u below it. Shares are said without division: a list of n draws is one of values ^ n.
pub record Law (values : ℕ) : Type 0 where
  -- a first run that begins with u has odd length for a share of (1 - 1/values) ^ u of the draws that can follow, once there are enough to end it
  pub first_run : (u n : ℕ) → u < values → u < n → how_many values n (λ ds. is_given u (wait_of (u ∷ ds))) * values ^ u ≡ values ^ n * (values - 1) ^ u
  -- E is geometric: each has a share of (1/values) · (1 - 1/values) ^ E, once there are draws enough for k + 1 runs
  pub each : (k u n : ℕ) → k < run_limit → u < values → (k + 1) * (values + 1) ≤ n
      → waits values n (is_given (k * draw_values + u)) * values ^ (k * values + u + 1) ≡ values ^ n * (values - 1) ^ (k * values + u)
  -- 24 has what is left, and with draws enough for 32 runs 23 never comes
  pub long : (n : ℕ) → run_limit * (values + 1) ≤ n → waits values n is_long * values ^ (run_limit * values) ≡ values ^ n * (values - 1) ^ (run_limit * values)
  pub decided : (n : ℕ) → run_limit * (values + 1) ≤ n → waits values n is_ended ≡ 0

-- the same at 65,536: of the lists of n draws, the share that gives E is (1/65,536) · (65,535/65,536) ^ E
abbrev pub Geometric : Type 0
Geometric = (e n : ℕ) → e < wait_limit → run_limit * (draw_values + 1) ≤ n → waits draw_values n (is_given e) * draw_values ^ (e + 1) ≡ draw_values ^ n * (draw_values - 1) ^ e
