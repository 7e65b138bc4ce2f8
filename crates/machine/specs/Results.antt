-- What a call's answer carries, whatever it was asked of (01, Opening a text; Listing and stepping, last paragraph): a constructor for each number. Assumes
-- nothing: these are definitions.
use Rattle.std.specs.Prelude.{◌≡◌, List, [], true, ◌⊎◌, ℕ, ◌*◌, ◌≤◌, length}
use Rattle.std.proofs.Math.Option.{some}
use Rattle.rules.specs.Listing.{Entry}
use Rattle.machine.specs.Machine.{event_width, as_lent, zeroed, Answer, no, listed_as, reported_as, found_as, depth_limit, count_limit, progress_as, Run, steps_of, ran_as, Request, list', step', report', search', timed', run', save', return', forget', begin', carry', Ask, open', open_steady', on', Part, size, lent_to, output_of, is_lent, Call}

-- a request, not an opening
unfoldable pub Runs : Ask → Type 0
Runs (open' text) = ⊥
Runs (open_steady' text) = ⊥
Runs (on' r) = Unit {0}

-- 01, Listing and stepping, and 02, notes 4 and 6: requests that ask 12 to 14
unfoldable pub Lists : Request → Type 0
Lists list' = Unit {0}
Lists (step' d) = Unit {0}
Lists report' = Unit {0}
Lists (search' x d) = ⊥
Lists (timed' ds d) = Unit {0}
Lists (run' ws vs n l) = ⊥
Lists (save' n) = ⊥
Lists (return' n) = ⊥
Lists (forget' n) = ⊥
Lists (begin' x d) = ⊥
Lists (carry' n) = ⊥

-- those that choose by a draw
unfoldable pub Chooses : Request → Type 0
Chooses list' = ⊥
Chooses (step' d) = Unit {0}
Chooses report' = ⊥
Chooses (search' x d) = ⊥
Chooses (timed' ds d) = Unit {0}
Chooses (run' ws vs n l) = ⊥
Chooses (save' n) = ⊥
Chooses (return' n) = ⊥
Chooses (forget' n) = ⊥
Chooses (begin' x d) = ⊥
Chooses (carry' n) = ⊥

-- 02, note 2: requests that ask 20
unfoldable pub Names : Request → Type 0
Names list' = ⊥
Names (step' d) = ⊥
Names report' = ⊥
Names (search' x d) = ⊥
Names (timed' ds d) = ⊥
Names (run' ws vs n l) = ⊥
Names (save' n) = Unit {0}
Names (return' n) = Unit {0}
Names (forget' n) = Unit {0}
Names (begin' x d) = ⊥
Names (carry' n) = ⊥

-- 01, Listing and stepping: requests that move nothing where they are refused under a number; R.7: a run keeps the steps that were accepted before; 02, note 10: carrying on moves nothing but under 27, which ends the search
unfoldable pub Whole : Request → (number : ℕ) → Type 0
Whole list' k = Unit {0}
Whole (step' d) k = Unit {0}
Whole report' k = Unit {0}
Whole (search' x d) k = Unit {0}
Whole (timed' ds d) k = Unit {0}
Whole (run' ws vs n l) k = ⊥
Whole (save' n) k = Unit {0}
Whole (return' n) k = Unit {0}
Whole (forget' n) k = Unit {0}
Whole (begin' x d) k = Unit {0}
Whole (carry' n) k = k ≡ 27 → ⊥

unfoldable pub WholeAsk : Ask → (number : ℕ) → Type 0
WholeAsk (open' text) k = ⊥
WholeAsk (open_steady' text) k = ⊥
WholeAsk (on' r) k = Whole r k

-- R.6: the numbers that a run ends with: 0 at its limit, without room and without words, else that of the step that was refused; 16 is not among them
pub data RunEnds : ℕ → Type 0 where
  unrefused : RunEnds 0
  refused12-15 : {n : ℕ} → 12 ≤ n → n ≤ 15 → RunEnds n
  refused17-19 : {n : ℕ} → 17 ≤ n → n ≤ 19 → RunEnds n
  refused23-25 : {n : ℕ} → 23 ≤ n → n ≤ 25 → RunEnds n

-- R.5, R.6: how a run with these words and waiting draws, up to n steps and over a buffer of l numbers, has ended
pub record RunCarries (ws vs : List ℕ) (n l : ℕ) (r : Run) : Type 0 where
  pub ends : RunEnds r.number
  pub limit : steps_of r ≤ n
  pub room : steps_of r * event_width ≤ l

-- 01, 1: what is lent has its length
pub record Lent (c : Call) : Type 0 where
  pub parts : (p : Part) → is_lent p (lent_to c.ask) ≡ true → c.lengths p ≡ size p
  pub output : (n : ℕ) → output_of c.ask ≡ some n → c.output ≡ n

-- 01: only 12 carries two places, an opening's refusal a byte's; 15 to 19 and acceptance carry entry count and total; a refusal has 0 as chosen entry
pub data Carries : Ask → Answer → Type 0 where
  -- 1 leaves the listing or report as lent
  under1 : {k : Ask} → Carries k (no 1 0 0 as_lent)
  -- an opening: accepted, or refused with a byte's place
  opens : {text : List ℕ} → Carries (open' text) (no 0 0 0 as_lent)
  under2-10 : {text : List ℕ} (n p : ℕ) → 2 ≤ n → n ≤ 10 → Carries (open' text) (no n p 0 as_lent)
  -- 02, note 11: under the steady profile the same, and 29
  opens_steady : {text : List ℕ} → Carries (open_steady' text) (no 0 0 0 as_lent)
  under2-29 : {text : List ℕ} (n p : ℕ) → ((2 ≤ n) × (n ≤ 10)) ⊎ (n ≡ 29) → Carries (open_steady' text) (no n p 0 as_lent)
  -- 11 leaves it as lent
  under11 : {r : Request} → Carries (on' r) (no 11 0 0 as_lent)
  -- 12 to 14 zero it
  under12 : {r : Request} (i j : ℕ) → Lists r → Carries (on' r) (no 12 i j zeroed)
  under13 : {r : Request} → Lists r → Carries (on' r) (no 13 0 0 zeroed)
  under14 : {r : Request} → Lists r → Carries (on' r) (no 14 0 0 zeroed)
  -- a list call that is accepted fills it
  lists : (es : List Entry) → Carries (on' list') (listed_as 0 0 es)
  -- a step, timed or not, fills it, refused under 15 to 19 or accepted
  under15-19 : {r : Request} (n : ℕ) (es : List Entry) → Chooses r → 15 ≤ n → n ≤ 19 → Carries (on' r) (listed_as n 0 es)
  steps : {r : Request} (c : ℕ) (es : List Entry) → Chooses r → Carries (on' r) (listed_as 0 c es)
  -- 02, note 4: 23 to 25 answer as 19 does
  under23-25 : {ds : List ℕ} {d : ℕ} (n : ℕ) (es : List Entry) → 23 ≤ n → n ≤ 25 → Carries (on' (timed' ds d)) (listed_as n 0 es)
  -- R.5 to R.7: a run carries what it used, and its events
  runs : {ws vs : List ℕ} {n l : ℕ} (r : Run) → RunCarries ws vs n l r → Carries (on' (run' ws vs n l)) (ran_as r)
  -- 02, note 6: a report that is accepted carries count and total as a list call does, and its own numbers
  reports : (ns : List ℕ) (es : List Entry) → Carries (on' report') (reported_as ns es)
  -- 02, note 2: save, return and forget carry a number alone; 21 is of a return or forget, 22 of a save
  stores : {r : Request} → Names r → Carries (on' r) (no 0 0 0 as_lent)
  under20 : {r : Request} → Names r → Carries (on' r) (no 20 0 0 as_lent)
  return21 : {n : List ℕ} → Carries (on' (return' n)) (no 21 0 0 as_lent)
  forget21 : {n : List ℕ} → Carries (on' (forget' n)) (no 21 0 0 as_lent)
  save22 : {n : List ℕ} → Carries (on' (save' n)) (no 22 0 0 as_lent)
  -- 02, note 8: a search carries a run, empty where there is none, that has at most as many entries as its result has room for; or a number alone
  searches : {x : List ℕ} {d : ℕ} (r : List ℕ) → length r ≤ depth_limit → Carries (on' (search' x d)) (found_as r)
  under26 : {x : List ℕ} {d : ℕ} → Carries (on' (search' x d)) (no 26 0 0 as_lent)
  under27 : {x : List ℕ} {d : ℕ} → Carries (on' (search' x d)) (no 27 0 0 as_lent)
  -- 02, note 10: a search is begun, or 26; carried on, it carries the count alone, or at its end the search's answer too, 27 among them; or 28
  begins : {x : List ℕ} {d : ℕ} → Carries (on' (begin' x d)) (no 0 0 0 as_lent)
  begin26 : {x : List ℕ} {d : ℕ} → Carries (on' (begin' x d)) (no 26 0 0 as_lent)
  under-way : {n : ℕ} (c : ℕ) → c ≤ count_limit → Carries (on' (carry' n)) (progress_as 0 c 0 [])
  ended : {n : ℕ} (c : ℕ) (r : List ℕ) → c ≤ count_limit → Carries (on' (carry' n)) (progress_as 0 c 1 r)
  ended27 : {n : ℕ} (c : ℕ) → c ≤ count_limit → Carries (on' (carry' n)) (progress_as 27 c 1 [])
  under28 : {n : ℕ} → Carries (on' (carry' n)) (no 28 0 0 as_lent)
