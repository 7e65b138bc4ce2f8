-- Only a search answers with a run, and with nothing else beside its number (02, note 8): from what every answer carries.
use mathlib.Core.Path.{◌≡◌, refl, sym, subst}
use mathlib.Core.List.{List, []}
use mathlib.Core.Bool.{Bool, true, false, cond}
use Prim.Native.Nat.{ℕ}
use lib.ListN.{length}
use Rattle.value.proofs.Kit.{false-not-true, true-not-false}
use Rattle.model.specs.Opening.{Opening, refused, opened, opening}
use Rattle.profile.specs.Opening.{opening_steady}
use Rattle.machine.specs.Machine.{as_lent, Answer, no, listed_as, reported_as, found_as, ran_as, turn, Machine, closed, Request, list', step', report', search', timed', run', save', return', forget', Ask, open', open_steady', on', Part, uses, has_lengths, call, opens, asked_of_machine, calls, progress_as, begin', carry', asked_of_machine}
use Rattle.machine.specs.Results as results
use Rattle.machine.specs.Results.{Lists, Chooses, Names, Carries, under1, under2-10, under11, under12, under13, under14, under15-19, under23-25, under20, return21, forget21, save22, under2-29, under26, under27, begin26, under-way, ended27, under28}
use Rattle.machine.proofs.Carries.{carries}
use Rattle.buffers.specs.Parts.{Engine}
use Rattle.buffers.specs.Effect.{machine_in, untouched, opens_with, leaves, requested, answered, effect}

-- 02, notes 8 and 10: a call that can answer with a run
unfoldable pub is_search : Ask → Bool
is_search (open' text) = false
is_search (open_steady' text) = false
is_search (on' list') = false
is_search (on' (step' d)) = false
is_search (on' report') = false
is_search (on' (search' x d)) = true
is_search (on' (timed' ds d)) = false
is_search (on' (run' ws vs n l)) = false
is_search (on' (save' n)) = false
is_search (on' (return' n)) = false
is_search (on' (forget' n)) = false
is_search (on' (begin' x d)) = false
is_search (on' (carry' n)) = true

-- in one call
unfoldable is_whole : Ask → Bool
is_whole (open' text) = false
is_whole (open_steady' text) = false
is_whole (on' list') = false
is_whole (on' (step' d)) = false
is_whole (on' report') = false
is_whole (on' (search' x d)) = true
is_whole (on' (timed' ds d)) = false
is_whole (on' (run' ws vs n l)) = false
is_whole (on' (save' n)) = false
is_whole (on' (return' n)) = false
is_whole (on' (forget' n)) = false
is_whole (on' (begin' x d)) = false
is_whole (on' (carry' n)) = false

-- ---- the answer of an effect is the machine's

unfoldable over : Ask → Engine → Machine
over (open' text) x = closed
over (open_steady' text) x = closed
over (on' r) x = machine_in (uses r) x

opens-answer : (text : List ℕ) (o : Opening) (l : List ℕ) → (opens_with text o l).answer ≡ (opens o).answer
unfolding opens_with opens
opens-answer text (refused n p) l = refl
opens-answer text (opened m) l = refl

answer-is : (k : Ask) (x : Engine) (l : List ℕ) → (effect k x l).answer ≡ (calls (over k x) (call k (λ (p : Part). length (x p)) (length l))).answer
unfolding effect calls
answer-is k x l = by (has_lengths k (λ (p : Part). length (x p)) (length l)) k
  where
    by : (b : Bool) (k : Ask) → (cond b (answered k x l) (untouched x l)).answer ≡ (cond b (asked_of_machine (over k x) k) (turn (over k x) (no 1 0 0 as_lent))).answer
    by true (open' text) = unfold answered asked_of_machine in opens-answer text (opening text) l
    by true (open_steady' text) = unfold answered asked_of_machine in opens-answer text (opening_steady text) l
    by true (on' r) = unfold answered requested leaves asked_of_machine over machine_in in refl
    by false k = unfold untouched in refl

pub carried : (k : Ask) (x : Engine) (l : List ℕ) → Carries k (effect k x l).answer
carried k x l = subst (Carries k) (sym (answer-is k x l)) (carries (over k x) (call k (λ (p : Part). length (x p)) (length l)))

-- ---- no run

no_run : {k : Ask} {a : Answer} → Carries k a → is_search k ≡ false → a.run ≡ []
unfolding no listed_as reported_as ran_as progress_as is_search
no_run under1 e = refl
no_run results.opens e = refl
no_run (under2-10 n p l m) e = refl
no_run results.opens_steady e = refl
no_run (under2-29 n p h) e = refl
no_run under11 e = refl
no_run (under12 i j h) e = refl
no_run (under13 h) e = refl
no_run (under14 h) e = refl
no_run (results.lists es) e = refl
no_run (under15-19 n es h l m) e = refl
no_run (results.steps c es h) e = refl
no_run (under23-25 n es l m) e = refl
no_run (results.runs r k) e = refl
no_run (results.reports ns es) e = refl
no_run (results.stores h) e = refl
no_run (under20 h) e = refl
no_run return21 e = refl
no_run forget21 e = refl
no_run save22 e = refl
no_run (results.searches r l) e = true-not-false e
no_run under26 e = refl
no_run under27 e = refl
no_run results.begins e = refl
no_run begin26 e = refl
no_run (under-way c l) e = refl
no_run (results.ended c r l) e = true-not-false e
no_run (ended27 c l) e = refl
no_run under28 e = refl

-- of a call that is no search
pub without-run : (k : Ask) (x : Engine) (l : List ℕ) → is_search k ≡ false → (effect k x l).answer.run ≡ []
without-run k x l e = no_run (carried k x l) e

-- ---- a run alone

pub record Alone (a : Answer) : Type 0 where
  pub place : a.place ≡ 0
  pub branch : a.branch ≡ 0
  pub count : a.count ≡ 0
  pub total : a.total ≡ 0
  pub chosen : a.chosen ≡ 0

no-lists : (r : Request) → is_whole (on' r) ≡ true → Lists r → ⊥
unfolding is_whole Lists
no-lists list' e h = false-not-true e
no-lists (step' d) e h = false-not-true e
no-lists report' e h = false-not-true e
no-lists (search' x d) e h = h
no-lists (timed' ds d) e h = false-not-true e
no-lists (run' ws vs n l) e h = h
no-lists (save' n) e h = h
no-lists (return' n) e h = h
no-lists (forget' n) e h = h
no-lists (begin' x d) e h = h
no-lists (carry' n) e h = h

no-choice : (r : Request) → is_whole (on' r) ≡ true → Chooses r → ⊥
unfolding is_whole Chooses
no-choice list' e h = h
no-choice (step' d) e h = false-not-true e
no-choice report' e h = h
no-choice (search' x d) e h = h
no-choice (timed' ds d) e h = false-not-true e
no-choice (run' ws vs n l) e h = h
no-choice (save' n) e h = h
no-choice (return' n) e h = h
no-choice (forget' n) e h = h
no-choice (begin' x d) e h = h
no-choice (carry' n) e h = h

alone : {k : Ask} {a : Answer} → Carries k a → is_whole k ≡ true → Alone a
unfolding no found_as is_whole
alone under1 e = record { place = refl; branch = refl; count = refl; total = refl; chosen = refl }
alone results.opens e = record { place = refl; branch = refl; count = refl; total = refl; chosen = refl }
alone (under2-10 n p l m) e = absurd (false-not-true e)
alone results.opens_steady e = record { place = refl; branch = refl; count = refl; total = refl; chosen = refl }
alone (under2-29 n p h) e = absurd (false-not-true e)
alone under11 e = record { place = refl; branch = refl; count = refl; total = refl; chosen = refl }
alone (under12 {r = r} i j h) e = absurd (no-lists r e h)
alone (under13 h) e = record { place = refl; branch = refl; count = refl; total = refl; chosen = refl }
alone (under14 h) e = record { place = refl; branch = refl; count = refl; total = refl; chosen = refl }
alone (results.lists es) e = absurd (false-not-true e)
alone (under15-19 {r = r} n es h l m) e = absurd (no-choice r e h)
alone (results.steps {r = r} c es h) e = absurd (no-choice r e h)
alone (under23-25 n es l m) e = absurd (false-not-true e)
alone (results.runs r k) e = absurd (false-not-true e)
alone (results.reports ns es) e = absurd (false-not-true e)
alone (results.stores h) e = record { place = refl; branch = refl; count = refl; total = refl; chosen = refl }
alone (under20 h) e = record { place = refl; branch = refl; count = refl; total = refl; chosen = refl }
alone return21 e = record { place = refl; branch = refl; count = refl; total = refl; chosen = refl }
alone forget21 e = record { place = refl; branch = refl; count = refl; total = refl; chosen = refl }
alone save22 e = record { place = refl; branch = refl; count = refl; total = refl; chosen = refl }
alone (results.searches r l) e = record { place = refl; branch = refl; count = refl; total = refl; chosen = refl }
alone under26 e = record { place = refl; branch = refl; count = refl; total = refl; chosen = refl }
alone under27 e = record { place = refl; branch = refl; count = refl; total = refl; chosen = refl }
alone results.begins e = absurd (false-not-true e)
alone begin26 e = absurd (false-not-true e)
alone (under-way c l) e = absurd (false-not-true e)
alone (results.ended c r l) e = absurd (false-not-true e)
alone (ended27 c l) e = absurd (false-not-true e)
alone under28 e = absurd (false-not-true e)

-- of a search
pub run_alone : (n : List ℕ) (d : ℕ) (x : Engine) (l : List ℕ) → Alone (effect (on' (search' n d)) x l).answer
run_alone n d x l = alone (carried (on' (search' n d)) x l) (unfold is_whole in refl)
