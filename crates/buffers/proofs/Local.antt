-- A request reads and writes only the parts that it is lent: one lemma for each shape of request, one line for each request.
use mathlib.Core.Path.{◌≡◌, refl, sym, ap, ap₂, ◌∙◌}
use mathlib.Core.List.{List}
use mathlib.Core.Bool.{Bool, true, false, cond}
use mathlib.Core.Option.{Option}
use Prim.Native.Nat.{ℕ}
use lib.Dec.{ltb}
use Rattle.value.proofs.Kit.{true-not-false, false-not-true}
use Rattle.clock.specs.declared.Clock.{Clock}
use Rattle.model.specs.Resolved
use Rattle.machine.specs.State.{State}
use Rattle.machine.specs.Timed.{Timed, timed}
use Rattle.machine.specs.Saves.{is_name, Saves, save_limit, place_of, Stored, stored, removed, saving, returning, forgetting}
use Rattle.machine.specs.Machine.{as_lent, no, Turn, lists, reports, steps_with, searches, times_with, runs_over, Search, begins, carries_by, Held, timed_of, on_state, on_clock, on_saves, on_search, search_parts, Request, list', step', report', search', timed', run', save', return', forget', begin', carry', acts, Part, model, state, saves, clock, search, two_parts, timed_parts, three_parts, four_parts, uses, is_lent}

abbrev pub Content : Part → Type 0
Content model = Resolved.Model
Content state = State
Content saves = Saves
Content clock = Clock
Content search = Option Search

unfoldable pub content : (p : Part) → Held → Content p
content model h = h.model
content state h = h.state
content saves h = h.saves
content clock h = h.clock
content search h = h.search

-- two that agree in the parts that are lent
abbrev pub Agree : List Part → Held → Held → Type 0
Agree ps h k = (p : Part) → is_lent p ps ≡ true → content p h ≡ content p k

pub record Local (ps : List Part) (f : Held → Turn Held) : Type 0 where
  pub answer : (h k : Held) → Agree ps h k → (f h).answer ≡ (f k).answer
  pub writes : (h k : Held) → Agree ps h k → Agree ps (f h).machine (f k).machine
  pub keeps : (h : Held) (p : Part) → is_lent p ps ≡ false → content p (f h).machine ≡ content p h

-- ---- shapes

state-local : (f : Resolved.Model → State → Turn State) → Local two_parts (on_state f)
unfolding on_state content is_lent
state-local f = record {
  answer = λ h k a. ap₂ (λ (m : Resolved.Model) (s : State). (f m s).answer) (a model refl) (a state refl);
  writes = writes;
  keeps = keeps;
}
  where
    writes : (h k : Held) → Agree two_parts h k → Agree two_parts (on_state f h).machine (on_state f k).machine
    writes h k a model e = a model e
    writes h k a state e = ap₂ (λ (m : Resolved.Model) (s : State). (f m s).machine) (a model refl) (a state refl)
    writes h k a saves e = false-not-true e
    writes h k a clock e = false-not-true e
    writes h k a search e = false-not-true e

    keeps : (h : Held) (p : Part) → is_lent p two_parts ≡ false → content p (on_state f h).machine ≡ content p h
    keeps h model e = refl
    keeps h state e = true-not-false e
    keeps h saves e = refl
    keeps h clock e = refl
    keeps h search e = refl

clock-local : (f : Resolved.Model → State → Clock → Turn Timed) → Local timed_parts (on_clock f)
unfolding on_clock content is_lent
clock-local f = record {
  answer = λ h k a. λ i. (f (a model refl i) (a state refl i) (a clock refl i)).answer;
  writes = writes;
  keeps = keeps;
}
  where
    writes : (h k : Held) → Agree timed_parts h k → Agree timed_parts (on_clock f h).machine (on_clock f k).machine
    writes h k a model e = a model e
    writes h k a state e = λ i. (f (a model refl i) (a state refl i) (a clock refl i)).machine.state
    writes h k a saves e = false-not-true e
    writes h k a clock e = λ i. (f (a model refl i) (a state refl i) (a clock refl i)).machine.clock
    writes h k a search e = false-not-true e

    keeps : (h : Held) (p : Part) → is_lent p timed_parts ≡ false → content p (on_clock f h).machine ≡ content p h
    keeps h model e = refl
    keeps h state e = true-not-false e
    keeps h saves e = refl
    keeps h clock e = true-not-false e
    keeps h search e = refl

-- state, clock and saves
saves-local : (f : Timed → Saves → Stored) → Local four_parts (on_saves f)
unfolding on_saves content is_lent
saves-local f = record {
  answer = λ h k a i. no (f (timed (a state refl i) (a clock refl i)) (a saves refl i)).number 0 0 as_lent;
  writes = writes;
  keeps = keeps;
}
  where
    writes : (h k : Held) → Agree four_parts h k → Agree four_parts (on_saves f h).machine (on_saves f k).machine
    writes h k a model e = a model e
    writes h k a state e = λ i. (f (timed (a state refl i) (a clock refl i)) (a saves refl i)).kept.state
    writes h k a saves e = λ i. (f (timed (a state refl i) (a clock refl i)) (a saves refl i)).saves
    writes h k a clock e = λ i. (f (timed (a state refl i) (a clock refl i)) (a saves refl i)).kept.clock
    writes h k a search e = false-not-true e

    keeps : (h : Held) (p : Part) → is_lent p four_parts ≡ false → content p (on_saves f h).machine ≡ content p h
    keeps h model e = refl
    keeps h state e = true-not-false e
    keeps h saves e = true-not-false e
    keeps h clock e = true-not-false e
    keeps h search e = refl

-- a forget reads neither state nor clock, and leaves both
module _ (n : List ℕ) (t t' : Timed) (ss : Saves) where
  forget-same : ((forgetting n t ss).number ≡ (forgetting n t' ss).number) × ((forgetting n t ss).saves ≡ (forgetting n t' ss).saves) × ((forgetting n t ss).kept ≡ t)
  unfolding forgetting
  forget-same = by (is_name n) (ltb (place_of n ss) save_limit)
    where
      T : Timed → Bool → Bool → Stored
      T t b c = cond b (cond c (stored 0 t (removed n ss)) (stored 21 t ss)) (stored 20 t ss)

      by : (b c : Bool) → ((T t b c).number ≡ (T t' b c).number) × ((T t b c).saves ≡ (T t' b c).saves) × ((T t b c).kept ≡ t)
      by true true = (refl, refl, refl)
      by true false = (refl, refl, refl)
      by false c = (refl, refl, refl)

forget-local : (n : List ℕ) → Local three_parts (on_saves (forgetting n))
unfolding on_saves content is_lent
forget-local n = record {
  answer = λ h k a. ap (λ (k : ℕ). no k 0 0 as_lent) (ap (λ (ss : Saves). (forgetting n (timed_of h) ss).number) (a saves refl) ∙ (forget-same n (timed_of h) (timed_of k) k.saves).0);
  writes = writes;
  keeps = keeps;
}
  where
    kept : (h : Held) → (forgetting n (timed_of h) h.saves).kept ≡ timed_of h
    kept h = (forget-same n (timed_of h) (timed_of h) h.saves).2

    writes : (h k : Held) → Agree three_parts h k → Agree three_parts (on_saves (forgetting n) h).machine (on_saves (forgetting n) k).machine
    writes h k a model e = a model e
    writes h k a state e = ap (λ (t : Timed). t.state) (kept h) ∙ a state refl ∙ sym (ap (λ (t : Timed). t.state) (kept k))
    writes h k a saves e = ap (λ (ss : Saves). (forgetting n (timed_of h) ss).saves) (a saves refl) ∙ (forget-same n (timed_of h) (timed_of k) k.saves).1
    writes h k a clock e = false-not-true e
    writes h k a search e = false-not-true e

    keeps : (h : Held) (p : Part) → is_lent p three_parts ≡ false → content p (on_saves (forgetting n) h).machine ≡ content p h
    keeps h model e = refl
    keeps h state e = true-not-false e
    keeps h saves e = true-not-false e
    keeps h clock e = ap (λ (t : Timed). t.clock) (kept h)
    keeps h search e = refl

-- 02, note 10: the search
search-local : (f : Resolved.Model → State → Option Search → Turn (Option Search)) → Local search_parts (on_search f)
unfolding on_search content is_lent
search-local f = record {
  answer = λ h k a. λ i. (f (a model refl i) (a state refl i) (a search refl i)).answer;
  writes = writes;
  keeps = keeps;
}
  where
    writes : (h k : Held) → Agree search_parts h k → Agree search_parts (on_search f h).machine (on_search f k).machine
    writes h k a model e = a model e
    writes h k a state e = a state e
    writes h k a saves e = false-not-true e
    writes h k a clock e = false-not-true e
    writes h k a search e = λ i. (f (a model refl i) (a state refl i) (a search refl i)).machine

    keeps : (h : Held) (p : Part) → is_lent p search_parts ≡ false → content p (on_search f h).machine ≡ content p h
    keeps h model e = refl
    keeps h state e = refl
    keeps h saves e = refl
    keeps h clock e = refl
    keeps h search e = true-not-false e

-- ---- requests

pub local : (r : Request) → Local (uses r) (acts r)
unfolding acts
local list' = state-local lists
local (step' d) = state-local (steps_with d)
local report' = state-local reports
local (search' n d) = state-local (searches n d)
local (timed' ds d) = clock-local (times_with ds d)
local (run' ws vs n l) = clock-local (runs_over ws vs n l)
local (save' n) = saves-local (saving n)
local (return' n) = saves-local (returning n)
local (forget' n) = forget-local n
local (begin' n d) = search-local (begins n d)
local (carry' n) = search-local (λ m s. carries_by n m)

pub model-lent : (r : Request) → is_lent model (uses r) ≡ true
unfolding is_lent
model-lent list' = refl
model-lent (step' d) = refl
model-lent report' = refl
model-lent (search' n d) = refl
model-lent (timed' ds d) = refl
model-lent (run' ws vs n l) = refl
model-lent (save' n) = refl
model-lent (return' n) = refl
model-lent (forget' n) = refl
model-lent (begin' n d) = refl
model-lent (carry' n) = refl
