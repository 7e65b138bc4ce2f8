-- What a list, a step, a report, a search and a timed step answer and leave over any buffers that hold a model and a state (01, Listing and stepping; 02, notes 4, 6 and 8): what the questions allow, and nothing else;
-- what a save, a return and a forget do (02, notes 2 and 4); a run (docs/DECISIONS.md, R.4 to R.7); and a search that is begun and carried on (02, note 10).
-- Definitions only.
use Rattle.std.specs.Prelude.{List, ℕ}
use Rattle.std.proofs.Math.Option.{Option}
use Rattle.model.specs.Resolved
use Rattle.rules.specs.Listing.{Entry}
use Rattle.machine.specs.State.{State, state_numbers}
use Rattle.machine.specs.Report.{report_of}
use Rattle.clock.specs.declared.Clock.{Clock}
use Rattle.machine.specs.Timed.{Timed}
use Rattle.machine.specs.Saves.{Stored}
use Rattle.machine.specs.Machine.{as_lent, Answer, no, listed_as, reported_as, entries_are, refused_with, Turn, Run, ran_as, Search}
use Rattle.machine.specs.Runs.{event_numbers}
use Rattle.machine.specs.Questions.{Lists, Steps, Times}
use Rattle.machine.specs.Searching.{Searches}
use Rattle.saves.specs.Places.{saves_numbers}
use Rattle.underway.specs.Buffer.{search_numbers}
use Rattle.buffers.specs.Listing.{shown, listing_numbers}
use Rattle.buffers.specs.Parts.{Engine, with_state, with_timed, with_stored, with_kept, with_search}
use Rattle.buffers.specs.Effect.{Effect}

module _ (m : Resolved.Model) (s : State) (x : Engine) (l : List ℕ) where
  -- 01, Listing: 12 to 14, each for its reason, or the listing; the state stays
  pub data ListsAs : Effect → Type 0 where
    no14 : {a : Answer} → Lists m s (refused_with a) → ListsAs (record { answer = a; left = x; output = shown a.listing l })
    yes14 : {es : List Entry} → Lists m s (entries_are es) → ListsAs (record { answer = listed_as 0 0 es; left = x; output = listing_numbers es })

  -- 01, Listing and stepping: 12 to 14, or 15 to 19 or acceptance over the listing; what the turn leads to is the state
  pub data StepsAs (d : ℕ) : Effect → Type 0 where
    no14 : {a : Answer} → Lists m s (refused_with a) → StepsAs d (record { answer = a; left = x; output = shown a.listing l })
    drawn : {es : List Entry} {t : Turn State} → Lists m s (entries_are es) → Steps m s es d t
        → StepsAs d (record { answer = t.answer; left = with_state x (state_numbers t.machine); output = listing_numbers es })

  -- 02, note 6: refused and then zeroed like a listing, or the shares of it; the state stays
  pub data ReportsAs : Effect → Type 0 where
    no14 : {a : Answer} → Lists m s (refused_with a) → ReportsAs (record { answer = a; left = x; output = shown a.listing l })
    yes14 : {es : List Entry} → Lists m s (entries_are es) → ReportsAs (record { answer = reported_as (report_of m s es) es; left = x; output = report_of m s es })

  -- 02, notes 8 and 9: 26, the first run, none or 27; nothing moves
  pub data SearchesAs (name : List ℕ) (d : ℕ) : Effect → Type 0 where
    searched : {a : Answer} → Searches m name s d a → SearchesAs name d (record { answer = a; left = x; output = l })

  -- 02, note 4: 12 to 14, or over the listing 15 to 19, 23 to 25 or acceptance; what the turn leads to are the state and the clock, which was c
  pub data TimesAs (c : Clock) (ds : List ℕ) (d : ℕ) : Effect → Type 0 where
    no14 : {a : Answer} → Lists m s (refused_with a) → TimesAs c ds d (record { answer = a; left = x; output = shown a.listing l })
    waited : {es : List Entry} {t : Turn Timed} → Lists m s (entries_are es) → Times m s c es ds d t
        → TimesAs c ds d (record { answer = t.answer; left = with_timed x (state_numbers t.machine.state) t.machine.clock; output = listing_numbers es })

-- 02, note 2: the number of a turn of state and saves, and what it leads to in the buffers; nothing else is carried or moved
unfoldable pub stores_as : Engine → List ℕ → Stored → Effect
stores_as x l t = record { answer = no t.number 0 0 as_lent; left = with_stored x (state_numbers t.kept.state) (saves_numbers t.saves); output = l }

-- 02, note 4: and of the clock
unfoldable pub keeps_as : Engine → List ℕ → Stored → Effect
keeps_as x l t = record { answer = no t.number 0 0 as_lent; left = with_kept x (state_numbers t.kept.state) (saves_numbers t.saves) t.kept.clock; output = l }

-- R.4 to R.7: what a run came to: its answer, its state and its clock, and its events over what was lent
unfoldable pub runs_as : Engine → List ℕ → Run → Effect
runs_as x l r = record { answer = ran_as r; left = with_timed x (state_numbers r.timed.state) r.timed.clock; output = event_numbers r.events l }

-- 02, note 10: what a turn of the search came to: its answer, and the search alone moves
unfoldable pub walks_as : Engine → List ℕ → Turn (Option Search) → Effect
walks_as x l t = record { answer = t.answer; left = with_search x (search_numbers t.machine); output = l }
