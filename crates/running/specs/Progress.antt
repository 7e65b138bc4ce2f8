-- How a run stands in the buffers, and what its steps leave (docs/DECISIONS.md, R.4 to R.7). Definitions only.
use Rattle.std.specs.Prelude.{◌≡◌, None, Some, Option, is_some, List, ℕ, ◌+◌, ◌-◌, ◌*◌, ◌≤◌, ℤ, length, set}
use Rattle.model.specs.Resolved
use Rattle.rules.specs.Rules.{key}
use Rattle.rules.specs.Listing.{Entry, entry}
use Rattle.clock.specs.declared.Clock.{Clock}
use Rattle.clock.specs.Clock.{InRange}
use Rattle.machine.specs.State.{State}
use Rattle.machine.specs.Machine.{event_width, Run, Next}
use Rattle.machine.specs.Runs.{event_numbers, run_of, is_over}
use Rattle.listing.specs.Buffer as unlisted
use Rattle.step.specs.Enter.{Lent}
use Rattle.step.specs.Entries.{Counted}
use Rattle.running.specs.declared.End.{End}
use Rattle.running.specs.declared.End.TheVariants.{Spent, Unlisted, Refused}
use Rattle.running.specs.declared.Given.{Given}
use Rattle.running.specs.declared.Making.{Making}
use Rattle.running.specs.Taking.{refusal_number}
use Rattle.running.specs.declared.Progress.{Progress}

-- event n written over what stands in the buffer
unfoldable pub written : List ℕ → (n ticks : ℕ) → Entry → List ℕ
written l n t (entry (key c i j k m q) w) =
    let a = n * event_width in
    set (set (set (set (set (set (set (set l a t) (a + 1) c) (a + 2) i) (a + 3) j) (a + 4) k) (a + 5) m) (a + 6) q) (a + 7) w

-- 0, or the number of the refusal that ended a run
abbrev pub end_number : Option End → ℕ
end_number (Some (Unlisted r)) = unlisted.refusal_number r
end_number (Some (Refused r)) = refusal_number r
end_number (Some Spent) = 0
end_number None = 0

-- before the first step
abbrev pub begun_with : Clock → Progress
begun_with k = record { steps = 0; words = 0; waiting = 0; count = 0; total = 0; clock = k; end = None }

-- no more steps
abbrev pub ended : Progress → End → (count total : ℕ) → Progress
ended p e c s = record { steps = p.steps; words = p.words; waiting = p.waiting; count = c; total = s; clock = p.clock; end = Some e }

-- one more step, which used so many words
abbrev pub longer_by : Progress → (used count total : ℕ) → Clock → Progress
longer_by p u c s k = record { steps = p.steps + 1; words = p.words + u; waiting = p.waiting + (k.draws - p.clock.draws); count = c; total = s; clock = k; end = None }

-- the tables hold the model m, and zs are the numbers of the state s over it
abbrev pub Holds : Given → List ℤ → Resolved.Model → State → Type 0
Holds g zs m s = Lent g.tables.nodes.now g.tables.roots.now g.tables.scopes.now g.tables.root g.tables.variables zs m s

-- the tables hold the model m; the run r has come so far that p, the state's numbers zs and the events es tell it; z the events as lent
pub record Stands (g : Given) (z : List ℕ) (zs : List ℤ) (es : List ℕ) (p : Progress) (m : Resolved.Model) (r : Run) : Type 0 where
  pub lent : Holds g zs m r.timed.state
  pub in-range : InRange r.timed.clock
  pub words-fit : r.words ≤ length g.words.now
  pub waiting-fits : r.waiting ≤ length g.waiting.now
  pub number : end_number p.end ≡ r.number
  pub steps : p.steps ≡ length r.events
  pub words : p.words ≡ r.words
  pub waiting : p.waiting ≡ r.waiting
  pub count : p.count ≡ r.count
  pub total : p.total ≡ r.total
  pub clock : p.clock ≡ r.timed.clock
  pub events : es ≡ event_numbers r.events z

-- and the listing es of its state stands first in the buffer l
pub record Lists (g : Given) (z : List ℕ) (zs : List ℤ) (es : List ℕ) (p : Progress) (m : Resolved.Model) (r : Run) (l : List ℕ) (count sum : ℕ) (entries : List Entry) : Type 0 where
  pub stands : Stands g z zs es p m r
  pub counted : Counted g.tables.nodes.now g.tables.roots.now g.tables.scopes.now g.tables.root g.tables.variables zs l count sum m r.timed.state entries

-- what one step leaves: the run goes on, or it is over
pub record Goes (g : Given) (z : List ℕ) (x : Next) (p : Progress) (zs : List ℤ) (es : List ℕ) (m : Resolved.Model) : Type 0 where
  pub stands : Stands g z zs es p m (run_of x)
  pub over : is_some p.end ≡ is_over x

-- ---- the same of a run as it is made

-- what it is lent stays where it is
abbrev pub Stays : Making → Making → Type 0
Stays a b = (b.state.ghost_name ≡ a.state.ghost_name) × (b.events.ghost_name ≡ a.events.ghost_name)

abbrev pub StandsIn : Given → List ℕ → Making → Progress → Resolved.Model → Run → Type 0
StandsIn g z a p m r = Stands g z a.state.now a.events.now p m r

abbrev pub ListsIn : Given → List ℕ → Making → Progress → Resolved.Model → Run → (count sum : ℕ) → List Entry → Type 0
ListsIn g z a p m r count sum es = Lists g z a.state.now a.events.now p m r a.listing count sum es

abbrev pub GoesIn : Given → List ℕ → Next → Progress → Making → Resolved.Model → Type 0
GoesIn g z x p a m = Goes g z x p a.state.now a.events.now m
