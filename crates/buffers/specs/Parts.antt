-- The engine's buffers as one family over its parts (01, State; docs/LAYOUT.md): their cells, what they hold, the exact test of each and what is read back. Definitions only.
use Rattle.std.specs.Prelude.{Bool, true, cond, List, [], ◌∷◌, ℕ, ℤ, pos, get_or, replicate}
use Rattle.std.proofs.Math.Option.{none}
use Rattle.clock.specs.declared.Clock.{Clock}
use Rattle.clock.specs.Clock.{fresh_clock, is_in_range}
use Rattle.model.specs.Resolved
use Rattle.state.specs.Fits.{scopes_of}
use Rattle.state.specs.Test.{is_state}
use Rattle.state.specs.Decode.{decode}
use Rattle.machine.specs.State.{empty_state, state_numbers}
use Rattle.machine.specs.Saves.{no_saves}
use Rattle.machine.specs.Machine.{Held, Part, model, state, saves, clock, search, size, is_lent}
use Rattle.saves.specs.Places.{saves_numbers, is_saves, saves_in}
use Rattle.underway.specs.Buffer.{search_numbers, is_search, search_in}

-- bytes, or whole numbers
abbrev pub Cell : Part → Type 0
Cell model = ℕ
Cell state = ℤ
Cell saves = ℤ
Cell clock = ℕ
Cell search = ℤ

-- 01, State: the engine is its buffers, all that one call leaves for the next
abbrev pub Engine : Type 0
Engine = (p : Part) → List (Cell p)

-- 02, note 4: the clock's two numbers, ticks and then draws, and the clock of two numbers
abbrev pub clock_numbers : Clock → List ℕ
clock_numbers c = c.ticks ∷ c.draws ∷ []

abbrev pub clock_in : List ℕ → Clock
clock_in l = record { ticks = get_or l 0 0; draws = get_or l 1 0 }

-- 01, Fresh: zeros
unfoldable pub fresh : Engine
fresh model = replicate (size model) 0
fresh state = replicate (size state) (pos 0)
fresh saves = replicate (size saves) (pos 0)
fresh clock = replicate (size clock) 0
fresh search = replicate (size search) (pos 0)

-- 01, State: the buffers of all that is held, over these bytes of a model
unfoldable pub numbers_of : List ℕ → Held → Engine
numbers_of bytes h model = bytes
numbers_of bytes h state = state_numbers h.state
numbers_of bytes h saves = saves_numbers h.saves
numbers_of bytes h clock = clock_numbers h.clock
numbers_of bytes h search = search_numbers h.search

-- 01, Listing, 11: is the buffer one over the model? the model's own is judged by itself (Held.antt)
unfoldable pub is_part : Resolved.Model → (p : Part) → List (Cell p) → Bool
is_part m model l = true
is_part m state l = is_state (scopes_of m) m.channels l
is_part m saves l = is_saves (scopes_of m) m.channels l
is_part m clock l = is_in_range (clock_in l)
is_part m search l = is_search m l

-- what buffers hold; a part that is not lent counts as empty
unfoldable pub read_held : Resolved.Model → List Part → Engine → Held
read_held m ps x = record {
  model = m;
  state = cond (is_lent state ps) (decode (scopes_of m) (x state)) empty_state;
  saves = cond (is_lent saves ps) (saves_in (scopes_of m) (x saves)) no_saves;
  clock = cond (is_lent clock ps) (clock_in (x clock)) fresh_clock;
  search = cond (is_lent search ps) (search_in m (x search)) none;
}

-- ---- engines

-- the buffers that a call is lent of the model and the state, and nothing else
unfoldable pub lent_two : List ℕ → List ℤ → Engine
lent_two bs zs model = bs
lent_two bs zs state = zs
lent_two bs zs saves = []
lent_two bs zs clock = []
lent_two bs zs search = []

-- and those of the saves
unfoldable pub lent_three : List ℕ → List ℤ → List ℤ → Engine
lent_three bs zs ss model = bs
lent_three bs zs ss state = zs
lent_three bs zs ss saves = ss
lent_three bs zs ss clock = []
lent_three bs zs ss search = []

-- 02, note 4: of the model, the state and the clock
unfoldable pub lent_timed : List ℕ → List ℤ → Clock → Engine
lent_timed bs zs c model = bs
lent_timed bs zs c state = zs
lent_timed bs zs c saves = []
lent_timed bs zs c clock = clock_numbers c
lent_timed bs zs c search = []

-- and of the saves
unfoldable pub lent_all : List ℕ → List ℤ → List ℤ → Clock → Engine
lent_all bs zs ss c model = bs
lent_all bs zs ss c state = zs
lent_all bs zs ss c saves = ss
lent_all bs zs ss c clock = clock_numbers c
lent_all bs zs ss c search = []

-- 02, note 10: of the model, the state and the search
unfoldable pub lent_search : List ℕ → List ℤ → List ℤ → Engine
lent_search bs zs xs model = bs
lent_search bs zs xs state = zs
lent_search bs zs xs saves = []
lent_search bs zs xs clock = []
lent_search bs zs xs search = xs

-- all of them
unfoldable pub lent_whole : List ℕ → List ℤ → List ℤ → Clock → List ℤ → Engine
lent_whole bs zs ss c xs model = bs
lent_whole bs zs ss c xs state = zs
lent_whole bs zs ss c xs saves = ss
lent_whole bs zs ss c xs clock = clock_numbers c
lent_whole bs zs ss c xs search = xs

-- all as it was but the state
unfoldable pub with_state : Engine → List ℤ → Engine
with_state x zs model = x model
with_state x zs state = zs
with_state x zs saves = x saves
with_state x zs clock = x clock
with_state x zs search = x search

-- 02, note 4: all as it was but the state and the clock
unfoldable pub with_timed : Engine → List ℤ → Clock → Engine
with_timed x zs c model = x model
with_timed x zs c state = zs
with_timed x zs c saves = x saves
with_timed x zs c clock = clock_numbers c
with_timed x zs c search = x search

-- 02, note 2: all as it was but the state and the saves
unfoldable pub with_stored : Engine → List ℤ → List ℤ → Engine
with_stored x zs ss model = x model
with_stored x zs ss state = zs
with_stored x zs ss saves = ss
with_stored x zs ss clock = x clock
with_stored x zs ss search = x search

-- 02, note 4: and the clock
unfoldable pub with_kept : Engine → List ℤ → List ℤ → Clock → Engine
with_kept x zs ss c model = x model
with_kept x zs ss c state = zs
with_kept x zs ss c saves = ss
with_kept x zs ss c clock = clock_numbers c
with_kept x zs ss c search = x search

-- 02, note 10: all as it was but the search
unfoldable pub with_search : Engine → List ℤ → Engine
with_search x xs model = x model
with_search x xs state = x state
with_search x xs saves = x saves
with_search x xs clock = x clock
with_search x xs search = xs
