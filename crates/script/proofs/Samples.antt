-- A script of fourteen rows, by computation: it opens a text, lists, steps with a listing one number short, reports, saves, returns with saves one number short, forgets, makes a timed step with two waiting draws,
-- opens a text under the steady profile, searches for a wait to depth 3, makes a run of at most nine steps with one word, three waiting draws and room for two events, begins a search to depth 8, carries it on with a search one number short, and ends
-- at a row of no kind.
use mathlib.Core.Path.{◌≡◌, refl}
use mathlib.Core.List.{List, [], ◌∷◌}
use mathlib.Core.Option.{Option-elim}
use Prim.Native.Nat.{ℕ}
use Rattle.machine.specs.State.{state_length}
use Rattle.machine.specs.Saves.{saves_length}
use Rattle.machine.specs.Machine.{search_length, as_lent, no, closed, list', step', report', search', timed', run', save', return', forget', begin', carry', Ask, open', open_steady', on', model, state, saves, search, size, all_parts, has_lengths, Call, call, on_machine, asked_of_machine, calls}
use Rattle.script.specs.Rows.{row_of, rows, rows_of, row_lengths, Room, room_after, fits, row_text, row_draws, row_words, row_ask, row_call, call_of, calls_of, calls_in}

abbrev texts : List ℕ
texts = 65 ∷ 66 ∷ 67 ∷ []

abbrev script : List ℕ
script =
    1 ∷ 1 ∷ 2 ∷ 0 ∷ 0 ∷ 0 ∷ 0 ∷ 16386 ∷ state_length ∷ saves_length ∷ search_length ∷ 0 ∷ 0
    ∷ 2 ∷ 0 ∷ 0 ∷ 0 ∷ 0 ∷ 0 ∷ 7168 ∷ 16386 ∷ state_length ∷ 0 ∷ 0 ∷ 0 ∷ 0
    ∷ 3 ∷ 0 ∷ 0 ∷ 0 ∷ 0 ∷ 250 ∷ 7167 ∷ 16386 ∷ state_length ∷ 0 ∷ 0 ∷ 0 ∷ 0
    ∷ 4 ∷ 0 ∷ 0 ∷ 0 ∷ 0 ∷ 0 ∷ 64 ∷ 16386 ∷ state_length ∷ 0 ∷ 0 ∷ 0 ∷ 0
    ∷ 5 ∷ 0 ∷ 3 ∷ 0 ∷ 0 ∷ 0 ∷ 0 ∷ 16386 ∷ state_length ∷ saves_length ∷ 0 ∷ 0 ∷ 0
    ∷ 6 ∷ 1 ∷ 2 ∷ 0 ∷ 0 ∷ 0 ∷ 0 ∷ 16386 ∷ state_length ∷ 41007 ∷ 0 ∷ 0 ∷ 0
    ∷ 7 ∷ 3 ∷ 0 ∷ 0 ∷ 0 ∷ 0 ∷ 0 ∷ 16386 ∷ state_length ∷ saves_length ∷ 0 ∷ 0 ∷ 0
    ∷ 8 ∷ 0 ∷ 0 ∷ 1 ∷ 2 ∷ 250 ∷ 7168 ∷ 16386 ∷ state_length ∷ 0 ∷ 0 ∷ 0 ∷ 0
    ∷ 9 ∷ 0 ∷ 1 ∷ 0 ∷ 0 ∷ 0 ∷ 0 ∷ 16386 ∷ state_length ∷ saves_length ∷ search_length ∷ 0 ∷ 0
    ∷ 10 ∷ 1 ∷ 2 ∷ 0 ∷ 0 ∷ 3 ∷ 0 ∷ 16386 ∷ state_length ∷ 0 ∷ 0 ∷ 0 ∷ 0
    ∷ 11 ∷ 0 ∷ 0 ∷ 0 ∷ 3 ∷ 9 ∷ 20 ∷ 16386 ∷ state_length ∷ 0 ∷ 0 ∷ 1 ∷ 1
    ∷ 12 ∷ 1 ∷ 2 ∷ 0 ∷ 0 ∷ 8 ∷ 0 ∷ 16386 ∷ state_length ∷ 0 ∷ search_length ∷ 0 ∷ 0
    ∷ 13 ∷ 0 ∷ 0 ∷ 0 ∷ 0 ∷ 1000 ∷ 0 ∷ 16386 ∷ state_length ∷ 0 ∷ 5134 ∷ 0 ∷ 0
    ∷ 14 ∷ 0 ∷ 0 ∷ 0 ∷ 0 ∷ 0 ∷ 7168 ∷ 16386 ∷ state_length ∷ 0 ∷ 0 ∷ 0 ∷ 0
    ∷ []

abbrev room : Room
room = record { parts = size; outputs = 114688; answers = 252 }

-- what each call asks, with the lengths of model, state, saves, search and output
pub record Told : Type 0 where
  pub ask : Ask
  pub model : ℕ
  pub state : ℕ
  pub saves : ℕ
  pub search : ℕ
  pub output : ℕ

abbrev told : Ask → ℕ → ℕ → ℕ → ℕ → ℕ → Told
told k m s v x o = record { ask = k; model = m; state = s; saves = v; search = x; output = o }

unfoldable pub tell : List Call → List Told
tell [] = []
tell (c ∷ cs) = told c.ask (c.lengths model) (c.lengths state) (c.lengths saves) (c.lengths search) c.output ∷ tell cs

pub sample-calls :
    tell (calls_in script texts (7 ∷ 40000 ∷ 50000 ∷ []) (8 ∷ 9 ∷ []) room)
    ≡ told (open' (66 ∷ 67 ∷ [])) 16386 state_length saves_length search_length 0 ∷ told (on' list') 16386 state_length 0 0 7168 ∷ told (on' (step' 250)) 16386 state_length 0 0 7167 ∷ told (on' report') 16386 state_length 0 0 64
    ∷ told (on' (save' (65 ∷ 66 ∷ 67 ∷ []))) 16386 state_length saves_length 0 0 ∷ told (on' (return' (66 ∷ 67 ∷ []))) 16386 state_length 41007 0 0 ∷ told (on' (forget' [])) 16386 state_length saves_length 0 0
    ∷ told (on' (timed' (40000 ∷ 50000 ∷ []) 250)) 16386 state_length 0 0 7168 ∷ told (open_steady' (65 ∷ [])) 16386 state_length saves_length search_length 0 ∷ told (on' (search' (66 ∷ 67 ∷ []) 3)) 16386 state_length 0 0 0
    ∷ told (on' (run' (9 ∷ []) (7 ∷ 40000 ∷ 50000 ∷ []) 9 20)) 16386 state_length 0 0 20 ∷ told (on' (begin' (66 ∷ 67 ∷ []) 8)) 16386 state_length 0 search_length 0 ∷ told (on' (carry' 1000)) 16386 state_length 0 5134 0 ∷ []
unfolding tell calls_in calls_of rows_of rows row_of row_lengths room_after fits all_parts row_text row_draws row_words row_ask row_call call_of Option-elim
sample-calls = refl

-- 02, note 6: a report that is lent 63 numbers is refused under 1, one that is lent 64 under 11 where the machine is closed, and both leave it as lent
pub short-report : ((calls closed (call (on' report') size 63)).answer ≡ no 1 0 0 as_lent) × ((calls closed (call (on' report') size 64)).answer ≡ no 11 0 0 as_lent)
unfolding calls has_lengths all_parts asked_of_machine on_machine Option-elim
short-report = (refl, refl)
