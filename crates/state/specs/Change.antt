-- A state's numbers after a change of its pairs or processes (01, State, step). Definitions only.
use Rattle.std.specs.Prelude.{cond, List, [], ◌∷◌, ◌++◌, ℕ, ◌+◌, ◌-◌, ◌*◌, ℤ, pos, nat_abs, length, set, take, drop, replicate}
use Rattle.model.specs.Limits.{local_limit}
use Rattle.machine.specs.State.{process_width, pair_width, process_room}
use Rattle.state.specs.Test.{at, rows, place_of, is_lit, pair_part}

-- the first numbers of a table's tail replaced; what follows moves, and 0s come in or fall off at its end
unfoldable pub rewritten : ℕ → List ℤ → List ℤ → List ℤ
rewritten cut new l = take (length l) (new ++ (drop cut l ++ replicate cut (pos 0)))

-- 01, State: where the pairs begin
abbrev pub pairs_from : ℕ
pairs_from = 2 + process_room

-- 01, State, step: one more pair, at a place
unfoldable pub pair_added : ℕ → List ℤ → List ℤ → List ℤ
pair_added place row zs =
    let from : ℕ = pairs_from + place * pair_width in
    set (take from zs ++ rewritten 0 row (drop from zs)) 1 (pos (nat_abs (at zs 1) + 1))

-- 01, State, step: the pair at a place taken away
unfoldable pub pair_taken : ℕ → List ℤ → List ℤ
pair_taken place zs =
    let from : ℕ = pairs_from + place * pair_width in
    set (take from zs ++ rewritten pair_width [] (drop from zs)) 1 (pos (nat_abs (at zs 1) - 1))

-- 01, State, step: the process at a place replaced by k processes; later places move
unfoldable pub process_replaced : ℕ → ℕ → List ℤ → List ℤ → List ℤ
process_replaced place k new zs =
    let from : ℕ = 2 + place * process_width in
    set (take from zs ++ (rewritten process_width new (take (pairs_from - from) (drop from zs)) ++ drop pairs_from zs)) 0 (pos (nat_abs (at zs 0) - 1 + k))

-- 01, State: the pairs' numbers, row by row
abbrev pub pair_rows : List ℤ → List (List ℤ)
pair_rows zs = rows pair_width (nat_abs (at zs 1)) (pair_part zs)

-- 01, State, step: a launch adds its pair to the set
unfoldable pub pair_launched : List ℤ → List ℤ → List ℤ
pair_launched row zs = cond (is_lit row (pair_rows zs)) zs (pair_added (place_of row (pair_rows zs)) row zs)

-- 01, State, step: a kill takes its pair away if it is lit
unfoldable pub pair_killed : List ℤ → List ℤ → List ℤ
pair_killed row zs = cond (is_lit row (pair_rows zs)) (pair_taken (place_of row (pair_rows zs)) zs) zs

-- 01, Open: the sum number and the locals of one more process, after the others
unfoldable pub process_added : ℕ → List ℤ → List ℤ → List ℤ
process_added sum locals zs =
    let from : ℕ = 2 + nat_abs (at zs 0) * process_width in
    set (take from zs ++ (pos sum ∷ (locals ++ drop (from + 1 + length locals) zs))) 0 (pos (nat_abs (at zs 0) + 1))

-- 01, Open, and 02, note 6: one more process, after the others; its definition is the last of its numbers
unfoldable pub process_pushed : ℕ → List ℤ → ℕ → List ℤ → List ℤ
process_pushed sum locals definition zs = process_added sum locals (set zs (2 + nat_abs (at zs 0) * process_width + (1 + local_limit)) (pos definition))
