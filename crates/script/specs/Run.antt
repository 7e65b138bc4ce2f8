-- What a list of calls leaves in the buffers of a run, whatever these hold (01, State: the engine is its buffers). Definitions only.
use Rattle.std.specs.Prelude.{◌≡◌, Bool, true, false, List, [], ◌∷◌, ◌++◌, ℕ, ◌*◌, ℤ, length, get_or, take, drop}
use Rattle.std.specs.Borrow.{MutBor}
use Rattle.std.proofs.Math.Option.{Option, none, some}
use Rattle.machine.specs.Machine.{Answer, Part, model, state, saves, clock, search, Call}
use Rattle.buffers.specs.Parts.{Engine}
use Rattle.buffers.specs.Effect.{Effect, effect}
use Rattle.searching.specs.declared.Found.{Found}
use Rattle.searching.specs.Run.{entries_of}
use Rattle.resuming.specs.declared.Progress.{Progress}
use Rattle.engine.specs.declared.Answer as engine
use Rattle.engine.specs.declared.Ran.{Ran as Told}
use Rattle.script.specs.declared.Lent as declared
use Rattle.script.specs.Rows.{row_width, answer_width, output_width, Room, first_call, calls_in}

-- the buffers that a run is lent
pub record Lent : Type 0 where
  pub engine : Engine
  pub outputs : List ℕ
  pub answers : List ℕ

abbrev pub lent_of : Engine → List ℕ → List ℕ → Lent
lent_of x ls ns = record { engine = x; outputs = ls; answers = ns }

-- 01, Rule machine: their lengths
unfoldable pub room_of : Lent → Room
room_of x = record { parts = λ (p : Part). length (x.engine p); outputs = length x.outputs; answers = length x.answers }

-- the engine of a run, part by part
unfoldable pub lent_five : List ℕ → List ℤ → List ℤ → List ℕ → List ℤ → Engine
lent_five bs zs ss cs xs model = bs
lent_five bs zs ss cs xs state = zs
lent_five bs zs ss cs xs saves = ss
lent_five bs zs ss cs xs clock = cs
lent_five bs zs ss cs xs search = xs

-- what the code's struct of them holds
abbrev pub held : declared.Lent → Lent
held l = lent_of (lent_five l.model.now l.state.now l.saves.now l.clock.now l.search.now) l.outputs.now l.answers.now

-- a lent buffer is the one that it was, of as many numbers
abbrev pub Same : {A : Type 0} → MutBor (List A) → MutBor (List A) → Type 0
Same r q = (q.ghost_name ≡ r.ghost_name) × (length q.now ≡ length r.now)

-- and so each of the struct's
abbrev pub Kept : declared.Lent → declared.Lent → Type 0
Kept l k = Same l.model k.model × (Same l.state k.state × (Same l.saves k.saves × (Same l.search k.search × (Same l.clock k.clock × (Same l.outputs k.outputs × Same l.answers k.answers)))))

-- 01, Opening a text, Listing and stepping: what a call answers and leaves, which is lent the first numbers of each part and of the outputs
unfoldable pub effect_of : Call → Engine → List ℕ → Effect
effect_of c x ls = effect c.ask (λ (p : Part). take (c.lengths p) (x p)) (take c.output ls)

-- R.5: the steps, words and waiting draws that a run used; 02, note 10: whether a search that is carried on has ended; any other call says 0
unfoldable pub used_of : List ℕ → List ℕ
used_of us = get_or us 0 0 ∷ get_or us 1 0 ∷ get_or us 2 0 ∷ []

-- 01, Rule machine: the numbers that an answer carries; 02, note 8: with the length of its run and eight entry numbers; R.5: and what a run of timed steps used, 02, note 10: or whether a search that is carried on has ended
unfoldable pub answer_numbers : Answer → List ℕ
answer_numbers a = a.number ∷ a.place ∷ a.branch ∷ a.count ∷ a.total ∷ a.chosen ∷ length a.run ∷ (entries_of a.run ++ used_of a.used)

-- one call: the first numbers of each buffer are what it leaves there, the rest is as it was
unfoldable pub call_left : Call → Lent → Lent
call_left c x =
    let e = effect_of c x.engine x.outputs in
    record {
      engine = λ (p : Part). e.left p ++ drop (c.lengths p) (x.engine p);
      outputs = e.output ++ drop c.output x.outputs;
      answers = answer_numbers e.answer ++ drop answer_width x.answers;
    }

-- what is lent from these places of the outputs and answers on, and the same put back there
abbrev pub lent_at : (output answer : ℕ) → Lent → Lent
lent_at o a x = record { engine = x.engine; outputs = drop o x.outputs; answers = drop a x.answers }

abbrev pub put_at : (output answer : ℕ) → Lent → Lent → Lent
put_at o a x y = record { engine = y.engine; outputs = take o x.outputs ++ y.outputs; answers = take a x.answers ++ y.answers }

-- what the next row is lent: the same engine, the outputs and answers after this row's
unfoldable pub next_lent : Lent → Lent
next_lent x = lent_at output_width answer_width x

-- a row's own output and answer, then those of the later rows
unfoldable pub joined : Lent → Lent → Lent
joined x y = put_at output_width answer_width x y

-- 01, Rule machine: calls in order, each on the engine that the one before leaves
unfoldable pub run_left : List Call → Lent → Lent
run_left [] x = x
run_left (c ∷ cs) x = let y = call_left c x in joined y (run_left cs (next_lent y))

-- ---- what the code gives

-- six numbers of every answer, then the length of a run and its eight entry numbers, then what a run of timed steps used
unfoldable pub all_numbers : engine.Answer → ℕ → List ℕ → List ℕ → List ℕ
all_numbers r n run used =
    r.number ∷ r.place ∷ r.branch ∷ r.count ∷ r.total ∷ r.chosen ∷ n ∷ get_or run 0 0 ∷ get_or run 1 0 ∷ get_or run 2 0 ∷ get_or run 3 0
    ∷ get_or run 4 0 ∷ get_or run 5 0 ∷ get_or run 6 0 ∷ get_or run 7 0 ∷ get_or used 0 0 ∷ get_or used 1 0 ∷ get_or used 2 0 ∷ []

-- the numbers of a call's result, which has no run and used nothing
unfoldable pub result_numbers : engine.Answer → List ℕ
result_numbers r = r.number ∷ r.place ∷ r.branch ∷ r.count ∷ r.total ∷ r.chosen ∷ 0 ∷ 0 ∷ 0 ∷ 0 ∷ 0 ∷ 0 ∷ 0 ∷ 0 ∷ 0 ∷ 0 ∷ 0 ∷ 0 ∷ []

-- 02, note 8: those of a search's, which has no more than a run
unfoldable pub found_numbers : Found → List ℕ
found_numbers f =
    f.number ∷ 0 ∷ 0 ∷ 0 ∷ 0 ∷ 0 ∷ f.length ∷ get_or f.run 0 0 ∷ get_or f.run 1 0 ∷ get_or f.run 2 0 ∷ get_or f.run 3 0
    ∷ get_or f.run 4 0 ∷ get_or f.run 5 0 ∷ get_or f.run 6 0 ∷ get_or f.run 7 0 ∷ 0 ∷ 0 ∷ 0 ∷ []

-- R.5, R.7: those of a run of timed steps
unfoldable pub ran_numbers : Told → List ℕ
ran_numbers r = r.number ∷ 0 ∷ 0 ∷ r.count ∷ r.total ∷ 0 ∷ 0 ∷ 0 ∷ 0 ∷ 0 ∷ 0 ∷ 0 ∷ 0 ∷ 0 ∷ 0 ∷ r.steps ∷ r.words ∷ r.waiting ∷ []

-- 02, note 10: those of carrying a search on: its count among the six, and after the run whether it has ended
unfoldable pub progress_numbers : Progress → List ℕ
progress_numbers p =
    p.number ∷ 0 ∷ 0 ∷ p.count ∷ 0 ∷ 0 ∷ p.length ∷ get_or p.run 0 0 ∷ get_or p.run 1 0 ∷ get_or p.run 2 0 ∷ get_or p.run 3 0
    ∷ get_or p.run 4 0 ∷ get_or p.run 5 0 ∷ get_or p.run 6 0 ∷ get_or p.run 7 0 ∷ p.ended ∷ 0 ∷ 0 ∷ []

-- one call: the numbers ns of its result, and the buffers of which it was lent the first numbers
pub record Called (c : Call) (x : Engine) (ls ns : List ℕ) (x' : Engine) (ls' : List ℕ) : Type 0 where
  pub numbers : ns ≡ answer_numbers (effect_of c x ls).answer
  pub engine : (p : Part) → x' p ≡ (effect_of c x ls).left p ++ drop (c.lengths p) (x p)
  pub outputs : ls' ≡ (effect_of c x ls).output ++ drop c.output ls

-- what a call makes of all that it is lent: its numbers, the parts and the output
pub record Makes (e : Effect) (ns : List ℕ) (x' : Engine) (ls' : List ℕ) : Type 0 where
  pub numbers : ns ≡ answer_numbers e.answer
  pub engine : (p : Part) → x' p ≡ e.left p
  pub output : ls' ≡ e.output

-- a row that is a call was run, any other was not and changed nothing
unfoldable pub RowRan : Option Call → Lent → Bool → Lent → Type 0
RowRan none x r y = (r ≡ false) × (y ≡ x)
RowRan (some c) x r y = (r ≡ true) × (y ≡ call_left c x)

-- what row i is lent: the engine, the outputs and answers from its own on
unfoldable pub lent_from : ℕ → Lent → Lent
lent_from i x = lent_at (i * output_width) (i * answer_width) x

-- row i of a script was run as that; the outputs and answers of the rows before it are as they were
pub record RowRanAt (i : ℕ) (script texts numbers words : List ℕ) (x : Lent) (r : Bool) (y : Lent) : Type 0 where
  pub ran : RowRan (first_call (drop (i * row_width) script) texts numbers words (room_of (lent_from i x))) (lent_from i x) r (lent_from i y)
  pub outputs-before : take (i * output_width) y.outputs ≡ take (i * output_width) x.outputs
  pub answers-before : take (i * answer_width) y.answers ≡ take (i * answer_width) x.answers

-- every call of a script was made, and the buffers are as the calls leave them
pub record Ran (script texts numbers words : List ℕ) (x : Lent) (r : ℕ) (y : Lent) : Type 0 where
  pub count : r ≡ length (calls_in script texts numbers words (room_of x))
  pub buffers : y ≡ run_left (calls_in script texts numbers words (room_of x)) x
