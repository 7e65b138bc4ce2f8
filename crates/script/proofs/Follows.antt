-- A script's calls do to the engine in the buffers of a run what they do to the rule machine: by induction on the rows, one call at a time.
use mathlib.Core.Path.{◌≡◌, refl, sym, ap, ap₂, subst, ◌∙◌}
use mathlib.Core.List.{List, [], ◌∷◌, ◌++◌, append_assoc}
use mathlib.Core.Option.{Option, none, some, Option-elim}
use Prim.Native.Nat.{ℕ, suc, ◌+◌, ◌-◌, ◌*◌}
use native.Mathlib.Omega.{arith}
use lib.ListN.{length, take, drop, length-take, length-drop}
use lib.Seq.{length-take-le, drop-drop}
use Rattle.machine.specs.Machine.{Machine, closed, Part, size, Call, calls, answers, after}
use Rattle.buffers.specs.Parts.{fresh}
use Rattle.buffers.specs.Calls.{Holds, zeros}
use Rattle.buffers.proofs.Every.{engine-long}
use Rattle.script.specs.declared.Row.{Row}
use Rattle.script.specs.Rows.{answer_width, output_width, Room, room_after, call_of, calls_of, rows_of, calls_in}
use Rattle.script.specs.Run.{Lent, room_of, effect_of, answer_numbers, call_left, next_lent, joined, run_left, Ran}
use Rattle.script.specs.Follows.{engine_in, answers_numbers, part_shown, outputs_shown, Follows, Refines}
use Rattle.script.proofs.Front.{front-take, front-drop}
use Rattle.script.proofs.Called.{Fits, call_fits, Done, done}
use Rattle.script.proofs.Calling.{eleven-entries}

-- a list whose first n numbers are all there, and whose others are as many as another's
same_length : {A : Type 0} (n : ℕ) (l k : List A) → length (take n l) ≡ n → length (take n k) ≡ n → drop n l ≡ drop n k → length l ≡ length k
same_length n l k e f g = omega (arith, length-take n l, length-take n k, length-drop n l, length-drop n k, ap length g)

module _ (y : Machine) (c : Call) (x : Lent) (f : Fits c (room_of x)) (h : Holds (engine_in x) y) where
  d : Done y c x
  d = done y c x f h

  abbrev z : Lent
  z = call_left c x

  -- the row's own answer and listing, and what stands after them
  answer-long : length (answer_numbers (effect_of c x.engine x.outputs).answer) ≡ length (take answer_width x.answers)
  unfolding answer_numbers room_of
  answer-long = ap (λ (n : ℕ). suc (suc (suc (suc (suc (suc (suc n))))))) (eleven-entries (effect_of c x.engine x.outputs).answer.run (effect_of c x.engine x.outputs).answer.used) ∙ sym (length-take-le answer_width x.answers f.answer)

  answer-is : take answer_width z.answers ≡ answer_numbers (calls y c).answer
  unfolding call_left
  answer-is = front-take answer_width (answer_numbers (effect_of c x.engine x.outputs).answer) x.answers answer-long ∙ ap answer_numbers d.answer

  answers-after : drop answer_width z.answers ≡ drop answer_width x.answers
  unfolding call_left
  answers-after = front-drop answer_width (answer_numbers (effect_of c x.engine x.outputs).answer) x.answers answer-long

  listing-is : take output_width z.outputs ≡ part_shown c (calls y c).answer (take output_width x.outputs)
  listing-is = ap (take output_width) d.listed ∙ front-take output_width _ x.outputs d.long

  listings-after : drop output_width z.outputs ≡ drop output_width x.outputs
  listings-after = ap (drop output_width) d.listed ∙ front-drop output_width (part_shown c (calls y c).answer (take output_width x.outputs)) x.outputs d.long

  -- the room for the next row
  make-room : (Part → ℕ) → ℕ → ℕ → Room
  make-room ps l a = record { parts = ps; outputs = l; answers = a }

  next-room : room_of (next_lent z) ≡ room_after (room_of x)
  unfolding room_of next_lent room_after engine_in make-room
  next-room =
      let m : (p : Part) → length (z.engine p) ≡ length (x.engine p) = λ p. same_length (size p) (z.engine p) (x.engine p) (engine-long d.holds p) (engine-long h p) (d.beyond p) in
      let l : length (drop output_width z.outputs) ≡ length x.outputs - output_width = ap length listings-after ∙ length-drop output_width x.outputs in
      let a : length (drop answer_width z.answers) ≡ length x.answers - answer_width = ap length answers-after ∙ length-drop answer_width x.answers in
      λ i. make-room (λ (p : Part). m p i) (l i) (a i)

  next-holds : Holds (engine_in (next_lent z)) (calls y c).machine
  unfolding engine_in next_lent
  next-holds = d.holds

  -- this call, then the others
  more : (cs : List Call) (w : Lent) → Follows (calls y c).machine cs (next_lent z) w → Follows y (c ∷ cs) x (joined z w)
  unfolding joined next_lent answers after answers_numbers outputs_shown engine_in
  more cs w g =
      let n = answer_numbers (calls y c).answer in
      let k : answer_width + length cs * answer_width ≡ suc (length cs) * answer_width = omega arith in
      record {
        answered =
            ap₂ (λ (a b : List ℕ). a ++ b) answer-is (g.answered ∙ ap (λ (l : List ℕ). answers_numbers (answers (calls y c).machine cs) ++ drop (length cs * answer_width) l) answers-after)
            ∙ sym (append_assoc n (answers_numbers (answers (calls y c).machine cs)) _)
            ∙ ap (λ (l : List ℕ). (n ++ answers_numbers (answers (calls y c).machine cs)) ++ l) (drop-drop (length cs * answer_width) answer_width x.answers ∙ ap (λ (i : ℕ). drop i x.answers) k);
        shows = ap₂ (λ (a b : List ℕ). a ++ b) listing-is (g.shows ∙ ap (outputs_shown (calls y c).machine cs) listings-after);
        holds = g.holds;
        beyond = λ p. g.beyond p ∙ d.beyond p;
      }

none-follows : (y : Machine) (x : Lent) → Holds (engine_in x) y → Follows y [] x x
unfolding answers after answers_numbers outputs_shown
none-follows y x h = record { answered = refl; shows = refl; holds = h; beyond = λ p. refl }

module _ (texts numbers words : List ℕ) where
  -- the rows after the first follow, whatever it leaves
  abbrev Rest : List Row → Type 0
  Rest rs = (x : Lent) (y : Machine) → Holds (engine_in x) y → Follows y (calls_of texts numbers words (room_of x) rs) x (run_left (calls_of texts numbers words (room_of x) rs) x)

  first-follows : (r : Row) (rs : List Row) → Rest rs → Rest (r ∷ rs)
  unfolding calls_of run_left Option-elim
  first-follows r rs g x y h = by (call_of texts numbers words (room_of x) r) refl
    where
      cs : List Call
      cs = calls_of texts numbers words (room_after (room_of x)) rs

      by : (o : Option Call) → call_of texts numbers words (room_of x) r ≡ o → Follows y (Option-elim o [] (λ c. c ∷ cs)) x (run_left (Option-elim o [] (λ c. c ∷ cs)) x)
      by none e = none-follows y x h
      by (some c) e =
          let f = call_fits texts numbers words (room_of x) r c e in
          more y c x f h cs (run_left cs (next_lent (call_left c x)))
          (subst (λ (n : Room). Follows (calls y c).machine (calls_of texts numbers words n rs) (next_lent (call_left c x)) (run_left (calls_of texts numbers words n rs) (next_lent (call_left c x))))
          (next-room y c x f h) (g (next_lent (call_left c x)) (calls y c).machine (next-holds y c x f h)))

  rows-follow : (rs : List Row) → Rest rs
  unfolding calls_of run_left
  rows-follow [] x y h = none-follows y x h
  rows-follow (r ∷ rs) x y h = first-follows r rs (rows-follow rs) x y h

-- 01, State and rule machine: every script, whatever machine the engine holds
script-follows : (script texts numbers words : List ℕ) (x : Lent) → Refines script texts numbers words x (run_left (calls_in script texts numbers words (room_of x)) x)
unfolding calls_in
script-follows script texts numbers words x y h = rows-follow texts numbers words (rows_of script) x y h

pub ran-refines : (script texts numbers words : List ℕ) (x : Lent) (r : ℕ) (x' : Lent) → Ran script texts numbers words x r x' → Refines script texts numbers words x x'
ran-refines script texts numbers words x r x' h = subst (Refines script texts numbers words x) (sym h.buffers) (script-follows script texts numbers words x)

-- 01, Fresh: on the fresh engine, what the closed machine answers
pub fresh-follows : (script texts numbers words : List ℕ) (x x' : Lent) → Refines script texts numbers words x x' → ((p : Part) → engine_in x p ≡ fresh p) → Follows closed (calls_in script texts numbers words (room_of x)) x x'
fresh-follows script texts numbers words x x' r e = r closed (zeros e)
