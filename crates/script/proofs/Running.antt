-- What running the first row of a script gives: by whether there is one, room for its answer, and whether it fits.
use mathlib.Core.Path.{◌≡◌, refl, ap, ◌∙◌}
use mathlib.Core.Bool.{Bool, true, false, cond}
use mathlib.Core.List.{List, [], ◌∷◌, ◌++◌, append-nil}
use mathlib.Core.Option.{none, some}
use Prim.Native.Nat.{ℕ, ◌-◌, ◌≤◌, ◌<◌}
use native.Mathlib.Omega.{arith}
use borrow.Author.Tests.{le-leb, lt-leb}
use lib.IntN.{ℤ}
use lib.ListN.{length, take, drop, length-drop}
use lib.Seq.{take-take}
use Rattle.machine.specs.Machine.{Part, model, state, saves, clock, search, Call}
use Rattle.clock.specs.declared.Clock.{Clock}
use Rattle.buffers.specs.Parts.{Engine, clock_numbers, clock_in, lent_whole}
use Rattle.buffers.specs.Effect.{Effect, effect}
use Rattle.buffers.proofs.Lent.{same-engine}
use Rattle.script.specs.declared.Row.{Row}
use Rattle.script.specs.Rows.{row_width, answer_width, row_of, row_lengths, fits, row_call, call_of, first_call}
use Rattle.script.specs.Run.{Lent, lent_five, lent_of, room_of, effect_of, answer_numbers, call_left, Called, RowRan}

module _ (script texts numbers words : List ℕ) (x : Lent) where
  abbrev Runs : Bool → Lent → Type 0
  Runs r y = RowRan (first_call script texts numbers words (room_of x)) x r y

  -- there is no row
  pub no_row : length script < row_width → Runs false x
  unfolding first_call RowRan
  no_row h = rw (lt-leb row_width (length script) h) (refl, refl)

  module _ (h : row_width ≤ length script) where
    -- no room for the answer
    pub no_answer : length x.answers < answer_width → Runs false x
    unfolding first_call call_of RowRan room_of
    no_answer g = rw (le-leb row_width (length script) h, lt-leb answer_width (length x.answers) g) (refl, refl)

    module _ (g : answer_width ≤ length x.answers) (row : Row) (e : row ≡ row_of script) where
      abbrev Fitting : Bool → Type 0
      Fitting t = fits row (length texts) (length numbers) (length words) (λ (p : Part). length (x.engine p)) (length x.outputs) ≡ t

      tested : (t : Bool) → Fitting t → first_call script texts numbers words (room_of x) ≡ cond t (some (row_call texts numbers words row)) none
      unfolding first_call call_of room_of
      tested t f = rw (le-leb row_width (length script) h, le-leb answer_width (length x.answers) g, ← e, f)

      -- no call
      pub no_call : Fitting false → Runs false x
      unfolding RowRan
      no_call f = rw (tested false f) (refl, refl)

      -- a call
      pub made : Fitting true → (y : Lent) → y ≡ call_left (row_call texts numbers words row) x → Runs true y
      unfolding RowRan
      made f y q = rw (tested true f) (refl, q)

-- the outputs from a place on are those that are left of them
pub fits-from : (x : Lent) (q : ℕ) (row : Row) (t n w : ℕ) (b : Bool) → fits row t n w (room_of x).parts (length x.outputs - q) ≡ b → fits row t n w (λ (p : Part). length (x.engine p)) (length (drop q x.outputs)) ≡ b
unfolding room_of
fits-from x q row t n w b e = ap (fits row t n w (λ (p : Part). length (x.engine p))) (length-drop q x.outputs) ∙ e

-- the clock of two numbers, and its numbers
clock-numbers : (cs : List ℕ) → 2 ≤ length cs → clock_numbers (clock_in cs) ≡ take 2 cs
clock-numbers [] h = absurd (omega arith)
clock-numbers (a ∷ []) h = absurd (omega arith)
clock-numbers (a ∷ b ∷ cs) h = refl

-- two numbers are those of their clock
pub clock-whole : (cs : List ℕ) → 2 ≤ length cs → cs ≡ clock_numbers (clock_in cs) ++ drop 2 cs
clock-whole [] h = absurd (omega arith)
clock-whole (a ∷ []) h = absurd (omega arith)
clock-whole (a ∷ b ∷ cs) h = refl

-- a call that is given the clock, on the numbers of a clock
module _ (texts numbers words : List ℕ) (row : Row) (bs : List ℕ) (zs ss : List ℤ) (cs : List ℕ) (xs : List ℤ) (ls ns : List ℕ) (bs' : List ℕ) (zs' ss' : List ℤ) (c' : Clock) (cs' : List ℕ) (xs' : List ℤ) (ls' : List ℕ) where
  abbrev C : Call
  C = row_call texts numbers words row

  abbrev given : Effect
  given = effect_of C (lent_whole bs zs ss (clock_in cs) xs) ls

  abbrev lent : Effect
  lent = effect_of C (lent_five bs zs ss cs xs) ls

  module _ (h : 2 ≤ length cs) where
    lent_same : (p : Part) → take (C.lengths p) (lent_whole bs zs ss (clock_in cs) xs p) ≡ take (C.lengths p) (lent_five bs zs ss cs xs p)
    lent_same model = unfold lent_whole lent_five in refl
    lent_same state = unfold lent_whole lent_five in refl
    lent_same saves = unfold lent_whole lent_five in refl
    lent_same search = unfold lent_whole lent_five in refl
    lent_same clock = unfold lent_whole lent_five row_call row_lengths in ap (take 2) (clock-numbers cs h) ∙ take-take 2 2 cs (omega arith)

    same : given ≡ lent
    unfolding effect_of
    same = ap (λ (x : Engine). effect C.ask x (take C.output ls)) (same-engine lent_same)

    left-same : (p : Part) → given.left p ≡ lent.left p
    left-same p = ap (λ (w : Effect). w.left p) same

    -- the clock's own numbers, all that a call leaves there
    clock-left : Called C (lent_whole bs zs ss (clock_in cs) xs) ls ns (lent_whole bs' zs' ss' c' xs') ls' → clock_numbers c' ≡ given.left clock
    unfolding lent_whole row_call row_lengths
    clock-left k = k.engine clock ∙ append-nil _

    pub clock-called : Called C (lent_whole bs zs ss (clock_in cs) xs) ls ns (lent_whole bs' zs' ss' c' xs') ls' → cs' ≡ clock_numbers c' ++ drop 2 cs
        → Called C (lent_five bs zs ss cs xs) ls ns (lent_five bs' zs' ss' cs' xs') ls'
    clock-called k e = record {
      numbers = k.numbers ∙ ap (λ (w : Effect). answer_numbers w.answer) same;
      engine = at;
      outputs = k.outputs ∙ ap (λ (w : Effect). w.output ++ drop C.output ls) same;
    }
      where
        at : (p : Part) → lent_five bs' zs' ss' cs' xs' p ≡ lent.left p ++ drop (C.lengths p) (lent_five bs zs ss cs xs p)
        at model = unfold lent_whole lent_five in k.engine model ∙ ap (λ (l : List ℕ). l ++ drop (C.lengths model) bs) (left-same model)
        at state = unfold lent_whole lent_five in k.engine state ∙ ap (λ (l : List ℤ). l ++ drop (C.lengths state) zs) (left-same state)
        at saves = unfold lent_whole lent_five in k.engine saves ∙ ap (λ (l : List ℤ). l ++ drop (C.lengths saves) ss) (left-same saves)
        at search = unfold lent_whole lent_five in k.engine search ∙ ap (λ (l : List ℤ). l ++ drop (C.lengths search) xs) (left-same search)
        at clock = unfold lent_five row_call row_lengths in e ∙ ap (λ (l : List ℕ). l ++ drop 2 cs) (clock-left k ∙ left-same clock)

-- the call and the answer together
pub call-left : (c : Call) (x : Engine) (ls ns qs : List ℕ) (x' : Engine) (ls' ns' : List ℕ)
    → Called c x ls qs x' ls' → ns' ≡ qs ++ drop answer_width ns → lent_of x' ls' ns' ≡ call_left c (lent_of x ls ns)
unfolding call_left
call-left c x ls ns qs x' ls' ns' k e =
    let a = e ∙ ap (λ (l : List ℕ). l ++ drop answer_width ns) k.numbers in
    λ i. lent_of (λ (p : Part). k.engine p i) (k.outputs i) (a i)
