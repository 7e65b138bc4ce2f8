-- The rows of a script one by one: what the first gives, then what the others give, is what all give.
use mathlib.Core.Path.{◌≡◌, refl, sym, ap, ap₂, subst, ◌∙◌}
use mathlib.Core.Bool.{Bool, true, false, cond}
use mathlib.Core.List.{List, [], ◌∷◌, ◌++◌, append_assoc}
use mathlib.Core.Option.{Option, none, some, Option-elim}
use Prim.Native.Nat.{ℕ, suc, ◌+◌, ◌-◌, ◌*◌, ◌/◌, ◌≤◌, ◌<◌}
use native.Mathlib.Nat.{zero-add}
use native.Mathlib.Omega.{arith}
use borrow.Author.Tests.{leb-true, leb-false, lt-leb}
use lib.Dec.{leb}
use lib.ListN.{length, take, drop, length-drop, take-append-drop}
use lib.Seq.{drop-drop, take-add}
use Rattle.machine.specs.Machine.{Part, model, state, saves, clock, search, Call}
use Rattle.script.specs.declared.Lent as declared
use Rattle.script.specs.Rows.{row_width, answer_width, output_width, row_of, rows, rows_of, Room, room_after, call_of, first_call, calls_of, calls_in}
use Rattle.script.specs.Run.{Lent, lent_five, lent_of, held, Kept, room_of, call_left, next_lent, joined, run_left, RowRan, put_at, lent_from, RowRanAt, Ran}

-- ---- the first row of a script, and the others

module _ (script texts numbers words : List ℕ) (x : Room) where
  abbrev After : Option Call → List Call
  After o = Option-elim o [] (λ c. c ∷ calls_in (drop row_width script) texts numbers words (room_after x))

  calls-first : calls_in script texts numbers words x ≡ After (first_call script texts numbers words x)
  unfolding calls_in rows_of rows calls_of first_call Option-elim
  calls-first = by (leb row_width (length script)) refl
    where
      by : (t : Bool) → leb row_width (length script) ≡ t → calls_of texts numbers words x (rows (length script / row_width) script) ≡ After (cond t (call_of texts numbers words x (row_of script)) none)
      by true e =
          let h : row_width ≤ length script = leb-true row_width (length script) e in
          let n : length script / row_width ≡ suc (length (drop row_width script) / row_width) = omega (arith, length-drop row_width script) in
          ap (λ (k : ℕ). calls_of texts numbers words x (rows k script)) n
      by false e =
          let h : length script < row_width = leb-false row_width (length script) e in
          let n : length script / row_width ≡ 0 = omega arith in
          ap (λ (k : ℕ). calls_of texts numbers words x (rows k script)) n

  -- there is one only where the script has its numbers
  first-long : (c : Call) → first_call script texts numbers words x ≡ some c → row_width ≤ length script
  unfolding first_call
  first-long c e = by (leb row_width (length script)) refl e
    where
      by : (t : Bool) → leb row_width (length script) ≡ t → cond t (call_of texts numbers words x (row_of script)) none ≡ some c → row_width ≤ length script
      by true f e = leb-true row_width (length script) f
      by false f e = absurd (let z : ◌≡◌ {A = ℕ} 0 1 = cc in omega arith)

-- ---- the loop

-- the lengths of buffers stay
pub record Long (x y : Lent) : Type 0 where
  pub parts : (p : Part) → length (y.engine p) ≡ length (x.engine p)
  pub outputs : length y.outputs ≡ length x.outputs
  pub answers : length y.answers ≡ length x.answers

-- where the lent buffers are kept
pub kept-long : (l k : declared.Lent) → Kept l k → Long (held l) (held k)
kept-long l k s = record { parts = at; outputs = s.1.1.1.1.1.0.1; answers = s.1.1.1.1.1.1.1 }
  where
    at : (p : Part) → length ((held k).engine p) ≡ length ((held l).engine p)
    at model = unfold lent_five in s.0.1
    at state = unfold lent_five in s.1.0.1
    at saves = unfold lent_five in s.1.1.0.1
    at search = unfold lent_five in s.1.1.1.0.1
    at clock = unfold lent_five in s.1.1.1.1.0.1

-- what rows before i have written, then what the others are lent and leave
abbrev onto : ℕ → Lent → Lent → Lent
onto i x y = put_at (i * output_width) (i * answer_width) x y

-- the part of row i joins those before it
row-joined : (i w n : ℕ) (l k v : List ℕ) → n ≡ i * w + w → take (i * w) k ≡ take (i * w) l → take n k ++ v ≡ take (i * w) l ++ (take w (drop (i * w) k) ++ v)
row-joined i w n l k v e h =
    ap (λ (j : ℕ). take j k ++ v) e ∙ ap (λ (r : List ℕ). r ++ v) (take-add (i * w) w k) ∙ append_assoc (take (i * w) k) (take w (drop (i * w) k)) v
    ∙ ap (λ (r : List ℕ). r ++ (take w (drop (i * w) k) ++ v)) h

parted : (i : ℕ) (x y v : Lent) → take (i * output_width) y.outputs ≡ take (i * output_width) x.outputs → take (i * answer_width) y.answers ≡ take (i * answer_width) x.answers
    → onto (i + 1) y v ≡ onto i x (joined (lent_from i y) v)
unfolding joined lent_from
parted i x y v e f =
    ap₂ (λ (l n : List ℕ). lent_of v.engine l n) (row-joined i output_width ((i + 1) * output_width) x.outputs y.outputs v.outputs (omega arith) e)
    (row-joined i answer_width ((i + 1) * answer_width) x.answers y.answers v.answers (omega arith) f)

whole : (i : ℕ) (x y : Lent) → take (i * output_width) y.outputs ≡ take (i * output_width) x.outputs → take (i * answer_width) y.answers ≡ take (i * answer_width) x.answers
    → lent_from i y ≡ lent_from i x → y ≡ onto i x (lent_from i x)
unfolding lent_from
whole i x y e f g =
    ap₂ (λ (l n : List ℕ). lent_of y.engine l n)
    (sym (take-append-drop (i * output_width) y.outputs) ∙ ap (λ (l : List ℕ). l ++ drop (i * output_width) y.outputs) e)
    (sym (take-append-drop (i * answer_width) y.answers) ∙ ap (λ (l : List ℕ). l ++ drop (i * answer_width) y.answers) f)
    ∙ ap (onto i x) g

first-left : (c : Call) (cs : List Call) (x : Lent) → run_left (c ∷ cs) x ≡ joined (call_left c x) (run_left cs (next_lent (call_left c x)))
unfolding run_left
first-left c cs x = refl

module _ (script texts numbers words : List ℕ) where
  -- the calls from row i on
  abbrev calls_from : ℕ → Lent → List Call
  calls_from i x = calls_in (drop (i * row_width) script) texts numbers words (room_of (lent_from i x))

  -- rows before i are run, the engine and the buffers x are left, and the other rows lead where all lead from x₀
  pub record Turn (x₀ x : Lent) (i : ℕ) : Type 0 where
    pub within : i * row_width ≤ length script
    pub count : i + length (calls_from i x) ≡ length (calls_in script texts numbers words (room_of x₀))
    pub buffers : onto i x (run_left (calls_from i x) (lent_from i x)) ≡ run_left (calls_in script texts numbers words (room_of x₀)) x₀

  pub begins : (x : Lent) → Turn x x 0
  unfolding lent_from
  begins x = record { within = omega arith; count = zero-add _; buffers = refl }

  module _ (x₀ x y : Lent) (i : ℕ) (w : Turn x₀ x i) (g : Long x y) where
    -- what row i + 1 is lent, and the room there is for it
    next-lent : lent_from (i + 1) y ≡ next_lent (lent_from i y)
    unfolding lent_from next_lent
    next-lent =
        let a : i * output_width + output_width ≡ (i + 1) * output_width = omega arith in
        let b : i * answer_width + answer_width ≡ (i + 1) * answer_width = omega arith in
        ap₂ (λ (l n : List ℕ). lent_of y.engine l n)
        (sym (drop-drop output_width (i * output_width) y.outputs ∙ ap (λ (k : ℕ). drop k y.outputs) a))
        (sym (drop-drop answer_width (i * answer_width) y.answers ∙ ap (λ (k : ℕ). drop k y.answers) b))

    room : (Part → ℕ) → ℕ → ℕ → Room
    room ps l a = record { parts = ps; outputs = l; answers = a }

    next-room : room_of (lent_from (i + 1) y) ≡ room_after (room_of (lent_from i x))
    unfolding room_of lent_from room_after room
    next-room =
        let l : length (drop ((i + 1) * output_width) y.outputs) ≡ length (drop (i * output_width) x.outputs) - output_width =
        omega (arith, length-drop ((i + 1) * output_width) y.outputs, length-drop (i * output_width) x.outputs, g.outputs) in
        let a : length (drop ((i + 1) * answer_width) y.answers) ≡ length (drop (i * answer_width) x.answers) - answer_width =
        omega (arith, length-drop ((i + 1) * answer_width) y.answers, length-drop (i * answer_width) x.answers, g.answers) in
        λ j. room (λ (p : Part). g.parts p j) (l j) (a j)

    next-script : drop row_width (drop (i * row_width) script) ≡ drop ((i + 1) * row_width) script
    next-script = let a : i * row_width + row_width ≡ (i + 1) * row_width = omega arith in drop-drop row_width (i * row_width) script ∙ ap (λ (k : ℕ). drop k script) a

    -- a row that was run
    module _ (c : Call) (f : first_call (drop (i * row_width) script) texts numbers words (room_of (lent_from i x)) ≡ some c) where
      calls-next : calls_from i x ≡ c ∷ calls_from (i + 1) y
      unfolding Option-elim
      calls-next =
          calls-first (drop (i * row_width) script) texts numbers words (room_of (lent_from i x)) ∙ ap (After (drop (i * row_width) script) texts numbers words (room_of (lent_from i x))) f
          ∙ ap₂ (λ (s : List ℕ) (r : Room). c ∷ calls_in s texts numbers words r) next-script (sym next-room)

      more : lent_from i y ≡ call_left c (lent_from i x) → take (i * output_width) y.outputs ≡ take (i * output_width) x.outputs
          → take (i * answer_width) y.answers ≡ take (i * answer_width) x.answers → Turn x₀ y (i + 1)
      more e p q =
          let d = calls_from (i + 1) y in
          let v = run_left d (lent_from (i + 1) y) in
          record {
            within = omega (arith, first-long (drop (i * row_width) script) texts numbers words (room_of (lent_from i x)) c f, length-drop (i * row_width) script);
            count = omega (arith, ap length calls-next, w.count);
            buffers =
                parted i x y v p q ∙ ap (onto i x) (ap (joined (lent_from i y)) (ap (run_left d) next-lent) ∙ ap (λ (z : Lent). joined z (run_left d (next_lent z))) e ∙ sym (first-left c d (lent_from i x)) ∙ ap (λ (l : List Call). run_left l (lent_from i x)) (sym calls-next))
                ∙ w.buffers;
          }

    -- a row that was no call
    ends : first_call (drop (i * row_width) script) texts numbers words (room_of (lent_from i x)) ≡ none → lent_from i y ≡ lent_from i x
        → take (i * output_width) y.outputs ≡ take (i * output_width) x.outputs → take (i * answer_width) y.answers ≡ take (i * answer_width) x.answers → Ran script texts numbers words x₀ i y
    unfolding Option-elim run_left
    ends f e p b =
        let q : calls_from i x ≡ [] = calls-first (drop (i * row_width) script) texts numbers words (room_of (lent_from i x)) ∙ ap (After (drop (i * row_width) script) texts numbers words (room_of (lent_from i x))) f in
        record {
          count = omega (arith, ap length q, w.count);
          buffers = whole i x y p b e ∙ ap (λ (l : List Call). onto i x (run_left l (lent_from i x))) (sym q) ∙ w.buffers;
        }

    abbrev Row-ran : Option Call → Bool → Type 0
    Row-ran o r = RowRan o (lent_from i x) r (lent_from i y)

    pub turns : {r : Bool} → r ≡ true → RowRanAt i script texts numbers words x r y → Turn x₀ y (i + 1)
    unfolding RowRan
    turns {r} e h = by (first_call (drop (i * row_width) script) texts numbers words (room_of (lent_from i x))) refl h.ran
      where
        by : (o : Option Call) → first_call (drop (i * row_width) script) texts numbers words (room_of (lent_from i x)) ≡ o → Row-ran o r → Turn x₀ y (i + 1)
        by none f g = let z : ◌≡◌ {A = ℕ} 0 1 = cc g.0 in absurd (omega arith)
        by (some c) f g = more c f g.1 h.outputs-before h.answers-before

    pub stops : {r : Bool} → r ≡ false → RowRanAt i script texts numbers words x r y → Ran script texts numbers words x₀ i y
    unfolding RowRan
    stops {r} e h = by (first_call (drop (i * row_width) script) texts numbers words (room_of (lent_from i x))) refl h.ran
      where
        by : (o : Option Call) → first_call (drop (i * row_width) script) texts numbers words (room_of (lent_from i x)) ≡ o → Row-ran o r → Ran script texts numbers words x₀ i y
        by none f g = ends f g.1 h.outputs-before h.answers-before
        by (some c) f g = let z : ◌≡◌ {A = ℕ} 0 1 = cc g.0 in absurd (omega arith)

  -- no row is left
  pub done : (x₀ x : Lent) (i : ℕ) → Turn x₀ x i → i ≡ length script / row_width → Ran script texts numbers words x₀ (length script / row_width) x
  unfolding first_call
  done x₀ x i w e = subst (λ (n : ℕ). Ran script texts numbers words x₀ n x) e (ends x₀ x x i w (record { parts = λ p. refl; outputs = refl; answers = refl }) none_first refl refl refl)
    where
      short : length (drop (i * row_width) script) < row_width
      short = omega (arith, length-drop (i * row_width) script, e)

      none_first : first_call (drop (i * row_width) script) texts numbers words (room_of (lent_from i x)) ≡ none
      none_first = rw (lt-leb row_width (length (drop (i * row_width) script)) short) refl
