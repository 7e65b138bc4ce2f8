-- What each return of a beginning and of carrying on says: 11, 26 and 28, and what the search's buffer is left with, as the effect of the call has it.
use mathlib.Core.Path.{◌≡◌, refl, sym, ap, ap₂, ◌∙◌}
use mathlib.Core.Bool.{Bool, true, false, cond, ◌&&◌}
use mathlib.Core.List.{List, []}
use mathlib.Core.Option.{Option, none, some, Option-elim}
use Prim.Native.Nat.{ℕ, suc}
use native.Mathlib.Omega.{arith}
use lib.IntN.{ℤ}
use lib.ListN.{length}
use Rattle.std.specs.Prelude.{Result, Ok, Err}
use Rattle.model.specs.Resolved.{Model}
use Rattle.model.specs.Good.{GoodModel}
use Rattle.waitnames.specs.Names.{wait_number}
use Rattle.naming.specs.Marks.{code_of}
use Rattle.machine.specs.State.{State, state_numbers}
use Rattle.machine.specs.Machine.{Shown, as_lent, no, Turn, turn, is_depth, Search, search_from, search_length, begins, carries_by, Held, searched_in, Machine, closed, holding, on_search, Request, begin', carry', acts, Part, model, state, saves, clock, search, search_parts, uses, is_lent, all_parts, on_machine}
use Rattle.state.specs.Fits.{scopes_of}
use Rattle.state.specs.Test.{is_state}
use Rattle.state.specs.Decode.{decode}
use Rattle.underway.specs.Buffer.{wait_code, search_numbers, begun_numbers, is_search, search_in}
use Rattle.underway.proofs.Buffer.{passed}
use Rattle.underway.proofs.Written.{begun-search}
use Rattle.buffers.specs.Listing.{shown}
use Rattle.buffers.specs.Parts.{Engine, numbers_of, is_part, read_held, lent_search, with_search}
use Rattle.buffers.specs.Effect.{Effect, machine_over, left_in, leaves, requested}
use Rattle.buffers.specs.Answers.{walks_as}
use Rattle.buffers.proofs.Lent.{same-engine}
use Rattle.buffers.proofs.Pieces.{Walked, goes, stays, begins-walked, carries-walked}
use Rattle.buffers.proofs.Under.{held_under}
use Rattle.resuming.specs.declared.Progress.{Progress}
use Rattle.resuming.specs.Progress as resuming
use Rattle.resuming.specs.Progress.{Tells}
use Rattle.searching.specs.Run.{entries_of}
use Rattle.carrying.specs.declared.Refusal.{Refusal}
use Rattle.carrying.specs.declared.Refusal.TheVariants.{NotHeld, Depth}
use Rattle.carrying.specs.Turns.{number_of, Begins, GivesProgress}

-- the code of a name is that of its number
pub code-is : (m : Model) (x : List ℕ) → code_of m x ≡ wait_code (wait_number m x)
unfolding code_of
code-is m x = by (wait_number m x)
  where
    by : (o : Option ℕ) → Option-elim o 0 suc ≡ wait_code o
    by none = unfold wait_code Option-elim in refl
    by (some n) = unfold wait_code Option-elim in refl

-- ---- 11

-- 01, Listing, 11: changes nothing
module _ (x : Engine) where
  pub eleven-begins : (n : List ℕ) (d : ℕ) → Begins (leaves search_parts x [] (on_machine (begin' n d) closed)) (Err NotHeld) x
  unfolding leaves on_machine left_in shown no
  eleven-begins n d = record { answer = refl; buffers = λ p. refl; output = refl }

  pub eleven-carries : (n : ℕ) → GivesProgress (leaves search_parts x [] (on_machine (carry' n) closed)) (resuming.bare 11 0 0) x
  unfolding leaves on_machine left_in no entries_of
  eleven-carries n = record { number = refl; count = refl; ended = refl; long = refl; run = refl; buffers = λ p. refl }

  pub none-begins : (n : List ℕ) (d : ℕ) → Begins (requested (begin' n d) x [] none) (Err NotHeld) x
  unfolding requested machine_over
  none-begins n d = eleven-begins n d

  pub none-carries : (n : ℕ) → GivesProgress (requested (carry' n) x [] none) (resuming.bare 11 0 0) x
  unfolding requested machine_over
  none-carries n = eleven-carries n

module _ (bs : List ℕ) (zs xs : List ℤ) (m : Model) where
  abbrev X : Engine
  X = lent_search bs zs xs

  abbrev Judged : Bool
  Judged = is_state (scopes_of m) m.channels zs && is_search m xs

  over : machine_over search_parts X (some m) ≡ cond (is_state (scopes_of m) m.channels zs && (is_search m xs && true)) (holding (held_under m (decode (scopes_of m) zs) (search_in m xs))) closed
  unfolding machine_over all_parts is_part read_held is_lent lent_search
  over = refl

  shut : Judged ≡ false → machine_over search_parts X (some m) ≡ closed
  shut e = over ∙ by (is_state (scopes_of m) m.channels zs) (is_search m xs) e
    where
      by : (a b : Bool) → (a && b) ≡ false → cond (a && (b && true)) (holding (held_under m (decode (scopes_of m) zs) (search_in m xs))) closed ≡ closed
      by true true e = absurd (let z : ◌≡◌ {A = ℕ} 0 1 = cc in omega arith)
      by true false e = refl
      by false b e = refl

  pub shut_begins : (n : List ℕ) (d : ℕ) → Judged ≡ false → Begins (requested (begin' n d) X [] (some m)) (Err NotHeld) X
  unfolding requested
  shut_begins n d e = rw (shut e) (eleven-begins X n d)

  pub shut_carries : (n : ℕ) → Judged ≡ false → GivesProgress (requested (carry' n) X [] (some m)) (resuming.bare 11 0 0) X
  unfolding requested
  shut_carries n e = rw (shut e) (eleven-carries X n)

  -- ---- what is held
  module _ (e : Judged ≡ true) where
    pub state-passes : is_state (scopes_of m) m.channels zs ≡ true
    state-passes = by (is_state (scopes_of m) m.channels zs) (is_search m xs) e
      where
        by : (a b : Bool) → (a && b) ≡ true → a ≡ true
        by true b e = refl
        by false b e = absurd (let z : ◌≡◌ {A = ℕ} 0 1 = cc in omega arith)

    pub search-passes : is_search m xs ≡ true
    search-passes = by (is_state (scopes_of m) m.channels zs) (is_search m xs) e
      where
        by : (a b : Bool) → (a && b) ≡ true → b ≡ true
        by true b e = e
        by false b e = absurd (let z : ◌≡◌ {A = ℕ} 0 1 = cc in omega arith)

    module _ (numbers : zs ≡ state_numbers (decode (scopes_of m) zs)) where
      abbrev s : State
      s = decode (scopes_of m) zs

      abbrev o : Option Search
      o = search_in m xs

      open_lem : machine_over search_parts X (some m) ≡ holding (held_under m s o)
      open_lem = over ∙ rw (state-passes, search-passes) refl

      -- what a request that turns the search leaves
      walks : (r : Request) (f : Model → State → Option Search → Turn (Option Search)) → ((h : Held) → acts r h ≡ on_search f h) → uses r ≡ search_parts → Walked o (f m s o) → requested r X [] (some m) ≡ walks_as X [] (f m s o)
      unfolding requested on_machine leaves left_in on_search walks_as
      walks r f q u w =
          ap (λ (ps : List Part). leaves ps X [] (on_machine r (machine_over ps X (some m)))) u
          ∙ ap (λ (y : Machine). leaves search_parts X [] (on_machine r y)) open_lem
          ∙ ap (λ (t : Turn Held). record { answer = t.answer; left = left_in search_parts X (holding t.machine); output = shown t.answer.listing [] }) (q (held_under m s o))
          ∙ ap₂ (λ (z : Engine) (k : List ℕ). record { answer = (f m s o).answer; left = z; output = k }) (same-engine at) (by w)
        where
          t : Turn (Option Search)
          t = f m s o

          none-shown : (k : Shown) → k ≡ as_lent → shown k [] ≡ []
          none-shown k p = unfold shown in rw p refl

          by : Walked o t → shown t.answer.listing [] ≡ []
          by (goes a b) = none-shown t.answer.listing b
          by (stays a b c) = none-shown t.answer.listing b

          at : (p : Part) → left_in search_parts X (holding (searched_in (held_under m s o) t.machine)) p ≡ with_search X (search_numbers t.machine) p
          at model = unfold left_in is_lent numbers_of with_search in refl
          at state = unfold left_in is_lent numbers_of with_search lent_search in sym numbers
          at saves = unfold left_in is_lent numbers_of with_search in refl
          at clock = unfold left_in is_lent numbers_of with_search in refl
          at search = unfold left_in is_lent numbers_of with_search in refl

      -- the search's numbers alone are others
      put : (ys ys' : List ℤ) → ys ≡ ys' → (p : Part) → lent_search bs zs ys p ≡ with_search X ys' p
      put ys ys' q model = unfold with_search lent_search in refl
      put ys ys' q state = unfold with_search lent_search in refl
      put ys ys' q saves = unfold with_search lent_search in refl
      put ys ys' q clock = unfold with_search lent_search in refl
      put ys ys' q search = unfold with_search lent_search in q

      told_as : (t : Turn (Option Search)) (r : Result (Unit {0}) Refusal) (ys : List ℤ) → t.answer ≡ no (number_of r) 0 0 as_lent → ys ≡ search_numbers t.machine → Begins (walks_as X [] t) r (lent_search bs zs ys)
      unfolding walks_as
      told_as t r ys a q = record { answer = a; buffers = put ys (search_numbers t.machine) q; output = refl }

      module _ (n : List ℕ) (d : ℕ) where
        begun : requested (begin' n d) X [] (some m) ≡ walks_as X [] (begins n d m s o)
        unfolding acts
        begun = walks (begin' n d) (begins n d) (λ h. refl) refl (begins-walked n d m s o)

        deep : is_depth d ≡ false → begins n d m s o ≡ turn o (no 26 0 0 as_lent)
        unfolding begins
        deep f = rw f refl

        new : is_depth d ≡ true → begins n d m s o ≡ turn (some (search_from s (wait_number m n) d)) (no 0 0 0 as_lent)
        unfolding begins
        new f = rw f refl

        -- 26 leaves what is under way
        pub deep-begins : GoodModel m → length xs ≡ search_length → is_depth d ≡ false → Begins (requested (begin' n d) X [] (some m)) (Err Depth) X
        deep-begins good long f = rw (begun, deep f) (told_as (turn o (no 26 0 0 as_lent)) (Err Depth) xs refl (sym (passed m good xs long search-passes).numbers))

        pub begun-begins : is_depth d ≡ true → (c : ℕ) (ys : List ℤ) → c ≡ code_of m n → ys ≡ begun_numbers d c zs → Begins (requested (begin' n d) X [] (some m)) (Ok tt) (lent_search bs zs ys)
        begun-begins f c ys k q =
            let w : ys ≡ search_numbers (some (search_from s (wait_number m n) d)) = q ∙ ap₂ (λ (c : ℕ) (l : List ℤ). begun_numbers d c l) (k ∙ code-is m n) numbers ∙ sym (begun-search s (wait_number m n) d) in
            rw (begun, new f) (told_as (turn (some (search_from s (wait_number m n) d)) (no 0 0 0 as_lent)) (Ok tt) ys refl w)

      told-progress : (t : Turn (Option Search)) (r : Progress) (ys : List ℤ) → ys ≡ search_numbers t.machine → Tells t.answer r → GivesProgress (walks_as X [] t) r (lent_search bs zs ys)
      unfolding walks_as
      told-progress t r ys q h = record { number = h.number; count = h.count; ended = h.ended; long = h.long; run = h.run; buffers = put ys (search_numbers t.machine) q }

      pub carried-gives : (n : ℕ) (r : Progress) (ys : List ℤ) → ys ≡ search_numbers (carries_by n m o).machine → Tells (carries_by n m o).answer r → GivesProgress (requested (carry' n) X [] (some m)) r (lent_search bs zs ys)
      unfolding acts
      carried-gives n r ys q t = rw (walks (carry' n) (λ m s. carries_by n m) (λ h. refl) refl (carries-walked n m o)) (told-progress (carries_by n m o) r ys q t)
