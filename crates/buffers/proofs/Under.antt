-- The model, the state and the search hold a machine exactly where model and state do and the search is one over the model or none; and what beginning a search and carrying it on answer over any buffers that
-- do (02, note 10). From what is proved of the two, and of the search's buffer.
use mathlib.Core.Path.{◌≡◌, refl, sym, ap, ap₂, ◌∙◌}
use mathlib.Core.Bool.{Bool, true, false, cond, ◌&&◌}
use mathlib.Core.List.{List}
use mathlib.Core.Logic.{◌↔◌}
use mathlib.Core.Option.{Option, none, some}
use Prim.Native.Nat.{ℕ, ◌<◌}
use native.Mathlib.Omega.{arith}
use lib.IntN.{ℤ}
use lib.ListN.{length, get_or}
use Rattle.clock.specs.Clock.{fresh_clock}
use Rattle.model.specs.Resolved.{Model}
use Rattle.model.specs.Held.{held}
use Rattle.machine.specs.State.{State, state_length, state_numbers, GoodState}
use Rattle.machine.specs.Saves.{no_saves}
use Rattle.machine.specs.Machine as machine
use Rattle.machine.specs.Machine.{model_length, Shown, as_lent, Answer, Turn, Search, GoodSearching, search_length, Held, held_whole, searched_in, Machine, closed, holding, on_search, Request, on', acts, Part, model, state, saves, clock, search, size, two_parts, search_parts, uses, is_lent, all_parts, has_lengths, on_machine, output_of}
use Rattle.state.specs.Fits.{scopes_of}
use Rattle.state.specs.Test.{is_state}
use Rattle.state.specs.Decode.{decode}
use Rattle.underway.specs.Buffer.{search_numbers, is_search, search_in}
use Rattle.underway.proofs.Buffer.{search-pass, search-back, passed}
use Rattle.buffers.specs.Held.{model_bytes, held_in}
use Rattle.buffers.specs.Listing.{shown}
use Rattle.buffers.specs.Parts.{Engine, numbers_of, is_part, read_held, with_search}
use Rattle.buffers.specs.Effect.{machine_over, machine_in, left_in, leaves}
use Rattle.buffers.specs.Answers.{walks_as}
use Rattle.buffers.proofs.Lent.{same-engine}
use Rattle.buffers.proofs.Machines as machines
use Rattle.buffers.proofs.Machines.{machine-over, eleven-exactly}
use Rattle.buffers.proofs.Pieces.{Walked, goes, stays}

-- ---- 11

-- what is held of the three
abbrev pub held_under : Model → State → Option Search → Held
held_under m s o = held_whole m s no_saves fresh_clock o

-- 11 of the search, where the two others hold a machine
unfoldable pub under : Machine → List ℤ → Machine
under closed l = closed
under (holding h) l = cond (is_search h.model l) (holding (searched_in h (search_in h.model l))) closed

pub under-over : (x : Engine) (o : Option Model) → machine_over search_parts x o ≡ under (machine_over two_parts x o) (x search)
unfolding machine_over all_parts is_part read_held is_lent under
under-over x none = refl
under-over x (some m) = by (is_state (scopes_of m) m.channels (x state)) (is_search m (x search)) refl
  where
    by : (a b : Bool) → is_search m (x search) ≡ b
        → cond (a && (b && true)) (holding (held_under m (decode (scopes_of m) (x state)) (search_in m (x search)))) closed
        ≡ under (cond (a && true) (holding (held_under m (decode (scopes_of m) (x state)) none)) closed) (x search)
    by true true e = rw e refl
    by true false e = rw e refl
    by false b e = refl

pub under-in : (x : Engine) → machine_in search_parts x ≡ under (machine_in two_parts x) (x search)
unfolding machine_in
under-in x = under-over x (held_in (x model))

-- all three, or nothing
pub data InUnder : Machine → Type 0 where
  nothing : InUnder closed
  all : (m : Model) (s : State) (o : Option Search) → InUnder (holding (held_under m s o))

pub in-under : (x : Engine) → InUnder (machine_in search_parts x)
in-under x = rw (under-in x) (by (machines.in_two x))
  where
    test : (m : Model) (s : State) (b : Bool) → InUnder (cond b (holding (held_under m s (search_in m (x search)))) closed)
    test m s true = all m s (search_in m (x search))
    test m s false = nothing

    by : {y : Machine} → machines.InTwo y → InUnder (under y (x search))
    by machines.nothing = unfold under in nothing
    by (machines.both m s) = unfold under in test m s (is_search m (x search))

-- what is held of three is held of two, and the search is the one that was lent
pub record OfUnder (x : Engine) (m : Model) (s : State) (o : Option Search) : Type 0 where
  pub two : machine_in two_parts x ≡ holding (machine.held m s)
  pub good : GoodSearching m o
  pub numbers : x search ≡ search_numbers o

pub of-under : (x : Engine) (m : Model) (s : State) (o : Option Search) → length (x state) ≡ state_length → length (x search) ≡ size search → machine_in search_parts x ≡ holding (held_under m s o) → OfUnder x m s o
of-under x m s o wide long e = by (machine_in two_parts x) refl (sym (under-in x) ∙ e) (machines.in_two x)
  where
    test : (n : Model) (r : State) → machine_in two_parts x ≡ holding (machine.held n r) → (b : Bool) → is_search n (x search) ≡ b
        → cond b (holding (held_under n r (search_in n (x search)))) closed ≡ holding (held_under m s o) → OfUnder x m s o
    test n r p false q e = absurd (let z : ◌≡◌ {A = ℕ} 0 1 = cc in omega arith)
    test n r p true q e =
        let k : held_under n r (search_in n (x search)) ≡ held_under m s o = cc in
        let a : n ≡ m = ap (λ (h : Held). h.model) k in
        let b : r ≡ s = ap (λ (h : Held). h.state) k in
        let d : search_in n (x search) ≡ o = ap (λ (h : Held). h.search) k in
        let g = passed n (machine-over x n r wide p).good (x search) long q in
        record { two = rw (← a, ← b) p; good = rw (← d, ← a) g.good; numbers = rw (← d) (sym g.numbers) }

    by : (y : Machine) → machine_in two_parts x ≡ y → under y (x search) ≡ holding (held_under m s o) → machines.InTwo y → OfUnder x m s o
    by y p e machines.nothing = absurd (unfold under in let z : ◌≡◌ {A = ℕ} 0 1 = cc in omega arith)
    by y p e (machines.both n r) = unfold under in test n r p (is_search n (x search)) refl e

pub under-held : (x : Engine) (m : Model) (s : State) (o : Option Search) → length (x state) ≡ state_length → OfUnder x m s o → machine_in search_parts x ≡ holding (held_under m s o)
unfolding under
under-held x m s o wide h =
    let f = (machine-over x m s wide h.two).good in
    under-in x ∙ ap (λ (y : Machine). under y (x search)) h.two ∙ rw (h.numbers, search-pass m f o h.good, search-back m f o h.good) refl

-- 01, Listing, 11, and 02, note 10, exactly: as of the two, and the search is one over the model, or none
abbrev pub Holds : Engine → Model → State → Option Search → Type 0
Holds x m s o = ((text : List ℕ) × (x model ≡ model_bytes text) × (held text ≡ some m) × GoodState m s × (x state ≡ state_numbers s)) × GoodSearching m o × (x search ≡ search_numbers o)

pub eleven-under : (x : Engine) (m : Model) (s : State) (o : Option Search) → length (x model) ≡ model_length → get_or (x model) 0 0 < 256 → length (x state) ≡ state_length → length (x search) ≡ size search
    → (machine_in search_parts x ≡ holding (held_under m s o)) ↔ Holds x m s o
eleven-under x m s o long byte numbers wide = (there, back)
  where
    there : machine_in search_parts x ≡ holding (held_under m s o) → Holds x m s o
    there e = let u = of-under x m s o numbers wide e in ((eleven-exactly x m s long byte numbers).0 u.two, u.good, u.numbers)

    back : Holds x m s o → machine_in search_parts x ≡ holding (held_under m s o)
    back h = under-held x m s o numbers (record { two = (eleven-exactly x m s long byte numbers).1 h.0; good = h.1; numbers = h.2 })

-- ---- what a request that is lent the three leaves

pub walks : (r : Request) (f : Model → State → Option Search → Turn (Option Search)) → ((h : Held) → acts r h ≡ on_search f h) → ((m : Model) (s : State) (o : Option Search) → Walked o (f m s o)) → uses r ≡ search_parts
    → (x : Engine) (l : List ℕ) (m : Model) (s : State) (o : Option Search) → length (x state) ≡ state_length → machine_in search_parts x ≡ holding (held_under m s o)
    → machine_in two_parts x ≡ holding (machine.held m s) → leaves search_parts x l (on_machine r (machine_in search_parts x)) ≡ walks_as x l (f m s o)
unfolding on_machine leaves left_in on_search walks_as
walks r f q w u x l m s o wide e two =
    ap (λ (y : Machine). leaves search_parts x l (on_machine r y)) e
    ∙ ap (λ (t : Turn Held). record { answer = t.answer; left = left_in search_parts x (holding t.machine); output = shown t.answer.listing l }) (q (held_under m s o))
    ∙ ap₂ (λ (z : Engine) (k : List ℕ). record { answer = (f m s o).answer; left = z; output = k }) (same-engine at) (by (w m s o))
  where
    t : Turn (Option Search)
    t = f m s o

    as_lent_lem : (k : Shown) → k ≡ as_lent → shown k l ≡ l
    as_lent_lem k p = unfold shown in rw p refl

    by : Walked o t → shown t.answer.listing l ≡ l
    by (goes a b) = as_lent_lem t.answer.listing b
    by (stays a b c) = as_lent_lem t.answer.listing b

    at : (p : Part) → left_in search_parts x (holding (searched_in (held_under m s o) t.machine)) p ≡ with_search x (search_numbers t.machine) p
    at model = unfold left_in is_lent numbers_of with_search in refl
    at state = unfold left_in is_lent numbers_of with_search in (machine-over x m s wide two).numbers
    at saves = unfold left_in is_lent numbers_of with_search in refl
    at clock = unfold left_in is_lent numbers_of with_search in refl
    at search = unfold left_in is_lent numbers_of with_search in refl
