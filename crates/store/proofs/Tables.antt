-- The scopes of the tables are the model's, so that the state's test decides question 11 over them; and what a turn that is lent model and state leaves.
use mathlib.Core.Path.{◌≡◌, refl, sym, ◌∙◌}
use mathlib.Core.List.{List}
use mathlib.Core.Bool.{true, false}
use mathlib.Core.Option.{some}
use Prim.Native.Nat.{ℕ, ◌<◌}
use native.Mathlib.Omega.{arith}
use lib.IntN.{ℤ}
use lib.ListN.{length, get_or, take, length-take, length-map}
use lib.Seq.{ext_get_or, get_or-take}
use Rattle.model.specs.Scope.{scope_of}
use Rattle.model.specs.Resolved
use Rattle.tables.specs.Represents.{Represents}
use Rattle.machine.specs.State.{State, state_length, state_numbers, GoodState}
use Rattle.machine.specs.Machine.{held, closed, holding, Part, model, state, saves, clock, search, two_parts, is_lent}
use Rattle.machine.proofs.Branches.{map-nth, nth-get, get_nth}
use Rattle.state.specs.Test.{is_state}
use Rattle.state.specs.Decode.{decode}
use Rattle.state.specs.Fits.{scopes_of, FewLocals}
use Rattle.state.proofs.Over.{fits-good, few-scopes}
use Rattle.state.proofs.Entries.{get-below}
use Rattle.state.proofs.Image.{decode-fits, decode-numbers}
use Rattle.buffers.specs.Parts.{numbers_of, lent_two}
use Rattle.buffers.specs.Effect.{machine_over, left_in}
use Rattle.buffers.proofs.Machines.{passed, failed}
use Rattle.store.specs.Tables.{Tables}

module _ (t roots scopes : List ℕ) (sums channels : ℕ) (m : Resolved.Model) (h : Tables t roots scopes sums channels m) where
  abbrev r : Represents t roots scopes h.root h.variables h.definitions sums channels m
  r = h.represents

  pub scopes-are : take sums scopes ≡ scopes_of m
  scopes-are = ext_get_or 0 (take sums scopes) (scopes_of m) long same
    where
      long : length (take sums scopes) ≡ length (scopes_of m)
      long = simp (length-take, length-map) (omega (arith, r.sums-are, r.scopes-fit))

      same : (i : ℕ) → i < length (take sums scopes) → get_or (take sums scopes) i 0 ≡ get_or (scopes_of m) i 0
      same i l =
          let k : i < sums = omega (arith, length-take sums scopes) in
          let n : i < length (scopes_of m) = omega (arith, long) in
          let w = map-nth scope_of m.sums (get_nth (scopes_of m) i (get-below (scopes_of m) i 0 n)) in
          get_or-take sums scopes i 0 k ∙ r.scope i w.source (nth-get w.at) ∙ sym w.is

  pub few-taken : FewLocals (take sums scopes)
  few-taken = rw scopes-are (few-scopes m h.good)

  -- the state that numbers which pass are those of
  abbrev pub state_of : List ℤ → State
  state_of zs = decode (scopes_of m) zs

  module _ (zs : List ℤ) (l : length zs ≡ state_length) (e : is_state (take sums scopes) channels zs ≡ true) where
    passes : is_state (scopes_of m) m.channels zs ≡ true
    passes = rw (← scopes-are, ← r.channels-are) e

    pub numbers-back : state_numbers (state_of zs) ≡ zs
    numbers-back = decode-numbers (scopes_of m) (few-scopes m h.good) m.channels zs l passes

    pub state-good : GoodState m (state_of zs)
    state-good = fits-good m (state_of zs) h.good (decode-fits (scopes_of m) (few-scopes m h.good) m.channels zs l passes)

    pub machine-is : (bs : List ℕ) → machine_over two_parts (lent_two bs zs) (some m) ≡ holding (held m (state_of zs))
    unfolding lent_two
    machine-is bs = passed (lent_two bs zs) m passes

  pub machine-closed : (zs : List ℤ) → is_state (take sums scopes) channels zs ≡ false → (bs : List ℕ) → machine_over two_parts (lent_two bs zs) (some m) ≡ closed
  unfolding lent_two
  machine-closed zs e bs = let p : is_state (scopes_of m) m.channels zs ≡ false = rw (← scopes-are, ← r.channels-are) e in failed (lent_two bs zs) m p

-- the numbers of a state, and the model as it was lent
pub left-two : (bs : List ℕ) (zs ys : List ℤ) (m : Resolved.Model) (s : State) → ys ≡ state_numbers s → (p : Part) → lent_two bs ys p ≡ left_in two_parts (lent_two bs zs) (holding (held m s)) p
unfolding lent_two left_in is_lent numbers_of
left-two bs zs ys m s e model = refl
left-two bs zs ys m s e state = e
left-two bs zs ys m s e saves = refl
left-two bs zs ys m s e clock = refl
left-two bs zs ys m s e search = refl
