-- The tables of a text that a model buffer holds, from what reading it gives.
use mathlib.Core.Path.{◌≡◌, sym}
use mathlib.Core.List.{List}
use mathlib.Core.Bool.{true, false}
use mathlib.Core.Option.{some}
use Prim.Native.Nat.{ℕ}
use lib.IntN.{ℤ}
use lib.ListN.{length, take, replicate}
use Rattle.std.specs.Prelude.{Ok}
use Rattle.model.specs.Resolved
use Rattle.model.specs.Words.{word_of}
use Rattle.model.proofs.Held.{held-good}
use Rattle.tables.specs.Spelled.{Spells}
use Rattle.opening.specs.declared.SoundModel.{SoundModel}
use Rattle.opening.specs.Marked.{Marked, ModelMarked}
use Rattle.opening.specs.Models.{ModelHeld, Held}
use Rattle.opening.proofs.Marked.{spells}
use Rattle.machine.specs.State.{State, state_length, state_numbers}
use Rattle.machine.specs.Machine.{held, closed, holding, two_parts}
use Rattle.buffers.specs.Parts.{lent_two}
use Rattle.buffers.specs.Effect.{machine_over}
use Rattle.state.specs.Test.{is_state}
use Rattle.store.specs.declared.Settled.{Settled}
use Rattle.store.specs.Tables.{Holds}
use Rattle.store.proofs.Tables.{state_of, numbers-back, state-good, machine-is, machine-closed}
use Rattle.step.specs.Enter.{Stands}
use Rattle.walk.specs.declared.Written.{Written}
use Rattle.walk.specs.Held as walk
use Rattle.searching.specs.Lent.{Worded, Lends}

-- ---- what was read

module _ (text t roots scopes : List ℕ) where
  marked-held : (places₀ sizes₀ places sizes : List ℕ) {r : Held} {f : SoundModel} → ModelMarked text places₀ sizes₀ places sizes r → r ≡ Ok f → Marked text places₀ sizes₀ places sizes
  unfolding ModelMarked
  marked-held places₀ sizes₀ places sizes o e = rw e at o

  pub worded : (n : ℕ) (places sizes : List ℕ) {r : Held} {f : SoundModel} → ModelMarked text (replicate n 0) (replicate n 0) places sizes r → r ≡ Ok f → (o : ModelHeld text t roots scopes f.model f.place)
      → Worded t roots scopes f.model.lists.root f.model.lists.variables f.model.sums f.model.channels text places sizes o.model
  worded n places sizes {r} {f} d e o =
      let s : Spells (word_of text) text places sizes = spells n (marked-held (replicate n 0) (replicate n 0) places sizes d e) in
      record { definitions = f.model.lists.definitions; represents = o.shown; good = held-good text o.model o.holds; spells = rw o.worded s }

-- ---- what the walk is lent

module _ (x : Settled) (y : Written) (m : Resolved.Model) (h : Lends x y m) where
  pub tables : Holds x m
  tables = record { root = x.tables.root; variables = x.tables.variables; definitions = h.definitions; represents = h.represents; good = h.good }

  pub walk-held : walk.Held x.tables.nodes.now x.tables.roots.now x.tables.scopes.now x.tables.root x.tables.variables y.text.now y.places.now y.sizes.now m
  walk-held = record { definitions = h.definitions; sums = x.sums; channels = x.channels; represents = h.represents; good = h.good; spells = h.spells }

  -- the state that numbers which pass are those of
  abbrev pub state_in : List ℤ → State
  state_in zs = state_of x.tables.nodes.now x.tables.roots.now x.tables.scopes.now x.sums x.channels m tables zs

  pub closes : (zs : List ℤ) → is_state (take x.sums x.tables.scopes.now) x.channels zs ≡ false → (bs : List ℕ) → machine_over two_parts (lent_two bs zs) (some m) ≡ closed
  closes zs e bs = machine-closed x.tables.nodes.now x.tables.roots.now x.tables.scopes.now x.sums x.channels m tables zs e bs

  module _ (zs : List ℤ) (l : length zs ≡ state_length) (e : is_state (take x.sums x.tables.scopes.now) x.channels zs ≡ true) where
    pub numbers : zs ≡ state_numbers (state_in zs)
    numbers = sym (numbers-back x.tables.nodes.now x.tables.roots.now x.tables.scopes.now x.sums x.channels m tables zs l e)

    pub stands : Stands zs m (state_in zs)
    stands = record { good = h.good; state = state-good x.tables.nodes.now x.tables.roots.now x.tables.scopes.now x.sums x.channels m tables zs l e; numbers = numbers }

    pub holds : (bs : List ℕ) → machine_over two_parts (lent_two bs zs) (some m) ≡ holding (held m (state_in zs))
    holds bs = machine-is x.tables.nodes.now x.tables.roots.now x.tables.scopes.now x.sums x.channels m tables zs l e bs
