-- The tables of a text that a model buffer holds: the test of a state over them, the names of its waits, and that each wait's token has a place.
use mathlib.Core.Path.{◌≡◌, refl, sym, ap₂, ◌∙◌}
use mathlib.Core.List.{List, Memᴰ as In}
use mathlib.Core.Bool.{Bool, true}
use mathlib.Core.Option.{some}
use Prim.Native.Nat.{ℕ, ◌<◌}
use lib.IntN.{ℤ}
use lib.ListN.{length, take}
use Rattle.grammar.specs.Limit.{token_limit}
use Rattle.model.specs.Resolved.{Model}
use Rattle.model.specs.Held.{held}
use Rattle.waitnames.specs.Names.{all_waits}
use Rattle.waitnames.proofs.Held.{held-waits}
use Rattle.naming.specs.Marks.{Within, Shown}
use Rattle.machine.specs.State.{state_length, state_numbers}
use Rattle.state.specs.Fits.{scopes_of}
use Rattle.state.specs.Test.{is_state}
use Rattle.state.specs.Decode.{decode}
use Rattle.store.specs.declared.Settled.{Settled}
use Rattle.store.proofs.Tables.{scopes-are, numbers-back}
use Rattle.walk.specs.declared.Written.{Written}
use Rattle.searching.specs.Lent.{Lends}
use Rattle.searching.proofs.Held.{tables}

module _ (x : Settled) (y : Written) (m : Model) (h : Lends x y m) where
  pub state-is : (zs : List ℤ) → is_state (take x.sums x.tables.scopes.now) x.channels zs ≡ is_state (scopes_of m) m.channels zs
  state-is zs = ap₂ (λ (l : List ℕ) (n : ℕ). is_state l n zs) (scopes-are x.tables.nodes.now x.tables.roots.now x.tables.scopes.now x.sums x.channels m (tables x y m h)) h.represents.channels-are

  pub numbers-are : (zs : List ℤ) → length zs ≡ state_length → is_state (scopes_of m) m.channels zs ≡ true → zs ≡ state_numbers (decode (scopes_of m) zs)
  numbers-are zs l e = sym (numbers-back x.tables.nodes.now x.tables.roots.now x.tables.scopes.now x.sums x.channels m (tables x y m h) zs l (state-is zs ∙ e))

  pub shown : Shown x.tables.nodes.now x.tables.roots.now x.sums m
  shown = record { scopes = x.tables.scopes.now; root = x.tables.root; variables = x.tables.variables; definitions = h.definitions; channels = x.channels; represents = h.represents }

pub waits-within : (text : List ℕ) (m : Model) → held text ≡ some m → Within token_limit (all_waits m)
waits-within text m e = held-waits text m e
