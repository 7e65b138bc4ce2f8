-- The places of a listed entry are places of the state, and a handshake's two places differ: from the derivation that `listed` gives.
use Prim.Native.Nat.{ℕ, ◌<◌}
use mathlib.Core.Path.{◌≡◌}
use mathlib.Core.List.{List, Memᴰ as In}
use native.Mathlib.Omega.{arith}
use borrow.Author.Tests.{eqb-false}
use lib.ListN.{length}
use Rattle.rules.specs.Offers.{Branch, State}
use Rattle.rules.specs.Kind as kind
use Rattle.rules.specs.Rules.{Nth, first, later, Change, Key, key, Moves, alone, together, Derivable}
use Rattle.rules.specs.Listing.{entry, entries}
use Rattle.rules.proofs.Places.{acting, meeting}
use Rattle.rules.proofs.Listed.{listed}
use Rattle.rules.proofs.Moved.{no-handshake}

pub nth_inside : {A : Type 0} {xs : List A} {n : ℕ} {x : A} → Nth xs n x → n < length xs
nth_inside first = omega arith
nth_inside (later h) = omega (arith, nth_inside h)

-- the key's places among n, the partner's only of a handshake
abbrev pub Inside : ℕ → Key → Type 0
Inside n (key c i j k m q) = (i < n) × (c ≡ kind.handshake → (k < n) × (i ≡ k → ⊥))

module _ {Proc : Type 0} (branches : Proc → List (Branch Proc)) (s : State Proc) where
  moves-inside : {k : Key} {w : ℕ} {n : Change} {ps : List Proc} → Moves branches s k w n ps → Inside (length s.processes) k
  moves-inside (alone {c = c} k a) = (nth_inside (acting branches s.pairs a).at, λ e. absurd (eqb-false c kind.handshake (no-handshake k) e))
  moves-inside (together h) = let t = meeting branches s.pairs h in (nth_inside t.sender.at, λ e. (nth_inside t.receiver.at, t.apart))

  pub inside : (k : Key) (w : ℕ) → In (entry k w) (entries branches s) → Inside (length s.processes) k
  unfolding Derivable
  inside k w h = moves-inside ((listed branches s k w).0 h).2
