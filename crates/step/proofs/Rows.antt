-- An entry of a listing that stands first in a buffer: its numbers, and the one that a draw chooses.
use mathlib.Core.Path.{◌≡◌, refl, ap, ◌∙◌}
use mathlib.Core.List.{List, Memᴰ as In}
use mathlib.Core.Option.{Option, none, some}
use Prim.Native.Nat.{ℕ, ◌+◌, ◌*◌, ◌≤◌, ◌<◌}
use native.Mathlib.Omega.{arith}
use lib.IntN.{ℤ}
use lib.ListN.{length, length-map}
use Rattle.std.specs.Prelude.{None, Some}
use Rattle.model.specs.Resolved
use Rattle.rules.specs.Rules.{Nth, first, later}
use Rattle.rules.specs.Listing.{Entry, weight_of, entries}
use Rattle.rules.specs.Draw.{weights, total, chosen}
use Rattle.rules.proofs.Chosen.{chosen-span, span-inside}
use Rattle.machine.specs.Offer.{branches}
use Rattle.machine.specs.State.{State, state_length, state_numbers}
use Rattle.machine.specs.Machine.{total_limit}
use Rattle.machine.proofs.Branches.{get_nth, nth-get, nth-below}
use Rattle.machine.proofs.Listing.{accepted}
use Rattle.machine.proofs.OneListing.{one-listing}
use Rattle.machine.proofs.Numbers.{state-length}
use Rattle.listing.specs.Buffer.{entry_in, weights_in, chosen_answer, Chosen}
use Rattle.listing.proofs.Entries.{entry_in_lem}
use Rattle.listing.proofs.Weights.{rows-weights}
use Rattle.listing.proofs.Finished.{rows-length}
use Rattle.step.specs.Entries.{Counted, Row}

in-nth : {A : Type 0} {xs : List A} {n : ℕ} {x : A} → Nth xs n x → In x xs
in-nth first = In.head refl
in-nth (later h) = In.tail (in-nth h)

pub below : {A : Type 0} {xs : List A} {n : ℕ} {x : A} → Nth xs n x → n < length xs
below first = omega arith
below (later h) = omega (arith, below h)

-- ---- entry c
module _ {t roots scopes : List ℕ} {root variables : ℕ} {zs : List ℤ} {l : List ℕ} {c : ℕ} {m : Resolved.Model} {s : State} {es : List Entry} {e : Entry} (h : Row t roots scopes root variables zs l c m s es e) where
  pub row_fits : c * 7 + 7 ≤ length l
  row_fits = omega (arith, ap length h.listing.numbers, rows-length es h.listing.rest, below (get_nth es c h.at))

  pub row_is : entry_in l c ≡ e
  row_is = rw h.listing.numbers (entry_in_lem es h.listing.rest c e h.at)

  pub row_in : In e (entries (branches m) s)
  row_in = let q = one-listing m s es ((accepted m s es).0 h.listing.listed).1 in rw (← q) (in-nth (get_nth es c h.at))

  pub row-long : length zs ≡ state_length
  row-long = ap length h.listing.lent.stands.numbers ∙ state-length m h.listing.lent.stands.good s h.listing.lent.stands.state

  pub row-numbers : zs ≡ state_numbers s
  row-numbers = h.listing.lent.stands.numbers

-- ---- the entry that a draw chooses
chosen-some : (o : Option ℕ) (r : Chosen) (c : ℕ) → r ≡ chosen_answer o → r ≡ Some c → o ≡ some c
unfolding chosen_answer
chosen-some none r c e f = let z : ◌≡◌ {A = ℕ} 0 1 = cc in absurd (omega arith)
chosen-some (some i) r c e f = cc

chosen_none : (o : Option ℕ) (r : Chosen) → r ≡ chosen_answer o → r ≡ None → o ≡ none
unfolding chosen_answer
chosen_none none r e f = refl
chosen_none (some i) r e f = let z : ◌≡◌ {A = ℕ} 0 1 = cc in absurd (omega arith)

module _ {t roots scopes : List ℕ} {root variables : ℕ} {zs : List ℤ} {l : List ℕ} {count sum : ℕ} {m : Resolved.Model} {s : State} {es : List Entry} (h : Counted t roots scopes root variables zs l count sum m s es) where
  weights-are : weights_in l count ≡ weights es
  weights-are = rw (h.listing.numbers, h.count-is) (rows-weights es h.listing.rest)

  pub can-choose : (count * 7 ≤ length l) × (total (weights_in l count) ≤ total_limit)
  can-choose = (omega (arith, ap length h.listing.numbers, rows-length es h.listing.rest, h.count-is), rw weights-are ((accepted m s es).0 h.listing.listed).3)

  module _ (r : Chosen) (d : ℕ) (is : r ≡ chosen_answer (chosen (weights_in l count) d)) where
    pub chose : (c : ℕ) → r ≡ Some c → chosen (weights es) d ≡ some c
    chose c g = rw weights-are at (chosen-some (chosen (weights_in l count) d) r c is g)

    pub chose_none : r ≡ None → chosen (weights es) d ≡ none
    chose_none g = rw weights-are at (chosen_none (chosen (weights_in l count) d) r is g)

    pub row_of : (c : ℕ) → r ≡ Some c → (e : Entry) × Row t roots scopes root variables zs l c m s es e
    unfolding weights
    row_of c g =
        let i : c < length es = omega (arith, span-inside (weights es) d c (chosen-span (weights es) d c (chose c g)), length-map es weight_of) in
        let w = nth-below es c i in
        (w.0, record { listing = h.listing; at = nth-get w.1 })
