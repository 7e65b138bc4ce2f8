-- A list call that is accepted, after whatever calls, shows the derivable transitions of the state that the machine holds. By cases of machine and answer.
use mathlib.Core.Path.{◌≡◌, refl}
use mathlib.Core.List.{List}
use mathlib.Core.Bool.{Bool, true, false, cond}
use Prim.Native.Nat.{ℕ}
use native.Mathlib.Omega.{arith}
use Rattle.rules.specs.Listing.{Entry}
use Rattle.machine.specs.Machine as machine
use Rattle.machine.specs.Machine.{as_lent, Answer, no, listed_as, Listed, listing, turn, showing, lists, Held, Machine, closed, holding, on_state, list', on', acts, Part, has_lengths, call, on_machine, calls}
use Rattle.machine.specs.Questions.{Evaluated, IsListing, Lists, no12, no13, no14, yes14}
use Rattle.machine.proofs.Listing.{asked}

-- what is shown is the listing of what the machine holds
pub record Shows (y : Machine) (a : Answer) : Type 0 where
  pub held : Held
  pub holds : y ≡ holding held
  pub entries : List Entry
  pub shown : a ≡ listed_as 0 0 entries
  pub evaluated : Evaluated held.model held.state.processes
  pub derivable : IsListing held.model held.state entries

lists-shows : (h : Held) → (lists h.model h.state).answer.number ≡ 0 → Shows (holding h) (lists h.model h.state).answer
unfolding lists showing no listed_as
lists-shows h e = go ((asked h.model h.state (listing h.model h.state)).0 refl) e
  where
    go : {l : Listed} → Lists h.model h.state l → (showing h.state l).answer.number ≡ 0 → Shows (holding h) (showing h.state l).answer
    go (no12 f) e = absurd (omega arith)
    go (no13 g i l) e = absurd (omega arith)
    go (no14 g i l f) e = absurd (omega arith)
    go (yes14 {es = es} g i l f) e = record { held = h; holds = refl; entries = es; shown = refl; evaluated = g; derivable = i }

pub list-shows : (y : Machine) (l : Part → ℕ) (o : ℕ) → (calls y (call (on' list') l o)).answer.number ≡ 0 → Shows y (calls y (call (on' list') l o)).answer
unfolding calls machine.asked_of_machine on_machine acts on_state no
list-shows y l o e = go (has_lengths (on' list') l o) y e
  where
    go : (b : Bool) (y : Machine) → (cond b (on_machine list' y) (turn y (no 1 0 0 as_lent))).answer.number ≡ 0 → Shows y (cond b (on_machine list' y) (turn y (no 1 0 0 as_lent))).answer
    go true closed e = absurd (omega arith)
    go true (holding h) e = lists-shows h e
    go false y e = absurd (omega arith)
