-- How a move carries another entry, and what both come to in either order, by computation (02, note 14): processes that split, end, hand over, bind or check, one to a row.
use Rattle.std.specs.Prelude.{◌≡◌, refl, List, [], ◌∷◌, ℕ, pos}
use Rattle.std.proofs.Math.Option.{Option-elim}
use Rattle.value.specs.Items.{one_item}
use Rattle.rules.specs.Offers.{Pair, Query, range, wait, bind, check, send, take, named, bare, Branch, State}
use Rattle.rules.specs.Kind as kind
use Rattle.rules.specs.Rules.{Key, key, unchanged}
use Rattle.rules.specs.Pairs.{pairs_after}
use Rattle.rules.specs.Step.{replace, replace_both, change_of, bound_by, values_at, sent_by, on_action, Outcome, goes, state_after, at_branch, one_acts, both_act, step}
use Rattle.rules.specs.Carried.{becomes, place_after, of_branch, becoming, moved, placed, carried}

-- processes that split into three, end, send and become two, receive and end, bind a lit value and become two, check and go on, or have nothing to do
pub data Proc : Type 0 where
  splits ends sends takes binds checks idle : Proc

abbrev pair : Pair
pair = record { channel = one_item (named 0); values = pos 1 ∷ [] }

abbrev query : Query
query = record { channel = one_item (named 0); sets = range (pos 0) (pos 2) ∷ [] }

-- of a channel on which nothing is lit
abbrev unlit : Query
unlit = record { channel = one_item (named 1); sets = range (pos 0) (pos 2) ∷ [] }

abbrev branches : Proc → List (Branch Proc)
branches splits = record { guard = bare wait 1; next = λ vs. idle ∷ idle ∷ idle ∷ [] } ∷ []
branches ends = record { guard = bare wait 1; next = λ vs. [] } ∷ []
branches sends = record { guard = bare (send pair) 1; next = λ vs. idle ∷ idle ∷ [] } ∷ []
branches takes = record { guard = bare (take query) 1; next = λ vs. [] } ∷ []
branches binds = record { guard = bare (bind query) 1; next = λ vs. idle ∷ ends ∷ [] } ∷ []
branches checks = record { guard = bare (check unlit) 1; next = λ vs. idle ∷ [] } ∷ []
branches idle = []

-- these processes, and one lit pair
abbrev with : List Proc → State Proc
with ps = record { processes = ps; pairs = pair ∷ [] }

abbrev state : State Proc
state = with (takes ∷ splits ∷ sends ∷ ends ∷ [])

-- a wait, a check or a receive with names of the process at place i
abbrev by : ℕ → ℕ → Key
by c i = key c i 0 0 0 0

-- the sender at place i hands over to the receiver at place k
abbrev meets : ℕ → ℕ → Key
meets i k = key kind.handshake i 0 k 0 0

-- the state after one move, and what another comes to then
abbrev then : State Proc → Key → Key → Outcome Proc
then s k l = step branches (state_after s (step branches s k)) l

pub rows :
    -- 1 splits: the handshake's sender moves by two, its partner not
    (carried branches state (by kind.wait 1) (meets 2 0) ≡ meets 4 0)
    -- the handshake: the process between its places moves down by one, the one behind both stays where it is
    × (carried branches state (meets 2 0) (by kind.wait 1) ≡ by kind.wait 0)
    × (carried branches state (meets 2 0) (by kind.wait 3) ≡ by kind.wait 3)
    -- 3 ends: nothing before it moves
    × (carried branches state (by kind.wait 3) (meets 2 0) ≡ meets 2 0)
    -- a handshake around a process that splits, in both orders
    × (then state (by kind.wait 1) (meets 4 0) ≡ goes unchanged (idle ∷ idle ∷ idle ∷ idle ∷ idle ∷ ends ∷ []))
    × (then state (meets 2 0) (by kind.wait 0) ≡ goes unchanged (idle ∷ idle ∷ idle ∷ idle ∷ idle ∷ ends ∷ []))
    -- neighbours of which the first ends: the second stands where it stood
    × (carried branches (with (ends ∷ splits ∷ [])) (by kind.wait 0) (by kind.wait 1) ≡ by kind.wait 0)
    × (then (with (ends ∷ splits ∷ [])) (by kind.wait 0) (by kind.wait 0) ≡ goes unchanged (idle ∷ idle ∷ idle ∷ []))
    × (then (with (ends ∷ splits ∷ [])) (by kind.wait 1) (by kind.wait 0) ≡ goes unchanged (idle ∷ idle ∷ idle ∷ []))
    -- neighbours of which the first splits: the second moves by two
    × (carried branches (with (splits ∷ ends ∷ [])) (by kind.wait 0) (by kind.wait 1) ≡ by kind.wait 3)
    × (then (with (splits ∷ ends ∷ [])) (by kind.wait 0) (by kind.wait 3) ≡ goes unchanged (idle ∷ idle ∷ idle ∷ []))
    × (then (with (splits ∷ ends ∷ [])) (by kind.wait 1) (by kind.wait 0) ≡ goes unchanged (idle ∷ idle ∷ idle ∷ []))
    -- a receive with names before a check
    × (carried branches (with (binds ∷ checks ∷ [])) (by kind.bind 0) (by kind.check 1) ≡ by kind.check 2)
    × (then (with (binds ∷ checks ∷ [])) (by kind.bind 0) (by kind.check 2) ≡ goes unchanged (idle ∷ ends ∷ idle ∷ []))
    × (then (with (binds ∷ checks ∷ [])) (by kind.check 1) (by kind.bind 0) ≡ goes unchanged (idle ∷ ends ∷ idle ∷ []))
    -- two handshakes, each with a place between the other's: one becomes two and ends one, so that what is behind both of its places stays
    × (carried branches (with (sends ∷ takes ∷ takes ∷ sends ∷ [])) (meets 0 2) (meets 3 1) ≡ meets 3 2)
    × (then (with (sends ∷ takes ∷ takes ∷ sends ∷ [])) (meets 0 2) (meets 3 2) ≡ goes unchanged (idle ∷ idle ∷ idle ∷ idle ∷ []))
    × (then (with (sends ∷ takes ∷ takes ∷ sends ∷ [])) (meets 3 1) (meets 0 1) ≡ goes unchanged (idle ∷ idle ∷ idle ∷ idle ∷ []))
unfolding
    carried moved placed place_after becomes becoming of_branch step state_after pairs_after at_branch one_acts both_act on_action change_of bound_by values_at sent_by replace
    replace_both Option-elim
rows = (refl, refl, refl, refl, refl, refl, refl, refl, refl, refl, refl, refl, refl, refl, refl, refl, refl, refl)
