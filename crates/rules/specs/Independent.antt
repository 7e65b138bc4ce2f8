-- When two entries of a listing can be taken in either order (02, note 14): what is asked of them, and the same as a test. Definitions, and rows by computation.
use Rattle.std.specs.Prelude.{◌≡◌, refl, List, [], ◌∷◌, Bool, true, false, not, ◌&&◌, ◌||◌, ℕ, ◌<◌, eqb, ltb}
use Rattle.rules.specs.Kind as kind
use Rattle.rules.specs.Rules.{Key, key}
use Rattle.rules.specs.Listing.{Entry, entry, key_of, weight_of}
use Rattle.rules.specs.Carried.{places, Apart, Quiet}

-- 02, note 14: both above weight zero, no process shared, neither a launch nor a kill
pub record Independent (e f : Entry) : Type 0 where
  pub above : (0 < weight_of e) × (0 < weight_of f)
  pub apart : Apart (key_of e) (key_of f)
  pub quiet : Quiet (key_of e) × Quiet (key_of f)

-- ---- the same as a test

unfoldable pub is_one_of : ℕ → List ℕ → Bool
is_one_of n [] = false
is_one_of n (i ∷ is) = eqb n i || is_one_of n is

-- a place stands in both
unfoldable pub meet : List ℕ → List ℕ → Bool
meet [] js = false
meet (i ∷ is) js = is_one_of i js || meet is js

-- 02, note 14: neither a launch nor a kill
unfoldable pub is_quiet : Key → Bool
is_quiet (key c i j k m q) = not (eqb c kind.launch) && not (eqb c kind.kill)

-- 02, note 14: of one entry, whatever the other is
unfoldable pub is_movable : Entry → Bool
is_movable e = ltb 0 (weight_of e) && is_quiet (key_of e)

-- 02, note 14: whether two entries of one listing are independent
unfoldable pub is_independent : Entry → Entry → Bool
is_independent e f = (is_movable e && is_movable f) && not (meet (places (key_of e)) (places (key_of f)))

-- an entry of this kind at these places, of weight 1
abbrev at : ℕ → ℕ → ℕ → Entry
at c i k = entry (key c i 0 k 0 0) 1

pub rows :
    -- neighbours; the same process
    (is_independent (at kind.wait 0 0) (at kind.wait 1 0) ≡ true)
    × (is_independent (at kind.wait 1 0) (at kind.check 1 0) ≡ false)
    -- a handshake around a process, at its sender, and at its receiver
    × (is_independent (at kind.handshake 2 0) (at kind.bind 1 0) ≡ true)
    × (is_independent (at kind.handshake 2 0) (at kind.wait 2 0) ≡ false)
    × (is_independent (at kind.wait 0 0) (at kind.handshake 2 0) ≡ false)
    -- two handshakes: four processes, or a partner in both
    × (is_independent (at kind.handshake 0 1) (at kind.handshake 3 2) ≡ true)
    × (is_independent (at kind.handshake 0 1) (at kind.handshake 2 1) ≡ false)
    × (is_independent (at kind.handshake 0 1) (at kind.handshake 2 0) ≡ false)
    -- the partner field of another kind is no place
    × (is_independent (at kind.wait 3 5) (at kind.receive 5 3) ≡ true)
    -- a launch, a kill, a weight of zero, in either place
    × (is_independent (at kind.launch 0 0) (at kind.wait 1 0) ≡ false)
    × (is_independent (at kind.wait 1 0) (at kind.kill 0 0) ≡ false)
    × (is_independent (entry (key kind.wait 0 0 0 0 0) 0) (at kind.wait 1 0) ≡ false)
    × (is_independent (at kind.wait 1 0) (entry (key kind.wait 0 0 0 0 0) 0) ≡ false)
unfolding is_independent is_movable is_quiet meet is_one_of places key_of weight_of
rows = (refl, refl, refl, refl, refl, refl, refl, refl, refl, refl, refl, refl, refl)
