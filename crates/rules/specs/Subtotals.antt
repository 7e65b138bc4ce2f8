-- The weights of a listing added up by an owner of its entries (02, note 6). Definitions only.
use Rattle.std.specs.Prelude.{List, [], ◌∷◌, cond, ℕ, zero, suc, ◌+◌, eqb}
use Rattle.rules.specs.Rules.{Key, key}
use Rattle.rules.specs.Listing.{Entry, weight_of}

-- the place of the process that an entry counts for: the one that acts, and of a handshake the sender
unfoldable pub actor : Key → ℕ
actor (key c i j k m q) = i

-- the weights of the entries of owner d
unfoldable pub subtotal : (Entry → ℕ) → List Entry → ℕ → ℕ
subtotal owner [] d = 0
subtotal owner (e ∷ es) d = cond (eqb (owner e) d) (weight_of e) 0 + subtotal owner es d

-- one for each of n owners, from d on in order
unfoldable pub subtotals : (Entry → ℕ) → List Entry → (d n : ℕ) → List ℕ
subtotals owner es d zero = []
subtotals owner es d (suc n) = subtotal owner es d ∷ subtotals owner es (suc d) n
