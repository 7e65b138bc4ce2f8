-- The names of waits and their numbers, by first appearance as a wait (02, notes 8, 10 and 13). A wait's token says where it stands. Assumes nothing: these are definitions.
use Rattle.std.specs.Prelude.{List, [], ◌∷◌, cond, ℕ, suc, leb}
use Rattle.std.proofs.Math.Option.{Option, none, some}
use Rattle.token.specs.Token.{same_bytes}
use Rattle.model.specs.Lists.{each}
use Rattle.model.specs.Given.{place_in}
use Rattle.model.specs.Resolved
use Rattle.model.specs.Resolved.{firsts, or_zero}

-- the token of a wait
unfoldable pub wait_token : Resolved.Action → List ℕ
wait_token (Resolved.wait k) = k ∷ []
wait_token (Resolved.launch c v) = []
wait_token (Resolved.kill c v) = []
wait_token (Resolved.receive c q) = []
wait_token (Resolved.bind c q) = []
wait_token (Resolved.check c q) = []
wait_token (Resolved.hand_send c v) = []
wait_token (Resolved.hand_receive c q) = []
wait_token (Resolved.hand_bind c q) = []

unfoldable pub branch_waits : Resolved.Branch → List ℕ
branch_waits b = wait_token b.action

unfoldable pub sum_waits : Resolved.Sum → List ℕ
sum_waits s = each branch_waits s.branches

-- of all sums, called or not
unfoldable pub all_waits : Resolved.Model → List ℕ
all_waits m = each sum_waits m.sums

-- k among ascending tokens
unfoldable pub insert : ℕ → List ℕ → List ℕ
insert k [] = k ∷ []
insert k (j ∷ js) = cond (leb k j) (k ∷ j ∷ js) (j ∷ insert k js)

unfoldable pub ascending : List ℕ → List ℕ
ascending [] = []
ascending (k ∷ ks) = insert k (ascending ks)

-- 02, note 13: the tokens of waits, in the order of the text
unfoldable pub wait_tokens : Resolved.Model → List ℕ
wait_tokens m = ascending (all_waits m)

-- 02, note 13: of each name the first
unfoldable pub name_tokens : Resolved.Model → List ℕ
name_tokens m = firsts m.words [] [] (wait_tokens m)

-- 02, note 13: every wait name, as first met in the text
unfoldable pub wait_names : Resolved.Model → List (List ℕ)
wait_names m = each (λ (k : ℕ). m.words k ∷ []) (name_tokens m)

-- 02, note 8: the number of the name of the wait at token k
unfoldable pub name_number : Resolved.Model → ℕ → ℕ
name_number m k = or_zero (place_in m.words k 0 (name_tokens m))

-- the place, from i on, of a name in a list
unfoldable pub number_in : (name : List ℕ) → ℕ → List (List ℕ) → Option ℕ
number_in x i [] = none
number_in x i (y ∷ ys) = cond (same_bytes x y) (some i) (number_in x (suc i) ys)

-- 02, note 8: the number of a name that is lent as bytes; none where it is no wait of the model
unfoldable pub wait_number : Resolved.Model → (name : List ℕ) → Option ℕ
wait_number m x = number_in x 0 (wait_names m)
