-- The weights that stand in the listing buffer, and their running sums. By induction on the count of entries.
use Prim.Native.Nat.{ℕ, zero, suc, ◌+◌, ◌*◌, ◌≤◌, ◌<◌}
use mathlib.Core.Path.{◌≡◌, refl, sym, ap, ◌∙◌}
use mathlib.Core.List.{List, [], ◌∷◌}
use native.Mathlib.Omega.{arith}
use native.Mathlib.Numerals.{add-one}
use borrow.Author.Tests.{lt-leb, le-leb}
use lib.ListN.{length, get_or, drop}
use lib.Seq.{get_or-drop, take_all}
use Rattle.std.specs.Simd.{first_chunks}
use Rattle.listing.proofs.Chunks.{chunks-length, chunk-at}
use Rattle.rules.specs.Rules.{key}
use Rattle.rules.specs.Listing.{Entry, entry, weight_of}
use Rattle.rules.specs.Draw.{weights, total}
use Rattle.rules.proofs.Chosen.{up_to, up_next, up-total}
use Rattle.machine.specs.Machine.{total_limit}
use Rattle.listing.specs.Buffer.{rows, weights_in, totalled, chosen_answer}
use mathlib.Core.Option.{none, some}
use Rattle.std.specs.Prelude.{None, Some}

pub weights-length : (b : List ℕ) (n : ℕ) → length (weights_in b n) ≡ n
unfolding weights_in
weights-length b zero = refl
weights-length b (suc n) = ap suc (weights-length (drop 7 b) n)

pub weights-at : (b : List ℕ) (n i : ℕ) → i < n → get_or (weights_in b n) i 0 ≡ get_or b (i * 7 + 6) 0
unfolding weights_in
weights-at b zero i l = absurd (omega arith)
weights-at b (suc n) zero l = refl
weights-at b (suc n) (suc i) l =
    let e : 7 + (i * 7 + 6) ≡ suc i * 7 + 6 = omega arith in
    weights-at (drop 7 b) n i (omega arith) ∙ get_or-drop 7 b (i * 7 + 6) 0 ∙ ap (λ (k : ℕ). get_or b k 0) e

pub up-all : (b : List ℕ) (n i : ℕ) → n ≤ i → up_to (weights_in b n) i ≡ total (weights_in b n)
up-all b n i l = ap total (take_all i (weights_in b n) (omega (arith, weights-length b n)))

pub up_none : (ws : List ℕ) → up_to ws 0 ≡ 0
unfolding total
up_none ws = refl

-- 01, 14
pub over : (ws : List ℕ) → total_limit < total ws → totalled ws ≡ None
unfolding totalled
over ws l = rw (lt-leb (total ws) total_limit l)

pub sums : (ws : List ℕ) (n : ℕ) → n ≡ total ws → n ≤ total_limit → totalled ws ≡ Some n
unfolding totalled
sums ws n e l = rw (le-leb (total ws) total_limit (omega arith)) (ap Some (rw e))

-- the weights of the entries that the buffer holds
pub rows-weights : (es : List Entry) (rest : List ℕ) → weights_in (rows es rest) (length es) ≡ weights es
unfolding weights_in weights rows weight_of
rows-weights [] rest = refl
rows-weights (entry (key c i j k m q) w ∷ es) rest = ap (λ t. w ∷ t) (rows-weights es rest)

-- the chosen entry as an answer
pub chosen_at : (i : ℕ) → chosen_answer (some i) ≡ Some i
unfolding chosen_answer
chosen_at i = refl

pub chosen_none : chosen_answer none ≡ None
unfolding chosen_answer
chosen_none = refl

-- ---- by rows
module _ (b : List ℕ) (n : ℕ) (rs : List (List ℕ)) (is : rs ≡ first_chunks 7 n b) where
  pub rows_count : length rs ≡ n
  rows_count = ap length is ∙ chunks-length n b

  pub row-weight : (i : ℕ) → i < length rs → get_or (weights_in b n) i 0 ≡ get_or (get_or rs i []) 6 0
  row-weight i l =
      weights-at b n i (omega (arith, rows_count)) ∙ sym (ap (λ (xs : List (List ℕ)). get_or (get_or xs i []) 6 0) is ∙ chunk-at n b i 6 (omega (arith, rows_count)) (omega arith))

  pub row-turn : (i : ℕ) → i < length rs → up_to (weights_in b n) (i + 1) ≡ up_to (weights_in b n) i + get_or (get_or rs i []) 6 0
  row-turn i l = ap (up_to (weights_in b n)) (add-one i) ∙ up_next (weights_in b n) i ∙ ap (λ (w : ℕ). up_to (weights_in b n) i + w) (row-weight i l)

  pub row-turn-le : (i : ℕ) → i < length rs → up_to (weights_in b n) i + get_or (get_or rs i []) 6 0 ≤ total (weights_in b n)
  row-turn-le i l = rw (row-weight i l) at (up-total (weights_in b n) i)

  pub rows_all : (i : ℕ) → length rs ≤ i → up_to (weights_in b n) i ≡ total (weights_in b n)
  rows_all i l = up-all b n i (omega (arith, rows_count))
