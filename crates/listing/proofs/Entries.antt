-- An entry in the numbers of a listing. By induction on the entries before it.
use mathlib.Core.Path.{◌≡◌, refl, sym, ap, ◌∙◌}
use mathlib.Core.List.{List, [], ◌∷◌}
use mathlib.Core.Option.{none, some}
use Prim.Native.Nat.{ℕ, zero, suc, ◌+◌, ◌*◌, ◌<◌}
use native.Mathlib.Omega.{arith}
use lib.ListN.{get_or, get_elem?, drop}
use lib.Seq.{get_or-drop}
use Rattle.std.specs.Simd.{first_chunks}
use Rattle.listing.proofs.Chunks.{chunk-at}
use Rattle.rules.specs.Rules.{key}
use Rattle.rules.specs.Listing.{Entry, entry}
use Rattle.machine.proofs.Branches.{none-not-some}
use Rattle.listing.specs.Buffer.{rows, entry_in}

shift : (l : List ℕ) (n : ℕ) → entry_in l (suc n) ≡ entry_in (drop 7 l) n
unfolding entry_in
shift l n = cc (at 1 (suc n * 7 + 1) (omega arith), at 2 (suc n * 7 + 2) (omega arith), at 3 (suc n * 7 + 3) (omega arith), at 4 (suc n * 7 + 4) (omega arith), at 5 (suc n * 7 + 5) (omega arith), at 6 (suc n * 7 + 6) (omega arith), first-at)
  where
    at : (j k : ℕ) → 7 + (n * 7 + j) ≡ k → get_or l k 0 ≡ get_or (drop 7 l) (n * 7 + j) 0
    at j k e = sym (get_or-drop 7 l (n * 7 + j) 0 ∙ ap (λ (i : ℕ). get_or l i 0) e)

    first-at : get_or l (suc n * 7) 0 ≡ get_or (drop 7 l) (n * 7) 0
    first-at = let e : 7 + n * 7 ≡ suc n * 7 = omega arith in sym (get_or-drop 7 l (n * 7) 0 ∙ ap (λ (i : ℕ). get_or l i 0) e)

top : (c i j k m q w : ℕ) (l : List ℕ) → entry_in (c ∷ i ∷ j ∷ k ∷ m ∷ q ∷ w ∷ l) 0 ≡ entry (key c i j k m q) w
unfolding entry_in
top c i j k m q w l = refl

pub entry_in_lem : (es : List Entry) (rest : List ℕ) (c : ℕ) (e : Entry) → get_elem? es c ≡ some e → entry_in (rows es rest) c ≡ e
unfolding rows
entry_in_lem [] rest c e h = none-not-some none e refl h
entry_in_lem (entry (key c i j k m q) w ∷ es) rest zero e h = let a : entry (key c i j k m q) w ≡ e = cc in top c i j k m q w (rows es rest) ∙ a
entry_in_lem (entry (key c i j k m q) w ∷ es) rest (suc n) e h = shift (rows (entry (key c i j k m q) w ∷ es) rest) n ∙ entry_in_lem es rest n e h

-- by the chunks of a listing
pub chunk-entry : (n : ℕ) (l : List ℕ) (xs : List (List ℕ)) (c : ℕ) → xs ≡ first_chunks 7 n l → c < n → entry_in (get_or xs c []) 0 ≡ entry_in l c
unfolding entry_in
chunk-entry n l xs c e h = rw e (cc (
  chunk-at n l c 0 h (omega arith) ∙ ap (λ (i : ℕ). get_or l i 0) (let z : c * 7 + 0 ≡ c * 7 = omega arith in z),
  chunk-at n l c 1 h (omega arith),
  chunk-at n l c 2 h (omega arith),
  chunk-at n l c 3 h (omega arith),
  chunk-at n l c 4 h (omega arith),
  chunk-at n l c 5 h (omega arith),
  chunk-at n l c 6 h (omega arith),
))
