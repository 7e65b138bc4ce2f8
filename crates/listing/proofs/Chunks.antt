-- The entries of a listing as chunks of seven numbers. By induction on the count of chunks.
use Prim.Native.Nat.{ℕ, zero, suc, ◌+◌, ◌*◌, ◌/◌, ◌≤◌, ◌<◌}
use mathlib.Core.Path.{◌≡◌, refl, ap, ◌∙◌}
use mathlib.Core.List.{List, [], ◌∷◌}
use native.Mathlib.Omega.{arith}
use lib.ListN.{length, get_or, take, drop}
use lib.Seq.{get_or-drop}
use Rattle.std.specs.Simd.{first_chunks}
use Rattle.std.proofs.lemmas.List.{get_or-take}

pub take-chunks : (k n : ℕ) (b : List ℕ) → k ≤ n → take k (first_chunks 7 n b) ≡ first_chunks 7 k b
take-chunks zero n b l = refl
take-chunks (suc k) zero b l = absurd (omega arith)
take-chunks (suc k) (suc n) b l = ap (λ (t : List (List ℕ)). take 7 b ∷ t) (take-chunks k n (drop 7 b) (omega arith))

pub chunks-length : (n : ℕ) (b : List ℕ) → length (first_chunks 7 n b) ≡ n
chunks-length zero b = refl
chunks-length (suc n) b = ap suc (chunks-length n (drop 7 b))

-- number j of chunk i
pub chunk-at : (n : ℕ) (b : List ℕ) (i j : ℕ) → i < n → j < 7 → get_or (get_or (first_chunks 7 n b) i []) j 0 ≡ get_or b (i * 7 + j) 0
chunk-at zero b i j l h = absurd (omega arith)
chunk-at (suc n) b zero j l h = let e : j ≡ 0 * 7 + j = omega arith in get_or-take 7 b j 0 h ∙ ap (λ (k : ℕ). get_or b k 0) e
chunk-at (suc n) b (suc i) j l h =
    let e : 7 + (i * 7 + j) ≡ suc i * 7 + j = omega arith in
    chunk-at n (drop 7 b) i j (omega arith) h ∙ get_or-drop 7 b (i * 7 + j) 0 ∙ ap (λ (k : ℕ). get_or b k 0) e

-- as many as the numbers have room for
pub chunks-fit : (c n : ℕ) → c * 7 + 7 ≤ n → c < n / 7
chunks-fit c n l = omega arith

pub chunks-within : (c n : ℕ) → c * 7 ≤ n → c ≤ n / 7
chunks-within c n l = omega arith
