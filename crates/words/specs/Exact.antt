-- Even words give even draws (docs/DECISIONS.md, R.2): how many of all words give each draw. Definitions only; proofs/Exact.antt has that it holds.
use Rattle.std.specs.Prelude.{◌≡◌, Bool, cond, not, ◌&&◌, ℕ, zero, suc, ◌+◌, ◌*◌, ◌%◌, ◌≤◌, ◌<◌, eqb}
use Rattle.words.specs.Words.{is_used}

-- how many words below n pass a test
unfoldable pub count_words : (ℕ → Bool) → (n : ℕ) → ℕ
count_words p zero = 0
count_words p (suc n) = count_words p n + cond (p n) 1 0

-- a word is used, and its draw passes a test
unfoldable pub gives_one : (values total : ℕ) → (ℕ → Bool) → (word : ℕ) → Bool
gives_one values total p w = is_used values total w && p (w % total)

-- a word is turned away
unfoldable pub is_turned : (values total word : ℕ) → Bool
is_turned values total w = not (is_used values total w)

-- R.2: of so many words each draw below the total comes from m, m at least 1, and fewer than the total are turned away
pub record Exact (values total m : ℕ) : Type 0 where
  pub some_words : 1 ≤ m
  pub draw : (d : ℕ) → d < total → count_words (gives_one values total (eqb d)) values ≡ m
  -- the same of every set of draws, told by a test: m for each draw in it
  pub draws : (p : ℕ → Bool) → count_words (gives_one values total p) values ≡ m * count_words p total
  pub turned : count_words (is_turned values total) values < total
