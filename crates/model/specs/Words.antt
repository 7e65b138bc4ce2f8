-- What the tokens of a text say: a token's bytes, whether two names are the same, what a number comes to. Assumes nothing: these are definitions.
use Rattle.std.specs.Prelude.{List, [], ◌∷◌, Bool, cond, ℕ, zero, suc, ℤ, pos, neg_ℤ}
use Rattle.word.specs.Number.{worth, ten_thousandths}
use Rattle.token.specs.Token.{Mark, tokens, same_bytes}
use Rattle.token.specs.Contents.{bytes_of, before_point, after_point}

-- token k, and one without bytes past the end
unfoldable pub nth : List Mark → ℕ → Mark
nth [] k = record { kind = 0; place = 0; size = 0 }
nth (m ∷ ms) zero = m
nth (m ∷ ms) (suc k) = nth ms k

module _ (text : List ℕ) where
  -- the byte at which token k starts
  unfoldable pub place_of : ℕ → ℕ
  place_of k = (nth (tokens text) k).place

  unfoldable pub word_of : ℕ → List ℕ
  word_of k = bytes_of text (nth (tokens text) k)

-- w: the bytes of each token
module _ (w : ℕ → List ℕ) where
  unfoldable pub same : ℕ → ℕ → Bool
  same j k = same_bytes (w j) (w k)

  -- a whole number, with `-` before it or not
  unfoldable pub whole_of : Bool → ℕ → ℤ
  whole_of b k = cond b (neg_ℤ (pos (worth 0 (w k)))) (pos (worth 0 (w k)))

  -- a decimal in ten-thousandths
  unfoldable pub decimal_of : Bool → ℕ → ℤ
  decimal_of b k = cond b (neg_ℤ (pos (ten_thousandths (before_point (w k)) (after_point (w k))))) (pos (ten_thousandths (before_point (w k)) (after_point (w k))))
