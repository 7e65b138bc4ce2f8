-- Draws from words by computation (docs/DECISIONS.md, R.1 and R.2), one to a row.
use Rattle.std.specs.Prelude.{◌≡◌, refl, [], ◌∷◌, eqb, None, Some}
use Rattle.words.specs.Words.{word_values, usable, is_used, drawing, draw_of}
use Rattle.words.specs.Exact.{count_words, gives_one, is_turned}

pub rows :
    -- a total of 3: 2^64 is one more than a multiple of it, so that the last word alone is turned away
    (usable word_values 3 ≡ 18446744073709551615)
    × (draw_of 3 (5 ∷ 9 ∷ []) ≡ Some (2, 1))
    × (draw_of 3 (18446744073709551615 ∷ 7 ∷ 9 ∷ []) ≡ Some (1, 2))
    × (draw_of 3 (18446744073709551614 ∷ []) ≡ Some (2, 1))
    × (draw_of 3 (18446744073709551615 ∷ []) ≡ None)
    × (draw_of 3 [] ≡ None)
    -- a power of two turns none away, and neither does 1
    × (draw_of 1024 (18446744073709551615 ∷ []) ≡ Some (1023, 1))
    × (draw_of 1 (18446744073709551615 ∷ []) ≡ Some (0, 1))
    -- the largest total of a listing: twice it is used
    × (draw_of 9000000000000000000 (17999999999999999999 ∷ []) ≡ Some (8999999999999999999, 1))
    × (draw_of 9000000000000000000 (18000000000000000000 ∷ 1 ∷ []) ≡ Some (1, 2))
    -- words of eight values and a total of 3: two words for each draw, two turned away
    × (count_words (gives_one 8 3 (eqb 0)) 8 ≡ 2)
    × (count_words (gives_one 8 3 (eqb 1)) 8 ≡ 2)
    × (count_words (gives_one 8 3 (eqb 2)) 8 ≡ 2)
    × (count_words (is_turned 8 3) 8 ≡ 2)
unfolding usable is_used drawing draw_of count_words gives_one is_turned
rows = (refl, refl, refl, refl, refl, refl, refl, refl, refl, refl, refl, refl, refl, refl)
