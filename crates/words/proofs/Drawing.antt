-- The largest word that is used, and what a loop over words has tried: the words from here on come to what all of them do.
use mathlib.Core.Path.{◌≡◌, refl, sym, ap, ◌∙◌}
use mathlib.Core.Bool.{cond}
use mathlib.Core.List.{List, [], ◌∷◌}
use Prim.Native.Nat.{ℕ, ◌+◌, ◌-◌, ◌%◌, ◌≤◌, ◌<◌}
use native.Mathlib.Nat.{div-add-mod, mod-lt, mod-eq-sub-mod}
use native.Mathlib.Numerals.{add-one}
use native.Mathlib.Omega.{arith}
use borrow.Author.Tests.{lt-ltb, le-ltb}
use lib.ListN.{length, get_or, drop, length-drop}
use lib.Seq.{drop-cons}
use Rattle.std.specs.Prelude.{None, Some}
use Rattle.words.specs.Words.{word_values, usable, is_used, drawing, draw_of, Within}

-- ---- the largest word that is used

pub used-and-rest : (v t : ℕ) → usable v t + v % t ≡ v
unfolding usable
used-and-rest v t = div-add-mod v t

-- v less 1 is the largest word; the remainder of v is that of v less t
module _ (v t : ℕ) (above : 0 < t) (fits : t < v) where
  rest-is : (v - 1 - t + 1) % t ≡ v % t
  rest-is = let e : v - 1 - t + 1 ≡ v - t = omega arith in let l : t ≤ v = omega arith in rw e (sym (mod-eq-sub-mod l))

  pub rest_below : (v - 1 - t + 1) % t ≤ v - 1
  rest_below = omega (arith, mod-lt (v - 1 - t + 1) above)

  pub last-is : v - 1 - (v - 1 - t + 1) % t + 1 ≡ usable v t
  last-is = omega (arith, rest-is, rest_below, used-and-rest v t)

-- ---- the loop

-- at word i
pub record At (total : ℕ) (ws : List ℕ) (i : ℕ) : Type 0 where
  pub inside : i ≤ length ws
  pub same : drawing total i (drop i ws) ≡ draw_of total ws

pub begins : (total : ℕ) (ws : List ℕ) → At total ws 0
unfolding draw_of
begins total ws = record { inside = omega arith; same = refl }

module _ (total last : ℕ) (l : last + 1 ≡ usable word_values total) (ws : List ℕ) (i : ℕ) (a : At total ws i) (n : i < length ws) where
  tried : cond (is_used word_values total (get_or ws i 0)) (Some (get_or ws i 0 % total, i + 1)) (drawing total (i + 1) (drop (i + 1) ws)) ≡ draw_of total ws
  unfolding drawing
  tried = ap (λ (xs : List ℕ). drawing total i xs) (sym (drop-cons ws i 0 n ∙ ap (λ (k : ℕ). get_or ws i 0 ∷ drop k ws) (sym (add-one i)))) ∙ a.same

  -- a word that is used
  pub used : 0 < total → get_or ws i 0 ≤ last → (Some (get_or ws i 0 % total, i + 1) ≡ draw_of total ws) × Within total (length ws) (Some (get_or ws i 0 % total, i + 1))
  unfolding is_used Within
  used p h = let e : get_or ws i 0 < usable word_values total = omega arith in (rw (lt-ltb (get_or ws i 0) (usable word_values total) e) at tried, (mod-lt (get_or ws i 0) p, omega arith))

  -- one that is turned away
  pub turned : last < get_or ws i 0 → At total ws (i + 1)
  unfolding is_used
  turned h = let e : usable word_values total ≤ get_or ws i 0 = omega arith in record { inside = omega arith; same = rw (le-ltb (get_or ws i 0) (usable word_values total) e) at tried }

-- the words end
pub ended : (total : ℕ) (ws : List ℕ) (i : ℕ) → At total ws i → length ws ≤ i → (None ≡ draw_of total ws) × Within total (length ws) None
unfolding drawing Within
ended total ws i a l = (go (drop i ws) (omega (arith, length-drop i ws)) ∙ a.same, tt)
  where
    go : (rest : List ℕ) → length rest ≡ 0 → None ≡ drawing total i rest
    go [] e = refl
    go (w ∷ rest) e = absurd (omega arith)
