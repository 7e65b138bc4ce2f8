-- Own numbers first in a list, and one or two values after them. From the laws of lists.
use mathlib.Core.Path.{◌≡◌, sym, ap, ◌∙◌}
use mathlib.Core.List.{List, [], ◌∷◌, ◌++◌, append_assoc}
use Prim.Native.Nat.{ℕ, ◌+◌, ◌<◌}
use native.Mathlib.Omega.{arith}
use lib.IntN.{ℤ}
use lib.ListN.{length, set, take, length-set}
use lib.Seq.{take_all}
use Rattle.std.proofs.lemmas.Grind.{take-set_at}

pub own-placed : (own l : List ℤ) (i : ℕ) → i ≡ length own → take i l ≡ take i own → take (length own) l ≡ own
own-placed own l i e h = ap (λ (n : ℕ). take n l) (sym e) ∙ (h ∙ take_all i own (omega (arith, e)))

module _ (own l : List ℤ) (p : take (length own) l ≡ own) (x : ℤ) where
  pub one-placed : length own < length l → take (length own + 1) (set l (length own) x) ≡ own ++ (x ∷ [])
  one-placed w =
      let e : length own + 1 ≡ length own + 1 = omega arith in
      take-set_at l (length own) (length own + 1) x e w ∙ ap (λ (u : List ℤ). u ++ (x ∷ [])) p

  pub two-placed : (y : ℤ) → length own + 1 < length l → take (length own + 2) (set (set l (length own) x) (length own + 1) y) ≡ own ++ (x ∷ y ∷ [])
  two-placed y w =
      let n : ℕ = length own in
      let e : n + 2 ≡ n + 1 + 1 = omega arith in
      take-set_at (set l n x) (n + 1) (n + 2) y e (omega (arith, w, length-set l n x))
      ∙ (ap (λ (u : List ℤ). u ++ (y ∷ [])) (one-placed (omega (arith, w))) ∙ append_assoc own (x ∷ []) (y ∷ []))
