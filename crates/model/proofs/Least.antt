-- The answer of questions 7, 8 and 9: a faulty token before which none stands, or none where there is none.
use mathlib.Core.Path.{◌≡◌, refl}
use mathlib.Core.List.Memᴰ.{cases_cons as cases}
use mathlib.Core.List.Memᴰ.{head}
use mathlib.Core.List.Memᴰ.{not-nil as none}
use mathlib.Core.List.Memᴰ.{tail}
use mathlib.Core.List.{List, [], ◌∷◌, Memᴰ as In}
use mathlib.Core.Logic.{⊎_elim}
use Prim.Native.Nat.{ℕ, ◌<◌, min}
use native.Mathlib.Decide.{dec_lt}
use native.Mathlib.Omega.{arith}
use Rattle.std.specs.Prelude.{None, Some}
use Rattle.token.specs.Questions.{First, Found}
use Rattle.model.specs.Lists.{earlier, least}

smaller : (k m : ℕ) (ks : List ℕ) → In m ks → Dec (k < m) → In (min k m) (k ∷ ks)
smaller k m ks i (yes h) = let e : min k m ≡ k = omega arith in head e
smaller k m ks i (no h) = let e : min k m ≡ m = omega arith in rw e (tail i)

first-cons : (k : ℕ) (ks : List ℕ) (f : Found) → First (λ j. In j ks) f → First (λ j. In j (k ∷ ks)) (earlier k f)
unfolding earlier
first-cons k ks None h = (head refl, λ q l i. ⊎_elim (λ (e : q ≡ k). omega arith) (λ (j : In q ks). h q j) (cases i))
first-cons k ks (Some m) h =
    (smaller k m ks h.0 (dec_lt k m), λ q l i. ⊎_elim (λ (e : q ≡ k). omega arith) (λ (j : In q ks). h.1 q (omega arith) j) (cases i))

-- the least of a list of faults is a fault, and no fault stands before it
pub least_first : (ks : List ℕ) → First (λ k. In k ks) (least ks)
unfolding least
least_first [] = λ q i. none i
least_first (k ∷ ks) = first-cons k ks (least ks) (least_first ks)
