-- A draw chooses the first entry whose running sum exceeds it, and every draw below the total chooses one: from the span of draws that choose an entry, by induction on the weights.
use Prim.Native.Nat.{ℕ, zero, suc, ◌+◌, ◌-◌, ◌≤◌, ◌<◌}
use mathlib.Core.Path.{◌≡◌, refl, ap}
use mathlib.Core.Bool.{Bool, true, false, cond}
use mathlib.Core.List.{List, [], ◌∷◌}
use mathlib.Core.Logic.{◌↔◌}
use mathlib.Core.Option.{Option, none, some, map}
use native.Mathlib.Omega.{arith}
use borrow.Author.Tests.{ltb-true, ltb-false, le-ltb, eqb-true, eq-eqb, ne_eqb}
use lib.Dec.{ltb, eqb-suc-suc}
use lib.ListN.{length, get_or, take}
use Rattle.value.proofs.Kit.{false-not-true}
use Rattle.rules.specs.Draw.{total, running, First, chosen, is_chosen}
use Rattle.rules.proofs.Decides.{Decides, holds, fails, on, passes, along}

-- the sum of the weights before entry i
abbrev pub up_to : List ℕ → ℕ → ℕ
up_to ws i = total (take i ws)

-- the draws that choose entry i
abbrev pub Span : List ℕ → ℕ → ℕ → Type 0
Span ws d i = (up_to ws i ≤ d) × (d < up_to ws i + get_or ws i 0)

-- ---- sums
pub up_next : (ws : List ℕ) (i : ℕ) → up_to ws (suc i) ≡ up_to ws i + get_or ws i 0
unfolding total
up_next [] zero = refl
up_next [] (suc i) = refl
up_next (w ∷ ws) zero = omega arith
up_next (w ∷ ws) (suc i) = omega (arith, up_next ws i)

pub up-total : (ws : List ℕ) (i : ℕ) → up_to ws i + get_or ws i 0 ≤ total ws
unfolding total
up-total [] zero = omega arith
up-total [] (suc i) = omega arith
up-total (w ∷ ws) zero = omega arith
up-total (w ∷ ws) (suc i) = omega (arith, up-total ws i)

pub up_more : (ws : List ℕ) (k i : ℕ) → k ≤ i → up_to ws k ≤ up_to ws i
unfolding total
up_more ws zero i l = omega arith
up_more [] (suc k) (suc i) l = omega arith
up_more (w ∷ ws) (suc k) (suc i) l = omega (arith, up_more ws k i (omega arith))
up_more ws (suc k) zero l = absurd (omega arith)

-- ---- the chosen entry
not_first : (o : Option ℕ) → is_chosen 0 (map suc o) ≡ false
unfolding is_chosen
not_first (some k) = ne_eqb (suc k) 0 (λ e. omega arith)
not_first none = refl

one_later : (i : ℕ) (o : Option ℕ) → is_chosen (suc i) (map suc o) ≡ is_chosen i o
unfolding is_chosen
one_later i (some k) = eqb-suc-suc k i
one_later i none = refl

chosen_is : (i : ℕ) (o : Option ℕ) → is_chosen i o ≡ true → o ≡ some i
unfolding is_chosen
chosen_is i (some k) e = ap some (eqb-true k i e)
chosen_is i none e = false-not-true e

is-chosen : (i : ℕ) (o : Option ℕ) → o ≡ some i → is_chosen i o ≡ true
unfolding is_chosen
is-chosen i o e = rw e (eq-eqb i i refl)

-- a draw chooses entry i exactly when it lies in the entry's span
pub span : (ws : List ℕ) (d i : ℕ) → Decides (Span ws d i) (is_chosen i (chosen ws d))
unfolding chosen total is_chosen
span [] d zero = fails (λ h. omega arith)
span [] d (suc i) = fails (λ h. omega arith)
span (w ∷ ws) d zero = go (ltb d w) refl
  where
    go : (b : Bool) → ltb d w ≡ b → Decides ((0 ≤ d) × (d < 0 + w)) (is_chosen 0 (cond b (some 0) (map suc (chosen ws (d - w)))))
    go true e = holds (omega arith, omega (arith, ltb-true d w e))
    go false e = rw (not_first (chosen ws (d - w))) (fails (λ h. omega (arith, ltb-false d w e)))
span (w ∷ ws) d (suc i) = go (ltb d w) refl (span ws (d - w) i)
  where
    go : (b : Bool) → ltb d w ≡ b → Decides (Span ws (d - w) i) (is_chosen i (chosen ws (d - w)))
        → Decides ((w + up_to ws i ≤ d) × (d < w + up_to ws i + get_or ws i 0)) (is_chosen (suc i) (cond b (some 0) (map suc (chosen ws (d - w)))))
    go true e r = rw (ne_eqb 0 (suc i) (λ q. omega arith)) (fails (λ h. omega (arith, ltb-true d w e)))
    go false e r =
        let l : w ≤ d = ltb-false d w e in
        rw (one_later i (chosen ws (d - w))) (along (λ h. (omega arith, omega arith)) (λ h. (omega arith, omega arith)) r)

pub span-chosen : (ws : List ℕ) (d i : ℕ) → Span ws d i → chosen ws d ≡ some i
span-chosen ws d i h = chosen_is i (chosen ws d) (passes (span ws d i) h)

pub chosen-span : (ws : List ℕ) (d i : ℕ) → chosen ws d ≡ some i → Span ws d i
chosen-span ws d i e = on (span ws d i) (is-chosen i (chosen ws d) e)

pub span-inside : (ws : List ℕ) (d i : ℕ) → Span ws d i → i < length ws
unfolding total
span-inside [] d zero h = absurd (omega arith)
span-inside [] d (suc i) h = absurd (omega arith)
span-inside (w ∷ ws) d zero h = omega arith
span-inside (w ∷ ws) d (suc i) h = let l = span-inside ws (d - w) i (omega arith, omega arith) in omega arith

-- the function chooses the first entry whose running sum exceeds the draw
pub chooses-first : (ws : List ℕ) (d i : ℕ) → (chosen ws d ≡ some i) ↔ First ws d i
unfolding running total
chooses-first ws d i = (
  λ e. let h = chosen-span ws d i e in
      record { inside = span-inside ws d i h; exceeds = omega (arith, up_next ws i); none_before = λ k l. omega (arith, up_more ws (suc k) i l) },
  λ f. span-chosen ws d i (low i f, omega (arith, up_next ws i, f.exceeds)),
)
  where
    low : (j : ℕ) → First ws d j → up_to ws j ≤ d
    low zero f = omega arith
    low (suc j) f = f.none_before j (omega arith)

-- every draw below the total chooses an entry
pub some-chosen : (ws : List ℕ) (d : ℕ) → d < total ws → (i : ℕ) × (chosen ws d ≡ some i)
unfolding chosen total
some-chosen [] d l = absurd (omega arith)
some-chosen (w ∷ ws) d l = go (some-chosen ws (d - w)) (ltb d w) refl
  where
    go : (d - w < total ws → (i : ℕ) × (chosen ws (d - w) ≡ some i)) → (b : Bool) → ltb d w ≡ b → (i : ℕ) × (cond b (some 0) (map suc (chosen ws (d - w))) ≡ some i)
    go f true e = (0, refl)
    go f false e = let r = f (omega (arith, ltb-false d w e)) in (suc r.0, ap (map suc) r.1)

-- and no other does
pub none-chosen : (ws : List ℕ) (d : ℕ) → total ws ≤ d → chosen ws d ≡ none
unfolding chosen total
none-chosen [] d l = refl
none-chosen (w ∷ ws) d l = rw (le-ltb d w (omega arith), none-chosen ws (d - w) (omega arith))
