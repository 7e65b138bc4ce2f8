-- Of the draws below the total, as many choose an entry as its weight says: the count of numbers in a span, and the span of each entry.
use Prim.Native.Nat.{ℕ, zero, suc, ◌+◌, ◌-◌, ◌≤◌, ◌<◌, min}
use mathlib.Core.Path.{◌≡◌, refl, ◌∙◌}
use mathlib.Core.Bool.{Bool, true, false, cond}
use mathlib.Core.List.{List}
use mathlib.Core.Logic.{◌⊎◌, inl, inr, ⊎_elim}
use mathlib.Core.Option.{some}
use native.Mathlib.Omega.{arith}
use borrow.Author.Tests.{ltb-true, ltb-false}
use lib.Dec.{ltb}
use lib.ListN.{get_or}
use Rattle.rules.specs.Offers.{Branch, State}
use Rattle.rules.specs.Rules.{Nth, first, later}
use Rattle.rules.specs.Listing.{Entry, weight_of, entries}
use Rattle.rules.specs.Draw.{weights, total, chosen, is_chosen, count}
use Rattle.rules.proofs.Decides.{Decides, holds, fails}
use Rattle.rules.proofs.Chosen.{up_to, up-total, span, span-chosen, chosen-span}

outside : (a n w : ℕ) → ((a ≤ n) × (n < a + w) → ⊥) → (n < a) ⊎ (a + w ≤ n)
outside a n w h = go (ltb n a) refl (ltb n (a + w)) refl
  where
    go : (b : Bool) → ltb n a ≡ b → (b' : Bool) → ltb n (a + w) ≡ b' → (n < a) ⊎ (a + w ≤ n)
    go true e b' e' = inl (ltb-true n a e)
    go false e true e' = absurd (h (ltb-false n a e, ltb-true n (a + w) e'))
    go false e false e' = inr (ltb-false n (a + w) e')

count-span : (p : ℕ → Bool) (a w : ℕ) → ((d : ℕ) → Decides ((a ≤ d) × (d < a + w)) (p d)) → (n : ℕ) → count p n ≡ min n (a + w) - min n a
unfolding count
count-span p a w h zero = omega arith
count-span p a w h (suc n) = go (h n) (count-span p a w h n)
  where
    go : {b : Bool} → Decides ((a ≤ n) × (n < a + w)) b → count p n ≡ min n (a + w) - min n a → cond b 1 0 + count p n ≡ min (suc n) (a + w) - min (suc n) a
    go (holds r) e = omega arith
    go (fails r) e = ⊎_elim (λ l. omega arith) (λ l. omega arith) (outside a n w r)

-- of the draws below the total, as many choose entry i as its weight says
pub draws : (ws : List ℕ) (i : ℕ) → count (λ d. is_chosen i (chosen ws d)) (total ws) ≡ get_or ws i 0
draws ws i = omega (arith, count-span (λ d. is_chosen i (chosen ws d)) (up_to ws i) (get_or ws i 0) (λ d. span ws d i) (total ws), up-total ws i)

pub nth-weight : {es : List Entry} {i : ℕ} {e : Entry} → Nth es i e → get_or (weights es) i 0 ≡ weight_of e
unfolding weights
nth-weight first = refl
nth-weight (later h) = nth-weight h

-- the same of an entry of a state's listing
pub entry-draws : {Proc : Type 0} (branches : Proc → List (Branch Proc)) (s : State Proc) {i : ℕ} {e : Entry}
    → Nth (entries branches s) i e → let ws = weights (entries branches s) in count (λ d. is_chosen i (chosen ws d)) (total ws) ≡ weight_of e
entry-draws branches s h = draws (weights (entries branches s)) _ ∙ nth-weight h

-- an entry above weight zero is chosen by some draw
pub above-drawn : {es : List Entry} {i : ℕ} {e : Entry} → Nth es i e → 0 < weight_of e → (d : ℕ) × (chosen (weights es) d ≡ some i)
above-drawn {es} {i} h a = let ws = weights es in (up_to ws i, span-chosen ws (up_to ws i) i (omega arith, omega (arith, nth-weight h)))

-- and an entry that a draw chooses is above weight zero
pub drawn-above : {es : List Entry} {i : ℕ} {e : Entry} (d : ℕ) → Nth es i e → chosen (weights es) d ≡ some i → 0 < weight_of e
drawn-above {es} {i} d h c = let s = chosen-span (weights es) d i c in omega (arith, s.0, s.1, nth-weight h)
