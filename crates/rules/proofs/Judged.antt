-- The test of two entries says yes exactly of independent ones (02, note 14): each test that it joins decides its part.
use Prim.Native.Nat.{ℕ, ◌<◌}
use mathlib.Core.Path.{◌≡◌, refl, subst}
use mathlib.Core.Bool.{Bool, true, false, not}
use mathlib.Core.List.Memᴰ
use mathlib.Core.List.{List, [], ◌∷◌, Memᴰ as In}
use mathlib.Core.Logic.{◌↔◌, inl, inr, ⊎_elim}
use native.Mathlib.Omega.{arith}
use borrow.Author.Tests.{ltb-true, ltb-false}
use lib.Dec.{ltb}
use Rattle.rules.specs.Kind as kind
use Rattle.rules.specs.Rules.{Key, key}
use Rattle.rules.specs.Listing.{Entry, key_of, weight_of}
use Rattle.rules.specs.Carried.{places, Apart, Quiet}
use Rattle.rules.specs.Independent.{Independent, is_one_of, meet, is_quiet, is_movable, is_independent}
use Rattle.rules.proofs.Decides.{Decides, holds, fails, on, passes, both, either, along, equal}

denied : {P : Type 0} {a : Bool} → Decides P a → Decides (P → ⊥) (not a)
denied (holds p) = fails (λ f. f p)
denied (fails p) = holds p

above : (w : ℕ) → Decides (0 < w) (ltb 0 w)
above w = go (ltb 0 w) refl
  where
    go : (b : Bool) → ltb 0 w ≡ b → Decides (0 < w) b
    go true e = holds (ltb-true 0 w e)
    go false e = fails (λ h. omega (arith, ltb-false 0 w e))

-- ---- places
one_of : (n : ℕ) (is : List ℕ) → Decides (In n is) (is_one_of n is)
unfolding is_one_of
one_of n [] = fails (λ h. Memᴰ.not-nil h)
one_of n (i ∷ is) = along (⊎_elim (λ e. In.head e) (λ h. In.tail h)) (λ h. Memᴰ.cases_cons h) (either (equal n i) (one_of n is))

meeting : (is js : List ℕ) → Decides ((n : ℕ) × In n is × In n js) (meet is js)
unfolding meet
meeting [] js = fails (λ h. Memᴰ.not-nil h.1)
meeting (i ∷ is) js =
    along (⊎_elim (λ h. (i, In.head refl, h)) (λ h. (h.0, In.tail h.1, h.2)))
    (λ h. ⊎_elim (λ e. inl (subst (λ (n : ℕ). In n js) e h.2)) (λ g. inr (h.0, g, h.2)) (Memᴰ.cases_cons h.1))
    (either (one_of i js) (meeting is js))

apart : (k l : Key) → Decides (Apart k l) (not (meet (places k) (places l)))
apart k l = along (λ f. record { none-shared = λ n g h. f (n, g, h) }) (λ d h. d.none-shared h.0 h.1 h.2) (denied (meeting (places k) (places l)))

-- ---- entries
quiet : (k : Key) → Decides (Quiet k) (is_quiet k)
unfolding Quiet is_quiet
quiet (key c i j k m q) = both (denied (equal c kind.launch)) (denied (equal c kind.kill))

movable : (e : Entry) → Decides ((0 < weight_of e) × Quiet (key_of e)) (is_movable e)
unfolding is_movable
movable e = both (above (weight_of e)) (quiet (key_of e))

independent : (e f : Entry) → Decides (Independent e f) (is_independent e f)
unfolding is_independent
independent e f =
    along (λ h. record { above = (h.0.0.0, h.0.1.0); apart = h.1; quiet = (h.0.0.1, h.0.1.1) })
    (λ h. (((h.above.0, h.quiet.0), (h.above.1, h.quiet.1)), h.apart))
    (both (both (movable e) (movable f)) (apart (key_of e) (key_of f)))

-- 02, note 14: whether two entries are independent, exactly
pub independent-exactly : (e f : Entry) → (is_independent e f ≡ true) ↔ Independent e f
independent-exactly e f = (on (independent e f), passes (independent e f))
