-- 19 is answered only where 256 pairs are lit and another is launched: not for a pair already lit, nor once a kill has freed a place. From how launch and kill count.
use mathlib.Core.Path.{◌≡◌, refl, ap}
use mathlib.Core.List.{List, [], ◌∷◌, Memᴰ as In}
use mathlib.Core.Bool.{Bool, true, false, cond}
use Prim.Native.Nat.{ℕ, ◌≤◌, ◌<◌}
use native.Mathlib.Omega.{arith}
use lib.ListN.{length}
use Rattle.model.specs.Resolved
use Rattle.rules.specs.Offers as offers
use Rattle.rules.specs.Order.{Ascending}
use Rattle.rules.specs.Rules.{Change, unchanged, launched, killed}
use Rattle.rules.specs.Listing.{Entry}
use Rattle.rules.specs.Pairs.{Before, before, remove, pairs_after}
use Rattle.rules.proofs.Launched.{launch-lit, launch-counts}
use Rattle.machine.specs.Offer.{Process}
use Rattle.machine.specs.State.{State, pair_limit}
use Rattle.machine.specs.Machine.{drawn}
use Rattle.machine.specs.Questions.{IsListing, Ready}
use Rattle.machine.proofs.Stepping.{refused19}

-- a kill lights nothing
pub no_longer : (x : offers.Pair) (L : List offers.Pair) → length (remove x L) ≤ length L
unfolding remove
no_longer x [] = omega arith
no_longer x (y ∷ ys) = go (before x y) (before y x) (no_longer x ys)
  where
    go : (a b : Bool) → length (remove x ys) ≤ length ys → length (cond a (y ∷ ys) (cond b (y ∷ remove x ys) ys)) ≤ length (y ∷ ys)
    go true b l = omega arith
    go false true l = omega arith
    go false false l = omega arith

-- more pairs than there is room for: an unlit one is launched while all places are taken
pub record Overfull (L : List offers.Pair) (n : Change) : Type 0 where
  pub pair : offers.Pair
  pub launches : n ≡ launched pair
  pub unlit : In pair L → ⊥
  pub full : length L ≡ pair_limit

pub overfull : (L : List offers.Pair) → Ascending Before L → length L ≤ pair_limit → (n : Change) → pair_limit < length (pairs_after n L) → Overfull L n
unfolding pairs_after
overfull L a l unchanged g = absurd (omega arith)
overfull L a l (launched x) g =
    let d : In x L → ⊥ = λ i. let e = ap length (launch-lit x L a i) in omega arith in
    record { pair = x; launches = refl; unlit = d; full = omega (arith, (launch-counts x L a).1 d) }
overfull L a l (killed x) g = absurd (omega (arith, no_longer x L))

module _ (m : Resolved.Model) (s : State) (es : List Entry) (h : IsListing m s es) (d : ℕ) (a : Ascending Before s.pairs) (l : length s.pairs ≤ pair_limit) where
  -- what the chosen entry of a step that is answered with 19 would launch
  pub nineteen : (drawn m s es d).answer.number ≡ 19 → (c : ℕ) × (n : Change) × (ps : List Process) × Ready m s es d c n ps × Overfull s.pairs n
  nineteen e = let r = (refused19 m s es h d).0 e in (r.0, r.1, r.2, r.3, overfull s.pairs a l r.1 r.4.1)

  -- while a place is free, no step is answered with 19
  pub not-nineteen : length s.pairs < pair_limit → (drawn m s es d).answer.number ≡ 19 → ⊥
  not-nineteen f e = omega (arith, (nineteen e).4.full)
