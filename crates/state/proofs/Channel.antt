-- The places between the two rows of a channel are those of the pairs on that channel: from the order of the rows, by cases of two channels.
use mathlib.Core.Path.{◌≡◌, refl, sym, ap, ◌∙◌}
use mathlib.Core.Bool.{Bool, true, false, cond}
use mathlib.Core.List.{List, [], ◌∷◌, map}
use mathlib.Core.Logic.{◌↔◌}
use mathlib.Core.Option.{some}
use Prim.Native.Nat.{ℕ, zero, suc, ◌≤◌, ◌<◌}
use native.Mathlib.Omega.{arith}
use borrow.Author.Tests.{lt-ltb}
use lib.IntN.{ℤ, pos}
use lib.ListN.{length, get_or, get_elem?, length-map}
use Rattle.value.proofs.Kit.{true-not-false}
use Rattle.rules.specs.Offers as offers
use Rattle.rules.specs.Order.{less, Ascending}
use Rattle.rules.specs.Pairs.{channel_numbers, Before}
use Rattle.rules.proofs.Channels.{one-channel, between}
use Rattle.rules.proofs.Less.{less-irreflexive, less-trans, less-first}
use Rattle.model.specs.Good.{Every}
use Rattle.machine.specs.State.{padded, pair_numbers}
use Rattle.machine.proofs.Branches.{get_nth}
use Rattle.machine.proofs.Everys.{every-nth}
use Rattle.state.specs.Fits.{FitsPair}
use Rattle.state.specs.Test.{place_of}
use Rattle.state.proofs.Entries.{pair-shape, get-is}
use Rattle.state.proofs.Climbs.{climbing}
use Rattle.state.proofs.Places.{place-more, place-less, place-bound}

-- ---- the order of rows
less-back : (u v : List ℤ) → less u v ≡ true → less v u ≡ false
less-back u v e = go (less v u) refl
  where
    go : (t : Bool) → less v u ≡ t → t ≡ false
    go true f = true-not-false (sym (less-trans u v u e f) ∙ less-irreflexive u)
    go false f = refl

pub place_mono : (u v : List ℤ) (rs : List (List ℤ)) → less u v ≡ true → place_of u rs ≤ place_of v rs
unfolding place_of
place_mono u v [] e = omega arith
place_mono u v (r ∷ rs) e = go (less r u) refl (place_mono u v rs e)
  where
    go : (t : Bool) → less r u ≡ t → place_of u rs ≤ place_of v rs → cond t (suc (place_of u rs)) 0 ≤ cond (less r v) (suc (place_of v rs)) 0
    go true f h = rw (less-trans r u v f e) (omega arith)
    go false f h = omega arith

-- ---- rows of two channels
fewer : (c : offers.Channel) (m n : ℕ) (u v : List ℤ) → m < n → less (channel_numbers c (pos m ∷ u)) (channel_numbers c (pos n ∷ v)) ≡ true
fewer c m n u v l = one-channel c (pos m ∷ u) (pos n ∷ v) (less-first (pos m) (pos n) u v (lt-ltb m n l))

-- ---- the run of a channel among pairs that ascend
-- a row of the channel with a count of values
abbrev pub row_on : offers.Channel → ℕ → List ℤ
row_on c k = channel_numbers c (pos k ∷ pos 0 ∷ pos 0 ∷ [])

get-map : {A B : Type 0} (f : A → B) (xs : List A) (i : ℕ) (d : B) (x : A) → get_elem? xs i ≡ some x → get_or (map f xs) i d ≡ f x
get-map f [] i d x e = let z : ◌≡◌ {A = ℕ} 0 1 = cc in absurd (omega arith)
get-map f (y ∷ xs) zero d x e = cc
get-map f (y ∷ xs) (suc i) d x e = get-map f xs i d x e

module _ (c : offers.Channel) (channels : ℕ) (L : List offers.Pair) (fits : Every (FitsPair channels) L) (up : Ascending Before L) where
  abbrev rs : List (List ℤ)
  rs = map pair_numbers L

  pub run-bound : (place_of (row_on c 0) rs ≤ place_of (row_on c 3) rs) × (place_of (row_on c 3) rs ≤ length L)
  run-bound = (place_mono (row_on c 0) (row_on c 3) rs (fewer c 0 3 _ _ (omega arith)), omega (arith, place-bound (row_on c 3) rs, length-map L pair_numbers))

  module _ (q : ℕ) (x : offers.Pair) (at : get_elem? L q ≡ some x) where
    inside : q < length rs
    inside = omega (arith, (get-is L q x x at).0, length-map L pair_numbers)

    row_is : get_or rs q [] ≡ channel_numbers x.channel (pos (length x.values) ∷ padded 2 x.values)
    row_is = get-map pair_numbers L q [] x at ∙ pair-shape x

    -- the test of a row by its place
    before-is : (row : List ℤ) → place_of row rs ≤ q → less (get_or rs q []) row ≡ false
    before-is row h = go (less (get_or rs q []) row) refl
      where
        go : (t : Bool) → less (get_or rs q []) row ≡ t → t ≡ false
        go true e = absurd (omega (arith, place-more row rs q (climbing L up) inside e))
        go false e = refl

    after_is : (row : List ℤ) → q < place_of row rs → less (get_or rs q []) row ≡ true
    after_is row h = go (less (get_or rs q []) row) refl
      where
        go : (t : Bool) → less (get_or rs q []) row ≡ t → t ≡ true
        go true e = refl
        go false e = absurd (omega (arith, place-less row rs q inside e))

    -- 01, Transitions: the pairs on a channel, and no others, stand in its run
    pub run-exact : ((place_of (row_on c 0) rs ≤ q) × (q < place_of (row_on c 3) rs)) ↔ (x.channel ≡ c)
    run-exact = (forth, back)
      where
        forth : (place_of (row_on c 0) rs ≤ q) × (q < place_of (row_on c 3) rs) → x.channel ≡ c
        forth h = between c x.channel _ _ _ (rw row_is at (before-is (row_on c 0) h.0)) (rw row_is at (after_is (row_on c 3) h.1))

        back : x.channel ≡ c → (place_of (row_on c 0) rs ≤ q) × (q < place_of (row_on c 3) rs)
        back e =
            let n : ℕ = length x.values in
            let f = every-nth (FitsPair channels) fits (get_nth L q at) in
            let r : get_or rs q [] ≡ channel_numbers c (pos n ∷ padded 2 x.values) = row_is ∙ ap (λ (d : offers.Channel). channel_numbers d (pos n ∷ padded 2 x.values)) e in (
              place-less (row_on c 0) rs q inside (ap (λ (l : List ℤ). less l (row_on c 0)) r ∙ less-back (row_on c 0) _ (fewer c 0 n _ _ (omega (arith, f.number.one)))),
              place-more (row_on c 3) rs q (climbing L up) inside (ap (λ (l : List ℤ). less l (row_on c 3)) r ∙ fewer c n 3 _ _ (omega (arith, f.number.two))),
            )
