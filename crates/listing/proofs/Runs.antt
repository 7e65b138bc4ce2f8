-- Receives and checks look only at the run of their channel: outside it no pair matches. By cases of where a pair stands.
use Prim.Native.Nat.{ℕ, zero, suc, ◌+◌, ◌≤◌, ◌<◌}
use mathlib.Core.Path.{◌≡◌, refl, sym, ap, ◌∙◌}
use mathlib.Core.Bool.{Bool, true, false, ◌&&◌, ◌||◌}
use mathlib.Core.List.{List, [], ◌∷◌, ◌++◌}
use mathlib.Core.Logic.{◌⊎◌, inl, inr}
use mathlib.Core.Option.{Option, none, some, Option-elim}
use native.Mathlib.Omega.{arith}
use borrow.Author.Tests.{ltb-true, ltb-false}
use lib.Dec.{ltb}
use lib.ListN.{length, get_elem?}
use Rattle.rules.specs.Offers as offers
use Rattle.rules.specs.Rules.{key, rate_weight}
use Rattle.rules.specs.Kind as kind
use Rattle.rules.specs.Listing.{entry, gather, when, same_channel, all_within, matches, any_match}
use Rattle.machine.proofs.Branches.{none-not-some}
use Rattle.offers.specs.Slots.{at_number, up_to}
use Rattle.offers.proofs.Numbered.{up_none, up_one, up-skip, at_some, gather-up}
use Rattle.listing.specs.Ready.{RunIs, bound_at}
use Rattle.listing.proofs.Matching.{same-is, is_same_lem}

-- ---- one pair
pub matches-on : (w : offers.Query) (x : offers.Pair) → x.channel ≡ w.channel → matches w x ≡ all_within w.sets x.values
unfolding matches
matches-on w x e = rw e (rw (is_same_lem w.channel))

pub matches-off : (w : offers.Query) (x : offers.Pair) → (x.channel ≡ w.channel → ⊥) → matches w x ≡ false
unfolding matches
matches-off w x n = go (same_channel w.channel x.channel) refl
  where
    go : (p : Bool) → same_channel w.channel x.channel ≡ p → same_channel w.channel x.channel && all_within w.sets x.values ≡ false
    go true e = absurd (n (sym (same-is w.channel x.channel e)))
    go false e = rw e

-- ---- any pair
or-true : (p : Bool) → p || true ≡ true
or-true true = refl
or-true false = refl

pub any_at : (w : offers.Query) (xs : List offers.Pair) (q : ℕ) (x : offers.Pair) → get_elem? xs q ≡ some x → matches w x ≡ true → any_match w xs ≡ true
unfolding any_match
any_at w [] q x e h = none-not-some none x refl e
any_at w (y ∷ xs) zero x e h = let z : y ≡ x = cc in rw z (rw h)
any_at w (y ∷ xs) (suc q) x e h = rw (any_at w xs q x e h) (or-true (matches w y))

pub any_none : (w : offers.Query) (xs : List offers.Pair) → ((q : ℕ) (x : offers.Pair) → get_elem? xs q ≡ some x → matches w x ≡ false) → any_match w xs ≡ false
unfolding any_match
any_none w [] f = refl
any_none w (y ∷ xs) f = rw (f zero y refl) (any_none w xs (λ q x e. f (suc q) x e))

-- ---- a run
module _ (w : offers.Query) (xs : List offers.Pair) (from to : ℕ) (run : RunIs xs w from to) where
  pub run_on : (q : ℕ) (x : offers.Pair) → get_elem? xs q ≡ some x → from ≤ q → q < to → matches w x ≡ all_within w.sets x.values
  run_on q x e l m = matches-on w x (run.on q x e l m)

  pub run-off : (q : ℕ) (x : offers.Pair) → get_elem? xs q ≡ some x → (q < from) ⊎ (to ≤ q) → matches w x ≡ false
  run-off q x e h = run.off q x e h

  -- no pair before q matches, and there is none from the run's end on
  pub run_none : (q : ℕ) → to ≤ q → ((k : ℕ) (x : offers.Pair) → get_elem? xs k ≡ some x → k < q → matches w x ≡ false) → any_match w xs ≡ false
  run_none q l f = any_none w xs (λ k x e. go k x e (ltb k q) refl)
    where
      go : (k : ℕ) (x : offers.Pair) → get_elem? xs k ≡ some x → (p : Bool) → ltb k q ≡ p → matches w x ≡ false
      go k x e true h = f k x e (ltb-true k q h)
      go k x e false h = let m = ltb-false k q h in run-off k x e (inr (omega arith))

  -- one more does not match
  pub run_more : (q : ℕ) (y : offers.Pair) → get_elem? xs q ≡ some y → matches w y ≡ false → ((k : ℕ) (x : offers.Pair) → get_elem? xs k ≡ some x → k < q → matches w x ≡ false)
      → (k : ℕ) (x : offers.Pair) → get_elem? xs k ≡ some x → k < q + 1 → matches w x ≡ false
  run_more q y ey h f k x e l = go (ltb k q) refl
    where
      go : (p : Bool) → ltb k q ≡ p → matches w x ≡ false
      go true t = f k x e (ltb-true k q t)
      go false t =
          let z : k ≡ q = omega (arith, ltb-false k q t) in
          let u : some x ≡ some y = sym e ∙ ap (get_elem? xs) z ∙ ey in
          let v : x ≡ y = cc in rw v h

  -- ---- receives with names
  module _ (i j r : ℕ) where
    bound-off : (q : ℕ) → (q < from) ⊎ (to ≤ q) → at_number (bound_at w i j r) xs q ≡ []
    unfolding at_number bound_at Option-elim when
    bound-off q h = go (get_elem? xs q) refl
      where
        go : (o : Option offers.Pair) → get_elem? xs q ≡ o → Option-elim o [] (bound_at w i j r q) ≡ []
        go none e = refl
        go (some x) e = rw (run-off q x e h)

    pub bound-start : up_to (at_number (bound_at w i j r) xs) from ≡ []
    bound-start = up-skip (at_number (bound_at w i j r) xs) 0 from (omega arith) (λ q l m. bound-off q (inl m)) ∙ up_none (at_number (bound_at w i j r) xs)

    pub bound-next : (q : ℕ) (x : offers.Pair) → get_elem? xs q ≡ some x → up_to (at_number (bound_at w i j r) xs) (q + 1) ≡ up_to (at_number (bound_at w i j r) xs) q ++ bound_at w i j r q x
    bound-next q x e = up_one (at_number (bound_at w i j r) xs) q ∙ ap (λ t. up_to (at_number (bound_at w i j r) xs) q ++ t) (at_some (bound_at w i j r) xs q e)

    pub bound-end : (q : ℕ) → to ≤ q → q ≤ to → up_to (at_number (bound_at w i j r) xs) q ≡ gather (bound_at w i j r) xs
    bound-end q l m =
        sym (gather-up (bound_at w i j r) xs ∙ up-skip (at_number (bound_at w i j r) xs) q (length xs) (omega (arith, run.high)) (λ k a b. bound-off k (inr (omega arith))))

pub bound-yes : (w : offers.Query) (i j r q : ℕ) (x : offers.Pair) → matches w x ≡ true → bound_at w i j r q x ≡ entry (key kind.bind i j 0 0 q) (rate_weight r) ∷ []
unfolding bound_at when
bound-yes w i j r q x e = rw e

pub bound-no : (w : offers.Query) (i j r q : ℕ) (x : offers.Pair) → matches w x ≡ false → bound_at w i j r q x ≡ []
unfolding bound_at when
bound-no w i j r q x e = rw e
