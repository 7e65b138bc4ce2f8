-- A state has one listing: a list that ascends is told by its members, and the function's list is one that 01 describes, by the theorems on rules.
use mathlib.Core.Path.{◌≡◌, refl, sym, ap₂, ◌∙◌}
use mathlib.Core.List.Memᴰ
use mathlib.Core.List.{List, [], ◌∷◌, Memᴰ as In}
use mathlib.Core.Logic.{⊎_elim}
use mathlib.Core.Option.{some}
use Prim.Native.Nat.{ℕ, ◌<◌}
use native.Mathlib.Omega.{arith}
use lib.ListN.{length, length-map}
use Rattle.value.proofs.Kit.{true-not-false}
use Rattle.model.specs.Resolved
use Rattle.rules.specs.Order.{Ascending}
use Rattle.rules.specs.Rules.{Nth}
use Rattle.rules.specs.Listing.{Entry, entry, key_of, weight_of, rank, entries, Earlier}
use Rattle.rules.specs.Draw.{weights, total, chosen, is_chosen, count}
use Rattle.rules.proofs.Less.{less-irreflexive, less-trans}
use Rattle.rules.proofs.Listed.{listed}
use Rattle.rules.proofs.Ascends.{ascending}
use Rattle.rules.proofs.Once.{once}
use Rattle.rules.proofs.Chosen.{some-chosen, chooses-first}
use Rattle.rules.proofs.Draws.{draws, nth-weight}
use Rattle.machine.specs.Offer.{branches}
use Rattle.machine.specs.State.{State}
use Rattle.machine.specs.Questions.{IsListing}
use Rattle.machine.proofs.Branches.{nth-below}

-- ---- a strict order
never : (d : Entry) → Earlier d d → ⊥
never d l = true-not-false (sym l ∙ less-irreflexive (rank (key_of d)))

not-both : (d e : Entry) → Earlier d e → Earlier e d → ⊥
not-both d e l h = never d (less-trans (rank (key_of d)) (rank (key_of e)) (rank (key_of d)) l h)

-- ---- lists that ascend and have the same members are equal
same_head : {x y : Entry} {xs ys : List Entry} → Ascending Earlier (x ∷ xs) → Ascending Earlier (y ∷ ys) → In x (y ∷ ys) → In y (x ∷ xs) → x ≡ y
unfolding Ascending
same_head {x} {y} a b h g =
    ⊎_elim (λ e. e) (λ i. ⊎_elim sym (λ j. absurd (not-both x y (a.0 y j) (b.0 x i))) (Memᴰ.cases_cons g)) (Memᴰ.cases_cons h)

-- a member of the rest of one list is a member of the rest of the other
behind : {x y z : Entry} {xs ys : List Entry} → x ≡ y → Ascending Earlier (x ∷ xs) → In z xs → In z (y ∷ ys) → In z ys
unfolding Ascending
behind {x} {y} {z} e a h g = ⊎_elim (λ q. let r : z ≡ x = q ∙ sym e in absurd (never x (rw r at (a.0 z h)))) (λ i. i) (Memᴰ.cases_cons g)

pub same-members : (xs ys : List Entry) → Ascending Earlier xs → Ascending Earlier ys → ((e : Entry) → In e xs → In e ys) → ((e : Entry) → In e ys → In e xs) → xs ≡ ys
unfolding Ascending
same-members [] [] a b f g = refl
same-members [] (y ∷ ys) a b f g = absurd (Memᴰ.not-nil (g y (In.head refl)))
same-members (x ∷ xs) [] a b f g = absurd (Memᴰ.not-nil (f x (In.head refl)))
same-members (x ∷ xs) (y ∷ ys) a b f g =
    let e = same_head a b (f x (In.head refl)) (g y (In.head refl)) in
    ap₂ (λ (d : Entry) (ds : List Entry). d ∷ ds) e
    (same-members xs ys a.1 b.1 (λ z i. behind e a i (f z (In.tail i))) (λ z i. behind (sym e) b i (g z (In.tail i))))

module _ (m : Resolved.Model) (s : State) where
  -- the function's list is the one that 01 describes
  pub entries-listing : IsListing m s (entries (branches m) s)
  entries-listing = record { derivable = listed (branches m) s; ascending = ascending (branches m) s }

  -- and it is the only one
  pub one-listing : (es : List Entry) → IsListing m s es → es ≡ entries (branches m) s
  one-listing es h = same-members es (entries (branches m) s) h.ascending (ascending (branches m) s) over back
    where
      over : (e : Entry) → In e es → In e (entries (branches m) s)
      over (entry k w) i = (listed (branches m) s k w).1 ((h.derivable k w).0 i)

      back : (e : Entry) → In e (entries (branches m) s) → In e es
      back (entry k w) i = (h.derivable k w).1 ((listed (branches m) s k w).0 i)

  -- ---- what a listing is like
  module _ (es : List Entry) (h : IsListing m s es) where
    -- no key stands twice
    pub no-key-twice : {i j : ℕ} {d e : Entry} → Nth es i d → Nth es j e → key_of d ≡ key_of e → i ≡ j
    no-key-twice f g q = let l = one-listing es h in once (branches m) s (rw l at f) (rw l at g) q

    -- each draw below the total chooses an entry
    pub draw-chooses : (d : ℕ) → d < total (weights es) → (i : ℕ) × (e : Entry) × (chosen (weights es) d ≡ some i) × Nth es i e
    unfolding weights
    draw-chooses d l =
        let c = some-chosen (weights es) d l in
        let n : c.0 < length es = omega (arith, ((chooses-first (weights es) d c.0).0 c.1).inside, length-map es weight_of) in
        let r = nth-below es c.0 n in
        (c.0, r.0, c.1, r.1)

    -- as many draws below the total choose an entry as its weight says
    pub draws-weigh : {i : ℕ} {e : Entry} → Nth es i e → count (λ d. is_chosen i (chosen (weights es) d)) (total (weights es)) ≡ weight_of e
    draws-weigh f = draws (weights es) _ ∙ nth-weight f
