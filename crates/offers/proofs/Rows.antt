-- One row more in the table of offers: it reads back as it was written, and the rows before it stay. From the laws of lists with one member replaced.
use Prim.Native.Nat.{ℕ, zero, suc, ◌+◌, ◌*◌, ◌<◌}
use mathlib.Core.Path.{◌≡◌, refl, ap, ◌∙◌}
use mathlib.Core.List.{List, [], ◌∷◌, ◌++◌}
use mathlib.Core.Option.{none, some}
use mathlib.Core.Logic.{◌⊎◌, inl, inr, ⊎_elim}
use native.Mathlib.Omega.{arith}
use lib.IntN.{ℤ}
use lib.ListN.{length, get_elem?, set, take}
use Rattle.std.proofs.lemmas.List.{get_or-take}
use lib.Seq.{get_or-set_same, get_or-set_other}
use Rattle.model.proofs.Members.{got-below}
use Rattle.machine.proofs.Branches.{none-not-some}
use Rattle.rules.specs.Offers as rules
use Rattle.eval.specs.declared.offer.Offer.{Offer}
use Rattle.eval.specs.Shown.{ShowsAction}
use Rattle.offers.specs.Head.{head}
use Rattle.offers.specs.Slots.{Slot}
use Rattle.offers.specs.declared.row.Row.{Row}
use Rattle.offers.specs.Table.{offer_in, row_of, Small, Shown, Holds}
use Rattle.offers.specs.Links.{row_at}
use Rattle.offers.proofs.Head.{head-kind, head-shape, head-count, head-branch, head-place, head-rate}

-- a member of a list with one more
get-append : {A : Type 0} (xs : List A) (x : A) (k : ℕ) {y : A} → get_elem? (xs ++ (x ∷ [])) k ≡ some y → ((k < length xs) × (get_elem? xs k ≡ some y)) ⊎ ((k ≡ length xs) × (x ≡ y))
get-append [] x zero {y} e = let q : x ≡ y = cc in inr (refl, q)
get-append [] x (suc k) e = none-not-some none _ refl e
get-append (z ∷ xs) x zero e = inl (omega arith, e)
get-append (z ∷ xs) x (suc k) e =
    ⊎_elim (λ h. inl (omega (arith, h.0), h.1)) (λ h. inr (ap suc h.0, h.1)) (get-append xs x k e)

module _ (rs : List Row) (n i j : ℕ) (r : Offer) (small : Small r) (pi : i < 256) (pj : j < 16) (room : n < length rs) where
  abbrev rs' : List Row
  rs' = set rs n (row_of i j r)

  here : row_at rs' n ≡ row_of i j r
  here = get_or-set_same rs n (row_of i j r) _ room

  -- the row reads back
  read_back : offer_in (row_of i j r) ≡ r
  unfolding offer_in row_of
  read_back =
      rw (
        head-kind r.kind r.channel.shape r.list.count j i r.rate small.kind small.channel small.count pj pi,
        head-shape r.kind r.channel.shape r.list.count j i r.rate small.kind small.channel small.count pj pi,
        head-count r.kind r.channel.shape r.list.count j i r.rate small.kind small.channel small.count pj pi,
        head-rate r.kind r.channel.shape r.list.count j i r.rate small.kind small.channel small.count pj pi,
      )

  pub holds_more : (t : List ℕ) (ls : ℕ → List ℤ) (xs : List Slot) (a : rules.Action) → length xs ≡ n → Holds t ls rs xs → ShowsAction t (ls i) r a
      → Holds t ls rs' (xs ++ (record { place = i; branch = j; action = a; rate = r.rate } ∷ []))
  unfolding row_of
  holds_more t ls xs a len h sh = record { shown = λ k y e. ⊎_elim (λ q. before k y q.0 q.1) (λ q. last k y q.0 q.1) (get-append xs x k e) }
    where
      x : Slot
      x = record { place = i; branch = j; action = a; rate = r.rate }

      before : (k : ℕ) (y : Slot) → k < length xs → get_elem? xs k ≡ some y → Shown t ls (row_at rs' k) y
      before k y l e = rw (get_or-set_other rs n k (row_of i j r) _ (λ q. omega arith)) (h.shown k y e)

      new : Shown t ls (row_of i j r) (record { place = i; branch = j; action = a; rate = r.rate })
      new =
          record {
            place_is = head-place r.kind r.channel.shape r.list.count j i r.rate small.kind small.channel small.count pj pi;
            branch-is = head-branch r.kind r.channel.shape r.list.count j i r.rate small.kind small.channel small.count pj pi;
            rate-is = head-rate r.kind r.channel.shape r.list.count j i r.rate small.kind small.channel small.count pj pi;
            rate-fits = small.rate;
            shows = rw read_back sh;
          }

      last : (k : ℕ) (y : Slot) → k ≡ length xs → record { place = i; branch = j; action = a; rate = r.rate } ≡ y → Shown t ls (row_at rs' k) y
      last k y e q = let z : k ≡ n = e ∙ len in rw z (rw here (rw (← q) new))

-- the first rows alone
pub holds-first : (t : List ℕ) (ls : ℕ → List ℤ) (rs : List Row) (n : ℕ) (xs : List Slot) → n ≡ length xs → Holds t ls rs xs → Holds t ls (take n rs) xs
holds-first t ls rs n xs l h = record { shown = λ k x e. rw (get_or-take n rs k _ (omega (arith, got-below xs k e))) (h.shown k x e) }

pub head-is : (kind shape count j i rate : ℕ) → kind + 64 * (shape + 32 * count) + 8192 * (j + 16 * (i + 256 * rate)) ≡ head kind shape count j i rate
unfolding head
head-is kind shape count j i rate = omega arith
