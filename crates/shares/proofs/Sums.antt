-- Subtotals of a listing that grows at its end, by an owner of its entries: one number changes. Entry by entry.
use mathlib.Core.Path.{◌≡◌, refl, sym, ap, ap₂, ◌∙◌}
use mathlib.Core.List.Memᴰ
use mathlib.Core.List.Memᴰ.{head}
use mathlib.Core.List.Memᴰ.{tail}
use mathlib.Core.List.{List, [], ◌∷◌, ◌++◌, Memᴰ as In}
use mathlib.Core.Bool.{Bool, true, false, cond}
use Prim.Native.Nat.{ℕ, zero, suc, ◌+◌, ◌-◌, ◌≤◌, ◌<◌}
use native.Mathlib.Omega.{arith}
use borrow.Author.Tests.{eqb-true, eqb-false, ne_eqb}
use lib.Dec.{eqb}
use lib.ListN.{length, get_or, set, take, replicate, length-set}
use lib.Seq.{ext_get_or, get_or-set_same, get_or-set_other}
use Rattle.rules.specs.Listing.{Entry, weight_of}
use Rattle.rules.specs.Draw.{weights, total}
use Rattle.rules.specs.Subtotals.{subtotal, subtotals}
use Rattle.rules.proofs.Subtotals.{as_many, nth-is}

module _ (owner : Entry → ℕ) where
  abbrev part : Entry → ℕ → ℕ
  part e d = cond (eqb (owner e) d) (weight_of e) 0

  part_small : (e : Entry) (d : ℕ) → part e d ≤ weight_of e
  part_small e d = by (eqb (owner e) d)
    where
      by : (b : Bool) → cond b (weight_of e) 0 ≤ weight_of e
      by true = omega arith
      by false = omega arith

  -- ---- one entry more
  at-end : (es : List Entry) (e : Entry) (d : ℕ) → subtotal owner (es ++ e ∷ []) d ≡ subtotal owner es d + part e d
  unfolding subtotal
  at-end [] e d = omega arith
  at-end (x ∷ es) e d = let h = at-end es e d in omega (arith, h)

  nth : (es : List Entry) (n i : ℕ) → i < n → get_or (subtotals owner es 0 n) i 0 ≡ subtotal owner es i
  nth es n i k = let z : 0 + i ≡ i = omega arith in nth-is owner es 0 n i k ∙ ap (subtotal owner es) z

  module _ (es : List Entry) (e : Entry) (n : ℕ) (l : owner e < n) where
    abbrev before : List ℕ
    before = subtotals owner es 0 n

    abbrev after : List ℕ
    after = subtotals owner (es ++ e ∷ []) 0 n

    abbrev changed : List ℕ
    changed = set before (owner e) (get_or before (owner e) 0 + weight_of e)

    long : length changed ≡ n
    long = length-set before (owner e) _ ∙ as_many owner es 0 n

    after-at : (i : ℕ) → i < n → get_or after i 0 ≡ subtotal owner es i + part e i
    after-at i k = nth (es ++ e ∷ []) n i k ∙ at-end es e i

    same : (i : ℕ) → i < n → get_or changed i 0 ≡ get_or after i 0
    same i k = by (eqb (owner e) i) refl
      where
        by : (b : Bool) → eqb (owner e) i ≡ b → get_or changed i 0 ≡ get_or after i 0
        by true q =
            let z : owner e ≡ i = eqb-true (owner e) i q in
            let a : get_or after i 0 ≡ subtotal owner es i + weight_of e = after-at i k ∙ rw q in
            let g = get_or-set_same before (owner e) (get_or before (owner e) 0 + weight_of e) 0 (omega (arith, as_many owner es 0 n)) in
            ap (λ (j : ℕ). get_or changed j 0) (sym z) ∙ g ∙ omega (arith, nth es n (owner e) l, ap (subtotal owner es) z, a)
        by false q =
            let z : owner e ≡ i → ⊥ = eqb-false (owner e) i q in
            let a : get_or after i 0 ≡ subtotal owner es i + 0 = after-at i k ∙ rw q in
            get_or-set_other before (owner e) i _ 0 (λ w. z (sym w)) ∙ omega (arith, nth es n i k, a)

    pub set_more : changed ≡ after
    set_more = ext_get_or 0 changed after (long ∙ sym (as_many owner (es ++ e ∷ []) 0 n)) (λ i k. same i (omega (arith, long)))

  -- ---- none passes the total
  sub-total : (es : List Entry) (d : ℕ) → subtotal owner es d ≤ total (weights es)
  unfolding subtotal total weights
  sub-total [] d = omega arith
  sub-total (e ∷ es) d = omega (arith, part_small e d, sub-total es d)

  front-total : (i : ℕ) (es : List Entry) → total (weights (take i es)) ≤ total (weights es)
  unfolding total weights
  front-total zero es = omega arith
  front-total (suc i) [] = omega arith
  front-total (suc i) (e ∷ es) = omega (arith, front-total i es)

  pub within : (i : ℕ) (es : List Entry) (d n : ℕ) → d < n → get_or (subtotals owner (take i es) 0 n) d 0 ≤ total (weights es)
  within i es d n l =
      omega (arith, nth (take i es) n d l, sub-total (take i es) d, front-total i es)

  -- ---- zeros for those that own nothing
  none_of : (es : List Entry) (d : ℕ) → ((e : Entry) → In e es → owner e < d) → subtotal owner es d ≡ 0
  unfolding subtotal
  none_of [] d h = refl
  none_of (e ∷ es) d h =
      let k = none_of es d (λ x i. h x (tail i)) in
      let l = h e (head refl) in
      rw (ne_eqb (owner e) d (λ q. omega (arith, l))) (omega (arith, k))

  zeros : (es : List Entry) (d n : ℕ) → ((e : Entry) → In e es → owner e < d) → subtotals owner es d n ≡ replicate n 0
  unfolding subtotals
  zeros es d zero h = refl
  zeros es d (suc n) h = ap₂ (λ (x : ℕ) (xs : List ℕ). x ∷ xs) (none_of es d h) (zeros es (suc d) n (λ e i. let l = h e i in omega (arith, l)))

  pub nothing_yet : (n : ℕ) → subtotals owner [] 0 n ≡ replicate n 0
  nothing_yet n = zeros [] 0 n none
    where
      none : (e : Entry) → In e [] → owner e < 0
      none e i = absurd (Memᴰ.not-nil i)

  ended : (es : List Entry) (d n j : ℕ) → ((e : Entry) → In e es → owner e < d + n) → subtotals owner es d (n + j) ≡ subtotals owner es d n ++ replicate j 0
  unfolding subtotals
  ended es d zero j h = let z : 0 + j ≡ j = omega arith in ap (subtotals owner es d) z ∙ zeros es d j (λ e i. let l = h e i in omega (arith, l))
  ended es d (suc n) j h =
      let z : suc n + j ≡ suc (n + j) = omega arith in
      ap (subtotals owner es d) z ∙ ap (λ (xs : List ℕ). subtotal owner es d ∷ xs) (ended es (suc d) n j (λ e i. let l = h e i in omega (arith, l)))

  -- every owner is below n
  pub then-zeros : (es : List Entry) (n k : ℕ) → n ≤ k → ((e : Entry) → In e es → owner e < n) → subtotals owner es 0 k ≡ subtotals owner es 0 n ++ replicate (k - n) 0
  then-zeros es n k l h =
      let z : k ≡ n + (k - n) = omega arith in
      ap (subtotals owner es 0) z ∙ ended es 0 n (k - n) (λ e i. let q = h e i in omega (arith, q))
