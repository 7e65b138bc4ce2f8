-- The pairs on a channel whose first value is in a range stand together among ascending pairs. By the order of rows on one channel.
use Prim.Native.Nat.{ℕ, zero, suc, ◌+◌, ◌≤◌, ◌<◌}
use mathlib.Core.Path.{◌≡◌, refl, sym, ap, ◌∙◌}
use mathlib.Core.Bool.{Bool, true, false, ◌&&◌, ◌||◌}
use mathlib.Core.List.{List, [], ◌∷◌, ◌++◌, map}
use mathlib.Core.Logic.{◌⊎◌, inl, inr, ⊎_elim}
use mathlib.Core.Option.{none, some}
use native.Mathlib.Omega.{arith}
use borrow.Author.Tests.{ltb-false, leb-true, leb-false, lt-ltb, le-ltb}
use lib.Dec.{leb}
use lib.IntN.{ℤ, pos, negsuc}
use lib.ListN.{length, get_or, get_elem?, length-map}
use Rattle.value.specs.Arithmetic.{is_less, is_same, is_at_most}
use Rattle.value.specs.Range.{InRange, farthest, least}
use Rattle.value.proofs.Kit.{true-not-false, false-not-true}
use Rattle.rules.specs.Offers as offers
use Rattle.rules.specs.Order.{less}
use Rattle.rules.specs.Pairs.{channel_numbers}
use Rattle.rules.specs.Listing.{same_channel, all_within, matches}
use Rattle.rules.proofs.Channels.{less-channel, one-channel, between}
use Rattle.rules.proofs.Less.{less-first, less-rest, less-irreflexive}
use Rattle.model.specs.Resolved
use Rattle.model.specs.Good.{Every}
use Rattle.machine.specs.State.{State, GoodPair, padded, pair_numbers, pair_width}
use Rattle.machine.proofs.Branches.{none-not-some, get_nth}
use Rattle.machine.proofs.Everys.{every-nth}
use Rattle.state.specs.Read.{pair_count}
use Rattle.state.specs.Test.{rows, place_of, pair_part}
use Rattle.state.proofs.Tests.{both}
use Rattle.state.proofs.Entries.{pair-shape, get-is}
use Rattle.state.proofs.Places.{place-more, place-less, place-bound}
use Rattle.state.proofs.Climbs.{climbing}
use Rattle.eval.specs.Shown as shown
use Rattle.eval.specs.Shown.{joined_mark, set_in, ShowsSets, ShowsQuery}
use Rattle.eval.specs.declared.offer.OfferSet.TheVariants.{Range}
use Rattle.eval.proofs.Ends.{ranged-as}
use Rattle.eval.specs.Channels.{ShowsChannel, numbers_of}
use Rattle.eval.proofs.Shapes.{numbers-are}
use Rattle.offers.specs.Collect.{World}
use Rattle.listing.specs.Ready.{RunIs, low_row, high_row}
use Rattle.listing.proofs.Matching.{same-is}
use Rattle.listing.proofs.Pairs.{rows_are}

-- ---- the order of three numbers after a channel's
not-less : (a v : ℤ) → is_at_most a v ≡ true → is_less v a ≡ false
not-less (pos a) (pos v) e = le-ltb v a (leb-true a v e)
not-less (pos a) (negsuc v) e = false-not-true e
not-less (negsuc a) (pos v) e = refl
not-less (negsuc a) (negsuc v) e = le-ltb a v (leb-true v a e)

no-less-same : (v b : ℤ) → is_at_most v b ≡ true → is_less v b ≡ false → v ≡ b
no-less-same (pos v) (pos b) e f = let z : v ≡ b = omega (arith, leb-true v b e, ltb-false v b f) in ap pos z
no-less-same (pos v) (negsuc b) e f = false-not-true e
no-less-same (negsuc v) (pos b) e f = true-not-false f
no-less-same (negsuc v) (negsuc b) e f = let z : v ≡ b = omega (arith, leb-true b v e, ltb-false b v f) in ap negsuc z

below-mark : (u : ℤ) → InRange u → is_less u joined_mark ≡ true
below-mark (pos n) r = lt-ltb n (farthest + 1) (omega (arith, leb-true n farthest r.high))
below-mark (negsuc n) r = refl

none_of : (p q r : Bool) → p ≡ false → r ≡ false → p || q && r ≡ false
none_of p true r e f = rw (e, f)
none_of p false r e f = rw e

tail-below : (k : ℕ) (v a u z : ℤ) → is_at_most a v ≡ true → is_less u z ≡ false → less (pos k ∷ v ∷ u ∷ []) (pos k ∷ a ∷ z ∷ []) ≡ false
unfolding less
tail-below k v a u z h l =
    none_of _ (is_same (pos k) (pos k)) _ (le-ltb k k (omega arith)) (none_of _ (is_same v a) _ (not-less a v h) (none_of _ (is_same u z) false l refl))

tail-above : (k : ℕ) (v b u z : ℤ) → is_at_most v b ≡ true → is_less u z ≡ true → less (pos k ∷ v ∷ u ∷ []) (pos k ∷ b ∷ z ∷ []) ≡ true
tail-above k v b u z h l = less-rest (pos k) (v ∷ u ∷ []) (b ∷ z ∷ []) (go (is_less v b) refl)
  where
    go : (p : Bool) → is_less v b ≡ p → less (v ∷ u ∷ []) (b ∷ z ∷ []) ≡ true
    go true f = less-first v b (u ∷ []) (z ∷ []) f
    go false f = rw (no-less-same v b h f) (less-rest b (u ∷ []) (z ∷ []) (less-first u z [] [] l))

not-before : (c : offers.Channel) (u v : List ℤ) → less u v ≡ false → less (channel_numbers c u) (channel_numbers c v) ≡ false
unfolding less
not-before c u v e = less-channel c c u v [] [] e ∙ less-irreflexive (channel_numbers c [])

-- ---- sets whose first is a range
pub data First (a b : ℤ) : ℕ → List offers.Set → Type 0 where
  one : First a b 1 (offers.range a b ∷ [])
  two : {y : offers.Set} → First a b 2 (offers.range a b ∷ y ∷ [])

pub first_range : {t : List ℕ} {ls : List ℤ} {k : ℕ} {a b c d : ℤ} {xs : List offers.Set} (l h : ℤ) → set_in a b ≡ Range l h → ShowsSets t ls k a b c d xs → First l h k xs
first_range {t} {ls} l h e (shown.ShowsSets.one q s f g) = rw (q, ranged-as t ls l h e s.shows) one
first_range {t} {ls} l h e (shown.ShowsSets.two q s r) = rw (q, ranged-as t ls l h e s.shows) two

pub count-two : {t : List ℕ} {ls : List ℤ} {k : ℕ} {a b c d : ℤ} {xs : List offers.Set} → ShowsSets t ls k a b c d xs → k ≤ 2
count-two (shown.ShowsSets.one e s f g) = omega arith
count-two (shown.ShowsSets.two e s r) = omega arith

-- values in such sets stand between the two rows
enclosed : {k : ℕ} {a b : ℤ} {xs : List offers.Set} → First a b k xs → (c : offers.Channel) (vs : List ℤ) → Every InRange vs → all_within xs vs ≡ true
    → (less (channel_numbers c (pos (length vs) ∷ padded 2 vs)) (channel_numbers c (pos k ∷ a ∷ least ∷ [])) ≡ false)
    × (less (channel_numbers c (pos (length vs) ∷ padded 2 vs)) (channel_numbers c (pos k ∷ b ∷ joined_mark ∷ [])) ≡ true)
unfolding all_within padded offers.within Every
enclosed one c [] r e = false-not-true e
enclosed {a = a} {b} one c (v ∷ []) r e =
    let q = both (is_at_most a v) (is_at_most v b) (both _ _ e).0 in
    (not-before c _ _ (tail-below 1 v a (pos 0) least q.0 refl), one-channel c _ _ (tail-above 1 v b (pos 0) joined_mark q.1 refl))
enclosed {a = a} {b} one c (v ∷ u ∷ vs) r e = false-not-true (both (is_at_most a v && is_at_most v b) false e).1
enclosed two c [] r e = false-not-true e
enclosed {a = a} {b} two c (v ∷ []) r e = false-not-true (both (is_at_most a v && is_at_most v b) false e).1
enclosed {a = a} {b} two c (v ∷ u ∷ []) r e =
    let q = both (is_at_most a v) (is_at_most v b) (both _ _ e).0 in
    (not-before c _ _ (tail-below 2 v a u least q.0 (not-less least u r.1.0.low)), one-channel c _ _ (tail-above 2 v b u joined_mark q.1 (below-mark u r.1.0)))
enclosed {a = a} {b} (two {y}) c (v ∷ u ∷ z ∷ vs) r e = false-not-true (both (offers.within y u) false (both (is_at_most a v && is_at_most v b) (offers.within y u && false) e).1).1

get-map : {A B : Type 0} (f : A → B) (xs : List A) (i : ℕ) (d : B) (x : A) → get_elem? xs i ≡ some x → get_or (map f xs) i d ≡ f x
get-map f [] i d x e = none-not-some none x refl e
get-map f (y ∷ xs) zero d x e = cc
get-map f (y ∷ xs) (suc i) d x e = get-map f xs i d x e

-- ---- the run
-- from one number up to another stand pairs on the channel, and no others match
pub record Encloses (xs : List offers.Pair) (w : offers.Query) (from to : ℕ) : Type 0 where
  pub start : from ≤ length xs
  pub end : to ≤ length xs
  pub on : (q : ℕ) (x : offers.Pair) → get_elem? xs q ≡ some x → from ≤ q → q < to → x.channel ≡ w.channel
  pub before : (q : ℕ) (x : offers.Pair) → get_elem? xs q ≡ some x → q < from → matches w x ≡ false
  pub after : (q : ℕ) (x : offers.Pair) → get_elem? xs q ≡ some x → to ≤ q → matches w x ≡ false

pub as-run : {xs : List offers.Pair} {w : offers.Query} {from to : ℕ} → Encloses xs w from to → from ≤ to → RunIs xs w from to
as-run h l = record { low = l; high = h.end; on = h.on; off = λ q x e. ⊎_elim (λ m. h.before q x e m) (λ m. h.after q x e m) }

pub as_none : {xs : List offers.Pair} {w : offers.Query} {from to : ℕ} → Encloses xs w from to → to < from → RunIs xs w from from
as_none h l =
    record {
      low = omega arith;
      high = h.start;
      on = λ q x e m n. absurd (omega arith);
      off = λ q x e. ⊎_elim (λ m. h.before q x e m) (λ m. h.after q x e (omega arith));
    }

-- up to the greater of both
pub as_max : {xs : List offers.Pair} {w : offers.Query} {from to : ℕ} (n : ℕ) → Encloses xs w from to → (from ≤ to → n ≡ to) → (to < from → n ≡ from) → RunIs xs w from n
as_max {xs} {w} {from} {to} n h f g = go (leb from to) refl
  where
    go : (b : Bool) → leb from to ≡ b → RunIs xs w from n
    go true e = rw (f (leb-true from to e)) (as-run h (leb-true from to e))
    go false e = rw (g (leb-false from to e)) (as_none h (leb-false from to e))

module _ {t roots scopes : List ℕ} {zs : List ℤ} {m : Resolved.Model} {s : State} (w : World t roots scopes zs m s) (x : offers.Query) (k : ℕ) (a b : ℤ) (first : First a b k x.sets) where
  abbrev rs : List (List ℤ)
  rs = map pair_numbers s.pairs

  abbrev low : List ℤ
  low = channel_numbers x.channel (pos k ∷ a ∷ least ∷ [])

  abbrev high : List ℤ
  high = channel_numbers x.channel (pos k ∷ b ∷ joined_mark ∷ [])

  module _ (q : ℕ) (y : offers.Pair) (at : get_elem? s.pairs q ≡ some y) where
    inside : q < length rs
    inside = omega (arith, (get-is s.pairs q y y at).0, length-map s.pairs pair_numbers)

    row_is : get_or rs q [] ≡ channel_numbers y.channel (pos (length y.values) ∷ padded 2 y.values)
    row_is = get-map pair_numbers s.pairs q [] y at ∙ pair-shape y

    before-is : (row : List ℤ) → place_of row rs ≤ q → less (get_or rs q []) row ≡ false
    before-is row h = go (less (get_or rs q []) row) refl
      where
        go : (p : Bool) → less (get_or rs q []) row ≡ p → p ≡ false
        go true e = absurd (omega (arith, place-more row rs q (climbing s.pairs w.state.ascending) inside e))
        go false e = refl

    after_is : (row : List ℤ) → q < place_of row rs → less (get_or rs q []) row ≡ true
    after_is row h = go (less (get_or rs q []) row) refl
      where
        go : (p : Bool) → less (get_or rs q []) row ≡ p → p ≡ true
        go true e = refl
        go false e = absurd (omega (arith, place-less row rs q inside e))

    -- a pair that matches stands between
    between-rows : matches x y ≡ true → (less (get_or rs q []) low ≡ false) × (less (get_or rs q []) high ≡ true)
    unfolding matches
    between-rows e =
        let p = both (same_channel x.channel y.channel) (all_within x.sets y.values) e in
        let g = every-nth (GoodPair m) w.state.pairs (get_nth s.pairs q at) in
        rw row_is (rw (← same-is x.channel y.channel p.0) (enclosed first x.channel y.values g.values p.1))

    -- one that stands elsewhere does not match
    elsewhere : (less (get_or rs q []) low ≡ true) ⊎ (less (get_or rs q []) high ≡ false) → matches x y ≡ false
    elsewhere h = go (matches x y) refl
      where
        go : (p : Bool) → matches x y ≡ p → p ≡ false
        go true e =
            let b = between-rows e in
            ⊎_elim (λ l. true-not-false (sym l ∙ b.0)) (λ l. true-not-false (sym b.1 ∙ l)) h
        go false e = refl

  encloses : Encloses s.pairs x (place_of low rs) (place_of high rs)
  encloses =
      record {
        start = omega (arith, place-bound low rs, length-map s.pairs pair_numbers);
        end = omega (arith, place-bound high rs, length-map s.pairs pair_numbers);
        on = λ q y e l h. between x.channel y.channel _ _ _ (rw (row_is q y e) at (before-is q y e low l)) (rw (row_is q y e) at (after_is q y e high h));
        before = λ q y e l. elsewhere q y e (inl (after_is q y e low l));
        after = λ q y e l. elsewhere q y e (inr (before-is q y e high l));
      }

  pub range-shown : (sh : ℕ) (c d e : ℤ) (row : List ℤ) (from to : ℕ) → ShowsChannel sh c d e x.channel → row ≡ numbers_of sh c d e ++ pos 0 ∷ pos 0 ∷ pos 0 ∷ []
      → from ≡ place_of (low_row row k a) (rows pair_width (pair_count zs) (pair_part zs)) → to ≡ place_of (high_row row k a b) (rows pair_width (pair_count zs) (pair_part zs)) → Encloses s.pairs x from to
  unfolding numbers_of
  range-shown sh c d e row from to h r f g =
      let l : low_row row k a ≡ low = ap (λ (u : List ℤ). low_row u k a) r ∙ numbers-are x.channel h (pos k ∷ a ∷ least ∷ []) in
      let u : high_row row k a b ≡ high = ap (λ (u : List ℤ). high_row u k a b) r ∙ numbers-are x.channel h (pos k ∷ b ∷ joined_mark ∷ []) in
      rw (f, g) (rw (rows_are w) (rw (u, l) encloses))
