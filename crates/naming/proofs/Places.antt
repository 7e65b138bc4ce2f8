-- The place of a name among names, and the names and numbers found so far. By induction on lists, and from what is met.
use mathlib.Core.Path.{◌≡◌, refl, sym, ap, subst, ◌∙◌}
use mathlib.Core.Bool.{Bool, true, false, cond, ◌&&◌}
use mathlib.Core.List.Memᴰ.{head}
use mathlib.Core.List.Memᴰ.{tail}
use mathlib.Core.List.{List, [], ◌∷◌, ◌++◌, Memᴰ as In}
use mathlib.Core.Option.{Option, none, some, Option-elim}
use Prim.Native.Nat.{ℕ, zero, suc, ◌+◌, ◌-◌, ◌≤◌, ◌<◌}
use native.Mathlib.Omega.{arith}
use borrow.Author.Tests.{eqb-true, eqb-false}
use lib.Dec.{eqb}
use lib.Pointwise.{pointwise}
use borrow.Rule.Slice.PartMut.{mid_of}
use Rattle.tables.specs.Spelled.{Spells}
use lib.ListN.{length, get_or, set, take, drop, replicate, length-take, drop_of_length-le}
use lib.Seq.{drop-cons}
use Rattle.token.specs.Token.{same_bytes}
use Rattle.model.specs.Lists.{any}
use Rattle.model.specs.Words.{same}
use Rattle.model.specs.Given.{place_in}
use Rattle.grammar.specs.Limit.{token_limit}
use Rattle.model.specs.Resolved.{Model}
use Rattle.waitnames.specs.Names.{all_waits}
use Rattle.naming.specs.Marks.{marked, Within, place_or, met, Found, Numbers}
use Rattle.naming.proofs.Named.{met-new, met-known, met-unmarked, met-low, place-some, place_none, is-marked, all-met, number_is}

take_get : (l : List ℕ) (n i : ℕ) → i < n → get_or (take n l) i 0 ≡ get_or l i 0
take_get [] zero i h = refl
take_get [] (suc n) i h = refl
take_get (x ∷ l) zero i h = absurd (omega (arith, h))
take_get (x ∷ l) (suc n) zero h = refl
take_get (x ∷ l) (suc n) (suc i) h = take_get l n i (omega (arith, h))

pub take-length : (l : List ℕ) (n : ℕ) → n ≤ length l → length (take n l) ≡ n
take-length l n h = omega (arith, length-take n l, h)

-- ---- a search among names

-- the first i of the names are others
abbrev pub Others : (w : ℕ → List ℕ) (k : ℕ) (l : List ℕ) (i : ℕ) → Type 0
Others w k l i = place_in w k 0 l ≡ place_in w k i (drop i l)

module _ (w : ℕ → List ℕ) (k : ℕ) (names : List ℕ) (i : ℕ) where
  split : i < length names → drop i names ≡ get_or names i 0 ∷ drop (i + 1) names
  split h = let e : i + 1 ≡ suc i = omega arith in drop-cons names i 0 h ∙ ap (λ (j : ℕ). get_or names i 0 ∷ drop j names) (sym e)

  pub place_found : Others w k names i → i < length names → same_bytes (w k) (w (get_or names i 0)) ≡ true → i ≡ place_or w k names
  unfolding place_or place_in same Option-elim
  place_found o h e = let q : place_in w k 0 names ≡ some i = o ∙ ap (place_in w k i) (split h) ∙ rw e refl in rw q refl

  pub place-on : Others w k names i → i < length names → same_bytes (w k) (w (get_or names i 0)) ≡ false → Others w k names (i + 1)
  unfolding place_in same
  place-on o h e = let z : suc i ≡ i + 1 = omega arith in o ∙ ap (place_in w k i) (split h) ∙ rw e (ap (λ (j : ℕ). place_in w k j (drop (i + 1) names)) z)

  pub place_end : Others w k names i → length names ≤ i → length names ≡ place_or w k names
  unfolding place_or place_in Option-elim
  place_end o h =
      let q : place_in w k 0 names ≡ none = o ∙ ap (place_in w k i) (drop_of_length-le names {i = i} h) in
      rw q refl

-- equal words, byte for byte
pub same-is : (a b : List ℕ) → pointwise eqb a b ≡ same_bytes a b
unfolding same_bytes
same-is [] [] = refl
same-is [] (y ∷ b) = refl
same-is (x ∷ a) [] = refl
same-is (x ∷ a) (y ∷ b) = ap (λ (t : Bool). eqb x y && t) (same-is a b)

pub word-is : (u : ℕ → List ℕ) (text places sizes : List ℕ) (token from to size : ℕ) → Spells u text places sizes → from ≡ get_or places token 0 → size ≡ get_or sizes token 0 → to ≡ from + size
    → mid_of from (to - from) text ≡ u token
word-is u text places sizes token from to size h a b d =
    let e : to - from ≡ size = omega (arith, d) in
    rw (e, a, b) (sym (h.word token))

-- ---- whether a name is known

place-below : (w : ℕ → List ℕ) (k i : ℕ) (xs : List ℕ) (q : ℕ) → place_in w k i xs ≡ some q → q < i + length xs
unfolding place_in
place-below w k i [] q e = absurd (let z : ◌≡◌ {A = ℕ} 0 1 = cc in omega arith)
place-below w k i (x ∷ xs) q e = by (same w k x) (λ (f : place_in w k (suc i) xs ≡ some q). place-below w k (suc i) xs q f) e
  where
    by : (b : Bool) → (place_in w k (suc i) xs ≡ some q → q < suc i + length xs) → cond b (some i) (place_in w k (suc i) xs) ≡ some q → q < i + suc (length xs)
    by true f e = let d : i ≡ q = cc in omega (arith, d)
    by false f e = omega (arith, f e)

pub place-most : (w : ℕ → List ℕ) (k : ℕ) (names : List ℕ) (count : ℕ) → count ≤ length names → place_or w k (take count names) ≤ count
unfolding place_or Option-elim
place-most w k names count h = by (place_in w k 0 (take count names)) refl
  where
    long : length (take count names) ≡ count
    long = take-length names count h

    by : (o : Option ℕ) → place_in w k 0 (take count names) ≡ o → Option-elim o (length (take count names)) (λ i. i) ≤ count
    by none e = omega (arith, long)
    by (some q) e = omega (arith, long, place-below w k 0 (take count names) q e)

is-new : (w : ℕ → List ℕ) (marks : List Bool) (k : ℕ) (xs : List ℕ) → place_or w k xs ≡ length xs → any (same w k) xs ≡ false
unfolding place_or Option-elim
is-new w marks k xs e = by (any (same w k) xs) refl
  where
    by : (b : Bool) → any (same w k) xs ≡ b → any (same w k) xs ≡ false
    by true f =
        let q = place-some w marks k 0 xs f in
        let l = place-below w k 0 xs q.0 q.1 in
        let d : q.0 ≡ length xs = sym (ap (λ (o : Option ℕ). Option-elim o (length xs) (λ i. i)) q.1) ∙ e in
        absurd (omega (arith, l, d))
    by false f = f

is_known : (w : ℕ → List ℕ) (marks : List Bool) (k : ℕ) (xs : List ℕ) → (place_or w k xs ≡ length xs → ⊥) → any (same w k) xs ≡ true
unfolding place_or Option-elim
is_known w marks k xs n = by (any (same w k) xs) refl
  where
    by : (b : Bool) → any (same w k) xs ≡ b → any (same w k) xs ≡ true
    by true f = f
    by false f = absurd (n (ap (λ (o : Option ℕ). Option-elim o (length xs) (λ i. i)) (place_none w marks k 0 xs f)))

-- ---- names and numbers so far

set_here : (l : List ℕ) (k x : ℕ) → k < length l → get_or (set l k x) k 0 ≡ x
set_here [] k x h = absurd (omega (arith, h))
set_here (y ∷ l) zero x h = refl
set_here (y ∷ l) (suc k) x h = set_here l k x (omega (arith, h))

set_there : (l : List ℕ) (k x j : ℕ) → (j ≡ k → ⊥) → get_or (set l k x) j 0 ≡ get_or l j 0
set_there [] k x j h = refl
set_there (y ∷ l) zero x zero h = absurd (h refl)
set_there (y ∷ l) zero x (suc j) h = refl
set_there (y ∷ l) (suc k) x zero h = refl
set_there (y ∷ l) (suc k) x (suc j) h = set_there l k x j (λ e. h (ap suc e))

take_snoc : (l : List ℕ) (n x : ℕ) → n < length l → take (suc n) (set l n x) ≡ take n l ++ x ∷ []
take_snoc [] n x h = absurd (omega (arith, h))
take_snoc (y ∷ l) zero x h = refl
take_snoc (y ∷ l) (suc n) x h = ap (λ (r : List ℕ). y ∷ r) (take_snoc l n x (omega (arith, h)))

pub found_none : (w : ℕ → List ℕ) (marks : List Bool) (names numbers : List ℕ) → Found w marks names numbers 0 0
unfolding met
found_none w marks names numbers = record { names-are = refl; numbers-are = λ j l e. absurd (omega (arith, l)) }

-- the tokens of names are tokens before k
pub names-low : (w : ℕ → List ℕ) (marks : List Bool) (names numbers : List ℕ) (count k : ℕ) → Found w marks names numbers count k → count ≤ length names → (i : ℕ) → i < count → get_or names i 0 < k
names-low w marks names numbers count k h f i l =
    met-low w marks k (get_or names i 0) (subst (In (get_or names i 0)) h.names-are (subst (λ (x : ℕ). In x (take count names)) (take_get names count i l) (get_in (take count names) i (omega (arith, take-length names count f, l)))))
  where
    get_in : (xs : List ℕ) (i : ℕ) → i < length xs → In (get_or xs i 0) xs
    get_in [] i h = absurd (omega (arith, h))
    get_in (x ∷ xs) zero h = head refl
    get_in (x ∷ xs) (suc i) h = tail (get_in xs i (omega (arith, h)))

module _ (w : ℕ → List ℕ) (marks : List Bool) (names numbers : List ℕ) (count k : ℕ) (h : Found w marks names numbers count k) where
  abbrev next : suc k ≡ k + 1
  next = omega arith

  pub found-skip : (get_or marks k false ≡ true → ⊥) → Found w marks names numbers count (k + 1)
  found-skip n =
      subst (λ (j : ℕ). Found w marks names numbers count j) next
      (record { names-are = h.names-are ∙ sym (met-unmarked w marks k n); numbers-are = λ j l e. h.numbers-are j (before j l e) e })
    where
      before : (j : ℕ) → j < suc k → get_or marks j false ≡ true → j < k
      before j l e = by (eqb j k) refl
        where
          by : (b : Bool) → eqb j k ≡ b → j < k
          by true d = absurd (n (subst (λ (x : ℕ). get_or marks x false ≡ true) (eqb-true j k d) e))
          by false d = omega (arith, l, eqb-false j k d)

  module _ (long : k < length numbers) (fits : count ≤ length names) (n : ℕ) (mark : get_or marks k false ≡ true) (is : n ≡ place_or w k (take count names)) where
    numbers-so : (j : ℕ) → j < suc k → get_or marks j false ≡ true → get_or (set numbers k n) j 0 ≡ place_or w j (met w marks j)
    numbers-so j l e = by (eqb j k) refl
      where
        by : (b : Bool) → eqb j k ≡ b → get_or (set numbers k n) j 0 ≡ place_or w j (met w marks j)
        by true d =
            subst (λ (x : ℕ). get_or (set numbers k n) x 0 ≡ place_or w x (met w marks x)) (sym (eqb-true j k d)) (set_here numbers k n long ∙ is ∙ ap (place_or w k) h.names-are)
        by false d = set_there numbers k n j (eqb-false j k d) ∙ h.numbers-are j (omega (arith, l, eqb-false j k d)) e

    place_is : place_or w k (met w marks k) ≡ n
    place_is = sym (is ∙ ap (place_or w k) h.names-are)

    count-is : length (met w marks k) ≡ count
    count-is = ap length (sym h.names-are) ∙ take-length names count fits

    pub found-known : (n ≡ count → ⊥) → Found w marks names (set numbers k n) count (k + 1)
    found-known f =
        subst (λ (j : ℕ). Found w marks names (set numbers k n) count j) next
        (record { names-are = h.names-are ∙ sym (met-known w marks k (is_known w marks k (met w marks k) (λ e. f (sym place_is ∙ e ∙ count-is)))); numbers-are = numbers-so })

    pub found-new : n ≡ count → count < length names → Found w marks (set names count k) (set numbers k n) (count + 1) (k + 1)
    found-new e l =
        let c : suc count ≡ count + 1 = omega arith in
        subst (λ (j : ℕ). Found w marks (set names count k) (set numbers k n) (count + 1) j) next
        (subst (λ (d : ℕ). Found w marks (set names count k) (set numbers k n) d (suc k)) c
        (record {
          names-are = take_snoc names count k l ∙ ap (λ (x : List ℕ). x ++ k ∷ []) h.names-are ∙ sym (met-new w marks k mark (is-new w marks k (met w marks k) (place_is ∙ e ∙ sym count-is)));
          numbers-are = numbers-so;
        }))

-- the names met among the waits of a model are its wait names
pub waits-numbered : (m : Model) → Within token_limit (all_waits m) → (marks : List Bool) (names numbers : List ℕ) (count : ℕ) → marks ≡ marked (replicate token_limit false) (all_waits m)
    → Found m.words marks names numbers count token_limit → Numbers m names numbers count
waits-numbered m w marks names numbers count e h =
    record {
      names-are = h.names-are ∙ ap (λ (l : List Bool). met m.words l token_limit) e ∙ all-met m token_limit w;
      numbers-are = λ k i.
          h.numbers-are k (w k i) (ap (λ (l : List Bool). get_or l k false) e ∙ is-marked m token_limit w k i) ∙ ap (λ (l : List Bool). place_or m.words k (met m.words l k)) e ∙ number_is m token_limit w k i;
    }

-- what the test of two words says
pub told-same : (w : ℕ → List ℕ) (k n from : ℕ) (x y : List ℕ) (r b : Bool) → x ≡ w k → y ≡ w from → from ≡ n → r ≡ pointwise eqb x y → r ≡ b → same_bytes (w k) (w n) ≡ b
told-same w k n from x y r b p q d e f = rw (← d, ← p, ← q) (sym (same-is x y) ∙ sym e ∙ f)
