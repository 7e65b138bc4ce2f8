-- The names met among marked tokens are the names of the waits: both rise and have the same members, and a list that rises is told by its members.
use mathlib.Core.Path.{◌≡◌, refl, sym, ap, subst, ◌∙◌}
use mathlib.Core.Bool.{Bool, true, false, cond, ◌&&◌, not}
use mathlib.Core.List.Memᴰ.{append_cases}
use mathlib.Core.List.Memᴰ.{cases_cons}
use mathlib.Core.List.Memᴰ.{eq_of_singleton}
use mathlib.Core.List.Memᴰ.{head}
use mathlib.Core.List.Memᴰ.{not-nil as nowhere}
use mathlib.Core.List.Memᴰ.{tail}
use mathlib.Core.List.{List, [], ◌∷◌, ◌++◌, append_assoc, append-nil, Memᴰ as In}
use mathlib.Core.Logic.{◌⊎◌, inl, inr}
use mathlib.Core.Option.{none, some, Option-elim}
use Prim.Native.Nat.{ℕ, zero, suc, ◌+◌, ◌≤◌, ◌<◌}
use native.Mathlib.Omega.{arith}
use borrow.Author.Tests.{eqb-true, eqb-false}
use Rattle.std.proofs.lemmas.Bool.{false_from_ne_true}
use lib.Dec.{eqb}
use lib.ListN.{length, get_or, set, replicate, length-set, length-replicate}
use Rattle.model.specs.Lists.{any}
use Rattle.model.specs.Words.{same}
use Rattle.model.specs.Given.{place_in}
use Rattle.model.specs.Resolved.{Model, or_zero}
use Rattle.model.proofs.Members.{any-in, in-any, not_so, not-both}
use Rattle.model.proofs.Repeats.{same_bytes_lem, bytes_same}
use Rattle.waitnames.specs.Names.{all_waits, name_tokens, name_number}
use Rattle.waitnames.specs.Numbered.{First, Rising}
use Rattle.waitnames.proofs.Numbered.{numbered}
use Rattle.naming.specs.Marks.{marked, Within, place_or, met_next, met}

-- ---- members

pub in_left : {x : ℕ} (xs ys : List ℕ) → In x xs → In x (xs ++ ys)
in_left [] ys i = absurd (nowhere i)
in_left {x} (z ∷ xs) ys i = by (cases_cons i) (λ (m : In x xs). in_left xs ys m)
  where
    by : (x ≡ z) ⊎ In x xs → (In x xs → In x (xs ++ ys)) → In x (z ∷ (xs ++ ys))
    by (inl e) f = head e
    by (inr m) f = tail (f m)

pub in_right : {x : ℕ} (xs ys : List ℕ) → In x ys → In x (xs ++ ys)
in_right [] ys i = i
in_right (z ∷ xs) ys i = tail (in_right xs ys i)

-- ---- lists that rise

rising-low : (a k : ℕ) (ks : List ℕ) → Rising a ks → In k ks → a ≤ k
unfolding Rising
rising-low a k [] r i = absurd (nowhere i)
rising-low a k (j ∷ ks) r i = by (cases_cons i) (λ (m : In k ks). rising-low (suc j) k ks r.1 m)
  where
    by : (k ≡ j) ⊎ In k ks → (In k ks → suc j ≤ k) → a ≤ k
    by (inl e) f = omega (arith, e, r.0)
    by (inr m) f = omega (arith, f m, r.0)

rising_snoc : (a n : ℕ) (ks : List ℕ) → Rising a ks → ((k : ℕ) → In k ks → k < n) → a ≤ n → Rising a (ks ++ n ∷ [])
unfolding Rising
rising_snoc a n [] r h l = (l, tt)
rising_snoc a n (k ∷ ks) r h l = (r.0, rising_snoc (suc k) n ks r.1 (λ j i. h j (tail i)) (h k (head refl)))

pub told : (a : ℕ) (xs ys : List ℕ) → Rising a xs → Rising a ys → ((k : ℕ) → In k xs → In k ys) → ((k : ℕ) → In k ys → In k xs) → xs ≡ ys
unfolding Rising
told a [] [] r q f g = refl
told a [] (y ∷ ys) r q f g = absurd (nowhere (g y (head refl)))
told a (x ∷ xs) [] r q f g = absurd (nowhere (f x (head refl)))
told a (x ∷ xs) (y ∷ ys) r q f g = finish same_first (told (suc x) xs ys r.1 (subst (λ (z : ℕ). Rising (suc z) ys) (sym same_first) q.1) (there same_first) (back same_first))
  where
    same_first : x ≡ y
    same_first = by (cases_cons (f x (head refl))) (cases_cons (g y (head refl)))
      where
        by : (x ≡ y) ⊎ In x ys → (y ≡ x) ⊎ In y xs → x ≡ y
        by (inl e) o = e
        by (inr i) (inl e) = sym e
        by (inr i) (inr j) = absurd (omega (arith, rising-low (suc y) x ys q.1 i, rising-low (suc x) y xs r.1 j))

    there : x ≡ y → (k : ℕ) → In k xs → In k ys
    there e k i = by (cases_cons (f k (tail i)))
      where
        by : (k ≡ y) ⊎ In k ys → In k ys
        by (inl d) = absurd (omega (arith, rising-low (suc x) k xs r.1 i, d, e))
        by (inr j) = j

    back : x ≡ y → (k : ℕ) → In k ys → In k xs
    back e k i = by (cases_cons (g k (tail i)))
      where
        by : (k ≡ x) ⊎ In k xs → In k xs
        by (inl d) = absurd (omega (arith, rising-low (suc y) k ys q.1 i, d, e))
        by (inr j) = j

    finish : x ≡ y → xs ≡ ys → x ∷ xs ≡ y ∷ ys
    finish e d = ap (λ (z : ℕ). z ∷ xs) e ∙ ap (λ (l : List ℕ). y ∷ l) d

-- ---- marks

pub marked-length : (l : List Bool) (ks : List ℕ) → length (marked l ks) ≡ length l
unfolding marked
marked-length l [] = refl
marked-length l (k ∷ ks) = marked-length (set l k true) ks ∙ length-set l k true

pub marked-both : (l : List Bool) (xs ys : List ℕ) → marked l (xs ++ ys) ≡ marked (marked l xs) ys
unfolding marked
marked-both l [] ys = refl
marked-both l (x ∷ xs) ys = marked-both (set l x true) xs ys

set_same : (l : List Bool) (k : ℕ) → k < length l → get_or (set l k true) k false ≡ true
set_same [] k h = absurd (omega (arith, h))
set_same (x ∷ l) zero h = refl
set_same (x ∷ l) (suc k) h = set_same l k (omega (arith, h))

set_other : (l : List Bool) (k j : ℕ) → (j ≡ k → ⊥) → get_or (set l k true) j false ≡ get_or l j false
set_other [] k j h = refl
set_other (x ∷ l) zero zero h = absurd (h refl)
set_other (x ∷ l) zero (suc j) h = refl
set_other (x ∷ l) (suc k) zero h = refl
set_other (x ∷ l) (suc k) (suc j) h = set_other l k j (λ e. h (ap suc e))

-- what is 1 stays
marked-stays : (l : List Bool) (ks : List ℕ) (j : ℕ) → get_or l j false ≡ true → get_or (marked l ks) j false ≡ true
unfolding marked
marked-stays l [] j e = e
marked-stays l (k ∷ ks) j e = marked-stays (set l k true) ks j (by (eqb j k) refl)
  where
    below : (l : List Bool) (j : ℕ) → get_or l j false ≡ true → j < length l
    below [] j e = absurd (let z : ◌≡◌ {A = ℕ} 0 1 = cc in omega arith)
    below (x ∷ l) zero e = omega arith
    below (x ∷ l) (suc j) e = omega (arith, below l j e)

    by : (b : Bool) → eqb j k ≡ b → get_or (set l k true) j false ≡ true
    by true d = let q = eqb-true j k d in subst (λ (i : ℕ). get_or (set l k true) i false ≡ true) (sym q) (set_same l k (omega (arith, below l j e, q)))
    by false d = set_other l k j (eqb-false j k d) ∙ e

pub marks-in : (l : List Bool) (ks : List ℕ) (j : ℕ) → Within (length l) ks → In j ks → get_or (marked l ks) j false ≡ true
unfolding marked
marks-in l [] j h i = absurd (nowhere i)
marks-in l (k ∷ ks) j h i = by (cases_cons i) (λ (m : In j ks). marks-in (set l k true) ks j (λ x y. subst (λ (n : ℕ). x < n) (sym (length-set l k true)) (h x (tail y))) m)
  where
    by : (j ≡ k) ⊎ In j ks → (In j ks → get_or (marked (set l k true) ks) j false ≡ true) → get_or (marked (set l k true) ks) j false ≡ true
    by (inl e) f = marked-stays (set l k true) ks j (subst (λ (x : ℕ). get_or (set l k true) x false ≡ true) (sym e) (set_same l k (h k (head refl))))
    by (inr m) f = f m

pub in-marks : (l : List Bool) (ks : List ℕ) (j : ℕ) → (get_or l j false ≡ true → ⊥) → get_or (marked l ks) j false ≡ true → In j ks
unfolding marked
in-marks l [] j n e = absurd (n e)
in-marks l (k ∷ ks) j n e = by (eqb j k) refl (λ (q : j ≡ k → ⊥). in-marks (set l k true) ks j (λ d. n (sym (set_other l k j q) ∙ d)) e)
  where
    by : (b : Bool) → eqb j k ≡ b → ((j ≡ k → ⊥) → In j ks) → In j (k ∷ ks)
    by true d f = head (eqb-true j k d)
    by false d f = tail (f (eqb-false j k d))

unmarked : (n j : ℕ) → get_or (replicate n false) j false ≡ true → ⊥
unmarked zero j e = let z : ◌≡◌ {A = ℕ} 0 1 = cc in omega arith
unmarked (suc n) zero e = let z : ◌≡◌ {A = ℕ} 0 1 = cc in omega arith
unmarked (suc n) (suc j) e = unmarked n j e

-- ---- names met

data Cases (j k : ℕ) : Type 0 where
  less : j < k → Cases j k
  more : k ≤ j → Cases j k

compared : (j k : ℕ) → Cases j k
compared zero zero = more (omega arith)
compared zero (suc k) = less (omega arith)
compared (suc j) zero = more (omega arith)
compared (suc j) (suc k) = on (compared j k)
  where
    on : Cases j k → Cases (suc j) (suc k)
    on (less h) = less (omega (arith, h))
    on (more h) = more (omega (arith, h))

module _ (w : ℕ → List ℕ) (marks : List Bool) where
  -- token k is marked and has none of the names so far
  abbrev IsNew : ℕ → Type 0
  IsNew k = (get_or marks k false ≡ true) × (any (same w k) (met w marks k) ≡ false)

  and_left : (a b : Bool) → (a && b) ≡ true → a ≡ true
  and_left true b h = refl
  and_left false b h = h

  and_right : (a b : Bool) → (a && b) ≡ true → b ≡ true
  and_right true b h = h
  and_right false b h = absurd (let z : ◌≡◌ {A = ℕ} 0 1 = cc in omega arith)

  not-false : (b : Bool) → not b ≡ true → b ≡ false
  not-false true e = sym e
  not-false false e = refl

  pub met-new : (k : ℕ) → get_or marks k false ≡ true → any (same w k) (met w marks k) ≡ false → met w marks (suc k) ≡ met w marks k ++ k ∷ []
  unfolding met met_next
  met-new k e f = rw (e, f) refl

  pub met-known : (k : ℕ) → any (same w k) (met w marks k) ≡ true → met w marks (suc k) ≡ met w marks k
  unfolding met met_next
  met-known k f = rw f (by (get_or marks k false))
    where
      by : (b : Bool) → cond (b && false) (met w marks k ++ k ∷ []) (met w marks k) ≡ met w marks k
      by true = refl
      by false = refl

  pub met-unmarked : (k : ℕ) → (get_or marks k false ≡ true → ⊥) → met w marks (suc k) ≡ met w marks k
  unfolding met met_next
  met-unmarked k n = rw (false_from_ne_true (get_or marks k false) n) refl

  -- one more token: a new name, or as before
  data Steps (k : ℕ) : Type 0 where
    new : IsNew k → met w marks (suc k) ≡ met w marks k ++ k ∷ [] → Steps k
    old : (IsNew k → ⊥) → met w marks (suc k) ≡ met w marks k → Steps k

  steps : (k : ℕ) → Steps k
  steps k = by (get_or marks k false) refl (any (same w k) (met w marks k)) refl
    where
      by : (a : Bool) → get_or marks k false ≡ a → (b : Bool) → any (same w k) (met w marks k) ≡ b → Steps k
      by true e false f = new (e, f) (met-new k e f)
      by true e true f = old (λ h. not-both f h.1) (met-known k f)
      by false e b f = old (λ h. not-both h.0 e) (met-unmarked k (λ h. not-both h e))

  -- its members
  pub met-low : (n j : ℕ) → In j (met w marks n) → j < n
  unfolding met
  met-low zero j i = absurd (nowhere i)
  met-low (suc n) j i = by (λ (m : In j (met w marks n)). met-low n j m) (steps n)
    where
      split : (In j (met w marks n) → j < n) → In j (met w marks n) ⊎ In j (n ∷ []) → j < suc n
      split f (inl m) = omega (arith, f m)
      split f (inr m) = omega (arith, eq_of_singleton m)

      by : (In j (met w marks n) → j < n) → Steps n → j < suc n
      by f (new h e) = split f (append_cases (met w marks n) (subst (In j) e i))
      by f (old h e) = omega (arith, f (subst (In j) e i))

  met-new-in : (n j : ℕ) → In j (met w marks n) → IsNew j
  unfolding met
  met-new-in zero j i = absurd (nowhere i)
  met-new-in (suc n) j i = by (λ (m : In j (met w marks n)). met-new-in n j m) (steps n)
    where
      split : (In j (met w marks n) → IsNew j) → IsNew n → In j (met w marks n) ⊎ In j (n ∷ []) → IsNew j
      split f h (inl m) = f m
      split f h (inr m) = subst IsNew (sym (eq_of_singleton m)) h

      by : (In j (met w marks n) → IsNew j) → Steps n → IsNew j
      by f (new h e) = split f h (append_cases (met w marks n) (subst (In j) e i))
      by f (old h e) = f (subst (In j) e i)

  pub met-rising : (n : ℕ) → Rising 0 (met w marks n)
  met-rising zero = unfold met Rising in tt
  met-rising (suc n) = by (met-rising n) (steps n)
    where
      by : Rising 0 (met w marks n) → Steps n → Rising 0 (met w marks (suc n))
      by r (new h e) = subst (Rising 0) (sym e) (rising_snoc 0 n (met w marks n) r (met-low n) (omega arith))
      by r (old h e) = subst (Rising 0) (sym e) r

  -- what is met stays, and more follows it
  pub met-more : (k n : ℕ) → k ≤ n → (rest : List ℕ) × (met w marks n ≡ met w marks k ++ rest)
  met-more k zero l = let e : 0 ≡ k = omega (arith, l) in ([], ap (met w marks) e ∙ sym (append-nil (met w marks k)))
  met-more k (suc n) l = by (λ (h : k ≤ n). met-more k n h) (compared n k)
    where
      on : (rest : List ℕ) × (met w marks n ≡ met w marks k ++ rest) → Steps n → (rest : List ℕ) × (met w marks (suc n) ≡ met w marks k ++ rest)
      on r (new g e) = (r.0 ++ n ∷ [], e ∙ ap (λ (x : List ℕ). x ++ n ∷ []) r.1 ∙ append_assoc (met w marks k) r.0 (n ∷ []))
      on r (old g e) = (r.0, e ∙ r.1)

      by : (k ≤ n → (rest : List ℕ) × (met w marks n ≡ met w marks k ++ rest)) → Cases n k → (rest : List ℕ) × (met w marks (suc n) ≡ met w marks k ++ rest)
      by f (less d) = let q : suc n ≡ k = omega (arith, l, d) in ([], ap (met w marks) q ∙ sym (append-nil (met w marks k)))
      by f (more d) = on (f d) (steps n)

  new-met : (j n : ℕ) → j < n → IsNew j → In j (met w marks n)
  new-met j n l h =
      let r = met-more (suc j) n l in
      subst (In j) (sym r.1) (in_left (met w marks (suc j)) r.0 (subst (In j) (sym (met-new j h.0 h.1)) (in_right (met w marks j) (j ∷ []) (head refl))))

  -- each marked token has a name that is met no later
  pub met-word : (n j : ℕ) → j < n → get_or marks j false ≡ true → (i : ℕ) × In i (met w marks n) × (w j ≡ w i) × (i ≤ j)
  met-word n j l e = by (any (same w j) (met w marks j)) refl
    where
      by : (b : Bool) → any (same w j) (met w marks j) ≡ b → (i : ℕ) × In i (met w marks n) × (w j ≡ w i) × (i ≤ j)
      by false f = (j, new-met j n l (e, f), refl, omega arith)
      by true f =
          let s = any-in (same w j) (met w marks j) f in
          let r = met-more j n (omega (arith, l)) in
          (s.0, subst (In s.0) (sym r.1) (in_left (met w marks j) r.0 s.1), same_bytes_lem w j s.0 s.2, omega (arith, met-low j s.0 s.1))

  -- ---- places

  place-left : (k i : ℕ) (xs ys : List ℕ) → any (same w k) xs ≡ true → place_in w k i (xs ++ ys) ≡ place_in w k i xs
  unfolding place_in any
  place-left k i [] ys e = absurd (let z : ◌≡◌ {A = ℕ} 0 1 = cc in omega arith)
  place-left k i (x ∷ xs) ys e = by (same w k x) refl (λ (f : any (same w k) xs ≡ true). place-left k (suc i) xs ys f)
    where
      by : (b : Bool) → same w k x ≡ b → (any (same w k) xs ≡ true → place_in w k (suc i) (xs ++ ys) ≡ place_in w k (suc i) xs)
          → cond b (some i) (place_in w k (suc i) (xs ++ ys)) ≡ cond b (some i) (place_in w k (suc i) xs)
      by true d f = refl
      by false d f = f (rw d at e)

  place-new : (k i : ℕ) (xs ys : List ℕ) → any (same w k) xs ≡ false → place_in w k i (xs ++ k ∷ ys) ≡ some (i + length xs)
  unfolding place_in any
  place-new k i [] ys e = rw (bytes_same w k k refl) (ap some (omega arith))
  place-new k i (x ∷ xs) ys e = by (same w k x) refl (λ (f : any (same w k) xs ≡ false). place-new k (suc i) xs ys f)
    where
      by : (b : Bool) → same w k x ≡ b → (any (same w k) xs ≡ false → place_in w k (suc i) (xs ++ k ∷ ys) ≡ some (suc i + length xs))
          → cond b (some i) (place_in w k (suc i) (xs ++ k ∷ ys)) ≡ some (i + suc (length xs))
      by true d f = not-both {b = true} refl (rw d at e)
      by false d f = f (rw d at e) ∙ ap some (omega arith)

  pub place_none : (k i : ℕ) (xs : List ℕ) → any (same w k) xs ≡ false → place_in w k i xs ≡ none
  unfolding place_in any
  place_none k i [] e = refl
  place_none k i (x ∷ xs) e = by (same w k x) refl (λ (f : any (same w k) xs ≡ false). place_none k (suc i) xs f)
    where
      by : (b : Bool) → same w k x ≡ b → (any (same w k) xs ≡ false → place_in w k (suc i) xs ≡ none) → cond b (some i) (place_in w k (suc i) xs) ≡ none
      by true d f = not-both {b = true} refl (rw d at e)
      by false d f = f (rw d at e)

  pub place-some : (k i : ℕ) (xs : List ℕ) → any (same w k) xs ≡ true → (q : ℕ) × (place_in w k i xs ≡ some q)
  unfolding place_in any
  place-some k i [] e = absurd (let z : ◌≡◌ {A = ℕ} 0 1 = cc in omega arith)
  place-some k i (x ∷ xs) e = by (same w k x) refl (λ (f : any (same w k) xs ≡ true). place-some k (suc i) xs f)
    where
      by : (b : Bool) → same w k x ≡ b → (any (same w k) xs ≡ true → (q : ℕ) × (place_in w k (suc i) xs ≡ some q)) → (q : ℕ) × (cond b (some i) (place_in w k (suc i) xs) ≡ some q)
      by true d f = (i, refl)
      by false d f = f (rw d at e)

  -- the place found when a token is met is that among all names
  pub place-final : (k n : ℕ) → k < n → get_or marks k false ≡ true → place_or w k (met w marks k) ≡ or_zero (place_in w k 0 (met w marks n))
  unfolding place_or or_zero Option-elim
  place-final k n l e = by (any (same w k) (met w marks k)) refl
    where
      xs : List ℕ
      xs = met w marks k

      by : (b : Bool) → any (same w k) xs ≡ b → place_or w k xs ≡ or_zero (place_in w k 0 (met w marks n))
      by true f =
          let r = met-more k n (omega (arith, l)) in
          let q = place-some k 0 xs f in
          let d : place_in w k 0 (met w marks n) ≡ some q.0 = ap (place_in w k 0) r.1 ∙ place-left k 0 xs r.0 f ∙ q.1 in
          rw (d, q.1) refl
      by false f =
          let r = met-more (suc k) n l in
          let d : met w marks n ≡ xs ++ k ∷ r.0 = r.1 ∙ ap (λ (x : List ℕ). x ++ r.0) (met-new k e f) ∙ append_assoc xs (k ∷ []) r.0 in
          let q : place_in w k 0 (met w marks n) ≡ some (0 + length xs) = ap (place_in w k 0) d ∙ place-new k 0 xs r.0 f in
          let z : 0 + length xs ≡ length xs = omega arith in
          rw (q, place_none k 0 xs f, z) refl

-- ---- the waits of a model

module _ (m : Model) (size : ℕ) (fits : Within size (all_waits m)) where
  abbrev tokens : List Bool
  tokens = marked (replicate size false) (all_waits m)

  pub is-marked : (k : ℕ) → In k (all_waits m) → get_or tokens k false ≡ true
  is-marked k i = marks-in (replicate size false) (all_waits m) k (λ j l. subst (λ (n : ℕ). j < n) (sym (length-replicate {A = Bool} size false)) (fits j l)) i

  is-wait : (k : ℕ) → get_or tokens k false ≡ true → In k (all_waits m)
  is-wait k e = in-marks (replicate size false) (all_waits m) k (unmarked size k) e

  first-new : (k : ℕ) → First m k → IsNew m.words tokens k
  first-new k h = (
    is-marked k h.wait,
    not_so _ (λ e.
        let s = any-in (same m.words k) (met m.words tokens k) e in
        let l = met-low m.words tokens k s.0 s.1 in
        let g = h.new s.0 (is-wait s.0 (met-new-in m.words tokens k s.0 s.1).0) (sym (same_bytes_lem m.words k s.0 s.2)) in
        omega (arith, l, g)),
  )

  new-first : (n k : ℕ) → In k (met m.words tokens n) → First m k
  new-first n k i =
      let h = met-new-in m.words tokens n k i in
      record {
        wait = is-wait k h.0;
        new = λ j l e. by j l e (compared j k);
      }
    where
      by : (j : ℕ) → In j (all_waits m) → m.words j ≡ m.words k → Cases j k → k ≤ j
      by j l e (more h) = h
      by j l e (less h) =
          let s = met-word m.words tokens k j h (is-marked j l) in
          let g = met-new-in m.words tokens n k i in
          not-both (in-any (same m.words k) (met m.words tokens k) s.1 (bytes_same m.words k s.0 (sym e ∙ s.2))) g.1

  pub all-met : met m.words tokens size ≡ name_tokens m
  all-met =
      told 0 (met m.words tokens size) (name_tokens m) (met-rising m.words tokens size) (numbered m).rising
      (λ k i. (numbered m).every k (new-first size k i))
      (λ k i. let h = (numbered m).firsts k i in new-met m.words tokens k size (fits k h.wait) (first-new k h))

  pub number_is : (k : ℕ) → In k (all_waits m) → place_or m.words k (met m.words tokens k) ≡ name_number m k
  unfolding name_number
  number_is k i = place-final m.words tokens k size (fits k i) (is-marked k i) ∙ ap (λ (l : List ℕ). or_zero (place_in m.words k 0 l)) all-met
