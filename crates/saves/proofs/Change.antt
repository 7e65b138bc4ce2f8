-- What a save, a return and a forget make of the numbers of a state and of saves is what the rule machine's turns make of these: the rows tell the place of a name, and a row
-- that is replaced replaces its place. By induction on the places.
use mathlib.Core.Path.{◌≡◌, refl, sym, ap, ap₂, ◌∙◌}
use mathlib.Core.List.{List, [], ◌∷◌, ◌++◌, map, append_assoc}
use mathlib.Core.Bool.{Bool, true, false, cond}
use mathlib.Core.Option.{Option, none, some, Option-elim}
use Prim.Native.Nat.{ℕ, zero, suc, ◌+◌, ◌*◌, ◌<◌}
use native.Mathlib.Nat.{suc-mul, zero-mul}
use native.Mathlib.Omega.{arith}
use borrow.Author.Tests.{ltb-true, ltb-false, ne_eqb}
use lib.Dec.{ltb}
use lib.IntN.{ℤ, pos}
use lib.ListN.{length, get_or, set, take, drop, replicate}
use lib.Seq.{take-append-add, take_at, drop_at, drop-drop}
use Rattle.model.specs.Good.{Every}
use Rattle.machine.specs.State.{flatten}
use Rattle.machine.specs.Timed.{Timed}
use Rattle.machine.specs.Saves.{is_name, Save, saved, Saves, save_limit, place_width, named, is_empty, first_of, place_of, place_for, kept_of, kept_under, PlaceOf, SavesOf, stored, replaced, removed, saving, returning, forgetting}
use Rattle.machine.proofs.Saves.{not-both, first_passes, none_named, under_none, under-place}
use Rattle.state.specs.Fits.{FewLocals}
use Rattle.saves.specs.Kept.{kept_numbers, FitsKept}
use Rattle.saves.proofs.Kept.{kept-length}
use Rattle.saves.specs.Keys.{low_of, high_of, key_numbers}
use Rattle.saves.specs.Places.{place_numbers, saves_numbers, kept_part, has_key}
use Rattle.saves.specs.Change.{place_with, no_key, place_to_take, row_at, with_row, written, saving_numbers, returning_numbers, forgetting_numbers, stored_numbers}
use Rattle.saves.proofs.Names.{low-positive}
use Rattle.saves.proofs.Places.{whole_part, place-length, key-named, saves-rows}

-- ---- the first that passes, of images

first-map : {A B : Type 0} (P : A → Type 0) (f : A → B) (t : B → Bool) (u : A → Bool) → ((x : A) → P x → t (f x) ≡ u x) → (xs : List A) → Every P xs → first_of t (map f xs) ≡ first_of u xs
unfolding first_of Every
first-map P f t u h [] g = refl
first-map P f t u h (x ∷ xs) g = ap₂ (λ (b : Bool) (n : ℕ). cond b 0 (suc n)) (h x g.0) (first-map P f t u h xs g.1)

-- ---- rows of joined numbers

module _ {A : Type 0} (f : A → List ℤ) (w : ℕ) (P : A → Type 0) (wide : (x : A) → P x → length (f x) ≡ w) where
  -- past i rows, the numbers of the members past i
  flatten-drop : (xs : List A) (i : ℕ) → Every P xs → drop (i * w) (flatten f xs) ≡ flatten f (drop i xs)
  unfolding flatten Every
  flatten-drop xs zero g = rw (zero-mul w)
  flatten-drop [] (suc i) g = by (suc i * w)
    where
      by : (k : ℕ) → ◌≡◌ {A = List ℤ} (drop k []) []
      by zero = refl
      by (suc k) = refl
  flatten-drop (x ∷ xs) (suc i) g =
      let e : suc i * w ≡ w + i * w = omega (arith, suc-mul i w) in
      ap (λ (k : ℕ). drop k (f x ++ flatten f xs)) e
      ∙ sym (drop-drop (i * w) w (f x ++ flatten f xs))
      ∙ ap (drop (i * w)) (drop_at (f x) (flatten f xs) w (wide x g.0))
      ∙ flatten-drop xs i g.1

  -- row i replaced
  flatten-set : (xs : List A) (i : ℕ) (y : A) → i < length xs → Every P xs → take (i * w) (flatten f xs) ++ (f y ++ drop w (drop (i * w) (flatten f xs))) ≡ flatten f (set xs i y)
  unfolding flatten Every
  flatten-set [] i y h g = absurd (omega arith)
  flatten-set (x ∷ xs) zero y h g =
      ap (λ (k : ℕ). take k (f x ++ flatten f xs) ++ (f y ++ drop w (drop k (f x ++ flatten f xs)))) (zero-mul w)
      ∙ ap (λ (l : List ℤ). f y ++ l) (drop_at (f x) (flatten f xs) w (wide x g.0))
  flatten-set (x ∷ xs) (suc i) y h g =
      let e : suc i * w ≡ w + i * w = omega (arith, suc-mul i w) in
      let l = flatten f xs in
      ap (λ (k : ℕ). take k (f x ++ l) ++ (f y ++ drop w (drop k (f x ++ l)))) e
      ∙ ap₂ (λ (a b : List ℤ). a ++ (f y ++ drop w b)) (take_more (i * w) (f x) l w (wide x g.0)) (sym (drop-drop (i * w) w (f x ++ l)) ∙ ap (drop (i * w)) (drop_at (f x) l w (wide x g.0)))
      ∙ append_assoc (f x) (take (i * w) l) (f y ++ drop w (drop (i * w) l))
      ∙ ap (λ (r : List ℤ). f x ++ r) (flatten-set xs i y (omega arith) g.1)
    where
      take_more : (k : ℕ) (a l : List ℤ) (w : ℕ) → length a ≡ w → take (w + k) (a ++ l) ≡ a ++ take k l
      take_more k a l w e = ap (λ (n : ℕ). take (n + k) (a ++ l)) (sym e) ∙ take-append-add a l k

  -- the numbers of row i
  flatten-row : (xs : List A) (i : ℕ) (d : A) → i < length xs → Every P xs → take w (drop (i * w) (flatten f xs)) ≡ f (get_or xs i d)
  flatten-row xs i d h g = ap (take w) (flatten-drop xs i g) ∙ head xs i h g
    where
      head : (xs : List A) (i : ℕ) → i < length xs → Every P xs → take w (flatten f (drop i xs)) ≡ f (get_or xs i d)
      head [] i h g = absurd (omega arith)
      head (x ∷ xs) zero h g = unfold flatten Every in take_at (f x) (flatten f xs) w (wide x g.0)
      head (x ∷ xs) (suc i) h g = head xs i (omega arith) (unfold Every in g.1)

-- ---- saves of states that fit

module _ (scopes : List ℕ) (few : FewLocals scopes) (channels : ℕ) where
  abbrev Good : Option Save → Type 0
  Good = PlaceOf (FitsKept scopes channels)

  empty-row : (x : Option Save) → Good x → has_key no_key (place_numbers x) ≡ is_empty x
  unfolding has_key place_numbers is_empty PlaceOf
  empty-row none g = refl
  empty-row (some x) g = rw (ne_eqb (low_of x.name) 0 (λ (q : low_of x.name ≡ 0). omega (arith, low-positive x.name g.name)))

  module _ (ss : Saves) (g : SavesOf (FitsKept scopes channels) ss) where
    abbrev zs : List ℤ
    zs = saves_numbers ss

    -- ---- places

    pub row-set : (i : ℕ) (x : Option Save) → i < save_limit → with_row i (place_numbers x) zs ≡ saves_numbers (set ss i x)
    unfolding with_row saves_numbers
    row-set i x h =
        ap (λ (l : List ℤ). take (i * place_width) zs ++ (place_numbers x ++ l)) (sym (drop-drop place_width (i * place_width) zs))
        ∙ flatten-set place_numbers place_width Good (place-length scopes few channels) ss i x (omega (arith, g.long)) g.places

    pub row_get : (i : ℕ) → i < save_limit → row_at i zs ≡ place_numbers (get_or ss i none)
    unfolding row_at saves_numbers
    row_get i h = flatten-row place_numbers place_width Good (place-length scopes few channels) ss i none (omega (arith, g.long)) g.places

    empty-place : place_with no_key zs ≡ first_of is_empty ss
    empty-place = ap (first_of (has_key no_key)) (saves-rows scopes few channels ss g) ∙ first-map Good place_numbers (has_key no_key) is_empty empty-row ss g.places

    module _ (n : List ℕ) (e : is_name n ≡ true) where
      name-place : place_with (key_numbers n) zs ≡ place_of n ss
      name-place =
          ap (first_of (has_key (key_numbers n))) (saves-rows scopes few channels ss g)
          ∙ first-map Good place_numbers (has_key (key_numbers n)) (named n) (key-named scopes few channels n e) ss g.places

      place-to-take : place_to_take (key_numbers n) zs ≡ place_for n ss
      unfolding place_to_take place_for
      place-to-take = ap₂ (λ (a b : ℕ). cond (ltb a save_limit) a b) name-place empty-place

      -- the numbers of the state under a known name
      known-state : (x : Option Save) → Good x → named n x ≡ true → (s : Timed) × (kept_of x ≡ some s) × (kept_part (place_numbers x) ≡ kept_numbers s)
      unfolding named kept_of place_numbers PlaceOf
      known-state none k t = not-both true refl (sym t)
      known-state (some x) k t =
          (x.kept, refl, whole_part (pos (low_of x.name)) (pos (high_of x.name)) (kept_numbers x.kept) (kept-length scopes few channels x.kept k.kept))

      good-at : (xs : Saves) (i : ℕ) → Every Good xs → Good (get_or xs i none)
      unfolding Every PlaceOf
      good-at [] zero h = tt
      good-at [] (suc i) h = tt
      good-at (x ∷ xs) zero h = h.0
      good-at (x ∷ xs) (suc i) h = good-at xs i h.1

      known : place_of n ss < save_limit → (s : Timed) × (kept_under n ss ≡ some s) × (kept_part (row_at (place_of n ss) zs) ≡ kept_numbers s)
      known h =
          let x = get_or ss (place_of n ss) none in
          let u = known-state x (good-at ss (place_of n ss) g.places) (first_passes (named n) ss none (omega (arith, g.long))) in
          (u.0, under-place n ss ∙ u.1, ap kept_part (row_get (place_of n ss) h) ∙ u.2)

    -- ---- the three turns

    module _ (n : List ℕ) (s : Timed) where
      pub saving-numbers : saving_numbers n (kept_numbers s) zs ≡ stored_numbers (saving n s ss)
      unfolding saving_numbers saving replaced stored_numbers place_numbers
      saving-numbers = by (is_name n) refl
        where
          at_place : (c : Bool) → ltb (place_for n ss) save_limit ≡ c
              → cond c (written 0 (kept_numbers s) (with_row (place_for n ss) (key_numbers n ++ kept_numbers s) zs)) (written 22 (kept_numbers s) zs)
              ≡ stored_numbers (cond c (stored 0 s (set ss (place_for n ss) (saved n s))) (stored 22 s ss))
          at_place true f = ap (λ (l : List ℤ). written 0 (kept_numbers s) l) (row-set (place_for n ss) (saved n s) (ltb-true _ _ f))
          at_place false f = refl

          by : (b : Bool) → is_name n ≡ b
              → cond b (cond (ltb (place_to_take (key_numbers n) zs) save_limit) (written 0 (kept_numbers s) (with_row (place_to_take (key_numbers n) zs) (key_numbers n ++ kept_numbers s) zs)) (written 22 (kept_numbers s) zs)) (written 20 (kept_numbers s) zs)
              ≡ stored_numbers (cond b (cond (ltb (place_for n ss) save_limit) (stored 0 s (set ss (place_for n ss) (saved n s))) (stored 22 s ss)) (stored 20 s ss))
          by true e =
              ap (λ (k : ℕ). cond (ltb k save_limit) (written 0 (kept_numbers s) (with_row k (key_numbers n ++ kept_numbers s) zs)) (written 22 (kept_numbers s) zs)) (place-to-take n e)
              ∙ at_place (ltb (place_for n ss) save_limit) refl
          by false e = refl

      pub forgetting-numbers : forgetting_numbers n (kept_numbers s) zs ≡ stored_numbers (forgetting n s ss)
      unfolding forgetting_numbers forgetting removed stored_numbers place_numbers
      forgetting-numbers = by (is_name n) refl
        where
          at_place : (c : Bool) → ltb (place_of n ss) save_limit ≡ c
              → cond c (written 0 (kept_numbers s) (with_row (place_of n ss) (replicate place_width (pos 0)) zs)) (written 21 (kept_numbers s) zs)
              ≡ stored_numbers (cond c (stored 0 s (set ss (place_of n ss) none)) (stored 21 s ss))
          at_place true f = ap (λ (l : List ℤ). written 0 (kept_numbers s) l) (row-set (place_of n ss) none (ltb-true _ _ f))
          at_place false f = refl

          by : (b : Bool) → is_name n ≡ b
              → cond b (cond (ltb (place_with (key_numbers n) zs) save_limit) (written 0 (kept_numbers s) (with_row (place_with (key_numbers n) zs) (replicate place_width (pos 0)) zs)) (written 21 (kept_numbers s) zs)) (written 20 (kept_numbers s) zs)
              ≡ stored_numbers (cond b (cond (ltb (place_of n ss) save_limit) (stored 0 s (set ss (place_of n ss) none)) (stored 21 s ss)) (stored 20 s ss))
          by true e =
              ap (λ (k : ℕ). cond (ltb k save_limit) (written 0 (kept_numbers s) (with_row k (replicate place_width (pos 0)) zs)) (written 21 (kept_numbers s) zs)) (name-place n e)
              ∙ at_place (ltb (place_of n ss) save_limit) refl
          by false e = refl

      pub returning-numbers : returning_numbers n (kept_numbers s) zs ≡ stored_numbers (returning n s ss)
      unfolding returning_numbers returning stored_numbers Option-elim
      returning-numbers = by (is_name n) refl
        where
          at_place : is_name n ≡ true → (c : Bool) → ltb (place_of n ss) save_limit ≡ c
              → cond c (written 0 (kept_part (row_at (place_of n ss) zs)) zs) (written 21 (kept_numbers s) zs)
              ≡ stored_numbers (Option-elim (kept_under n ss) (stored 21 s ss) (λ t. stored 0 t ss))
          at_place e true f = let k = known n e (ltb-true _ _ f) in rw k.1 (ap (λ (l : List ℤ). written 0 l zs) k.2)
          at_place e false f = rw (under_none n ss (none_named n ss (omega (arith, g.long, ltb-false (place_of n ss) save_limit f))))

          by : (b : Bool) → is_name n ≡ b
              → cond b (cond (ltb (place_with (key_numbers n) zs) save_limit) (written 0 (kept_part (row_at (place_with (key_numbers n) zs) zs)) zs) (written 21 (kept_numbers s) zs)) (written 20 (kept_numbers s) zs)
              ≡ stored_numbers (cond b (Option-elim (kept_under n ss) (stored 21 s ss) (λ t. stored 0 t ss)) (stored 20 s ss))
          by true e =
              ap (λ (k : ℕ). cond (ltb k save_limit) (written 0 (kept_part (row_at k zs)) zs) (written 21 (kept_numbers s) zs)) (name-place n e)
              ∙ at_place e (ltb (place_of n ss) save_limit) refl
          by false e = refl
