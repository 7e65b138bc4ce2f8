-- Laws of places: what a test of every place says, and what a change at one place leaves of names and of the states under them. All goes back to one fact: a name stands
-- once, so that no place but its own has it (others-unknown). By induction on the places.
use mathlib.Core.Path.{◌≡◌, refl, sym, ap, ap₂, ◌∙◌}
use mathlib.Core.List.{List, [], ◌∷◌}
use mathlib.Core.Bool.{Bool, true, false, cond, not, ◌&&◌}
use mathlib.Core.Option.{Option, none, some, Option-elim}
use Prim.Native.Nat.{ℕ, zero, suc, ◌≤◌, ◌<◌}
use native.Mathlib.Omega.{arith}
use lib.Dec.{ltb}
use lib.ListN.{length, get_or, set, replicate, length-set, length-replicate}
use borrow.Author.Tests.{eqb-true, eq-eqb, ltb-false}
use Rattle.model.specs.Good.{Every}
use Rattle.machine.specs.Timed.{Timed}
use Rattle.machine.specs.Saves.{is_name, same, Save, save_limit, Saves, no_saves, named, is_empty, first_of, place_of, place_for, kept_of, kept_under, is_unknown, is_apart, are_apart, PlaceOf, SavesOf, Stored, stored, replaced, removed, saving, returning, forgetting}

-- ---- tests

both : (a b : Bool) → a && b ≡ true → (a ≡ true) × (b ≡ true)
both true b e = (refl, e)
both false b e = let z : ◌≡◌ {A = ℕ} 0 1 = cc in absurd (omega arith)

and-true : {a b : Bool} → a ≡ true → b ≡ true → a && b ≡ true
and-true e f = ap₂ (λ (x y : Bool). x && y) e f

pub not-both : {A : Type 0} (b : Bool) → b ≡ true → b ≡ false → A
not-both b e f = let z : ◌≡◌ {A = ℕ} 0 1 = cc in absurd (omega arith)

not-true : (t : Bool) → not t ≡ true → t ≡ false
not-true true e = not-both true refl (sym e)
not-true false e = refl

-- ---- every member, with one of them changed

every_set : {A : Type 0} (P : A → Type 0) (xs : List A) (i : ℕ) (x : A) → Every P xs → P x → Every P (set xs i x)
unfolding Every
every_set P [] i x e f = e
every_set P (y ∷ ys) zero x e f = (f, e.1)
every_set P (y ∷ ys) (suc i) x e f = (e.0, every_set P ys i x e.1 f)

pub unknown-set : (n : List ℕ) (ss : Saves) (i : ℕ) (x : Option Save) → is_unknown n ss ≡ true → named n x ≡ false → is_unknown n (set ss i x) ≡ true
unfolding is_unknown
unknown-set n [] i x e f = refl
unknown-set n (y ∷ ys) zero x e f = and-true (ap not f) (both (not (named n y)) _ e).1
unknown-set n (y ∷ ys) (suc i) x e f = let b = both (not (named n y)) _ e in and-true b.0 (unknown-set n ys i x b.1 f)

-- ---- names

pub same-eq : (a b : List ℕ) → same a b ≡ true → a ≡ b
unfolding same
same-eq [] [] e = refl
same-eq [] (y ∷ ys) e = not-both true refl (sym e)
same-eq (x ∷ xs) [] e = not-both true refl (sym e)
same-eq (x ∷ xs) (y ∷ ys) e = let b = both _ _ e in ap₂ (λ (z : ℕ) (zs : List ℕ). z ∷ zs) (eqb-true _ _ b.0) (same-eq xs ys b.1)

pub same_refl : (a : List ℕ) → same a a ≡ true
unfolding same
same_refl [] = refl
same_refl (x ∷ xs) = rw (eq-eqb x x refl, same_refl xs)

same-flip : (a b : List ℕ) → same a b ≡ false → same b a ≡ false
same-flip a b e = by (same b a) refl
  where
    by : (t : Bool) → same b a ≡ t → same b a ≡ false
    by true f = not-both (same a b) (ap (λ (c : List ℕ). same a c) (same-eq b a f) ∙ same_refl a) e
    by false f = f

-- a place that has a name has no other
pub named-is : (k n : List ℕ) (x : Option Save) → named k x ≡ true → named n x ≡ same k n
unfolding named
named-is k n none e = not-both true refl (sym e)
named-is k n (some x) e = ap (λ (c : List ℕ). same c n) (same-eq _ _ e)

empty-unnamed : (n : List ℕ) (x : Option Save) → is_empty x ≡ true → named n x ≡ false
unfolding named is_empty
empty-unnamed n none e = refl
empty-unnamed n (some x) e = not-both true refl (sym e)

-- ---- the first that passes

pub first_passes : {A : Type 0} (t : A → Bool) (xs : List A) (d : A) → first_of t xs < length xs → t (get_or xs (first_of t xs) d) ≡ true
unfolding first_of
first_passes t [] d h = absurd (omega arith)
first_passes t (x ∷ xs) d h = by (λ k. first_passes t xs d k) (t x) refl h
  where
    by : (first_of t xs < length xs → t (get_or xs (first_of t xs) d) ≡ true) → (b : Bool) → t x ≡ b → cond b 0 (suc (first_of t xs)) < length (x ∷ xs) → t (get_or (x ∷ xs) (cond b 0 (suc (first_of t xs))) d) ≡ true
    by go true e h = e
    by go false e h = go (omega arith)

pub none_named : (n : List ℕ) (ss : Saves) → length ss ≤ place_of n ss → is_unknown n ss ≡ true
unfolding first_of is_unknown
none_named n [] h = refl
none_named n (x ∷ xs) h = by (λ k. none_named n xs k) (named n x) refl h
  where
    by : (length xs ≤ place_of n xs → is_unknown n xs ≡ true) → (b : Bool) → named n x ≡ b → length (x ∷ xs) ≤ cond b 0 (suc (place_of n xs)) → (not (named n x) && is_unknown n xs) ≡ true
    by go true e h = absurd (omega arith)
    by go false e h = rw e (go (omega arith))

-- a name stands once: no place but its own has it
pub others-unknown : (n : List ℕ) (ss : Saves) → are_apart ss ≡ true → is_unknown n (set ss (place_of n ss) none) ≡ true
unfolding first_of is_unknown are_apart is_apart named
others-unknown n [] d = refl
others-unknown n (none ∷ xs) d = others-unknown n xs d
others-unknown n (some x ∷ xs) d = by (others-unknown n xs (both (is_apart (some x) xs) _ d).1) (same x.name n) refl
  where
    by : is_unknown n (set xs (place_of n xs) none) ≡ true → (b : Bool) → same x.name n ≡ b → is_unknown n (set (some x ∷ xs) (cond b 0 (suc (place_of n xs))) none) ≡ true
    by go true e = ap (λ (c : List ℕ). is_unknown c xs) (sym (same-eq _ _ e)) ∙ (both (is_apart (some x) xs) _ d).0
    by go false e = rw e go

-- the place for a name: no other has it
pub place-ready : (n : List ℕ) (ss : Saves) → length ss ≡ save_limit → are_apart ss ≡ true → is_unknown n (set ss (place_for n ss) none) ≡ true
unfolding place_for named
place-ready n ss l d = by (ltb (place_of n ss) save_limit) refl
  where
    by : (b : Bool) → ltb (place_of n ss) save_limit ≡ b → is_unknown n (set ss (cond b (place_of n ss) (first_of is_empty ss)) none) ≡ true
    by true e = others-unknown n ss d
    by false e = unknown-set n ss (first_of is_empty ss) none (none_named n ss (omega (arith, ltb-false (place_of n ss) save_limit e))) refl

-- and it has no other name
pub place_other : (k n : List ℕ) (ss : Saves) → length ss ≡ save_limit → place_for k ss < save_limit → same k n ≡ false → named n (get_or ss (place_for k ss) none) ≡ false
unfolding place_for
place_other k n ss l h e = by (ltb (place_of k ss) save_limit) refl h
  where
    by : (b : Bool) → ltb (place_of k ss) save_limit ≡ b → cond b (place_of k ss) (first_of is_empty ss) < save_limit → named n (get_or ss (cond b (place_of k ss) (first_of is_empty ss)) none) ≡ false
    by true f h = named-is k n _ (first_passes (named k) ss none (omega arith)) ∙ e
    by false f h = empty-unnamed n _ (first_passes is_empty ss none (omega arith))

-- ---- names stand once after a change

apart_none : (ss : Saves) (i : ℕ) → are_apart ss ≡ true → are_apart (set ss i none) ≡ true
unfolding are_apart is_apart named
apart_none [] i d = refl
apart_none (x ∷ xs) zero d = (both (is_apart x xs) _ d).1
apart_none (none ∷ xs) (suc i) d = apart_none xs i d
apart_none (some x ∷ xs) (suc i) d =
    and-true (unknown-set x.name xs i none (both (is_apart (some x) xs) _ d).0 refl) (apart_none xs i (both (is_apart (some x) xs) _ d).1)

module _ (v : Save) where
  apart-set : (ss : Saves) (i : ℕ) → are_apart ss ≡ true → is_unknown v.name (set ss i none) ≡ true → are_apart (set ss i (some v)) ≡ true
  unfolding are_apart is_apart named is_unknown
  apart-set [] i d u = refl
  apart-set (x ∷ xs) zero d u = and-true u (both (is_apart x xs) _ d).1
  apart-set (none ∷ xs) (suc i) d u = apart-set xs i d u
  apart-set (some x ∷ xs) (suc i) d u =
      let b = both _ _ u in
      let q = same-flip x.name v.name (not-true _ b.0) in
      and-true (unknown-set x.name xs i (some v) (both (is_apart (some x) xs) _ d).0 q) (apart-set xs i (both (is_apart (some x) xs) _ d).1 b.1)

  -- ---- the state under a name

  pub under-set : (ss : Saves) (i : ℕ) → i < length ss → is_unknown v.name (set ss i none) ≡ true → kept_under v.name (set ss i (some v)) ≡ some v.kept
  unfolding kept_under named is_unknown kept_of
  under-set [] i h u = absurd (omega arith)
  under-set (x ∷ xs) zero h u = rw (same_refl v.name)
  under-set (x ∷ xs) (suc i) h u = by (under-set xs i (omega arith) (both (not (named v.name x)) _ u).1) (named v.name x) (both _ _ u).0
    where
      by : kept_under v.name (set xs i (some v)) ≡ some v.kept → (t : Bool) → not t ≡ true → cond t (kept_of x) (kept_under v.name (set xs i (some v))) ≡ some v.kept
      by go true f = not-both true refl (sym f)
      by go false f = go

pub under_none : (n : List ℕ) (ss : Saves) → is_unknown n ss ≡ true → kept_under n ss ≡ none
unfolding kept_under is_unknown
under_none n [] u = refl
under_none n (x ∷ xs) u = by (under_none n xs (both (not (named n x)) _ u).1) (named n x) (both _ _ u).0
  where
    by : kept_under n xs ≡ none → (t : Bool) → not t ≡ true → cond t (kept_of x) (kept_under n xs) ≡ none
    by go true e = not-both true refl (sym e)
    by go false e = go

-- 02, note 2: a name that is forgotten is unknown
pub removed-unknown : (n : List ℕ) (ss : Saves) → are_apart ss ≡ true → is_unknown n (removed n ss) ≡ true
unfolding removed
removed-unknown n ss d = others-unknown n ss d

-- 02, note 2: what is saved stands under the name
pub replaced-under : (n : List ℕ) (s : Timed) (ss : Saves) → length ss ≡ save_limit → are_apart ss ≡ true → place_for n ss < save_limit → kept_under n (replaced n s ss) ≡ some s
unfolding replaced
replaced-under n s ss l d h = under-set (record { name = n; kept = s }) ss (place_for n ss) (omega arith) (place-ready n ss l d)

-- a change at another name's place leaves the state under this one
pub under-other : (n : List ℕ) (ss : Saves) (i : ℕ) (v : Option Save) → named n (get_or ss i none) ≡ false → named n v ≡ false → kept_under n (set ss i v) ≡ kept_under n ss
unfolding kept_under
under-other n [] i v e f = refl
under-other n (x ∷ xs) zero v e f = rw (e, f)
under-other n (x ∷ xs) (suc i) v e f = ap (cond (named n x) (kept_of x)) (under-other n xs i v e f)

-- it is the one at the name's place
pub under-place : (n : List ℕ) (ss : Saves) → kept_under n ss ≡ kept_of (get_or ss (place_of n ss) none)
unfolding kept_under first_of kept_of
under-place n [] = refl
under-place n (x ∷ xs) = by (under-place n xs) (named n x)
  where
    by : kept_under n xs ≡ kept_of (get_or xs (place_of n xs) none) → (b : Bool) → cond b (kept_of x) (kept_under n xs) ≡ kept_of (get_or (x ∷ xs) (cond b 0 (suc (place_of n xs))) none)
    by go true = refl
    by go false = go

never : {A B : Type 0} {x : A} → ◌≡◌ {A = Option A} none (some x) → B
never e = absurd (let z : ◌≡◌ {A = ℕ} 0 1 = cc in omega arith)

module _ (P : Timed → Type 0) where
  pub under-holds : (n : List ℕ) (ss : Saves) (s : Timed) → Every (PlaceOf P) ss → kept_under n ss ≡ some s → P s
  unfolding kept_under Every PlaceOf kept_of
  under-holds n [] s g e = never e
  under-holds n (x ∷ xs) s g e = by (λ k. under-holds n xs s g.1 k) (named n x) x g.0 e
    where
      by : (kept_under n xs ≡ some s → P s) → (t : Bool) (x : Option Save) → PlaceOf P x → cond t (kept_of x) (kept_under n xs) ≡ some s → P s
      by go true none k e = never e
      by go true (some y) k e = let q : y.kept ≡ s = cc in rw q at k.kept
      by go false x k e = go e

  pub under-name : (n : List ℕ) (ss : Saves) (s : Timed) → Every (PlaceOf P) ss → kept_under n ss ≡ some s → is_name n ≡ true
  unfolding kept_under Every PlaceOf kept_of named
  under-name n [] s g e = never e
  under-name n (x ∷ xs) s g e = by (λ k. under-name n xs s g.1 k) x g.0 (named n x) refl e
    where
      by : (kept_under n xs ≡ some s → is_name n ≡ true) → (x : Option Save) → PlaceOf P x → (t : Bool) → named n x ≡ t → cond t (kept_of x) (kept_under n xs) ≡ some s → is_name n ≡ true
      by go none k t f e = go (unless t e)
        where
          unless : (t : Bool) → cond t (kept_of none) (kept_under n xs) ≡ some s → kept_under n xs ≡ some s
          unless true e = never e
          unless false e = e
      by go (some y) k true f e = ap is_name (sym (same-eq y.name n f)) ∙ k.name
      by go (some y) k false f e = go e

  -- ---- no saves

  none-hold : (k : ℕ) → Every (PlaceOf P) (replicate k none)
  unfolding Every PlaceOf
  none-hold zero = tt
  none-hold (suc k) = (tt, none-hold k)

  pub no-saves-hold : SavesOf P no_saves
  unfolding no_saves are_apart is_apart
  no-saves-hold = record { long = length-replicate {A = Option Save} save_limit none; places = none-hold save_limit; apart = refl }

  -- ---- every turn leaves such a state and such saves

  pub record StoredOf (x : Stored) : Type 0 where
    pub kept : P x.kept
    pub saves : SavesOf P x.saves

  module _ (n : List ℕ) (s : Timed) (ss : Saves) (g : P s) (k : SavesOf P ss) where
    pub saving-holds : StoredOf (saving n s ss)
    unfolding saving replaced PlaceOf
    saving-holds = by (is_name n) (ltb (place_for n ss) save_limit) refl
      where
        by : (b c : Bool) → is_name n ≡ b → StoredOf (cond b (cond c (stored 0 s (replaced n s ss)) (stored 22 s ss)) (stored 20 s ss))
        by true true e = record {
          kept = g;
          saves = record {
            long = length-set ss (place_for n ss) _ ∙ k.long;
            places = every_set (PlaceOf P) ss (place_for n ss) _ k.places (record { name = e; kept = g });
            apart = apart-set (record { name = n; kept = s }) ss (place_for n ss) k.apart (place-ready n ss k.long k.apart);
          };
        }
        by true false e = record { kept = g; saves = k }
        by false c e = record { kept = g; saves = k }

    pub returning-holds : StoredOf (returning n s ss)
    unfolding returning Option-elim
    returning-holds = by (is_name n) (kept_under n ss) refl
      where
        by : (b : Bool) (o : Option Timed) → kept_under n ss ≡ o → StoredOf (cond b (Option-elim o (stored 21 s ss) (λ t. stored 0 t ss)) (stored 20 s ss))
        by true none e = record { kept = g; saves = k }
        by true (some t) e = record { kept = under-holds n ss t k.places e; saves = k }
        by false o e = record { kept = g; saves = k }

    pub forgetting-holds : StoredOf (forgetting n s ss)
    unfolding forgetting removed PlaceOf
    forgetting-holds = by (is_name n) (ltb (place_of n ss) save_limit)
      where
        by : (b c : Bool) → StoredOf (cond b (cond c (stored 0 s (removed n ss)) (stored 21 s ss)) (stored 20 s ss))
        by true true = record {
          kept = g;
          saves = record {
            long = length-set ss (place_of n ss) none ∙ k.long;
            places = every_set (PlaceOf P) ss (place_of n ss) none k.places tt;
            apart = apart_none ss (place_of n ss) k.apart;
          };
        }
        by true false = record { kept = g; saves = k }
        by false c = record { kept = g; saves = k }

-- no name is known where nothing is saved
pub none-unknown : (n : List ℕ) → is_unknown n no_saves ≡ true
unfolding no_saves is_unknown named
none-unknown n = refl

-- ---- answers

-- a turn from s and ss is accepted, or refused under 20 to 22 and leaves both
pub data StoredAnswers (s : Timed) (ss : Saves) (x : Stored) : Type 0 where
  accepts : x.number ≡ 0 → StoredAnswers s ss x
  refuses : 20 ≤ x.number → x.number ≤ 22 → (x.kept ≡ s) × (x.saves ≡ ss) → StoredAnswers s ss x

module _ (n : List ℕ) (s : Timed) (ss : Saves) where
  refusal : (k : ℕ) → 20 ≤ k → k ≤ 22 → StoredAnswers s ss (stored k s ss)
  refusal k h l = refuses h l (refl, refl)

  pub saving-answers : StoredAnswers s ss (saving n s ss)
  unfolding saving
  saving-answers = by (is_name n) (ltb (place_for n ss) save_limit)
    where
      by : (b c : Bool) → StoredAnswers s ss (cond b (cond c (stored 0 s (replaced n s ss)) (stored 22 s ss)) (stored 20 s ss))
      by true true = accepts refl
      by true false = refusal 22 (omega arith) (omega arith)
      by false c = refusal 20 (omega arith) (omega arith)

  pub returning-answers : StoredAnswers s ss (returning n s ss)
  unfolding returning Option-elim
  returning-answers = by (is_name n) (kept_under n ss)
    where
      by : (b : Bool) (o : Option Timed) → StoredAnswers s ss (cond b (Option-elim o (stored 21 s ss) (λ t. stored 0 t ss)) (stored 20 s ss))
      by true none = refusal 21 (omega arith) (omega arith)
      by true (some t) = accepts refl
      by false o = refusal 20 (omega arith) (omega arith)

  pub forgetting-answers : StoredAnswers s ss (forgetting n s ss)
  unfolding forgetting
  forgetting-answers = by (is_name n) (ltb (place_of n ss) save_limit)
    where
      by : (b c : Bool) → StoredAnswers s ss (cond b (cond c (stored 0 s (removed n ss)) (stored 21 s ss)) (stored 20 s ss))
      by true true = accepts refl
      by true false = refusal 21 (omega arith) (omega arith)
      by false c = refusal 20 (omega arith) (omega arith)
