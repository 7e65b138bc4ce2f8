-- The earlier of two answers: it answers for two lists of faults together, in any order. From the definitions alone.
use mathlib.Core.Path.{◌≡◌, refl, sym, ap, ◌∙◌}
use mathlib.Core.List.{List, [], ◌∷◌, ◌++◌}
use Prim.Native.Nat.{ℕ, suc, ◌≤◌, min}
use native.Mathlib.Omega.{arith}
use Rattle.std.specs.Prelude.{Bool, true, false, None, Some}
use Rattle.std.specs.Bool.{then_some}
use Rattle.std.specs.Option.{option_to_list}
use Rattle.std.specs.List.{fold, reduce, cons_option}
use Rattle.token.specs.Questions.{Found}
use Rattle.model.specs.Lists.{when, earlier, least}
use Rattle.names.specs.Faults.{earlier_of}

pub nothing_right : (f : Found) → earlier_of f None ≡ f
unfolding earlier_of earlier
nothing_right (Some k) = refl
nothing_right None = refl

pub assoc : (f g h : Found) → earlier_of (earlier_of f g) h ≡ earlier_of f (earlier_of g h)
unfolding earlier_of earlier
assoc None g h = refl
assoc (Some k) None h = refl
assoc (Some k) (Some m) None = refl
assoc (Some k) (Some m) (Some n) = ap Some (omega arith)

pub swap : (f g : Found) → earlier_of f g ≡ earlier_of g f
unfolding earlier_of earlier
swap None None = refl
swap None (Some m) = refl
swap (Some k) None = refl
swap (Some k) (Some m) = ap Some (omega arith)

-- ---- lists
-- a token where the test says so
pub told : (b : Bool) (k : ℕ) → then_some b k ≡ least (when b k)
unfolding least when earlier
told true k = refl
told false k = refl

pub least-append : (xs ys : List ℕ) → least (xs ++ ys) ≡ earlier_of (least xs) (least ys)
unfolding least earlier_of
least-append [] ys = refl
least-append (k ∷ xs) ys = ap (earlier k) (least-append xs ys) ∙ sym (assoc (Some k) (least xs) (least ys))

-- ---- the least of what an iterator gives
fold-min : (k x : ℕ) (xs : List ℕ) → fold min (min k x) xs ≡ min k (fold min x xs)
fold-min k x [] = refl
fold-min k x (y ∷ ys) =
    let e : min (min k x) y ≡ min k (min x y) = omega arith in
    ap (λ (z : ℕ). fold min z ys) e ∙ fold-min k (min x y) ys

pub least_picked : (o : Found) (xs : List ℕ) → reduce min (cons_option o xs) ≡ earlier_of o (reduce min xs)
unfolding earlier_of earlier
least_picked None xs = refl
least_picked (Some k) [] = refl
least_picked (Some k) (x ∷ xs) = ap Some (fold-min k x xs)

pub of_two : (a b : Found) → reduce min (option_to_list a ++ option_to_list b) ≡ earlier_of a b
unfolding earlier_of earlier
of_two None None = refl
of_two None (Some j) = refl
of_two (Some i) None = refl
of_two (Some i) (Some j) = refl

-- the middle list comes first
pub least-middle : (xs ys zs : List ℕ) → least (xs ++ ys ++ zs) ≡ earlier_of (least ys) (least (xs ++ zs))
least-middle xs ys zs =
    least-append (xs ++ ys) zs
    ∙ ap (λ (f : Found). earlier_of f (least zs)) (least-append xs ys ∙ swap (least xs) (least ys))
    ∙ assoc (least ys) (least xs) (least zs)
    ∙ ap (earlier_of (least ys)) (sym (least-append xs zs))

-- no answer, no fault
earlier-some : (k : ℕ) (f : Found) → earlier k f ≡ None → ⊥
unfolding earlier
earlier-some k None e = let z : ◌≡◌ {A = ℕ} 0 1 = cc in omega arith
earlier-some k (Some m) e = let z : ◌≡◌ {A = ℕ} 0 1 = cc in omega arith

pub nothing-first : (f g : Found) → earlier_of f g ≡ None → f ≡ None
unfolding earlier_of
nothing-first None g e = refl
nothing-first (Some k) g e = absurd (earlier-some k g e)

pub nothing-second : (f g : Found) → earlier_of f g ≡ None → g ≡ None
unfolding earlier_of
nothing-second None g e = e
nothing-second (Some k) g e = absurd (earlier-some k g e)

pub least-none : (xs : List ℕ) → least xs ≡ None → xs ≡ []
unfolding least
least-none [] e = refl
least-none (k ∷ xs) e = absurd (earlier-some k (least xs) e)

pub none_left : (xs ys : List ℕ) → xs ++ ys ≡ [] → xs ≡ []
none_left [] ys e = refl
none_left (k ∷ xs) ys e = cc

pub none_right : (xs ys : List ℕ) → xs ++ ys ≡ [] → ys ≡ []
none_right [] ys e = e
none_right (k ∷ xs) ys e = let z : ◌≡◌ {A = List ℕ} (k ∷ (xs ++ ys)) [] = e in cc

-- a fault before which none stands
abbrev pub From : ℕ → Found → Type 0
From k None = Unit {0}
From k (Some m) = k ≤ m

pub from_on : (k : ℕ) (f : Found) → From (suc k) f → From k f
from_on k None h = tt
from_on k (Some m) h = omega arith

pub least-here : (k : ℕ) (f : Found) → From k f → earlier k f ≡ Some k
unfolding earlier
least-here k None h = refl
least-here k (Some m) h = ap Some (omega arith)
