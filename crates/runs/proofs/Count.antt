-- How many states a search has: as many as there are runs within the depth up to the one that it finds, or in all (02, note 10). By the walk, which is exact and ascends.
use mathlib.Core.Path.{◌≡◌, refl, ap}
use mathlib.Core.Bool.{Bool, true, false}
use mathlib.Core.List.Memᴰ
use mathlib.Core.List.{List, [], ◌∷◌, Memᴰ as In}
use mathlib.Core.Logic.{inl, inr, ⊎_elim}
use Prim.Native.Nat.{ℕ, suc}
use lib.ListN.{length}
use Rattle.runs.specs.Tree.{Listed, Before, Ascending, UpTo, CountOf}
use Rattle.runs.specs.Walk.{Event, meets, reaches, walk, runs_of, ending, judge, search}
use Rattle.runs.specs.Steps.{states}
use Rattle.runs.proofs.Walk.{walk-exact, walk-ascends}
use Rattle.runs.proofs.Judged.{before-once}

-- the runs up to the first to the wait
counted : List Event → List (List ℕ)
counted [] = []
counted (meets ∷ es) = counted es
counted (reaches true r ∷ es) = r ∷ []
counted (reaches false r ∷ es) = r ∷ counted es

counted-many : (es : List Event) → states es ≡ length (counted es)
unfolding states counted
counted-many [] = refl
counted-many (meets ∷ es) = counted-many es
counted-many (reaches true r ∷ es) = refl
counted-many (reaches false r ∷ es) = ap suc (counted-many es)

counted-among : (es : List Event) (q : List ℕ) → In q (counted es) → In q (runs_of es)
unfolding counted runs_of
counted-among [] q i = elim i [ ]
counted-among (meets ∷ es) q i = counted-among es q i
counted-among (reaches true r ∷ es) q i = In.head (Memᴰ.eq_of_singleton i)
counted-among (reaches false r ∷ es) q i = ⊎_elim (λ w. In.head w) (λ w. In.tail (counted-among es q w)) (Memᴰ.cases_cons i)

counted-ascends : (es : List Event) → Ascending Before (runs_of es) → Ascending Before (counted es)
unfolding Ascending counted runs_of
counted-ascends [] a = tt
counted-ascends (meets ∷ es) a = counted-ascends es a
counted-ascends (reaches true r ∷ es) a = (λ q i. elim i [ ], tt)
counted-ascends (reaches false r ∷ es) a = (λ q i. a.0 q (counted-among es q i), counted-ascends es a.1)

-- what comes before all that follow comes up to what is found
first-up : (m : Bool) (es : List Event) (r : List ℕ) → ((q : List ℕ) → In q (runs_of es) → Before r q) → UpTo (judge m es) r
unfolding judge ending runs_of UpTo
first-up true [] r f = tt
first-up false [] r f = tt
first-up m (meets ∷ es) r f = first-up true es r f
first-up m (reaches true p ∷ es) r f = inr (f p (In.head refl))
first-up m (reaches false p ∷ es) r f = first-up m es r (λ q i. f q (In.tail i))

counted-up : (m : Bool) (es : List Event) → Ascending Before (runs_of es) → (q : List ℕ) → In q (counted es) → UpTo (judge m es) q
unfolding judge counted runs_of Ascending UpTo
counted-up m [] a q i = elim i [ ]
counted-up m (meets ∷ es) a q i = counted-up true es a q i
counted-up m (reaches true r ∷ es) a q i = inl (Memᴰ.eq_of_singleton i)
counted-up m (reaches false r ∷ es) a q i = ⊎_elim (λ w. rw w (first-up m es r a.0)) (λ w. counted-up m es a.1 q w) (Memᴰ.cases_cons i)

up-counted : (m : Bool) (es : List Event) → Ascending Before (runs_of es) → (q : List ℕ) → In q (runs_of es) → UpTo (judge m es) q → In q (counted es)
unfolding judge counted runs_of Ascending UpTo
up-counted m [] a q i u = elim i [ ]
up-counted m (meets ∷ es) a q i u = up-counted true es a q i u
up-counted m (reaches true r ∷ es) a q i u =
    ⊎_elim (λ w. In.head w)
    (λ w. ⊎_elim (λ e. In.head e) (λ b. absurd (before-once q r b (a.0 q w))) u)
    (Memᴰ.cases_cons i)
up-counted m (reaches false r ∷ es) a q i u = ⊎_elim (λ w. In.head w) (λ w. In.tail (up-counted m es a.1 q w u)) (Memᴰ.cases_cons i)

module _ {S : Type 0} (ways : S → Listed S) (s : S) (d : ℕ) where
  -- note 10: the count of a search's states
  pub states-count : CountOf ways s d (search ways s d) (states (walk ways s d))
  unfolding search
  states-count = record {
    runs = counted (walk ways s d);
    ascends = counted-ascends (walk ways s d) (walk-ascends ways s d);
    exact = λ q. (
      λ i. let x = (walk-exact ways s d q).0 (counted-among (walk ways s d) q i) in (x.0, x.1, counted-up false (walk ways s d) (walk-ascends ways s d) q i),
      λ x. up-counted false (walk ways s d) (walk-ascends ways s d) q ((walk-exact ways s d q).1 (x.0, x.1)) x.2,
    );
    many = counted-many (walk ways s d);
  }
