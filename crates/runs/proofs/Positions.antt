-- What comes after a run of the walk is just what a search goes on to from that run, whichever run it is: a lent position is a place of the walk (02, note 10). By the law of the rest, run after run.
use mathlib.Core.Path.{◌≡◌, refl, sym, ap, ◌∙◌}
use mathlib.Core.Bool.{Bool, true, false}
use mathlib.Core.List.Memᴰ
use mathlib.Core.List.{List, [], ◌∷◌, ◌++◌, Memᴰ as In}
use mathlib.Core.Logic.{⊎_elim}
use Prim.Native.Nat.{ℕ, ◌-◌, ◌≤◌}
use native.Mathlib.Omega.{arith}
use lib.ListN.{length}
use Rattle.runs.specs.Tree.{Listed}
use Rattle.runs.specs.Walk.{Event, meets, reaches, events, levels, walk, later_same, later, finds, met_before, next_of, rest_of}
use Rattle.runs.proofs.Later.{later-rest}
use Rattle.runs.proofs.Walk.{walk-goes}

module _ {S : Type 0} (ways : S → Listed S) (s : S) (d : ℕ) where
  -- where its first run is followed by what follows that run
  abbrev Goes-on : List Event → Type 0
  Goes-on es = (m h : Bool) (q : List ℕ) → next_of es ≡ finds m h q → rest_of es ≡ later ways s d q

  pub record After (h : Bool) (r : List ℕ) (es : List Event) : Type 0 where
    pub before : List Event
    pub parts : es ≡ before ++ (reaches h r ∷ later ways s d r)

  after-one : (es : List Event) → Goes-on es → ((g : Bool) (q : List ℕ) → In (reaches g q) es → length q ≤ d) → (h : Bool) (r : List ℕ) → In (reaches h r) es → After h r es
  unfolding next_of rest_of met_before
  after-one [] f l h r i = elim i [ ]
  after-one (meets ∷ es) f l h r i =
      let j : In (reaches h r) es = ⊎_elim (λ e. let z : ◌≡◌ {A = ℕ} 0 1 = cc in absurd (omega arith)) (λ k. k) (Memᴰ.cases_cons i) in
      let a = after-one es (λ m g q e. f true g q (ap (met_before true) e)) (λ g q k. l g q (In.tail k)) h r j in
      record { before = meets ∷ a.before; parts = ap (λ (xs : List Event). meets ∷ xs) a.parts }
  after-one (reaches g q ∷ es) f l h r i =
      let e : es ≡ later ways s d q = f false g q refl in
      ⊎_elim
      (λ w.
      let b : r ≡ q = cc in
      let c : h ≡ g = cc in
      record { before = []; parts = rw (b, c) (ap (λ (xs : List Event). reaches g q ∷ xs) e) })
      (λ k.
      let a = after-one es (λ m k p u. ap rest_of e ∙ later-rest ways s d q m k p (l g q (In.head refl)) (ap next_of (sym e) ∙ u)) (λ k p u. l k p (In.tail u)) h r k in
      record { before = reaches g q ∷ a.before; parts = ap (λ (xs : List Event). reaches g q ∷ xs) a.parts })
      (Memᴰ.cases_cons i)

  walk-goes-on : Goes-on (walk ways s d)
  unfolding walk levels events later later_same next_of rest_of
  walk-goes-on m h q e =
      let b : q ≡ [] = cc in
      let z : d ≡ d - 0 = omega arith in
      rw b (ap (levels ways s 1) z)

  -- note 10: the walk is cut at any of its runs into what comes up to it and what a search goes on to from it
  pub walk-later : (h : Bool) (r : List ℕ) → In (reaches h r) (walk ways s d) → After h r (walk ways s d)
  walk-later h r i = after-one (walk ways s d) walk-goes-on (λ g q j. ((walk-goes ways s d g q).0 j).1) h r i
