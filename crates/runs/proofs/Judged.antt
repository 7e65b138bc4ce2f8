-- What a search answers (02, notes 8 and 9): the first run to the wait, none, or 27, each exactly when the notes say so. Assumes nothing.
use mathlib.Core.Path.{◌≡◌, refl, sym, ap, subst}
use mathlib.Core.Bool.{Bool, true, false}
use mathlib.Core.List.Memᴰ
use mathlib.Core.List.{List, [], ◌∷◌, ◌++◌, Memᴰ as In}
use mathlib.Core.Logic.{◌⊎◌, inl, inr, ⊎_elim, ◌↔◌}
use Prim.Native.Nat.{ℕ, ◌<◌}
use native.Mathlib.Omega.{arith}
use Rattle.runs.specs.Tree.{Listed, Lower, first, same, Before, shorter, earlier, Ascending, Answer, found, nothing, unsure, Means, earliest, none_at_all, none-known}
use Rattle.runs.specs.Walk.{Event, meets, reaches, walk, ending, judge, search}
use Rattle.runs.proofs.Ascends.{Rises, rises-out}
use Rattle.runs.proofs.Walk.{walk-rises, walk_meets, walk-performs}

-- no run to the wait
abbrev pub Waitless : List Event → Type 0
Waitless xs = (q : List ℕ) → In (reaches true q) xs → ⊥

waitless-more : (x : Event) (xs : List Event) → ((q : List ℕ) → reaches true q ≡ x → ⊥) → Waitless xs → Waitless (x ∷ xs)
waitless-more x xs f w q i = ⊎_elim (f q) (w q) (Memᴰ.cases_cons i)

-- ---- over any events

pub record Found (xs : List Event) (r : List ℕ) : Type 0 where
  pub before : List Event
  pub after : List Event
  pub events : xs ≡ before ++ (reaches true r ∷ after)
  pub none_before : Waitless before

pub judge-found : (m : Bool) (xs : List Event) (r : List ℕ) → judge m xs ≡ found r → Found xs r
unfolding judge ending
judge-found true [] r e = let z : ◌≡◌ {A = ℕ} 0 1 = cc in absurd (omega arith)
judge-found false [] r e = let z : ◌≡◌ {A = ℕ} 0 1 = cc in absurd (omega arith)
judge-found m (meets ∷ xs) r e =
    let x = judge-found true xs r e in
    record { before = meets ∷ x.before; after = x.after; events = ap (λ (l : List Event). meets ∷ l) x.events; none_before = waitless-more meets x.before (λ q p. let z : ◌≡◌ {A = ℕ} 0 1 = cc in absurd (omega arith)) x.none_before }
judge-found m (reaches true q ∷ xs) r e = let p : q ≡ r = cc in rw p (record { before = []; after = xs; events = refl; none_before = λ u i. elim i [ ] })
judge-found m (reaches false q ∷ xs) r e =
    let x = judge-found m xs r e in
    record { before = reaches false q ∷ x.before; after = x.after; events = ap (λ (l : List Event). reaches false q ∷ l) x.events; none_before = waitless-more (reaches false q) x.before (λ u p. let b : true ≡ false = cc in let z : ◌≡◌ {A = ℕ} 0 1 = cc in absurd (omega arith)) x.none_before }

pub judge-nothing : (m : Bool) (xs : List Event) → judge m xs ≡ nothing → (m ≡ false) × Waitless xs × (In meets xs → ⊥)
unfolding judge ending
judge-nothing true [] e = let z : ◌≡◌ {A = ℕ} 0 1 = cc in absurd (omega arith)
judge-nothing false [] e = (refl, λ q i. elim i [ ], λ i. elim i [ ])
judge-nothing m (meets ∷ xs) e = let x = judge-nothing true xs e in let b : true ≡ false = x.0 in let z : ◌≡◌ {A = ℕ} 0 1 = cc in absurd (omega arith)
judge-nothing m (reaches true q ∷ xs) e = let z : ◌≡◌ {A = ℕ} 0 1 = cc in absurd (omega arith)
judge-nothing m (reaches false q ∷ xs) e =
    let x = judge-nothing m xs e in (
      x.0,
      waitless-more (reaches false q) xs (λ u p. let b : true ≡ false = cc in let z : ◌≡◌ {A = ℕ} 0 1 = cc in absurd (omega arith)) x.1,
      λ i. ⊎_elim (λ w. let z : ◌≡◌ {A = ℕ} 0 1 = cc in absurd (omega arith)) x.2 (Memᴰ.cases_cons i),
    )

pub judge-unsure : (m : Bool) (xs : List Event) → judge m xs ≡ unsure → Waitless xs × ((m ≡ true) ⊎ In meets xs)
unfolding judge ending
judge-unsure true [] e = (λ q i. elim i [ ], inl refl)
judge-unsure false [] e = let z : ◌≡◌ {A = ℕ} 0 1 = cc in absurd (omega arith)
judge-unsure m (meets ∷ xs) e = (waitless-more meets xs (λ q p. let z : ◌≡◌ {A = ℕ} 0 1 = cc in absurd (omega arith)) (judge-unsure true xs e).0, inr (Memᴰ.head refl))
judge-unsure m (reaches true q ∷ xs) e = let z : ◌≡◌ {A = ℕ} 0 1 = cc in absurd (omega arith)
judge-unsure m (reaches false q ∷ xs) e =
    let x = judge-unsure m xs e in
    (waitless-more (reaches false q) xs (λ u p. let b : true ≡ false = cc in let z : ◌≡◌ {A = ℕ} 0 1 = cc in absurd (omega arith)) x.0, ⊎_elim inl (λ i. inr (Memᴰ.tail i)) x.1)

-- what follows a member of an ascending list
pub after-ascends : {A : Type 0} (R : A → A → Type 0) (xs : List A) (x : A) (ys : List A) → Ascending R (xs ++ (x ∷ ys)) → (y : A) → In y ys → R x y
unfolding Ascending
after-ascends R [] x ys a = a.0
after-ascends R (z ∷ xs) x ys a = after-ascends R xs x ys a.1

-- ---- the search

module _ {S : Type 0} (ways : S → Listed S) (s : S) (d : ℕ) where
  pub means : (a : Answer) → search ways s d ≡ a → Means ways s d a
  unfolding search
  means (found r) e =
      let x = judge-found false (walk ways s d) r e in
      let here : In (reaches true r) (walk ways s d) = rw x.events (Memᴰ.append_right x.before (Memᴰ.head refl)) in
      earliest ((walk-performs ways s d r).0 here)
      (λ q p.
      let i : In (reaches true q) (x.before ++ (reaches true r ∷ x.after)) = subst (λ (l : List Event). In (reaches true q) l) x.events ((walk-performs ways s d q).1 p) in
      ⊎_elim (λ w. absurd (x.none_before q w))
      (λ w.
      ⊎_elim (λ v. let k : q ≡ r = cc in inl k)
      (λ v. inr (rises-out Before true true r q refl refl (after-ascends (Rises Before) x.before (reaches true r) x.after (subst (λ (l : List Event). Ascending (Rises Before) l) x.events (walk-rises ways s d)) (reaches true q) v)))
      (Memᴰ.cases_cons w))
      (Memᴰ.append_cases x.before i))
  means nothing e = let x = judge-nothing false (walk ways s d) e in none_at_all (λ q p. x.1 q ((walk-performs ways s d q).1 p)) (λ p. x.2 ((walk_meets ways s d).1 p))
  means unsure e =
      let x = judge-unsure false (walk ways s d) e in
      none-known (λ q p. x.0 q ((walk-performs ways s d q).1 p))
      (⊎_elim (λ w. let z : ◌≡◌ {A = ℕ} 0 1 = cc in absurd (omega arith)) (λ i. (walk_meets ways s d).0 i) x.1)

  pub answers : Means ways s d (search ways s d)
  answers = means (search ways s d) refl

-- ---- no other answer means anything of the same search

lower-heads : {e f : ℕ} {es fs : List ℕ} → Lower (e ∷ es) (f ∷ fs) → e < f ⊎ ((e ≡ f) × Lower es fs)
lower-heads (first a) = inl a
lower-heads (same x) = inr (refl, x)

lower-once : (p q : List ℕ) → Lower p q → Lower q p → ⊥
lower-once [] q h _ = elim h [ ]
lower-once (e ∷ es) [] h _ = elim h [ ]
lower-once (e ∷ es) (f ∷ fs) h k =
    ⊎_elim (λ (a : e < f). ⊎_elim (λ (b : f < e). omega arith) (λ (b : (f ≡ e) × Lower fs es). let g : f ≡ e = b.0 in omega arith) (lower-heads k))
    (λ (x : (e ≡ f) × Lower es fs). ⊎_elim (λ (b : f < e). let g : e ≡ f = x.0 in omega arith) (λ (y : (f ≡ e) × Lower fs es). lower-once es fs x.1 y.1) (lower-heads k))
    (lower-heads h)

pub before-once : (p q : List ℕ) → Before p q → Before q p → ⊥
before-once p q (shorter a) (shorter b) = omega arith
before-once p q (shorter a) (earlier b y) = omega arith
before-once p q (earlier a x) (shorter b) = omega arith
before-once p q (earlier a x) (earlier b y) = lower-once p q x y

module _ {S : Type 0} (ways : S → Listed S) (s : S) (d : ℕ) where
  same-meaning : (a b : Answer) → Means ways s d a → Means ways s d b → a ≡ b
  same-meaning a b (earliest {r = r} x f) (earliest {r = q} y g) =
      ap found (⊎_elim (λ (e : q ≡ r). sym e) (λ (u : Before r q). ⊎_elim (λ (e : r ≡ q). e) (λ (v : Before q r). absurd (before-once r q u v)) (g r x)) (f q y))
  same-meaning a b (earliest {r = r} x f) (none_at_all g k) = absurd (g r x)
  same-meaning a b (earliest {r = r} x f) (none-known g k) = absurd (g r x)
  same-meaning a b (none_at_all f k) (earliest {r = q} y g) = absurd (f q y)
  same-meaning a b (none_at_all f k) (none_at_all g j) = refl
  same-meaning a b (none_at_all f k) (none-known g j) = absurd (k j)
  same-meaning a b (none-known f k) (earliest {r = q} y g) = absurd (f q y)
  same-meaning a b (none-known f k) (none_at_all g j) = absurd (j k)
  same-meaning a b (none-known f k) (none-known g j) = refl

  -- notes 8 and 9: the search answers so exactly when it means so
  pub exactly : (a : Answer) → (search ways s d ≡ a) ↔ Means ways s d a
  exactly a = (means ways s d a, λ x. same-meaning (search ways s d) a (answers ways s d) x)
