-- What a name stands for: a local in scope, else a variable, else nothing; and the definition of a name. By induction on the lists of names,
-- from the law that equal runs of bytes are the same.
use mathlib.Core.Path.{◌≡◌, refl, sym, ap, subst, ◌∙◌}
use mathlib.Core.List.Memᴰ.{cases_cons as cases}
use mathlib.Core.List.Memᴰ.{head}
use mathlib.Core.List.Memᴰ.{not-nil as nowhere}
use mathlib.Core.List.Memᴰ.{tail}
use mathlib.Core.List.{List, [], ◌∷◌, ◌++◌, Memᴰ as In}
use mathlib.Core.Bool.{Bool, true, false, cond}
use mathlib.Core.Option.{Option, none, some}
use mathlib.Core.Logic.{◌⊎◌, inl, inr, ⊎_elim}
use Prim.Native.Nat.{ℕ, suc, ◌+◌}
use native.Mathlib.Omega.{arith}
use lib.ListN.{get_elem?}
use Rattle.model.specs.Lists.{each}
use Rattle.model.specs.Sites.{Scope, Variable, Definition}
use Rattle.model.specs.Words.{same}
use Rattle.model.specs.Given.{Meaning, local, variable, nothing, or_else, place_in, variable_named, meaning, definition_named}
use Rattle.model.specs.Faults.{Again, Among}
use Rattle.model.proofs.Members.{not-both}
use Rattle.model.proofs.Repeats.{same_bytes_lem, bytes_same}

-- ---- names that are all new

module _ {A : Type 0} (w : ℕ → List ℕ) (f : A → ℕ) where
  abbrev names_of : List A → List ℕ
  names_of xs = each (λ x. f x ∷ []) xs

  -- none of them is one before it
  abbrev New : List A → Type 0
  New xs = (k : ℕ) → Again w [] (names_of xs) k → ⊥

  fewer : (x : A) (xs : List A) → New (x ∷ xs) → New xs
  unfolding each
  fewer x xs h k a =
      h k (record {
        before = f x ∷ a.before;
        after = a.after;
        list = ap (λ (ks : List ℕ). f x ∷ ks) a.list;
        first = a.first;
        earlier = tail a.earlier;
        same = a.same;
      })

  split-names : {y : A} (xs : List A) → In y xs → (b : List ℕ) × (a : List ℕ) × (names_of xs ≡ b ++ f y ∷ a)
  unfolding each
  split-names [] i = absurd (nowhere i)
  split-names {y} (x ∷ xs) i = by (λ (j : In y xs). split-names xs j) (cases i)
    where
      by : (In y xs → (b : List ℕ) × (a : List ℕ) × (names_of xs ≡ b ++ f y ∷ a)) → (y ≡ x) ⊎ In y xs → (b : List ℕ) × (a : List ℕ) × (names_of (x ∷ xs) ≡ b ++ f y ∷ a)
      by r (inl e) = ([], names_of xs, ap (λ (z : A). f z ∷ names_of xs) (sym e))
      by r (inr j) = let s = r j in (f x ∷ s.0, s.1, ap (λ (ks : List ℕ). f x ∷ ks) s.2)

  clash : {y : A} (x : A) (xs : List A) → New (x ∷ xs) → In y xs → w (f x) ≡ w (f y) → ⊥
  unfolding each
  clash {y} x xs h i e =
      let s = split-names xs i in
      h (f y) (record {
        before = f x ∷ s.0;
        after = s.1;
        list = ap (λ (ks : List ℕ). f x ∷ ks) s.2;
        first = f x;
        earlier = head refl;
        same = e;
      })

  -- then two of the same name are one
  pub only_one : {x y : A} (xs : List A) → New xs → In x xs → In y xs → w (f x) ≡ w (f y) → x ≡ y
  only_one [] h i j e = absurd (nowhere i)
  only_one {x} {y} (z ∷ xs) h i j e = by (λ (i : In x xs) (j : In y xs). only_one xs (fewer z xs h) i j e) (cases i) (cases j)
    where
      by : (In x xs → In y xs → x ≡ y) → (x ≡ z) ⊎ In x xs → (y ≡ z) ⊎ In y xs → x ≡ y
      by r (inl p) (inl q) = p ∙ sym q
      by r (inl p) (inr q) = absurd (clash z xs h q (ap (λ (v : A). w (f v)) (sym p) ∙ e))
      by r (inr p) (inl q) = absurd (clash z xs h p (ap (λ (v : A). w (f v)) (sym q) ∙ sym e))
      by r (inr p) (inr q) = r p q

module _ (w : ℕ → List ℕ) (k : ℕ) where
  -- ---- locals

  -- the place that place_in finds, from i on, or none where the name is not among them
  pub data Placed (js : List ℕ) (i : ℕ) : Option ℕ → Type 0 where
    found : {j : ℕ} (q : ℕ) → get_elem? js q ≡ some j → w k ≡ w j → Placed js i (some (i + q))
    absent : ((j : ℕ) → In j js → w k ≡ w j → ⊥) → Placed js i none

  pub placed : (i : ℕ) (js : List ℕ) → Placed js i (place_in w k i js)
  unfolding place_in
  placed i [] = absent (λ j h e. nowhere h)
  placed i (j ∷ js) = by (same w k j) refl (place_in w k (suc i) js) (placed (suc i) js)
    where
      further : (o : Option ℕ) → same w k j ≡ false → Placed js (suc i) o → Placed (j ∷ js) i o
      further o e (found q g h) = let d : suc i + q ≡ i + suc q = omega arith in rw d (found (suc q) g h)
      further o e (absent h) =
          absent (λ l m g. ⊎_elim (λ (p : l ≡ j). not-both (bytes_same w k j (g ∙ ap w p)) e) (λ (p : In l js). h l p g) (cases m))

      by : (b : Bool) → same w k j ≡ b → (o : Option ℕ) → Placed js (suc i) o → Placed (j ∷ js) i (cond b (some i) o)
      by true e o p = let d : i + 0 ≡ i = omega arith in subst (λ (n : ℕ). Placed (j ∷ js) i (some n)) d (found 0 refl (same_bytes_lem w k j e))
      by false e o p = further o e p

  -- ---- variables

  data Valued (vs : List Variable) : Meaning → Type 0 where
    found : {v : Variable} → In v vs → w k ≡ w v.name → Valued vs (variable v.number)
    absent : ((v : Variable) → In v vs → w k ≡ w v.name → ⊥) → Valued vs nothing

  valued : (vs : List Variable) → Valued vs (variable_named w k vs)
  unfolding variable_named
  valued [] = absent (λ v h e. nowhere h)
  valued (v ∷ vs) = by (same w k v.name) refl (variable_named w k vs) (valued vs)
    where
      further : (o : Meaning) → same w k v.name ≡ false → Valued vs o → Valued (v ∷ vs) o
      further o e (found i h) = found (tail i) h
      further o e (absent h) =
          absent (λ u m g. ⊎_elim (λ (p : u ≡ v). not-both (bytes_same w k v.name (g ∙ ap (λ (z : Variable). w z.name) p)) e) (λ (p : In u vs). h u p g) (cases m))

      by : (b : Bool) → same w k v.name ≡ b → (o : Meaning) → Valued vs o → Valued (v ∷ vs) (cond b (variable v.number) o)
      by true e o p = found (head refl) (same_bytes_lem w k v.name e)
      by false e o p = further o e p

  -- ---- both

  pub data Means (vs : List Variable) (sc : Scope) : Meaning → Type 0 where
    a_local : {j : ℕ} (i : ℕ) → get_elem? sc i ≡ some j → w k ≡ w j → Means vs sc (local i)
    a_variable : {v : Variable} → (Among w sc k → ⊥) → In v vs → w k ≡ w v.name → Means vs sc (variable v.number)
    unknown : (Among w sc k → ⊥) → ((v : Variable) → In v vs → w k ≡ w v.name → ⊥) → Means vs sc nothing

  pub means : (vs : List Variable) (sc : Scope) → Means vs sc (meaning w vs sc k)
  unfolding meaning or_else
  means vs sc = by (place_in w k 0 sc) (placed 0 sc)
    where
      after : (o : Meaning) → (Among w sc k → ⊥) → Valued vs o → Means vs sc o
      after o n (found i e) = a_variable n i e
      after o n (absent h) = unknown n h

      by : (o : Option ℕ) → Placed sc 0 o → Means vs sc (or_else o (variable_named w k vs))
      by o (found q g e) = let d : 0 + q ≡ q = omega arith in subst (λ (n : ℕ). Means vs sc (local n)) (sym d) (a_local q g e)
      by o (absent h) = after (variable_named w k vs) (λ a. h a.token a.member (sym a.same)) (valued vs)

  -- ---- definitions

  pub data Defines (ds : List Definition) (i : ℕ) : Option (ℕ × Definition) → Type 0 where
    found : {d : Definition} (q : ℕ) → get_elem? ds q ≡ some d → w k ≡ w d.name → Defines ds i (some (i + q, d))
    absent : ((d : Definition) → In d ds → w k ≡ w d.name → ⊥) → Defines ds i none

  pub defines : (i : ℕ) (ds : List Definition) → Defines ds i (definition_named w k i ds)
  unfolding definition_named
  defines i [] = absent (λ d h e. nowhere h)
  defines i (d ∷ ds) = by (same w k d.name) refl (definition_named w k (suc i) ds) (defines (suc i) ds)
    where
      further : (o : Option (ℕ × Definition)) → same w k d.name ≡ false → Defines ds (suc i) o → Defines (d ∷ ds) i o
      further o e (found {d = x} q g h) =
          let p : suc i + q ≡ i + suc q = omega arith in subst (λ (n : ℕ). Defines (d ∷ ds) i (some (n, x))) (sym p) (found (suc q) g h)
      further o e (absent h) =
          absent (λ x m g. ⊎_elim (λ (p : x ≡ d). not-both (bytes_same w k d.name (g ∙ ap (λ (z : Definition). w z.name) p)) e) (λ (p : In x ds). h x p g) (cases m))

      by : (b : Bool) → same w k d.name ≡ b → (o : Option (ℕ × Definition)) → Defines ds (suc i) o → Defines (d ∷ ds) i (cond b (some (i, d)) o)
      by true e o p = let r : i + 0 ≡ i = omega arith in subst (λ (n : ℕ). Defines (d ∷ ds) i (some (n, d))) r (found 0 refl (same_bytes_lem w k d.name e))
      by false e o p = further o e p
