-- A name that was met keeps its number among the channel names, and names that are bound change nothing for names that are given without them. From look-ups in lists of names.
use mathlib.Core.Path.{◌≡◌, refl, sym, ap, ◌∙◌}
use mathlib.Core.List.Memᴰ
use mathlib.Core.List.Memᴰ.{append_left as left}
use mathlib.Core.List.Memᴰ.{cases_cons as cases}
use mathlib.Core.List.Memᴰ.{head}
use mathlib.Core.List.Memᴰ.{not-nil as nowhere}
use mathlib.Core.List.Memᴰ.{tail}
use mathlib.Core.List.{List, [], ◌∷◌, ◌++◌, Memᴰ as In}
use mathlib.Core.Bool.{Bool, true, false, cond}
use mathlib.Core.Option.{Option, none, some}
use mathlib.Core.Logic.{◌⊎◌, inl, inr, ⊎_elim}
use Prim.Native.Nat.{ℕ, suc, ◌+◌, ◌≤◌, ◌<◌}
use native.Mathlib.Omega.{arith}
use lib.ListN.{length, length-append}
use Rattle.grammar.specs.Syntax
use Rattle.model.specs.Lists.{each, any}
use Rattle.model.specs.Sites.{Scope, bound, Variable, variables, names}
use Rattle.model.specs.Words.{same}
use Rattle.model.specs.Given.{Meaning, or_else, is_given, place_in, variable_named, meaning}
use Rattle.model.specs.Stands.{SiteIn}
use Rattle.model.specs.Faults.{received, Again, NotNew}
use Rattle.model.specs.Faults as faults
use Rattle.model.specs.Resolved.{firsts, or_zero}
use Rattle.model.proofs.Members.{never, not-both, got_in, got-below}
use Rattle.model.proofs.Meanings.{Placed, found, absent, placed, Means, a_local, a_variable, unknown, means}
use Rattle.model.proofs.Used.{first_of}

module _ (w : ℕ → List ℕ) (k : ℕ) where
  -- ---- places in a list that grows

  pub place-more : (i q : ℕ) (xs ys : List ℕ) → place_in w k i xs ≡ some q → place_in w k i (xs ++ ys) ≡ some q
  unfolding place_in
  place-more i q [] ys e = never e
  place-more i q (x ∷ xs) ys e = by (same w k x) (place-more (suc i) q xs ys) e
    where
      by : (b : Bool) → (place_in w k (suc i) xs ≡ some q → place_in w k (suc i) (xs ++ ys) ≡ some q) → cond b (some i) (place_in w k (suc i) xs) ≡ some q → cond b (some i) (place_in w k (suc i) (xs ++ ys)) ≡ some q
      by true r e = e
      by false r e = r e

  place-absent : (xs : List ℕ) → place_in w k 0 xs ≡ none → (j : ℕ) → In j xs → w k ≡ w j → ⊥
  place-absent xs e = by (place_in w k 0 xs) (placed w k 0 xs) e
    where
      by : (o : Option ℕ) → Placed w k xs 0 o → o ≡ none → (j : ℕ) → In j xs → w k ≡ w j → ⊥
      by o (found q g h) e = never (sym e)
      by o (absent h) e = h

  absent-place : (xs : List ℕ) → ((j : ℕ) → In j xs → w k ≡ w j → ⊥) → place_in w k 0 xs ≡ none
  absent-place xs h = by (place_in w k 0 xs) (placed w k 0 xs)
    where
      by : (o : Option ℕ) → Placed w k xs 0 o → o ≡ none
      by o (found {j = j} q g e) = absurd (h j (got_in xs q g) e)
      by o (absent f) = refl

  -- ---- channel names

  -- a name that was met has a place among those met
  pub place-met : (vs : List Variable) (seen : List ℕ) → (q : ℕ) × (place_in w k 0 (firsts w vs seen (k ∷ [])) ≡ some q) × (q < length (firsts w vs seen (k ∷ [])))
  place-met vs seen = let f = first_of w vs seen (k ∷ []) (head refl) in by f.0 f.1 f.2 (place_in w k 0 met) (placed w k 0 met)
    where
      met : List ℕ
      met = firsts w vs seen (k ∷ [])

      by : (j : ℕ) → In j met → w k ≡ w j → (o : Option ℕ) → Placed w k met 0 o → (q : ℕ) × (o ≡ some q) × (q < length met)
      by j l e o (found q g h) = (q, ap (λ (n : ℕ). some n) (omega arith), got-below met q g)
      by j l e o (absent h) = absurd (h j l e)

  -- and keeps it
  pub place_kept : (vs : List Variable) (seen cs more : List ℕ) → cs ≡ firsts w vs seen (k ∷ []) ++ more → (or_zero (place_in w k 0 (firsts w vs seen (k ∷ []))) ≡ or_zero (place_in w k 0 cs)) × (or_zero (place_in w k 0 cs) < length cs)
  unfolding or_zero
  place_kept vs seen cs more e =
      let m = place-met vs seen in
      let f : place_in w k 0 cs ≡ some m.0 = ap (place_in w k 0) e ∙ place-more 0 m.0 (firsts w vs seen (k ∷ [])) more m.1 in
      (ap or_zero (m.1 ∙ sym f), rw f (omega (arith, m.2, ap length e, length-append (firsts w vs seen (k ∷ [])) more)))

  -- one name at most is new
  pub met-length : (vs : List Variable) (seen : List ℕ) → (length seen ≤ length (firsts w vs seen (k ∷ []))) × (length (firsts w vs seen (k ∷ [])) ≤ length seen + 1)
  unfolding firsts
  met-length vs seen = by (any (same w k) seen)
    where
      by : (b : Bool) → (length seen ≤ length (cond b seen (seen ++ k ∷ []))) × (length (cond b seen (seen ++ k ∷ [])) ≤ length seen + 1)
      by true = (omega arith, omega arith)
      by false = let e = length-append seen (k ∷ []) in (omega arith, omega arith)

  -- ---- names that are bound and new

  given-without : (vs : List Variable) (sc : Scope) → place_in w k 0 sc ≡ none → is_given (meaning w vs sc k) ≡ true → (v : Variable) × In v vs × (w k ≡ w v.name)
  unfolding is_given
  given-without vs sc n g = by (meaning w vs sc k) (means w k vs sc) g
    where
      by : (o : Meaning) → Means w k vs sc o → is_given o ≡ true → (v : Variable) × In v vs × (w k ≡ w v.name)
      by o (a_local i l e) g = absurd (place-absent sc n _ (got_in sc i l) e)
      by o (a_variable {v = v} a i e) g = (v, i, e)
      by o (unknown a f) g = not-both g refl

  pub meaning-more : (vs : List Variable) (sc ks : List ℕ) → ((v : Variable) (j : ℕ) → In v vs → In j ks → w j ≡ w v.name → ⊥) → is_given (meaning w vs sc k) ≡ true → meaning w vs (sc ++ ks) k ≡ meaning w vs sc k
  unfolding meaning
  meaning-more vs sc ks new g = ap (λ (o : Option ℕ). or_else o (variable_named w k vs)) (by (place_in w k 0 sc) refl)
    where
      by : (o : Option ℕ) → place_in w k 0 sc ≡ o → place_in w k 0 (sc ++ ks) ≡ place_in w k 0 sc
      by (some q) e = place-more 0 q sc ks e ∙ sym e
      by none e =
          let v = given-without vs sc e g in
          absent-place (sc ++ ks) (λ j i x. ⊎_elim (λ (l : In j sc). place-absent sc e j l x) (λ (l : In j ks). new v.0 j v.1 l (sym x ∙ v.2)) (Memᴰ.append_cases sc i)) ∙ sym e

-- ---- question 8

split_at : {j : ℕ} (ks : List ℕ) → In j ks → (b : List ℕ) × (a : List ℕ) × (ks ≡ b ++ j ∷ a)
split_at [] i = absurd (nowhere i)
split_at {j} (k ∷ ks) i = by (λ (l : In j ks). split_at ks l) (cases i)
  where
    by : (In j ks → (b : List ℕ) × (a : List ℕ) × (ks ≡ b ++ j ∷ a)) → (j ≡ k) ⊎ In j ks → (b : List ℕ) × (a : List ℕ) × (k ∷ ks ≡ b ++ j ∷ a)
    by r (inl e) = ([], ks, ap (λ (x : ℕ). x ∷ ks) (sym e))
    by r (inr l) = let s = r l in (k ∷ s.0, s.1, ap (λ (x : List ℕ). k ∷ x) s.2)

name_in : {v : Variable} (vs : List Variable) → In v vs → In v.name (names vs)
unfolding names each
name_in [] i = absurd (nowhere i)
name_in {v} (u ∷ vs) i = by (λ (l : In v vs). name_in vs l) (cases i)
  where
    by : (In v vs → In v.name (names vs)) → (v ≡ u) ⊎ In v vs → In v.name (u.name ∷ names vs)
    by r (inl e) = head (ap (λ (x : Variable). x.name) e)
    by r (inr l) = tail (r l)

-- a name that is bound is no variable's
pub bound-new : (w : ℕ → List ℕ) (s : Syntax.Model) → ((k : ℕ) → NotNew w s k → ⊥) → {sc : Scope} {ks : List ℕ} {n : ℕ} → SiteIn w s sc (bound ks n) → (v : Variable) (j : ℕ) → In v (variables s) → In j ks → w j ≡ w v.name → ⊥
bound-new w s y8 {sc} {ks} h v j i l e =
    let p = split_at ks l in
    y8 j (faults.local (received h)
    (record {
      before = p.0;
      after = p.1;
      list = p.2;
      first = v.name;
      earlier = left p.0 (left sc (name_in (variables s) i));
      same = sym e;
    }))
