-- Channel names are numbered from 0 by their first use: a name's number is how many other names are used before it. So equal names have equal
-- numbers and different ones different numbers (01, State). By induction on the list of uses.
use mathlib.Core.Path.{◌≡◌, refl, sym, ap, subst, ◌∙◌}
use mathlib.Core.List.Memᴰ.{append_cases}
use mathlib.Core.List.Memᴰ.{eq_of_singleton}
use mathlib.Core.List.Memᴰ.{head}
use mathlib.Core.List.Memᴰ.{not-nil as nowhere}
use mathlib.Core.List.Memᴰ.{tail}
use mathlib.Core.List.{List, [], ◌∷◌, ◌++◌, append_assoc, append-nil, Memᴰ as In}
use mathlib.Core.Bool.{Bool, true, false, cond}
use mathlib.Core.Option.{Option, some}
use mathlib.Core.Logic.{◌⊎◌, inl, inr, ⊎_elim}
use Prim.Native.Nat.{ℕ, zero, suc, ◌+◌, ◌<◌}
use native.Mathlib.Omega.{arith}
use lib.ListN.{length, get_elem?, length-append}
use Rattle.model.specs.Lists.{each, any}
use Rattle.model.specs.Sites.{Variable, Definition}
use Rattle.model.specs.Words.{same}
use Rattle.model.specs.Given.{place_in}
use Rattle.model.specs.Resolved.{definition_uses, firsts, channel_names, or_zero}
use Rattle.model.proofs.Members.{not_so, any-in, in-any, not-both, never, got-some, got_in}
use Rattle.model.proofs.Repeats.{same_bytes_lem, bytes_same}
use Rattle.model.proofs.Meanings.{Placed, found, absent, placed}
use Rattle.model.proofs.Used.{first_of}

module _ (w : ℕ → List ℕ) (vs : List Variable) where
  -- a name's number among the channel names cs
  abbrev pub number_in : List ℕ → ℕ → ℕ
  number_in cs k = or_zero (place_in w k 0 cs)

  -- ---- equal names have equal numbers

  same_place : {j k : ℕ} (i : ℕ) (cs : List ℕ) → w j ≡ w k → place_in w j i cs ≡ place_in w k i cs
  unfolding place_in same
  same_place i [] e = refl
  same_place {j} {k} i (c ∷ cs) e = let h = same_place (suc i) cs e in rw (e, h)

  pub equal-numbers : {j k : ℕ} (cs : List ℕ) → w j ≡ w k → number_in cs j ≡ number_in cs k
  equal-numbers cs e = ap or_zero (same_place 0 cs e)

  -- ---- different names have different ones

  number-got : (k : ℕ) (cs : List ℕ) → (j : ℕ) × In j cs × (w k ≡ w j) → (j : ℕ) × (get_elem? cs (number_in cs k) ≡ some j) × (w k ≡ w j)
  unfolding or_zero
  number-got k cs h = by (place_in w k 0 cs) (placed w k 0 cs)
    where
      by : (o : Option ℕ) → Placed w k cs 0 o → (j : ℕ) × (get_elem? cs (or_zero o) ≡ some j) × (w k ≡ w j)
      by o (found {j = j} q g e) = let d : 0 + q ≡ q = omega arith in (j, rw d g, e)
      by o (absent f) = absurd (f h.0 h.1 h.2)

  module _ (ds : List Definition) where
    abbrev uses : List ℕ
    uses = each (definition_uses w vs) ds

    abbrev cs : List ℕ
    cs = channel_names w vs ds

    pub different-numbers : {j k : ℕ} → In j uses → In k uses → number_in cs j ≡ number_in cs k → w j ≡ w k
    unfolding channel_names
    different-numbers {j} {k} i l e =
        let a = number-got j cs (first_of w vs [] uses i) in
        let b = number-got k cs (first_of w vs [] uses l) in
        let c : a.0 ≡ b.0 = cc (a.1, b.1, e) in
        a.2 ∙ ap w c ∙ sym b.2

  -- ---- by first use

  pub firsts-append : (seen ks ls : List ℕ) → firsts w vs seen (ks ++ ls) ≡ firsts w vs (firsts w vs seen ks) ls
  unfolding firsts
  firsts-append seen [] ls = refl
  firsts-append seen (k ∷ ks) ls = by (any (same w k) seen) (firsts-append seen ks ls) (firsts-append (seen ++ k ∷ []) ks ls)
    where
      by : (b : Bool) → firsts w vs seen (ks ++ ls) ≡ firsts w vs (firsts w vs seen ks) ls → firsts w vs (seen ++ k ∷ []) (ks ++ ls) ≡ firsts w vs (firsts w vs (seen ++ k ∷ []) ks) ls
          → cond b (firsts w vs seen (ks ++ ls)) (firsts w vs (seen ++ k ∷ []) (ks ++ ls)) ≡ firsts w vs (cond b (firsts w vs seen ks) (firsts w vs (seen ++ k ∷ []) ks)) ls
      by true p q = p
      by false p q = q

  -- what is seen stays at the front
  pub firsts_more : (seen ks : List ℕ) → (more : List ℕ) × (firsts w vs seen ks ≡ seen ++ more)
  unfolding firsts
  firsts_more seen [] = ([], sym (append-nil seen))
  firsts_more seen (k ∷ ks) = by (any (same w k) seen) (firsts_more seen ks) (firsts_more (seen ++ k ∷ []) ks)
    where
      by : (b : Bool) → (more : List ℕ) × (firsts w vs seen ks ≡ seen ++ more) → (more : List ℕ) × (firsts w vs (seen ++ k ∷ []) ks ≡ seen ++ k ∷ [] ++ more)
          → (more : List ℕ) × (cond b (firsts w vs seen ks) (firsts w vs (seen ++ k ∷ []) ks) ≡ seen ++ more)
      by true p q = p
      by false p q = (k ∷ q.0, q.1 ∙ append_assoc seen (k ∷ []) q.0)

  -- a name that is not seen is added
  firsts-new : (seen : List ℕ) (k : ℕ) (ks : List ℕ) → ((j : ℕ) → In j seen → w k ≡ w j → ⊥) → firsts w vs seen (k ∷ ks) ≡ firsts w vs (seen ++ k ∷ []) ks
  unfolding firsts
  firsts-new seen k ks h =
      let n : any (same w k) seen ≡ false = not_so (any (same w k) seen) (λ e. let s = any-in (same w k) seen e in h s.0 s.1 (same_bytes_lem w k s.0 s.2)) in
      ap (λ (b : Bool). cond b (firsts w vs seen ks) (firsts w vs (seen ++ k ∷ []) ks)) n

  -- each of the firsts is seen or used
  firsts-from : {j : ℕ} (seen ks : List ℕ) → In j (firsts w vs seen ks) → In j seen ⊎ In j ks
  unfolding firsts
  firsts-from seen [] i = inl i
  firsts-from {j} seen (k ∷ ks) i = by (any (same w k) seen) (λ (l : In j (firsts w vs seen ks)). firsts-from seen ks l) (λ (l : In j (firsts w vs (seen ++ k ∷ []) ks)). firsts-from (seen ++ k ∷ []) ks l) i
    where
      further : In j seen ⊎ In j ks → In j seen ⊎ In j (k ∷ ks)
      further (inl l) = inl l
      further (inr l) = inr (tail l)

      added : In j (seen ++ k ∷ []) ⊎ In j ks → In j seen ⊎ In j (k ∷ ks)
      added (inl l) = ⊎_elim (λ (x : In j seen). inl x) (λ (x : In j (k ∷ [])). inr (head (eq_of_singleton x))) (append_cases seen l)
      added (inr l) = inr (tail l)

      by : (b : Bool) → (In j (firsts w vs seen ks) → In j seen ⊎ In j ks) → (In j (firsts w vs (seen ++ k ∷ []) ks) → In j (seen ++ k ∷ []) ⊎ In j ks) → In j (cond b (firsts w vs seen ks) (firsts w vs (seen ++ k ∷ []) ks)) → In j seen ⊎ In j (k ∷ ks)
      by true p q l = further (p l)
      by false p q l = added (q l)

  place_after : (k : ℕ) (i : ℕ) (xs ys : List ℕ) → ((j : ℕ) → In j xs → w k ≡ w j → ⊥) → place_in w k i (xs ++ k ∷ ys) ≡ some (i + length xs)
  unfolding place_in
  place_after k i [] ys h = let d : i + 0 ≡ i = omega arith in rw (bytes_same w k k refl, d)
  place_after k i (x ∷ xs) ys h =
      let d : suc i + length xs ≡ i + suc (length xs) = omega arith in
      let n : same w k x ≡ false = not_so (same w k x) (λ e. h x (head refl) (same_bytes_lem w k x e)) in
      rw n (place_after k (suc i) xs ys (λ j l. h j (tail l)) ∙ ap (λ (q : ℕ). some q) d)

  -- 01, State: a name's number is how many names are used before its first use
  pub by-first-use : (ds : List Definition) (k : ℕ) (before after : List ℕ) → each (definition_uses w vs) ds ≡ before ++ k ∷ after → ((j : ℕ) → In j before → w k ≡ w j → ⊥) → number_in (channel_names w vs ds) k ≡ length (firsts w vs [] before)
  unfolding channel_names or_zero
  by-first-use ds k before after e new = ap or_zero (ap (place_in w k 0) names ∙ place_after k 0 seen m.0 unseen) ∙ omega arith
    where
      seen : List ℕ
      seen = firsts w vs [] before

      unseen : (j : ℕ) → In j seen → w k ≡ w j → ⊥
      unseen j i d = ⊎_elim (λ (x : In j []). nowhere x) (λ (x : In j before). new j x d) (firsts-from [] before i)

      m : (more : List ℕ) × (firsts w vs (seen ++ k ∷ []) after ≡ seen ++ k ∷ [] ++ more)
      m = firsts_more (seen ++ k ∷ []) after

      names : firsts w vs [] (each (definition_uses w vs) ds) ≡ seen ++ k ∷ m.0
      names = ap (firsts w vs []) e ∙ firsts-append [] before (k ∷ after) ∙ firsts-new seen k after unseen ∙ m.1 ∙ append_assoc seen (k ∷ []) m.0

  -- no name of a list is one of `seen`, or one before it in the list
  abbrev New : List ℕ → List ℕ → Type 0
  New seen [] = Unit {0}
  New seen (k ∷ ks) = ((j : ℕ) → In j seen → w k ≡ w j → ⊥) × New (seen ++ k ∷ []) ks

  firsts-news : (seen ks : List ℕ) → (more : List ℕ) × (firsts w vs seen ks ≡ seen ++ more) × New seen more
  unfolding firsts
  firsts-news seen [] = ([], sym (append-nil seen), tt)
  firsts-news seen (k ∷ ks) = by (any (same w k) seen) refl (firsts-news seen ks) (firsts-news (seen ++ k ∷ []) ks)
    where
      by : (b : Bool) → any (same w k) seen ≡ b → (more : List ℕ) × (firsts w vs seen ks ≡ seen ++ more) × New seen more → (more : List ℕ) × (firsts w vs (seen ++ k ∷ []) ks ≡ seen ++ k ∷ [] ++ more) × New (seen ++ k ∷ []) more
          → (more : List ℕ) × (cond b (firsts w vs seen ks) (firsts w vs (seen ++ k ∷ []) ks) ≡ seen ++ more) × New seen more
      by true e p q = p
      by false e p q = (k ∷ q.0, q.1 ∙ append_assoc seen (k ∷ []) q.0, (λ j i d. not-both (in-any (same w k) seen i (bytes_same w k j d)) e, q.2))

  number_at : (seen more : List ℕ) → New seen more → (i : ℕ) {k : ℕ} → get_elem? more i ≡ some k → place_in w k 0 (seen ++ more) ≡ some (length seen + i)
  number_at seen [] n i e = never e
  number_at seen (x ∷ more) n zero {k} e =
      let d : x ≡ k = cc in
      let z : 0 + length seen ≡ length seen + 0 = omega arith in
      subst (λ (y : ℕ). place_in w y 0 (seen ++ x ∷ more) ≡ some (length seen + 0)) d (place_after x 0 seen more n.0 ∙ ap (λ (q : ℕ). some q) z)
  number_at seen (x ∷ more) n (suc i) {k} e =
      let h = number_at (seen ++ x ∷ []) more n.1 i e in
      let z : length (seen ++ x ∷ []) + i ≡ length seen + suc i = omega (arith, length-append seen (x ∷ [])) in
      ap (place_in w k 0) (sym (append_assoc seen (x ∷ []) more)) ∙ h ∙ ap (λ (q : ℕ). some q) z

  -- every number below the count is the number of a channel name that is used
  pub every-number : (ds : List Definition) (i : ℕ) → i < length (channel_names w vs ds) → (k : ℕ) × In k (each (definition_uses w vs) ds) × (number_in (channel_names w vs ds) k ≡ i)
  unfolding channel_names or_zero
  every-number ds i l =
      let f = firsts-news [] (each (definition_uses w vs) ds) in
      let g = got-some (firsts w vs [] (each (definition_uses w vs) ds)) i l in
      let p = number_at [] f.0 f.2 i (ap (λ (xs : List ℕ). get_elem? xs i) (sym f.1) ∙ g.1) in
      (g.0, ⊎_elim (λ (x : In g.0 []). absurd (nowhere x)) (λ (x : In g.0 (each (definition_uses w vs) ds)). x) (firsts-from [] _ (got_in _ i g.1)), ap or_zero (ap (place_in w g.0 0) f.1 ∙ p) ∙ omega arith)
