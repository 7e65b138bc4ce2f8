-- Wait names are numbered by first appearance, and a name lent as bytes is found by its number. By induction on the tokens of waits in the order of the text.
use mathlib.Core.Path.{◌≡◌, refl, ap, sym, subst, ◌∙◌}
use mathlib.Core.List.Memᴰ.{append_cases}
use mathlib.Core.List.Memᴰ.{append_left as left}
use mathlib.Core.List.Memᴰ.{cases_cons}
use mathlib.Core.List.Memᴰ.{eq_of_singleton}
use mathlib.Core.List.Memᴰ.{head}
use mathlib.Core.List.Memᴰ.{not-nil as nowhere}
use mathlib.Core.List.Memᴰ.{tail}
use mathlib.Core.List.{List, [], ◌∷◌, ◌++◌, Memᴰ as In}
use mathlib.Core.Bool.{Bool, true, false, cond}
use mathlib.Core.Option.{Option, some}
use mathlib.Core.Logic.{◌⊎◌, inl, inr}
use Prim.Native.Nat.{ℕ, suc, ◌+◌, ◌≤◌, ◌<◌}
use native.Mathlib.Omega.{arith}
use borrow.Author.Tests.{leb-true, leb-false}
use lib.Dec.{leb}
use lib.ListN.{get_elem?}
use Rattle.token.specs.Token.{same_bytes}
use Rattle.token.proofs.Words.{same-is, is_same_lem}
use Rattle.model.specs.Lists.{each, any}
use Rattle.model.specs.Words.{same}
use Rattle.model.specs.Given.{place_in}
use Rattle.model.specs.Resolved
use Rattle.model.specs.Resolved.{firsts, or_zero}
use Rattle.model.proofs.Meanings.{Placed, found, absent, placed}
use Rattle.model.proofs.Members.{never, not-both, any-in, in-any, got_in}
use Rattle.model.proofs.Repeats.{same_bytes_lem, bytes_same}
use Rattle.model.proofs.Used.{first_of}
use Rattle.waitnames.specs.Names.{insert, ascending, all_waits, wait_tokens, name_tokens, wait_names, name_number, number_in, wait_number}
use Rattle.waitnames.specs.Numbered.{First, Rising, Numbered}
use Rattle.waitnames.proofs.Names.{From, in-text-order, ascending-in, name-is}

-- ---- nothing but waits is among the sorted tokens

in_insert : {x : ℕ} (k : ℕ) (js : List ℕ) → In x (insert k js) → (x ≡ k) ⊎ In x js
unfolding insert
in_insert k [] i = inl (eq_of_singleton i)
in_insert {x} k (j ∷ js) i = by (leb k j) (λ (l : In x (insert k js)). in_insert k js l) i
  where
    by : (b : Bool) → (In x (insert k js) → (x ≡ k) ⊎ In x js) → In x (cond b (k ∷ j ∷ js) (j ∷ insert k js)) → (x ≡ k) ⊎ In x (j ∷ js)
    by true f l = cases_cons l
    by false f l = later (cases_cons l)
      where
        last : (x ≡ k) ⊎ In x js → (x ≡ k) ⊎ In x (j ∷ js)
        last (inl e) = inl e
        last (inr h) = inr (tail h)

        later : (x ≡ j) ⊎ In x (insert k js) → (x ≡ k) ⊎ In x (j ∷ js)
        later (inl e) = inr (head e)
        later (inr h) = last (f h)

in-ascending : {x : ℕ} (ks : List ℕ) → In x (ascending ks) → In x ks
unfolding ascending
in-ascending [] i = i
in-ascending {x} (k ∷ ks) i = by (in_insert k (ascending ks) i) (λ (l : In x (ascending ks)). in-ascending ks l)
  where
    by : (x ≡ k) ⊎ In x (ascending ks) → (In x (ascending ks) → In x ks) → In x (k ∷ ks)
    by (inl e) f = head e
    by (inr l) f = tail (f l)

-- ---- the first of each name

from-least : {i : ℕ} (a : ℕ) (ks : List ℕ) → From a ks → In i ks → a ≤ i
unfolding From
from-least a [] f i = absurd (nowhere i)
from-least {i} a (k ∷ ks) f l = by (cases_cons l) (λ (h : In i ks). from-least k ks f.1 h)
  where
    by : (i ≡ k) ⊎ In i ks → (In i ks → k ≤ i) → a ≤ i
    by (inl e) g = let b = f.0 in omega (arith, b, e)
    by (inr h) g = let b = f.0 in let c = g h in omega (arith, b, c)

module _ (w : ℕ → List ℕ) where
  -- j is new after those seen, and the first of its name among the rest
  pub record New (seen ks : List ℕ) (j : ℕ) : Type 0 where
    pub among : In j ks
    pub least : (i : ℕ) → In i ks → w i ≡ w j → j ≤ i
    pub unseen : (i : ℕ) → In i seen → w i ≡ w j → ⊥

  snoc-in : {i : ℕ} (k : ℕ) (seen : List ℕ) → In i (seen ++ k ∷ []) → In i seen ⊎ (i ≡ k)
  snoc-in {i} k seen h = by (append_cases seen h)
    where
      by : In i seen ⊎ In i (k ∷ []) → In i seen ⊎ (i ≡ k)
      by (inl a) = inl a
      by (inr b) = inr (eq_of_singleton b)

  new-of : {j : ℕ} (seen ks : List ℕ) (a : ℕ) → From a ks → In j (firsts w [] seen ks) → In j seen ⊎ New seen ks j
  unfolding firsts From
  new-of seen [] a f i = inl i
  new-of {j} seen (k ∷ ks) a f i = by (any (same w k) seen) refl (λ l. new-of seen ks k f.1 l) (λ l. new-of (seen ++ k ∷ []) ks k f.1 l) i
    where
      again : any (same w k) seen ≡ true → In j seen ⊎ New seen ks j → In j seen ⊎ New seen (k ∷ ks) j
      again e (inl s) = inl s
      again e (inr n) = inr (record {
        among = tail n.among;
        least = λ i h q. least i q (cases_cons h);
        unseen = n.unseen;
      })
        where
          least : (i : ℕ) → w i ≡ w j → (i ≡ k) ⊎ In i ks → j ≤ i
          least i q (inl d) = let s = any-in (same w k) seen e in absurd (n.unseen s.0 s.1 (sym (same_bytes_lem w k s.0 s.2) ∙ ap w (sym d) ∙ q))
          least i q (inr h) = n.least i h q

      fresh : any (same w k) seen ≡ false → In j (seen ++ k ∷ []) ⊎ New (seen ++ k ∷ []) ks j → In j seen ⊎ New seen (k ∷ ks) j
      fresh e (inl s) = here (snoc-in k seen s)
        where
          least : j ≡ k → (i : ℕ) → (i ≡ k) ⊎ In i ks → j ≤ i
          least d i (inl q) = omega (arith, d, q)
          least d i (inr h) = let b = from-least k ks f.1 h in omega (arith, b, d)

          here : In j seen ⊎ (j ≡ k) → In j seen ⊎ New seen (k ∷ ks) j
          here (inl h) = inl h
          here (inr d) = inr (record {
            among = head d;
            least = λ i h q. least d i (cases_cons h);
            unseen = λ i h q. not-both (in-any (same w k) seen h (bytes_same w k i (ap w (sym d) ∙ sym q))) e;
          })
      fresh e (inr n) = inr (record {
        among = tail n.among;
        least = λ i h q. least i q (cases_cons h);
        unseen = λ i h q. n.unseen i (left (k ∷ []) h) q;
      })
        where
          least : (i : ℕ) → w i ≡ w j → (i ≡ k) ⊎ In i ks → j ≤ i
          least i q (inl d) = absurd (n.unseen k (last seen) (ap w (sym d) ∙ q))
            where
              last : (xs : List ℕ) → In k (xs ++ k ∷ [])
              last [] = head refl
              last (x ∷ xs) = tail (last xs)
          least i q (inr h) = n.least i h q

      by : (b : Bool) → any (same w k) seen ≡ b → (In j (firsts w [] seen ks) → In j seen ⊎ New seen ks j) → (In j (firsts w [] (seen ++ k ∷ []) ks) → In j (seen ++ k ∷ []) ⊎ New (seen ++ k ∷ []) ks j)
          → In j (cond b (firsts w [] seen ks) (firsts w [] (seen ++ k ∷ []) ks)) → In j seen ⊎ New seen (k ∷ ks) j
      by true e p q l = again e (p l)
      by false e p q l = fresh e (q l)

  -- ---- they rise

  rising_snoc : (a k : ℕ) (seen : List ℕ) → Rising a seen → a ≤ k → ((i : ℕ) → In i seen → i < k) → Rising a (seen ++ k ∷ [])
  unfolding Rising
  rising_snoc a k [] r h b = (h, tt)
  rising_snoc a k (s ∷ seen) r h b = let c = b s (head refl) in (r.0, rising_snoc (suc s) k seen r.1 (omega (arith, c)) (λ i l. b i (tail l)))

  rise : (seen ks : List ℕ) (a : ℕ) → From a ks → Rising 0 seen → ((i : ℕ) → In i seen → i ≤ a) → Rising 0 (firsts w [] seen ks)
  unfolding firsts From
  rise seen [] a f r h = r
  rise seen (k ∷ ks) a f r h = by (any (same w k) seen) refl (λ (u : (i : ℕ) → In i seen → i ≤ k). rise seen ks k f.1 r u) (λ (p : Rising 0 (seen ++ k ∷ [])) (u : (i : ℕ) → In i (seen ++ k ∷ []) → i ≤ k). rise (seen ++ k ∷ []) ks k f.1 p u)
    where
      up_to_seen : (i : ℕ) → In i seen → i ≤ k
      up_to_seen i l = let c = h i l in let d = f.0 in omega (arith, c, d)

      below : any (same w k) seen ≡ false → (i : ℕ) → In i seen → i < k
      below e i l = go (leb k i) refl
        where
          go : (b : Bool) → leb k i ≡ b → i < k
          go true q = let z = leb-true k i q in let g = up_to_seen i l in let d : i ≡ k = omega (arith, z, g) in not-both (in-any (same w k) seen l (bytes_same w k i (ap w (sym d)))) e
          go false q = let z = leb-false k i q in omega (arith, z)

      up_to : (i : ℕ) → In i (seen ++ k ∷ []) → i ≤ k
      up_to i l = go (snoc-in k seen l)
        where
          go : In i seen ⊎ (i ≡ k) → i ≤ k
          go (inl s) = up_to_seen i s
          go (inr d) = omega (arith, d)

      by : (b : Bool) → any (same w k) seen ≡ b → (((i : ℕ) → In i seen → i ≤ k) → Rising 0 (firsts w [] seen ks))
          → (Rising 0 (seen ++ k ∷ []) → ((i : ℕ) → In i (seen ++ k ∷ []) → i ≤ k) → Rising 0 (firsts w [] (seen ++ k ∷ []) ks))
          → Rising 0 (cond b (firsts w [] seen ks) (firsts w [] (seen ++ k ∷ []) ks))
      by true e p q = p up_to_seen
      by false e p q = q (rising_snoc 0 k seen r (omega arith) (below e)) up_to

  -- ---- a name among names

  number-place : (k i : ℕ) (ts : List ℕ) → number_in (w k) i (each (λ (j : ℕ). w j ∷ []) ts) ≡ place_in w k i ts
  unfolding number_in place_in each same
  number-place k i [] = refl
  number-place k i (t ∷ ts) = ap (λ (o : Option ℕ). cond (same_bytes (w k) (w t)) (some i) o) (number-place k (suc i) ts)

  named_in : (x : List ℕ) (i n : ℕ) (ts : List ℕ) → number_in x i (each (λ (j : ℕ). w j ∷ []) ts) ≡ some n → (t : ℕ) × In t ts × (x ≡ w t)
  unfolding number_in each
  named_in x i n [] e = never e
  named_in x i n (t ∷ ts) e = by (same_bytes x (w t)) refl (λ (h : number_in x (suc i) (each (λ (j : ℕ). w j ∷ []) ts) ≡ some n). named_in x (suc i) n ts h) e
    where
      by : (b : Bool) → same_bytes x (w t) ≡ b → (number_in x (suc i) (each (λ (j : ℕ). w j ∷ []) ts) ≡ some n → (t : ℕ) × In t ts × (x ≡ w t)) → cond b (some i) (number_in x (suc i) (each (λ (j : ℕ). w j ∷ []) ts)) ≡ some n
          → (u : ℕ) × In u (t ∷ ts) × (x ≡ w u)
      by true q f h = (t, head refl, same-is x (w t) q)
      by false q f h = let r = f h in (r.0, tail r.1, r.2)

-- ---- the numbers

module _ (m : Resolved.Model) where
  abbrev w : ℕ → List ℕ
  w = m.words

  abbrev tokens : List ℕ
  tokens = firsts m.words [] [] (ascending (all_waits m))

  pub first_so : (k : ℕ) → In k (name_tokens m) → First m k
  unfolding name_tokens wait_tokens
  first_so k i = by (new-of w [] (ascending (all_waits m)) 0 (in-text-order (all_waits m)) i)
    where
      by : In k [] ⊎ New w [] (ascending (all_waits m)) k → First m k
      by (inl h) = absurd (nowhere h)
      by (inr n) = record { wait = in-ascending (all_waits m) n.among; new = λ j h q. n.least j (ascending-in (all_waits m) h) q }

  -- the token that numbers a wait's name
  placed_at : (k : ℕ) → In k (all_waits m) → (q : ℕ) × (j : ℕ) × (place_in w k 0 tokens ≡ some q) × (get_elem? tokens q ≡ some j) × (w k ≡ w j)
  placed_at k i = by (place_in w k 0 tokens) (placed w k 0 tokens) (first_of w [] [] (ascending (all_waits m)) (ascending-in (all_waits m) i))
    where
      by : (o : Option ℕ) → Placed w k tokens 0 o → (j : ℕ) × In j tokens × (w k ≡ w j) → (q : ℕ) × (j : ℕ) × (o ≡ some q) × (get_elem? tokens q ≡ some j) × (w k ≡ w j)
      by o (found {j = j} q g e) h = (0 + q, j, refl, rw (zero-plus q) g, e)
        where
          zero-plus : (n : ℕ) → 0 + n ≡ n
          zero-plus n = omega arith
      by o (absent f) h = absurd (f h.0 h.1 h.2)

  pub every_first : (k : ℕ) → First m k → In k (name_tokens m)
  unfolding name_tokens wait_tokens
  every_first k f =
      let p = placed_at k f.wait in
      let i = got_in tokens p.0 p.3 in
      let g = first_so p.1 i in
      let a = f.new p.1 g.wait (sym p.4) in
      let b = g.new k f.wait p.4 in
      let d : p.1 ≡ k = omega (arith, a, b) in
      subst (λ (y : ℕ). In y tokens) d i

  pub found-so : (k : ℕ) → In k (all_waits m) → wait_number m (m.words k) ≡ some (name_number m k)
  unfolding wait_number wait_names name_number name_tokens wait_tokens or_zero
  found-so k i = let p = placed_at k i in number-place w k 0 tokens ∙ p.2 ∙ ap (λ (o : Option ℕ). some (or_zero o)) (sym p.2)

  pub known_so : (x : List ℕ) (n : ℕ) → wait_number m x ≡ some n → (k : ℕ) × In k (all_waits m) × (m.words k ≡ x) × (name_number m k ≡ n)
  unfolding wait_number wait_names name_number name_tokens wait_tokens or_zero
  known_so x n e =
      let t = named_in w x 0 n tokens e in
      let p : place_in w t.0 0 tokens ≡ some n = sym (number-place w t.0 0 tokens) ∙ subst (λ (y : List ℕ). number_in y 0 (each (λ (j : ℕ). w j ∷ []) tokens) ≡ some n) t.2 e in
      (t.0, (first_so t.0 t.1).wait, sym t.2, ap or_zero p)

  -- 02, notes 8, 10 and 13
  pub numbered : Numbered m
  unfolding name_number name_tokens wait_tokens or_zero Rising
  numbered =
      record {
        firsts = first_so;
        every = every_first;
        rising = rise w [] (ascending (all_waits m)) 0 (in-text-order (all_waits m)) tt (λ i l. absurd (nowhere l));
        number = λ k i. let p = placed_at k i in (p.1, ap (λ (o : Option ℕ). get_elem? tokens (or_zero o)) p.2 ∙ p.3, sym p.4);
        found = found-so;
        known = known_so;
        unknown = λ x e h. never (sym e ∙ subst (λ (y : List ℕ). wait_number m y ≡ some (name_number m h.0)) h.2 (found-so h.0 h.1));
      }

  -- 02, note 8: a wait is the sought one exactly when its number is that of the lent name
  pub sought : (k : ℕ) (x : List ℕ) → In k (all_waits m) → same_bytes (m.words k) x ≡ true → wait_number m x ≡ some (name_number m k)
  sought k x i e = subst (λ (y : List ℕ). wait_number m y ≡ some (name_number m k)) (same-is (m.words k) x e) (found-so k i)

  pub sought-only : (k : ℕ) (x : List ℕ) → In k (all_waits m) → wait_number m x ≡ some (name_number m k) → same_bytes (m.words k) x ≡ true
  sought-only k x i e =
      let t = known_so x (name_number m k) e in
      let a = name-is m k i in
      let b = name-is m t.0 t.1 in
      let d = some_one (sym a ∙ ap (λ (n : ℕ). get_elem? (wait_names m) n) (sym t.3) ∙ b) ∙ t.2 in
      subst (λ (y : List ℕ). same_bytes (m.words k) y ≡ true) d (is_same_lem (m.words k))
    where
      some_one : {A : Type 0} {a b : A} → some a ≡ some b → a ≡ b
      some_one e = cc
