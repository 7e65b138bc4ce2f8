-- Wait names: no more than waits, each met, and each wait's number gives its name. From the laws of first uses.
use mathlib.Core.Path.{◌≡◌, refl, ap, sym, subst, ◌∙◌}
use mathlib.Core.List.Memᴰ.{cases_cons}
use mathlib.Core.List.Memᴰ.{head}
use mathlib.Core.List.Memᴰ.{not-nil as nowhere}
use mathlib.Core.List.Memᴰ.{tail}
use mathlib.Core.List.{List, [], ◌∷◌, ◌++◌, Memᴰ as In}
use mathlib.Core.Bool.{Bool, true, false, cond}
use mathlib.Core.Option.{Option, none, some, Option-elim}
use mathlib.Core.Logic.{◌⊎◌, inl, inr}
use Prim.Native.Nat.{ℕ, zero, suc, ◌+◌, ◌≤◌}
use native.Mathlib.Omega.{arith}
use borrow.Author.Tests.{leb-true, leb-false}
use lib.Dec.{leb}
use lib.ListN.{length, get_elem?, length-append}
use Rattle.model.specs.Lists.{each, any}
use Rattle.model.specs.Words.{same}
use Rattle.model.specs.Given.{place_in}
use Rattle.model.specs.Resolved
use Rattle.model.specs.Resolved.{firsts, or_zero}
use Rattle.model.proofs.Meanings.{Placed, found, absent, placed}
use Rattle.model.proofs.Used.{first_of}
use Rattle.model.proofs.Members.{never}
use Rattle.waitnames.specs.Names.{insert, ascending, all_waits, wait_tokens, name_tokens, wait_names, name_number}

-- ---- how many

insert-length : (k : ℕ) (js : List ℕ) → length (insert k js) ≡ suc (length js)
unfolding insert
insert-length k [] = refl
insert-length k (j ∷ js) = by (leb k j) (insert-length k js)
  where
    by : (b : Bool) → length (insert k js) ≡ suc (length js) → length (cond b (k ∷ j ∷ js) (j ∷ insert k js)) ≡ suc (suc (length js))
    by true e = refl
    by false e = ap suc e

ascending-length : (ks : List ℕ) → length (ascending ks) ≡ length ks
unfolding ascending
ascending-length [] = refl
ascending-length (k ∷ ks) = insert-length k (ascending ks) ∙ ap suc (ascending-length ks)

firsts-few : (w : ℕ → List ℕ) (seen ks : List ℕ) → length (firsts w [] seen ks) ≤ length seen + length ks
unfolding firsts
firsts-few w seen [] = omega arith
firsts-few w seen (k ∷ ks) = by (any (same w k) seen) (firsts-few w seen ks) (firsts-few w (seen ++ k ∷ []) ks)
  where
    by : (b : Bool) → length (firsts w [] seen ks) ≤ length seen + length ks → length (firsts w [] (seen ++ k ∷ []) ks) ≤ length (seen ++ k ∷ []) + length ks
        → length (cond b (firsts w [] seen ks) (firsts w [] (seen ++ k ∷ []) ks)) ≤ length seen + suc (length ks)
    by true p q = omega (arith, p)
    by false p q = let e = length-append seen (k ∷ []) in omega (arith, q, e)

each-one : (w : ℕ → List ℕ) (ks : List ℕ) → length (each (λ (k : ℕ). w k ∷ []) ks) ≡ length ks
unfolding each
each-one w [] = refl
each-one w (k ∷ ks) = ap suc (each-one w ks)

pub names-count : (m : Resolved.Model) → length (wait_names m) ≡ length (name_tokens m)
unfolding wait_names
names-count m = each-one m.words (name_tokens m)

pub names-few : (m : Resolved.Model) → length (wait_names m) ≤ length (all_waits m)
unfolding name_tokens wait_tokens
names-few m =
    let a = names-count m in
    let b = firsts-few m.words [] (ascending (all_waits m)) in
    let c = ascending-length (all_waits m) in
    omega (arith, a, b, c)

-- ---- in the order of the text

-- ascending, from a on
unfoldable pub From : ℕ → List ℕ → Type 0
From a [] = Unit {0}
From a (k ∷ ks) = (a ≤ k) × From k ks

insert-from : (a k : ℕ) (js : List ℕ) → a ≤ k → From a js → From a (insert k js)
unfolding insert From
insert-from a k [] h f = (h, tt)
insert-from a k (j ∷ js) h f = by (leb k j) refl (λ (g : j ≤ k). insert-from j k js g f.1)
  where
    by : (b : Bool) → leb k j ≡ b → (j ≤ k → From j (insert k js)) → From a (cond b (k ∷ j ∷ js) (j ∷ insert k js))
    by true e g = (h, (leb-true k j e, f.1))
    by false e g = let l = leb-false k j e in (f.0, g (omega (arith, l)))

-- 02, note 13: wait tokens ascend
pub in-text-order : (ks : List ℕ) → From 0 (ascending ks)
unfolding ascending From
in-text-order [] = tt
in-text-order (k ∷ ks) = insert-from 0 k (ascending ks) (omega arith) (in-text-order ks)

-- ---- all of them

insert-here : (k : ℕ) (js : List ℕ) → In k (insert k js)
unfolding insert
insert-here k [] = head refl
insert-here k (j ∷ js) = by (leb k j) (insert-here k js)
  where
    by : (b : Bool) → In k (insert k js) → In k (cond b (k ∷ j ∷ js) (j ∷ insert k js))
    by true i = head refl
    by false i = tail i

insert-there : {x : ℕ} (k : ℕ) (js : List ℕ) → In x js → In x (insert k js)
unfolding insert
insert-there k [] i = absurd (nowhere i)
insert-there {x} k (j ∷ js) i = by (leb k j) (cases_cons i) (λ (l : In x js). insert-there k js l)
  where
    by : (b : Bool) → (x ≡ j) ⊎ In x js → (In x js → In x (insert k js)) → In x (cond b (k ∷ j ∷ js) (j ∷ insert k js))
    by true (inl e) f = tail (head e)
    by true (inr l) f = tail (tail l)
    by false (inl e) f = head e
    by false (inr l) f = tail (f l)

pub ascending-in : {x : ℕ} (ks : List ℕ) → In x ks → In x (ascending ks)
unfolding ascending
ascending-in [] i = absurd (nowhere i)
ascending-in {x} (k ∷ ks) i = by (cases_cons i) (λ (l : In x ks). ascending-in ks l)
  where
    by : (x ≡ k) ⊎ In x ks → (In x ks → In x (ascending ks)) → In x (insert k (ascending ks))
    by (inl e) f = subst (λ (y : ℕ). In y (insert k (ascending ks))) (sym e) (insert-here k (ascending ks))
    by (inr l) f = insert-there k (ascending ks) (f l)

-- ---- a wait's number gives its name

word_at : (w : ℕ → List ℕ) (ts : List ℕ) (q j : ℕ) → get_elem? ts q ≡ some j → get_elem? (each (λ (k : ℕ). w k ∷ []) ts) q ≡ some (w j)
unfolding each Option-elim
word_at w [] q j e = never e
word_at w (t ∷ ts) zero j e = ap (λ (o : Option ℕ). Option-elim o none (λ k. some (w k))) e
word_at w (t ∷ ts) (suc q) j e = word_at w ts q j e

-- 02, note 13: each wait counts under its own name
pub name-is : (m : Resolved.Model) (k : ℕ) → In k (all_waits m) → get_elem? (wait_names m) (name_number m k) ≡ some (m.words k)
unfolding wait_names name_number name_tokens wait_tokens or_zero
name-is m k i = by (place_in w k 0 ts) (placed w k 0 ts) (first_of w [] [] (ascending (all_waits m)) (ascending-in (all_waits m) i))
  where
    w : ℕ → List ℕ
    w = m.words

    ts : List ℕ
    ts = firsts m.words [] [] (ascending (all_waits m))

    by : (o : Option ℕ) → Placed w k ts 0 o → (j : ℕ) × In j ts × (w k ≡ w j) → get_elem? (each (λ (x : ℕ). w x ∷ []) ts) (or_zero o) ≡ some (w k)
    by o (found {j = j} q g e) h = let d : 0 + q ≡ q = omega arith in rw d (word_at w ts q j g ∙ ap (λ (x : List ℕ). some x) (sym e))
    by o (absent f) h = absurd (f h.0 h.1 h.2)
