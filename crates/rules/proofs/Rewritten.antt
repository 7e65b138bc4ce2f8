-- Processes replaced at several places at once: a list gathered from what each becomes; where the others stand afterwards; and two such changes at different places
-- done one after the other, in either order, come to both at once. By induction on the list.
use Prim.Native.Nat.{ℕ, zero, suc, ◌+◌, ◌≤◌, ◌<◌}
use mathlib.Core.Path.{◌≡◌, refl, sym, ap, ap₂, ◌∙◌}
use mathlib.Core.List.{List, [], ◌∷◌, ◌++◌, append_assoc}
use mathlib.Core.Logic.{◌⊎◌, ⊎_elim}
use mathlib.Core.Option.{Option, none, some, Option-elim}
use native.Mathlib.Omega.{arith}
use lib.ListN.{length}
use Rattle.rules.specs.Rules.{Nth, first, later}
use Rattle.rules.specs.Listing.{gather}
use Rattle.rules.specs.Carried.{size, place_after}

-- what stands for a process: what it becomes, or itself
abbrev pub or_self : {A : Type 0} → Option (List A) → A → List A
or_self o x = Option-elim o (x ∷ []) (λ ks. ks)

-- every process replaced, at once
abbrev pub rewritten : {A : Type 0} → (ℕ → Option (List A)) → List A → List A
rewritten {A} f xs = gather (λ (n : ℕ) (x : A). or_self (f n) x) xs

-- ---- gathered lists
pub gather-same : {A B : Type 0} (f g : ℕ → A → List B) (xs : List A) → ((n : ℕ) (x : A) → f n x ≡ g n x) → gather f xs ≡ gather g xs
unfolding gather
gather-same f g [] h = refl
gather-same f g (x ∷ xs) h = ap₂ (λ u v. u ++ v) (h zero x) (gather-same (λ n. f (suc n)) (λ n. g (suc n)) xs (λ n. h (suc n)))

gather_append : {A B : Type 0} (f : ℕ → A → List B) (xs ys : List A) → gather f (xs ++ ys) ≡ gather f xs ++ gather (λ n. f (length xs + n)) ys
unfolding gather
gather_append f [] ys = gather-same f (λ n. f (0 + n)) ys (λ n x. let e : n ≡ 0 + n = omega arith in ap (λ m. f m x) e)
gather_append f (x ∷ xs) ys =
    let e = gather-same (λ n. f (suc (length xs + n))) (λ n. f (suc (length xs) + n)) ys (λ n y. let q : suc (length xs + n) ≡ suc (length xs) + n = omega arith in ap (λ m. f m y) q) in
    ap (λ t. f zero x ++ t) (gather_append (λ n. f (suc n)) xs ys ∙ ap (λ t. gather (λ n. f (suc n)) xs ++ t) e)
    ∙ sym (append_assoc (f zero x) (gather (λ n. f (suc n)) xs) (gather (λ n. f (suc (length xs) + n)) ys))

-- where nothing is replaced, the list stays
pub untouched : {A : Type 0} (h : ℕ → Option (List A)) (xs : List A) → ((m : ℕ) → m < length xs → h m ≡ none) → rewritten h xs ≡ xs
unfolding gather Option-elim
untouched h [] e = refl
untouched h (x ∷ xs) e = rw (e 0 (omega arith)) (ap (λ t. x ∷ t) (untouched (λ n. h (suc n)) xs (λ m l. e (suc m) (omega arith))))

-- ---- places
place-from : (z : ℕ → ℕ) (n : ℕ) → place_after z (suc n) ≡ z 0 + place_after (λ m. z (suc m)) n
unfolding place_after
place-from z zero = omega arith
place-from z (suc n) = omega (arith, place-from z n)

place-zero : (z : ℕ → ℕ) → place_after z 0 ≡ 0
unfolding place_after
place-zero z = refl

-- what stands for a process stands before all that stands for a later one
pub place-grows : (z : ℕ → ℕ) (n m : ℕ) → n < m → place_after z n + z n ≤ place_after z m
place-grows z n zero l = absurd (omega arith)
place-grows z zero (suc m) l = omega (arith, place-from z m, place-zero z)
place-grows z (suc n) (suc m) l = omega (arith, place-from z n, place-from z m, place-grows (λ k. z (suc k)) n m (omega arith))

-- a process that isn't replaced stands at its place
pub nth-moves : {A : Type 0} (f : ℕ → Option (List A)) {xs : List A} {n : ℕ} {x : A}
    → Nth xs n x → f n ≡ none → Nth (rewritten f xs) (place_after (λ m. size (f m)) n) x
unfolding gather Option-elim
nth-moves f (first {x = x} {xs = xs}) e = rw (e, place-zero (λ m. size (f m))) first
nth-moves f (later {x = x} {xs = xs} {n = n} h) e = rw (place-from (λ m. size (f m)) n) (past (f zero) x (nth-moves (λ m. f (suc m)) h e))
  where
    beyond : {A : Type 0} (ks : List A) {ys : List A} {m : ℕ} {y : A} → Nth ys m y → Nth (ks ++ ys) (length ks + m) y
    beyond [] {m = m} g = let q : 0 + m ≡ m = omega arith in rw q g
    beyond (k ∷ ks) {m = m} g = let q : suc (length ks) + m ≡ suc (length ks + m) = omega arith in rw q (later (beyond ks g))

    past : {A : Type 0} (o : Option (List A)) (x : A) {ys : List A} {m : ℕ} {y : A} → Nth ys m y → Nth (or_self o x ++ ys) (size o + m) y
    past none x g = beyond (x ∷ []) g
    past (some ks) x g = beyond ks g

-- ---- one change after another

-- h is the change g, carried through the change f
pub record Through {A : Type 0} (f g h : ℕ → Option (List A)) : Type 0 where
  pub kept : (n : ℕ) → f n ≡ none → h (place_after (λ m. size (f m)) n) ≡ g n
  pub fresh : (n m : ℕ) (ks : List A) → f n ≡ some ks → m < length ks → h (place_after (λ m. size (f m)) n + m) ≡ none

-- both at once
abbrev pub together : {A : Type 0} → (ℕ → Option (List A)) → (ℕ → Option (List A)) → ℕ → Option (List A)
together f g n = Option-elim (f n) (g n) (λ ks. some ks)

module _ {A : Type 0} where
  through-rest : {f g h : ℕ → Option (List A)} → Through f g h → Through (λ n. f (suc n)) (λ n. g (suc n)) (λ n. h (size (f 0) + n))
  through-rest {f} {g} {h} t = record {
    kept = λ n e. rw (sym (place-from (λ m. size (f m)) n)) (t.kept (suc n) e);
    fresh = λ n m ks e l.
        let q : size (f 0) + (place_after (λ m. size (f (suc m))) n + m) ≡ place_after (λ m. size (f m)) (suc n) + m = omega (arith, place-from (λ m. size (f m)) n) in
        rw q (t.fresh (suc n) m ks e l);
  }

  pub one-after-other : (f g h : ℕ → Option (List A)) (xs : List A) → Through f g h → rewritten h (rewritten f xs) ≡ rewritten (together f g) xs
  unfolding gather Option-elim
  one-after-other f g h [] t = refl
  one-after-other f g h (x ∷ xs) t = go (f 0) refl (one-after-other (λ n. f (suc n)) (λ n. g (suc n)) (λ n. h (size (f 0) + n)) xs (through-rest t))
    where
      rest : List A
      rest = rewritten (λ n. f (suc n)) xs

      all : List A
      all = rewritten (λ n. together f g (suc n)) xs

      go : (o : Option (List A)) → f 0 ≡ o → rewritten (λ n. h (size o + n)) rest ≡ all → rewritten h (or_self o x ++ rest) ≡ or_self (Option-elim o (g 0) (λ ks. some ks)) x ++ all
      go none e r =
          let q : h 0 ≡ g 0 = ap h (sym (place-zero (λ m. size (f m)))) ∙ t.kept 0 e in
          let u = gather-same (λ (n : ℕ) (y : A). or_self (h (suc n)) y) (λ (n : ℕ) (y : A). or_self (h (1 + n)) y) rest
          (λ n y. let v : suc n ≡ 1 + n = omega arith in ap (λ m. or_self (h m) y) v) in
          ap₂ (λ a b. a ++ b) (ap (λ o. or_self o x) q) (u ∙ r)
      go (some ks) e r =
          gather_append (λ (n : ℕ) (y : A). or_self (h n) y) ks rest
          ∙ ap₂ (λ a b. a ++ b) (untouched h ks (λ m l. let v : place_after (λ k. size (f k)) 0 + m ≡ m = omega (arith, place-zero (λ k. size (f k))) in ap h (sym v) ∙ t.fresh 0 m ks e l)) r

  -- the order in which changes at different places are named doesn't matter
  pub either_way : (f g : ℕ → Option (List A)) → ((n : ℕ) → f n ≡ none ⊎ g n ≡ none) → (xs : List A) → rewritten (together f g) xs ≡ rewritten (together g f) xs
  unfolding Option-elim
  either_way f g h xs = gather-same _ _ xs (λ n x. ap (λ o. or_self o x) (go (f n) (g n) (h n)))
    where
      go : (a b : Option (List A)) → a ≡ none ⊎ b ≡ none → Option-elim a b (λ ks. some ks) ≡ Option-elim b a (λ ks. some ks)
      go none none e = refl
      go none (some ls) e = refl
      go (some ks) none e = refl
      go (some ks) (some ls) e = ⊎_elim (λ q. absurd (clash q)) (λ q. absurd (clash q)) e
        where
          clash : {us : List A} → ◌≡◌ {A = Option (List A)} (some us) none → ⊥
          clash q = let z : ◌≡◌ {A = ℕ} 0 1 = cc in omega arith
