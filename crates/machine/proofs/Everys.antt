-- What holds of every member of a list: of members, of lists joined, mapped and spliced. By induction on the list.
use mathlib.Core.Path.{refl}
use mathlib.Core.List.Memᴰ
use mathlib.Core.List.{List, [], ◌∷◌, ◌++◌, map, Memᴰ as In}
use mathlib.Core.Logic.{⊎_elim}
use Prim.Native.Nat.{ℕ, zero, suc}
use lib.ListN.{get_or}
use Rattle.rules.specs.Rules.{Nth, first, later}
use Rattle.rules.specs.Step.{replace, replace_both}
use Rattle.model.specs.Good.{Every}

module _ {A : Type 0} (P : A → Type 0) where
  pub every_in : (xs : List A) → Every P xs → (x : A) → In x xs → P x
  unfolding Every
  every_in [] h x i = absurd (Memᴰ.not-nil i)
  every_in (y ∷ xs) h x i = ⊎_elim (λ e. rw e h.0) (every_in xs h.1 x) (Memᴰ.cases_cons i)

  pub in-every : (xs : List A) → ((x : A) → In x xs → P x) → Every P xs
  unfolding Every
  in-every [] f = tt
  in-every (x ∷ xs) f = (f x (In.head refl), in-every xs (λ y i. f y (In.tail i)))

  pub every-nth : {xs : List A} {n : ℕ} {x : A} → Every P xs → Nth xs n x → P x
  unfolding Every
  every-nth h first = h.0
  every-nth h (later g) = every-nth h.1 g

  pub every_get : (d : A) → P d → (xs : List A) (i : ℕ) → Every P xs → P (get_or xs i d)
  unfolding Every
  every_get d p [] zero h = p
  every_get d p [] (suc i) h = p
  every_get d p (x ∷ xs) zero h = h.0
  every_get d p (x ∷ xs) (suc i) h = every_get d p xs i h.1

  pub every_append : (xs ys : List A) → Every P xs → Every P ys → Every P (xs ++ ys)
  unfolding Every
  every_append [] ys h g = g
  every_append (x ∷ xs) ys h g = (h.0, every_append xs ys h.1 g)

  pub every-replace : (i : ℕ) (ks ps : List A) → Every P ks → Every P ps → Every P (replace i ks ps)
  unfolding Every replace
  every-replace zero ks [] h g = tt
  every-replace zero ks (p ∷ ps) h g = every_append ks ps h g.1
  every-replace (suc i) ks [] h g = tt
  every-replace (suc i) ks (p ∷ ps) h g = (g.0, every-replace i ks ps h g.1)

  pub every-replace_both : (i : ℕ) (ks : List A) (k : ℕ) (ls ps : List A) → Every P ks → Every P ls → Every P ps → Every P (replace_both i ks k ls ps)
  unfolding Every replace_both
  every-replace_both zero ks zero ls ps h l g = g
  every-replace_both zero ks (suc k) ls [] h l g = tt
  every-replace_both zero ks (suc k) ls (p ∷ ps) h l g = every_append ks (replace k ls ps) h (every-replace k ls ps l g.1)
  every-replace_both (suc i) ks zero ls [] h l g = tt
  every-replace_both (suc i) ks zero ls (p ∷ ps) h l g = every_append ls (replace i ks ps) l (every-replace i ks ps h g.1)
  every-replace_both (suc i) ks (suc k) ls [] h l g = tt
  every-replace_both (suc i) ks (suc k) ls (p ∷ ps) h l g = (g.0, every-replace_both i ks k ls ps h l g.1)

pub every_map : {A B : Type 0} (P : A → Type 0) (Q : B → Type 0) (f : A → B) → ((x : A) → P x → Q (f x)) → (xs : List A) → Every P xs → Every Q (map f xs)
unfolding Every
every_map P Q f g [] h = tt
every_map P Q f g (x ∷ xs) h = (g x h.0, every_map P Q f g xs h.1)
