-- The code of a name that is lent, found name by name. By induction on the names.
use mathlib.Core.Path.{◌≡◌, refl, sym, ap, ◌∙◌}
use mathlib.Core.Bool.{Bool, true, false, cond}
use mathlib.Core.List.{List, [], ◌∷◌}
use mathlib.Core.Option.{Option, none, some, Option-elim}
use Prim.Native.Nat.{ℕ, suc, ◌+◌, ◌≤◌, ◌<◌}
use native.Mathlib.Numerals.{add-one}
use lib.Dec.{eqb}
use lib.ListN.{length, get_or, drop, drop_of_length-le}
use lib.Pointwise.{pointwise}
use lib.Seq.{drop-cons}
use Rattle.token.specs.Token.{same_bytes}
use Rattle.model.specs.Lists.{each}
use Rattle.model.specs.Resolved.{Model}
use Rattle.waitnames.specs.Names.{number_in, name_tokens, wait_names, wait_number}
use Rattle.naming.specs.Marks.{code_of}
use Rattle.naming.proofs.Places.{same-is}

-- the names at these tokens
abbrev pub spelled : (ℕ → List ℕ) → List ℕ → List (List ℕ)
spelled w ks = each (λ (k : ℕ). w k ∷ []) ks

module _ (w : ℕ → List ℕ) (x : List ℕ) (ks : List ℕ) where
  -- the first i of the names are others
  abbrev pub Others : ℕ → Type 0
  Others i = number_in x 0 (spelled w ks) ≡ number_in x i (spelled w (drop i ks))

  next : (i : ℕ) → i < length ks → number_in x i (spelled w (drop i ks)) ≡ cond (same_bytes x (w (get_or ks i 0))) (some i) (number_in x (suc i) (spelled w (drop (suc i) ks)))
  unfolding number_in each
  next i h = rw (drop-cons ks i 0 h) refl

  code : (o : Option ℕ) (n : ℕ) → number_in x 0 (spelled w ks) ≡ o → Option-elim o 0 suc ≡ n → Option-elim (number_in x 0 (spelled w ks)) 0 suc ≡ n
  code o n e f = rw e f

  pub code-found : (i : ℕ) → Others i → i < length ks → same_bytes x (w (get_or ks i 0)) ≡ true → Option-elim (number_in x 0 (spelled w ks)) 0 suc ≡ i + 1
  unfolding Option-elim
  code-found i o h e = code (some i) (i + 1) (o ∙ next i h ∙ rw e refl) (sym (add-one i))

  pub code-on : (i : ℕ) → Others i → i < length ks → same_bytes x (w (get_or ks i 0)) ≡ false → Others (i + 1)
  code-on i o h e = o ∙ next i h ∙ ap (λ (b : Bool). cond b (some i) (number_in x (suc i) (spelled w (drop (suc i) ks)))) e ∙ ap (λ (j : ℕ). number_in x j (spelled w (drop j ks))) (sym (add-one i))

  pub code-end : (i : ℕ) → Others i → length ks ≤ i → Option-elim (number_in x 0 (spelled w ks)) 0 suc ≡ 0
  unfolding Option-elim number_in each
  code-end i o h = code none 0 (o ∙ ap (λ (l : List ℕ). number_in x i (spelled w l)) (drop_of_length-le ks {i = i} h)) refl

pub code-is : (m : Model) (x : List ℕ) (ks : List ℕ) (n : ℕ) → ks ≡ name_tokens m → Option-elim (number_in x 0 (spelled m.words ks)) 0 suc ≡ n → n ≡ code_of m x
unfolding code_of wait_number wait_names
code-is m x ks n e f = rw (← e) (sym f)

-- what the test of two names says
pub told-name : (w : ℕ → List ℕ) (n from : ℕ) (x y : List ℕ) (r b : Bool) → y ≡ w from → from ≡ n → r ≡ pointwise eqb x y → r ≡ b → same_bytes x (w n) ≡ b
told-name w n from x y r b q d e f = rw (← d, ← q) (sym (same-is x y) ∙ sym e ∙ f)
