-- Exactly the five words are no names: a letter or `_` and then letters, digits and `_` are a name unless they spell one of them. From what the kind of such bytes is.
use mathlib.Core.Path.{◌≡◌, refl, sym, subst}
use mathlib.Core.List.Memᴰ.{cases_cons as cases}
use mathlib.Core.List.Memᴰ.{head}
use mathlib.Core.List.Memᴰ.{not-nil as nowhere}
use mathlib.Core.List.Memᴰ.{tail}
use mathlib.Core.List.{List, [], ◌∷◌, Memᴰ as In}
use mathlib.Core.Bool.{Bool, true, false, cond}
use mathlib.Core.Logic.{◌↔◌, ⊎_elim}
use Prim.Native.Nat.{ℕ, ◌≤◌}
use native.Mathlib.Omega.{arith}
use lib.Dec.{eqb}
use lib.ListN.{get_or}
use borrow.Author.Tests.{eqb-true, eqb-false}
use Rattle.token.specs.Kind as kind
use Rattle.token.specs.Bytes.{sort_of}
use Rattle.token.specs.Token.{abs_bytes, max_bytes, min_bytes, union_bytes, inter_bytes, word_kind}
use Rattle.token.specs.Tiling.{Run, Lexeme}
use Rattle.token.specs.Tiling.Lexeme.{named}
use Rattle.token.proofs.Words.{spelled, word-spelled}
use Rattle.token.proofs.Names.{word-only}

-- 01, Model text: abs, max, min, union, inter
abbrev pub the_words : List (List ℕ)
the_words = abs_bytes ∷ max_bytes ∷ min_bytes ∷ union_bytes ∷ inter_bytes ∷ []

a_word : (k : ℕ) → In (spelled k) the_words
a_word k = by (eqb k kind.absolute) (eqb k kind.maximum) (eqb k kind.minimum) (eqb k kind.union)
  where
    by : (a b c d : Bool) → In (cond a abs_bytes (cond b max_bytes (cond c min_bytes (cond d union_bytes inter_bytes)))) the_words
    by true b c d = head refl
    by false true c d = tail (head refl)
    by false false true d = tail (tail (head refl))
    by false false false true = tail (tail (tail (head refl)))
    by false false false false = tail (tail (tail (tail (head refl))))

module _ (s : List ℕ) (first : sort_of (get_or s 0 0) ≡ 1) (run : Run 1 s) where
  no_word : (j : ℕ) → kind.absolute ≤ j → j ≤ kind.intersection → Lexeme kind.name s → s ≡ spelled j → ⊥
  no_word j h g l e = let z = word-only j kind.name s h g e l in omega arith

  not-among : Lexeme kind.name s → In s the_words → ⊥
  not-among l i =
      ⊎_elim (no_word kind.absolute (omega arith) (omega arith) l) (λ (j : In s (max_bytes ∷ min_bytes ∷ union_bytes ∷ inter_bytes ∷ [])).
      ⊎_elim (no_word kind.maximum (omega arith) (omega arith) l) (λ (j : In s (min_bytes ∷ union_bytes ∷ inter_bytes ∷ [])).
      ⊎_elim (no_word kind.minimum (omega arith) (omega arith) l) (λ (j : In s (union_bytes ∷ inter_bytes ∷ [])).
      ⊎_elim (no_word kind.union (omega arith) (omega arith) l) (λ (j : In s (inter_bytes ∷ [])).
      ⊎_elim (no_word kind.intersection (omega arith) (omega arith) l) (λ (j : In s []). nowhere j) (cases j)) (cases j)) (cases j)) (cases j)) (cases i)

  a-name : (In s the_words → ⊥) → Lexeme kind.name s
  a-name h = by (eqb (word_kind s) kind.name) refl
    where
      by : (b : Bool) → eqb (word_kind s) kind.name ≡ b → Lexeme kind.name s
      by true e = named first run (sym (eqb-true (word_kind s) kind.name e))
      by false e = absurd (h (subst (λ (t : List ℕ). In t the_words) (sym (word-spelled s (eqb-false (word_kind s) kind.name e))) (a_word (word_kind s))))

  -- 01, Model text: the five words are no names, and nothing else of that form is none
  pub name-or-word : Lexeme kind.name s ↔ (In s the_words → ⊥)
  name-or-word = (not-among, a-name)
