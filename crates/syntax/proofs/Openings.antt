-- A continuation or an item that is neither a call nor a group does with every token what a prefix does, and so may be read as one. From the machine's table.
use mathlib.Core.Path.{◌≡◌, refl, sym, ◌∙◌}
use mathlib.Core.List.{List, [], ◌∷◌, ◌++◌}
use mathlib.Core.Bool.{Bool, true, false}
use mathlib.Core.Logic.{inl, inr}
use Prim.Native.Nat.{ℕ}
use borrow.Author.Tests.{eqb-true, eqb-false}
use lib.Dec.{eqb}
use lib.ListN.{get_or}
use Rattle.token.specs.Kind as kind
use Rattle.grammar.specs.Machine.{Sym, Want, Gate', Cont', Item', a_prefix, a_sum, table, rows_of, is_may, rows, optional, stuck, step}
use Rattle.grammar.specs.Follows.{Answer, Follows}
use Rattle.grammar.proofs.Steps.{Misses, missing, step-passes, step-sticks, ending-passes, ending-sticks}
use Rattle.grammar.proofs.Follows.{like}
use Rattle.grammar.proofs.Alike.{cont-prefix, item-sum}

-- no prefix begins with the token
unopened : (t : ℕ) (s : List Sym) → (t ≡ kind.open_curly → ⊥) → (t ≡ kind.open_square → ⊥) → step t (Gate' ∷ Want kind.open_curly ∷ s) ≡ stuck
unfolding table rows_of is_may
unopened t s c q = step-passes t Gate' (Want kind.open_curly ∷ s) (missing t (rows Gate') (q, tt)) refl ∙ step-sticks t (Want kind.open_curly) s (missing t (rows (Want kind.open_curly)) (c, tt)) refl

module _ (ts : List ℕ) (at : ℕ) {r : Answer} where
  -- where x has no row for the token and no prefix begins with it, both are stuck
  neither : (x : Sym) (rest : List Sym) → optional x ≡ false → Misses (get_or ts at 0) (rows x) → (get_or ts at 0 ≡ kind.open_curly → ⊥) → (get_or ts at 0 ≡ kind.open_square → ⊥) → Follows ts at (Gate' ∷ Want kind.open_curly ∷ rest) r → Follows ts at (x ∷ []) r
  unfolding table rows_of is_may
  neither x rest must m c q f =
      like ts at (x ∷ []) (Gate' ∷ Want kind.open_curly ∷ rest)
      (λ s. step-sticks (get_or ts at 0) x s (missing (get_or ts at 0) (rows x) m) must ∙ sym (unopened (get_or ts at 0) (rest ++ s) c q))
      (λ s. ending-sticks at x s must ∙ sym (ending-passes at Gate' (Want kind.open_curly ∷ rest ++ s) refl ∙ ending-sticks at (Want kind.open_curly) (rest ++ s) refl))
      f

  module _ (g : get_or ts at 0 ≡ kind.open_round → ⊥) (n : get_or ts at 0 ≡ kind.name → ⊥) where
    pub as-prefix : Follows ts at a_prefix r → Follows ts at (Cont' ∷ []) r
    unfolding table rows_of is_may
    as-prefix f = by (eqb (get_or ts at 0) kind.open_curly) (eqb (get_or ts at 0) kind.open_square) refl refl
      where
        by : (b c : Bool) → eqb (get_or ts at 0) kind.open_curly ≡ b → eqb (get_or ts at 0) kind.open_square ≡ c → Follows ts at (Cont' ∷ []) r
        by true c e d = cont-prefix ts at (inl (eqb-true (get_or ts at 0) kind.open_curly e)) f
        by false true e d = cont-prefix ts at (inr (eqb-true (get_or ts at 0) kind.open_square d)) f
        by false false e d =
            let x = eqb-false (get_or ts at 0) kind.open_curly e in
            let y = eqb-false (get_or ts at 0) kind.open_square d in
            neither Cont' _ refl (x, (y, (n, (g, tt)))) x y f

    pub as-sum : Follows ts at a_sum r → Follows ts at (Item' ∷ []) r
    unfolding table rows_of is_may
    as-sum f = by (eqb (get_or ts at 0) kind.open_curly) (eqb (get_or ts at 0) kind.open_square) refl refl
      where
        by : (b c : Bool) → eqb (get_or ts at 0) kind.open_curly ≡ b → eqb (get_or ts at 0) kind.open_square ≡ c → Follows ts at (Item' ∷ []) r
        by true c e d = item-sum ts at (inl (eqb-true (get_or ts at 0) kind.open_curly e)) f
        by false true e d = item-sum ts at (inr (eqb-true (get_or ts at 0) kind.open_square d)) f
        by false false e d =
            let x = eqb-false (get_or ts at 0) kind.open_curly e in
            let y = eqb-false (get_or ts at 0) kind.open_square d in
            neither Item' _ refl (x, (y, (n, (g, tt)))) x y f
