-- The returns of the readers of sets, over plain variables: what each answers follows from the tokens it looked at, the nodes it wrote and what its callees
-- answered. From the laws of Answers.antt.
use mathlib.Core.Path.{◌≡◌, refl}
use mathlib.Core.List.{List, [], ◌∷◌}
use mathlib.Core.Logic.{inl, inr}
use Prim.Native.Nat.{ℕ, ◌+◌, ◌≤◌}
use native.Mathlib.Omega.{arith}
use lib.ListN.{length, get_or}
use Rattle.std.specs.Prelude.{Err, Ok}
use Rattle.token.specs.Kind as kind
use Rattle.grammar.specs.Grammar
use Rattle.grammar.specs.Grammar.{flat_expr, flat_part, flat_parts, flat_set}
use Rattle.grammar.specs.Machine.{RangeEnd, Parts', an_expr, a_part, a_set, table, rows_of, is_may, find}
use Rattle.grammar.specs.Syntax
use Rattle.grammar.specs.Syntax.{expr_at, part_at, parts_at, set_at}
use Rattle.grammar.proofs.Follows.{join, takes, passes}
use Rattle.grammar.proofs.Wide.{wide-expr, wide-part}
use Rattle.tree.specs.Node as node
use Rattle.tree.specs.Node.{join_kind}
use Rattle.tree.specs.Table
use Rattle.tree.specs.Reading.{place, Parsed, Extended, Read}
use Rattle.tree.proofs.Holds.{expr-interval, set-interval}
use Rattle.tree.proofs.Spans.{span_none, Wrote, next-at, made_of}
use Rattle.syntax.specs.Signs.{join_signs}
use Rattle.syntax.proofs.Signs.{Hit, Apart}
use Rattle.syntax.proofs.Answers.{Answers, Continues, first-fails, first-grows, second-fails, second-made, Joint, joined-fails, joined-grows}
use Rattle.syntax.proofs.Expressions.{Expr}

-- ---- what the functions answer

abbrev pub Part : List ℕ → List ℕ → List ℕ → ℕ → ℕ → Read → Type 0
Part ts t t' at = Answers a_part flat_part (λ s p. Table.Set s (part_at p at)) ts t t' at

abbrev pub Parts : List ℕ → List ℕ → List ℕ → ℕ → ℕ → Read → Type 0
Parts ts t t' at = Continues (Parts' ∷ []) flat_parts (λ x z. parts_at x z at) Table.Set ts t t' at

abbrev pub Set : List ℕ → List ℕ → List ℕ → ℕ → ℕ → Read → Type 0
Set ts t t' at = Answers a_set flat_set (λ s x. Table.Set s (set_at x at)) ts t t' at

-- ---- a part

module _ (ts t t₁ : List ℕ) (at used : ℕ) {r : Read} where
  pub part-fault : {k : ℕ} → r ≡ Err k → Expr ts t t₁ at used r → Part ts t t₁ at used (Err k)
  part-fault = first-fails an_expr (RangeEnd ∷ []) flat_expr _ flat_part _ ts t t₁ at used

  module _ {n left : ℕ} (e : r ≡ Ok (n, left)) (a : Expr ts t t₁ at used r) where
    pub part-single : (get_or ts n 0 ≡ kind.range → ⊥) → Part ts t t₁ at used (Ok (n, left))
    unfolding place Parsed table rows_of is_may flat_part part_at Table.Set
    part-single s =
        let m = made_of e a.1 in (
          join ts at n an_expr (RangeEnd ∷ []) (next-at e a.0) (passes ts n RangeEnd m.span.within refl (s, tt)),
          record { tree = Grammar.single m.tree; span = m.span; shown = m.shown },
        )

    module _ (t₂ : List ℕ) (s : get_or ts n 0 ≡ kind.range) {r' : Read} (b : Expr ts t₁ t₂ (n + 1) (left + 1) r') where
      pub part-second : {k : ℕ} → r' ≡ Err k → Part ts t t₂ at used (Err k)
      unfolding table rows_of find
      part-second = second-fails an_expr an_expr (RangeEnd ∷ []) flat_expr flat_expr flat_part _ _ _ ts t t₁ t₂ at used (λ q f. takes ts n RangeEnd kind.range s (omega arith) refl (λ l. f)) e a b

      pub part-range : {i root : ℕ} {t₃ : List ℕ} → r' ≡ Ok (i, root) → Wrote t₂ t₃ (root + 1) node.range 0 left 0 → Part ts t t₃ at used (Ok (i, root + 1))
      unfolding table rows_of find flat_part part_at Table.Set
      part-range d w = second-made an_expr an_expr (RangeEnd ∷ []) flat_expr flat_expr flat_part _ _ _ ts t t₁ t₂ at used (λ q f. takes ts n RangeEnd kind.range s (omega arith) refl (λ l. f)) e a b wide-expr (λ v. expr-interval (expr_at v at)) (λ v. expr-interval (expr_at v (n + 1))) Grammar.range (λ v u us. refl) (λ v u x lo k q h. rw q at h) s (omega arith) d w

-- ---- parts joined

abbrev pub JoinSign : ℕ → ℕ → Type 0
JoinSign = Joint a_part Parts' flat_part flat_parts part_at parts_at Table.Set

without_sign : JoinSign kind.backslash (join_kind Syntax.without)
unfolding table rows_of find flat_parts parts_at Table.Set
without_sign = record { more = Grammar.without; binary = Syntax.joined Syntax.without; present = omega arith; row = refl; text = λ a w us. refl; grows = λ z a w k. refl; shows = λ z v s lo k h. h }

union-sign : JoinSign kind.union (join_kind Syntax.union)
unfolding table rows_of find flat_parts parts_at Table.Set
union-sign = record { more = Grammar.union; binary = Syntax.joined Syntax.union; present = omega arith; row = refl; text = λ a w us. refl; grows = λ z a w k. refl; shows = λ z v s lo k h. h }

inter-sign : JoinSign kind.intersection (join_kind Syntax.inter)
unfolding table rows_of find flat_parts parts_at Table.Set
inter-sign = record { more = Grammar.inter; binary = Syntax.joined Syntax.inter; present = omega arith; row = refl; text = λ a w us. refl; grows = λ z a w k. refl; shows = λ z v s lo k h. h }

pub join-sign : (k op : ℕ) → Hit k op join_signs → JoinSign k op
join-sign k op (inl s) = rw (s.0, s.1) without_sign
join-sign k op (inr (inl s)) = rw (s.0, s.1) union-sign
join-sign k op (inr (inr (inl s))) = rw (s.0, s.1) inter-sign
join-sign k op (inr (inr (inr z))) = absurd z

module _ (ts t : List ℕ) (at left : ℕ) where
  pub parts_none : at ≤ length ts → Apart (get_or ts at 0) join_signs → Parts ts t t at left (Ok (at, left))
  unfolding place Extended table rows_of is_may flat_parts parts_at
  parts_none h n = (passes ts at Parts' h refl n, record { tree = Grammar.no_parts; span = span_none h; shown = λ l x lo p. p })

  module _ (t₁ : List ℕ) {r : Read} (op : ℕ) where
    pub parts-fault : {k : ℕ} → Hit (get_or ts at 0) op join_signs → Part ts t t₁ (at + 1) (left + 1) r → r ≡ Err k → Parts ts t t₁ at left (Err k)
    parts-fault s a e = joined-fails ts t t₁ at left (join-sign (get_or ts at 0) op s) a e

    pub parts_more : (t₂ t₃ : List ℕ) {n root : ℕ} (r' : Read) → Hit (get_or ts at 0) op join_signs → Part ts t t₁ (at + 1) (left + 1) r → r ≡ Ok (n, root) → Wrote t₁ t₂ (root + 1) op 0 left 0 → Parts ts t₂ t₃ n (root + 1) r' → Parts ts t t₃ at left r'
    parts_more t₂ t₃ r' s a = joined-grows ts t t₁ at left (join-sign (get_or ts at 0) op s) a wide-part set-interval t₂ t₃ r'

-- ---- a set

module _ (ts t t₁ : List ℕ) (at used : ℕ) {r : Read} where
  pub set-fault : {k : ℕ} → r ≡ Err k → Part ts t t₁ at used r → Set ts t t₁ at used (Err k)
  set-fault = first-fails a_part (Parts' ∷ []) flat_part _ flat_set _ ts t t₁ at used

  pub set-made : (t₂ : List ℕ) {n root : ℕ} (r' : Read) → r ≡ Ok (n, root) → Part ts t t₁ at used r → Parts ts t₁ t₂ n root r' → Set ts t t₂ at used r'
  unfolding flat_set set_at
  set-made t₂ {n} r' = first-grows a_part (Parts' ∷ []) flat_part flat_parts flat_set wide-part Table.Set _ (λ x z. parts_at x z n) (λ x. part_at x at) Grammar.set (λ x z us. refl) ts t t₁ t₂ at used (λ x z s lo k q h. rw q at h) r'
