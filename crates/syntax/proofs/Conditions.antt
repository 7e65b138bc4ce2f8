-- The returns of the readers of conditions, over plain variables: what each answers follows from the tokens it looked at, the nodes it wrote and what its
-- callees answered. From the laws of Answers.antt.
use mathlib.Core.Path.{◌≡◌, refl}
use mathlib.Core.List.{List, [], ◌∷◌, ◌++◌}
use mathlib.Core.Option.{some}
use mathlib.Core.Logic.{inl, inr}
use Prim.Native.Nat.{ℕ, ◌+◌, ◌≤◌, ◌<◌}
use native.Mathlib.Omega.{arith}
use lib.ListN.{length, get_or}
use Rattle.std.specs.Prelude.{Err, Ok}
use Rattle.token.specs.Kind as kind
use Rattle.grammar.specs.Grammar
use Rattle.grammar.specs.Grammar.{Relation, relation_kind, flat_expr, flat_test, flat_ands, flat_ors, flat_cond}
use Rattle.grammar.specs.Machine.{Not', Relation', Ands', Ors', an_expr, a_test, a_cond, table, rows_of, is_may, rows, find}
use Rattle.grammar.specs.Follows.{Answer, Follows}
use Rattle.grammar.specs.Syntax
use Rattle.grammar.specs.Syntax.{expr_at, test_at, ands_at, conjunction_at, ors_at, cond_at}
use Rattle.grammar.proofs.Follows.{here, join, fails, takes, passes, sticks}
use Rattle.grammar.proofs.Wide.{wide-expr, wide_test, wide-conjunction}
use Rattle.tree.specs.Node as node
use Rattle.tree.specs.Node.{test_kind}
use Rattle.tree.specs.Table
use Rattle.tree.specs.Reading.{place, Parsed, Extended, Read}
use Rattle.tree.proofs.Holds.{expr-interval, cond-interval}
use Rattle.tree.proofs.Spans.{span_none, span-token, ◌then◌, Wrote, next-at, made_of, parsed-as}
use Rattle.syntax.specs.Signs.{relation_signs}
use Rattle.syntax.specs.Condition.{turned, flat_related, HoldsRelated, flat_conjunction}
use Rattle.syntax.proofs.Signs.{Hit, Apart}
use Rattle.syntax.proofs.Answers.{Answers, Continues, first-fails, first-grows, second-fails, second-made, Joint, joined-fails, joined-grows}
use Rattle.syntax.proofs.Expressions.{Expr}

-- ---- what the functions answer

abbrev pub Related : ℕ → List ℕ → List ℕ → List ℕ → ℕ → ℕ → Read → Type 0
Related more ts t t' at = Answers (an_expr ++ Relation' ∷ an_expr) flat_related (HoldsRelated more at) ts t t' at

abbrev pub Tested : List ℕ → List ℕ → List ℕ → ℕ → ℕ → Read → Type 0
Tested ts t t' at = Answers a_test flat_test (λ s c. Table.Cond s (test_at c at)) ts t t' at

abbrev pub AndsRead : List ℕ → List ℕ → List ℕ → ℕ → ℕ → Read → Type 0
AndsRead ts t t' at = Continues (Ands' ∷ []) flat_ands (λ c a. ands_at c a at) Table.Cond ts t t' at

abbrev pub Conjunction : List ℕ → List ℕ → List ℕ → ℕ → ℕ → Read → Type 0
Conjunction ts t t' at = Answers (a_test ++ Ands' ∷ []) flat_conjunction (λ s p. Table.Cond s (conjunction_at p.0 p.1 at)) ts t t' at

abbrev pub OrsRead : List ℕ → List ℕ → List ℕ → ℕ → ℕ → Read → Type 0
OrsRead ts t t' at = Continues (Ors' ∷ []) flat_ors (λ c o. ors_at c o at) Table.Cond ts t t' at

abbrev pub Condition : List ℕ → List ℕ → List ℕ → ℕ → ℕ → Read → Type 0
Condition ts t t' at = Answers a_cond flat_cond (λ s c. Table.Cond s (cond_at c at)) ts t t' at

-- ---- relations

-- the token k is a relation's sign, and op its node's kind
pub record Sign (k op : ℕ) : Type 0 where
  pub relation : Relation
  pub sign : k ≡ relation_kind relation
  pub made : op ≡ node.relation_kind relation

pub relation-sign : (k op : ℕ) → Hit k op relation_signs → Sign k op
unfolding relation_kind
relation-sign k op (inl s) = record { relation = Grammar.less; sign = s.0; made = s.1 }
relation-sign k op (inr (inl s)) = record { relation = Grammar.at_most; sign = s.0; made = s.1 }
relation-sign k op (inr (inr (inl s))) = record { relation = Grammar.greater; sign = s.0; made = s.1 }
relation-sign k op (inr (inr (inr (inl s)))) = record { relation = Grammar.at_least; sign = s.0; made = s.1 }
relation-sign k op (inr (inr (inr (inr (inl s))))) = record { relation = Grammar.same; sign = s.0; made = s.1 }
relation-sign k op (inr (inr (inr (inr (inr (inl s)))))) = record { relation = Grammar.differs; sign = s.0; made = s.1 }
relation-sign k op (inr (inr (inr (inr (inr (inr z)))))) = absurd z

relation-row : (r : Relation) → find (relation_kind r) (rows Relation') ≡ some []
unfolding relation_kind table rows_of find
relation-row Grammar.less = refl
relation-row Grammar.at_most = refl
relation-row Grammar.greater = refl
relation-row Grammar.at_least = refl
relation-row Grammar.same = refl
relation-row Grammar.differs = refl

relation-present : (r : Relation) → 0 < relation_kind r
unfolding relation_kind
relation-present Grammar.less = omega arith
relation-present Grammar.at_most = omega arith
relation-present Grammar.greater = omega arith
relation-present Grammar.at_least = omega arith
relation-present Grammar.same = omega arith
relation-present Grammar.differs = omega arith

relation-low : (r : Relation) → node.relation_kind r ≤ 20
unfolding node.relation_kind
relation-low Grammar.less = omega arith
relation-low Grammar.at_most = omega arith
relation-low Grammar.greater = omega arith
relation-low Grammar.at_least = omega arith
relation-low Grammar.same = omega arith
relation-low Grammar.differs = omega arith

module _ (k op : ℕ) (s : Sign k op) where
  pub sign-present : 0 < k
  sign-present = omega (arith, s.sign, relation-present s.relation)

  pub sign_low : op ≤ 20
  sign_low = omega (arith, s.made, relation-low s.relation)

-- a sign, and then an expression
signed : (ts : List ℕ) (n op : ℕ) → Sign (get_or ts n 0) op → (q : Answer) → Follows ts (n + 1) an_expr q → Follows ts n (Relation' ∷ an_expr) q
signed ts n op s q f = join ts n (n + 1) (Relation' ∷ []) an_expr (takes ts n Relation' (relation_kind s.relation) s.sign (relation-present s.relation) (relation-row s.relation) (λ l. here ts (n + 1) l)) f

module _ (more : ℕ) (ts t t₁ : List ℕ) (at used : ℕ) {r : Read} where
  pub compare-fault : {k : ℕ} → r ≡ Err k → Expr ts t t₁ at used r → Related more ts t t₁ at used (Err k)
  compare-fault = first-fails an_expr (Relation' ∷ an_expr) flat_expr _ flat_related _ ts t t₁ at used

  module _ {n left : ℕ} (e : r ≡ Ok (n, left)) (a : Expr ts t t₁ at used r) where
    pub compare-stray : Apart (get_or ts n 0) relation_signs → Related more ts t t₁ at used (Err n)
    unfolding place Parsed table rows_of is_may
    compare-stray s =
        let m = made_of e a.1 in
        (join ts at n an_expr (Relation' ∷ an_expr) (next-at e a.0) (fails ts n n (Relation' ∷ []) an_expr (sticks ts n Relation' m.span.within refl s)), m.span.size)

    module _ (t₂ : List ℕ) (op : ℕ) (s : Sign (get_or ts n 0) op) {r' : Read} (b : Expr ts t₁ t₂ (n + 1) (left + 1) r') where
      pub compare-second : {k : ℕ} → r' ≡ Err k → Related more ts t t₂ at used (Err k)
      compare-second = second-fails an_expr an_expr (Relation' ∷ an_expr) flat_expr flat_expr flat_related _ _ _ ts t t₁ t₂ at used (signed ts n op s) e a b

      pub compare-made : {i root : ℕ} {t₃ : List ℕ} → r' ≡ Ok (i, root) → Wrote t₂ t₃ (root + 1) (op + more) 0 left 0 → Related more ts t t₃ at used (Ok (i, root + 1))
      unfolding flat_related HoldsRelated
      compare-made d w = second-made an_expr an_expr (Relation' ∷ an_expr) flat_expr flat_expr flat_related _ _ _ ts t t₁ t₂ at used (signed ts n op s) e a b wide-expr (λ v. expr-interval (expr_at v at)) (λ v. expr-interval (expr_at v (n + 1))) (λ v u. (v, s.relation, u)) (λ v u us. refl) (λ v u x lo k q h. rw q at h) s.sign (relation-present s.relation) d (rw s.made at w)

-- ---- a test

module _ (ts t t₁ : List ℕ) (at used : ℕ) (r : Read) where
  pub test-turned : get_or ts at 0 ≡ kind.tilde → Related turned ts t t₁ (at + 1) used r → Tested ts t t₁ at used r
  unfolding table rows_of find flat_test flat_related test_at HoldsRelated Table.Cond test_kind
  test-turned e a = (
    join ts at (at + 1) (Not' ∷ []) (an_expr ++ Relation' ∷ an_expr) (takes ts at Not' kind.tilde e (omega arith) refl (λ l. here ts (at + 1) l)) a.0,
    parsed-as r (λ n root m. record { tree = Grammar.fails m.tree.0 m.tree.1 m.tree.2; span = span-token kind.tilde e (omega arith) then m.span; shown = m.shown }) (λ z. z) a.1,
  )

  pub test_plain : at ≤ length ts → (get_or ts at 0 ≡ kind.tilde → ⊥) → Related 0 ts t t₁ at used r → Tested ts t t₁ at used r
  unfolding table rows_of is_may flat_test flat_related test_at HoldsRelated Table.Cond test_kind
  test_plain h n a = (
    join ts at at (Not' ∷ []) (an_expr ++ Relation' ∷ an_expr) (passes ts at Not' h refl (n, tt)) a.0,
    parsed-as r (λ i root m. let none : node.relation_kind m.tree.1 + 0 ≡ node.relation_kind m.tree.1 = omega arith in record { tree = Grammar.holds m.tree.0 m.tree.1 m.tree.2; span = m.span; shown = rw none at m.shown }) (λ z. z) a.1,
  )

-- ---- tests joined by `&`

abbrev AndSign : ℕ → ℕ → Type 0
AndSign = Joint a_test Ands' flat_test flat_ands test_at ands_at Table.Cond

and-sign : (k : ℕ) → k ≡ kind.ampersand → AndSign k node.both
unfolding table rows_of find flat_ands ands_at Table.Cond
and-sign k e = rw e (record { more = Grammar.both; binary = Syntax.both; present = omega arith; row = refl; text = λ a w us. refl; grows = λ z a w i. refl; shows = λ z v s lo i h. h })

module _ (ts t : List ℕ) (at left : ℕ) where
  pub ands-none : at ≤ length ts → (get_or ts at 0 ≡ kind.ampersand → ⊥) → AndsRead ts t t at left (Ok (at, left))
  unfolding place Extended table rows_of is_may flat_ands ands_at
  ands-none h n = (passes ts at Ands' h refl (n, tt), record { tree = Grammar.no_ands; span = span_none h; shown = λ l x lo p. p })

  module _ (t₁ : List ℕ) {r : Read} (s : get_or ts at 0 ≡ kind.ampersand) (a : Tested ts t t₁ (at + 1) (left + 1) r) where
    pub ands-fault : {k : ℕ} → r ≡ Err k → AndsRead ts t t₁ at left (Err k)
    ands-fault = joined-fails ts t t₁ at left (and-sign (get_or ts at 0) s) a

    pub ands-more : (t₂ t₃ : List ℕ) {n root : ℕ} (r' : Read) → r ≡ Ok (n, root) → Wrote t₁ t₂ (root + 1) node.both 0 left 0 → AndsRead ts t₂ t₃ n (root + 1) r' → AndsRead ts t t₃ at left r'
    ands-more t₂ t₃ r' = joined-grows ts t t₁ at left (and-sign (get_or ts at 0) s) a wide_test cond-interval t₂ t₃ r'

module _ (ts t t₁ : List ℕ) (at used : ℕ) {r : Read} where
  pub conjunction-fault : {k : ℕ} → r ≡ Err k → Tested ts t t₁ at used r → Conjunction ts t t₁ at used (Err k)
  conjunction-fault = first-fails a_test (Ands' ∷ []) flat_test _ flat_conjunction _ ts t t₁ at used

  pub conjunction-made : (t₂ : List ℕ) {n root : ℕ} (r' : Read) → r ≡ Ok (n, root) → Tested ts t t₁ at used r → AndsRead ts t₁ t₂ n root r' → Conjunction ts t t₂ at used r'
  unfolding flat_conjunction conjunction_at
  conjunction-made t₂ {n} r' = first-grows a_test (Ands' ∷ []) flat_test flat_ands flat_conjunction wide_test Table.Cond _ (λ x z. ands_at x z n) (λ x. test_at x at) (λ x z. (x, z)) (λ x z us. refl) ts t t₁ t₂ at used (λ x z s lo k q h. rw q at h) r'

-- ---- and these by `|`

abbrev OrSign : ℕ → ℕ → Type 0
OrSign = Joint (a_test ++ Ands' ∷ []) Ors' flat_conjunction flat_ors (λ p. conjunction_at p.0 p.1) ors_at Table.Cond

or-sign : (k : ℕ) → k ≡ kind.bar → OrSign k node.either
unfolding table rows_of find flat_ors flat_conjunction ors_at Table.Cond
or-sign k e = rw e (record { more = λ p. Grammar.either p.0 p.1; binary = Syntax.either; present = omega arith; row = refl; text = λ a w us. refl; grows = λ z a w i. refl; shows = λ z v s lo i h. h })

module _ (ts t : List ℕ) (at left : ℕ) where
  pub ors-none : at ≤ length ts → (get_or ts at 0 ≡ kind.bar → ⊥) → OrsRead ts t t at left (Ok (at, left))
  unfolding place Extended table rows_of is_may flat_ors ors_at
  ors-none h n = (passes ts at Ors' h refl (n, tt), record { tree = Grammar.no_ors; span = span_none h; shown = λ l x lo p. p })

  module _ (t₁ : List ℕ) {r : Read} (s : get_or ts at 0 ≡ kind.bar) (a : Conjunction ts t t₁ (at + 1) (left + 1) r) where
    pub ors-fault : {k : ℕ} → r ≡ Err k → OrsRead ts t t₁ at left (Err k)
    ors-fault = joined-fails ts t t₁ at left (or-sign (get_or ts at 0) s) a

    pub ors-more : (t₂ t₃ : List ℕ) {n root : ℕ} (r' : Read) → r ≡ Ok (n, root) → Wrote t₁ t₂ (root + 1) node.either 0 left 0 → OrsRead ts t₂ t₃ n (root + 1) r' → OrsRead ts t t₃ at left r'
    unfolding flat_conjunction
    ors-more t₂ t₃ r' = joined-grows ts t t₁ at left (or-sign (get_or ts at 0) s) a (λ p. wide-conjunction p.0 p.1) cond-interval t₂ t₃ r'

module _ (ts t t₁ : List ℕ) (at used : ℕ) {r : Read} where
  pub condition-fault : {k : ℕ} → r ≡ Err k → Conjunction ts t t₁ at used r → Condition ts t t₁ at used (Err k)
  condition-fault = first-fails (a_test ++ Ands' ∷ []) (Ors' ∷ []) flat_conjunction _ flat_cond _ ts t t₁ at used

  pub condition-made : (t₂ : List ℕ) {n root : ℕ} (r' : Read) → r ≡ Ok (n, root) → Conjunction ts t t₁ at used r → OrsRead ts t₁ t₂ n root r' → Condition ts t t₂ at used r'
  unfolding flat_conjunction flat_cond cond_at
  condition-made t₂ {n} r' = first-grows (a_test ++ Ands' ∷ []) (Ors' ∷ []) flat_conjunction flat_ors flat_cond (λ p. wide-conjunction p.0 p.1) Table.Cond _ (λ x z. ors_at x z n) (λ p. conjunction_at p.0 p.1 at) (λ p. Grammar.cond p.0 p.1) (λ x z us. refl) ts t t₁ t₂ at used (λ x z s lo k q h. rw q at h) r'
