-- The returns of the readers of expressions, over plain variables: what each answers follows from the tokens it looked at, the nodes it wrote and what its
-- callees answered. From the laws of the machine (grammar: Follows) and of spans (tree: Spans).
use mathlib.Core.Path.{◌≡◌, refl, ◌∙◌}
use mathlib.Core.List.{List, [], ◌∷◌, ◌++◌}
use mathlib.Core.Option.{some}
use mathlib.Core.Logic.{inl, inr}
use Prim.Native.Nat.{ℕ, ◌+◌, ◌≤◌, ◌<◌}
use native.Mathlib.Omega.{arith}
use borrow.Author.Tests.{ne_eqb}
use lib.ListN.{length, get_or}
use Rattle.std.specs.Prelude.{Err, Ok}
use Rattle.token.specs.Kind as kind
use Rattle.grammar.specs.Grammar
use Rattle.grammar.specs.Grammar.{flat_whole, flat_atom, flat_term, flat_factors, flat_expr, flat_terms}
use Rattle.grammar.specs.Machine.{Sym, Want, Whole', Atom', Factors', Terms', a_term, an_expr, table, rows_of, is_may, rows, find, onto, step, ending}
use Rattle.grammar.specs.Follows.{next, Follows}
use Rattle.grammar.specs.Syntax
use Rattle.grammar.specs.Syntax.{wide, literal_at, atom_at, term_at, factors_at, expr_at, terms_at}
use Rattle.grammar.proofs.Follows.{here, like, join, fails, takes, passes, sticks, wanted, unwanted}
use Rattle.grammar.proofs.Wide.{wide-expr, wide-term, wide-atom}
use Rattle.tree.specs.Node as node
use Rattle.tree.specs.Node.{op_kind}
use Rattle.tree.specs.Table
use Rattle.tree.specs.Reading.{place, Parsed, Extended, Read}
use Rattle.tree.proofs.Holds.{expr-interval}
use Rattle.tree.proofs.Spans.{span_none, span-token, ◌then◌, span-as, Wrote, span-wrote, span-place, seen-later, seen-leaf, seen_one, seen-two, next-at, fault-at, made_of, parsed-as, fault-size}
use Rattle.syntax.specs.Signs.{sum_signs, product_signs}
use Rattle.syntax.specs.Expression.{closed, enclosed, enclosed_two, HoldsTwo}
use Rattle.syntax.proofs.Signs.{Hit, Apart}
use Rattle.syntax.proofs.Answers.{Answers, Continues, first-fails, first-grows, Joint, joined-fails, joined-grows}

-- ---- what the functions answer

abbrev pub Literal : List ℕ → List ℕ → List ℕ → ℕ → ℕ → Read → Type 0
Literal ts t t' at = Answers (Whole' ∷ []) flat_whole (λ s w. Table.Expr s (literal_at w at)) ts t t' at

abbrev pub Atom : List ℕ → List ℕ → List ℕ → ℕ → ℕ → Read → Type 0
Atom ts t t' at = Answers (Atom' ∷ []) flat_atom (λ s a. Table.Expr s (atom_at a at)) ts t t' at

abbrev pub Bracketed : List ℕ → List ℕ → List ℕ → ℕ → ℕ → Read → Type 0
Bracketed ts t t' at = Answers (an_expr ++ Want kind.close_round ∷ []) closed (λ s e. Table.Expr s (expr_at e at)) ts t t' at

abbrev pub Absolute : List ℕ → List ℕ → List ℕ → ℕ → ℕ → Read → Type 0
Absolute ts t t' at = Answers (Want kind.open_round ∷ an_expr ++ Want kind.close_round ∷ []) enclosed (λ s e. Table.Expr s (Syntax.absolute (expr_at e (at + 1)))) ts t t' at

abbrev pub Larger : ℕ → List ℕ → List ℕ → List ℕ → ℕ → ℕ → Read → Type 0
Larger op ts t t' at = Answers (Want kind.open_round ∷ an_expr ++ Want kind.comma ∷ an_expr ++ Want kind.close_round ∷ []) enclosed_two (HoldsTwo op at) ts t t' at

abbrev pub Term : List ℕ → List ℕ → List ℕ → ℕ → ℕ → Read → Type 0
Term ts t t' at = Answers a_term flat_term (λ s x. Table.Expr s (term_at x at)) ts t t' at

abbrev pub Expr : List ℕ → List ℕ → List ℕ → ℕ → ℕ → Read → Type 0
Expr ts t t' at = Answers an_expr flat_expr (λ s e. Table.Expr s (expr_at e at)) ts t t' at

abbrev pub Factors : List ℕ → List ℕ → List ℕ → ℕ → ℕ → Read → Type 0
Factors ts t t' at = Continues (Factors' ∷ []) flat_factors (λ x z. factors_at x z at) Table.Expr ts t t' at

abbrev pub Terms : List ℕ → List ℕ → List ℕ → ℕ → ℕ → Read → Type 0
Terms ts t t' at = Continues (Terms' ∷ []) flat_terms (λ x z. terms_at x z at) Table.Expr ts t t' at

-- ---- a literal

module _ (ts t : List ℕ) (at used : ℕ) where
  pub literal-whole : {t' : List ℕ} → get_or ts at 0 ≡ kind.whole → Wrote t t' used node.literal at 0 0 → Literal ts t t' at used (Ok (at + 1, used))
  unfolding place Parsed table rows_of find flat_whole Table.Expr literal_at
  literal-whole e w = (
    takes ts at Whole' kind.whole e (omega arith) refl (λ l. here ts (at + 1) l),
    record { tree = Grammar.whole; span = span-wrote w (span-token kind.whole e (omega arith)) (omega arith); shown = seen-leaf w },
  )

  pub literal-stray : at ≤ length ts → (get_or ts at 0 ≡ kind.whole → ⊥) → (get_or ts at 0 ≡ kind.minus → ⊥) → Literal ts t t at used (Err at)
  unfolding place Parsed table rows_of is_may
  literal-stray h n m = (sticks ts at Whole' h refl (n, (m, tt)), refl)

  pub literal-short : get_or ts at 0 ≡ kind.minus → (get_or ts (at + 1) 0 ≡ kind.whole → ⊥) → Literal ts t t at used (Err (at + 1))
  unfolding place Parsed table rows_of find
  literal-short e n = (takes ts at Whole' kind.minus e (omega arith) refl (λ l. unwanted ts (at + 1) kind.whole l n), refl)

  pub literal-negative : {t' : List ℕ} → get_or ts at 0 ≡ kind.minus → get_or ts (at + 1) 0 ≡ kind.whole → Wrote t t' used node.negative (at + 1) 0 0 → Literal ts t t' at used (Ok (at + 1 + 1, used))
  unfolding place Parsed table rows_of find flat_whole Table.Expr literal_at
  literal-negative e d w = (
    takes ts at Whole' kind.minus e (omega arith) refl (λ l. wanted ts (at + 1) kind.whole d (omega arith)),
    record { tree = Grammar.negative; span = span-wrote w (span-token kind.minus e (omega arith) then span-token kind.whole d (omega arith)) (omega arith); shown = seen-leaf w },
  )

-- ---- brackets

module _ (ts t t' : List ℕ) (at used : ℕ) {r : Read} (a : Expr ts t t' at used r) where
  pub bracketed-fault : {k : ℕ} → r ≡ Err k → Bracketed ts t t' at used (Err k)
  bracketed-fault e = first-fails an_expr (Want kind.close_round ∷ []) flat_expr _ closed _ ts t t' at used e a

  module _ {n root : ℕ} (e : r ≡ Ok (n, root)) where
    pub bracketed-open : (get_or ts n 0 ≡ kind.close_round → ⊥) → Bracketed ts t t' at used (Err n)
    unfolding place Parsed
    bracketed-open s =
        let m = made_of e a.1 in
        (join ts at n an_expr (Want kind.close_round ∷ []) (next-at e a.0) (unwanted ts n kind.close_round m.span.within s), m.span.size)

    pub bracketed-closed : get_or ts n 0 ≡ kind.close_round → Bracketed ts t t' at used (Ok (n + 1, root))
    unfolding place Parsed closed
    bracketed-closed s =
        let m = made_of e a.1 in (
          join ts at n an_expr (Want kind.close_round ∷ []) (next-at e a.0) (wanted ts n kind.close_round s (omega arith)),
          record { tree = m.tree; span = m.span then span-token kind.close_round s (omega arith); shown = m.shown },
        )

-- ---- what `abs`, `max` and `min` have in brackets

module _ (ts t : List ℕ) (at used : ℕ) where
  pub absolute-stray : at ≤ length ts → (get_or ts at 0 ≡ kind.open_round → ⊥) → Absolute ts t t at used (Err at)
  unfolding place Parsed
  absolute-stray h n = (fails ts at at (Want kind.open_round ∷ []) (an_expr ++ Want kind.close_round ∷ []) (unwanted ts at kind.open_round h n), refl)

  module _ (t' : List ℕ) (o : get_or ts at 0 ≡ kind.open_round) {r : Read} (a : Bracketed ts t t' (at + 1) used r) where
    pub absolute-fault : {k : ℕ} → r ≡ Err k → Absolute ts t t' at used (Err k)
    unfolding place Parsed
    absolute-fault e = (
      join ts at (at + 1) (Want kind.open_round ∷ []) (an_expr ++ Want kind.close_round ∷ []) (wanted ts at kind.open_round o (omega arith)) (fault-at e a.0),
      fault-size _ _ _ _ _ _ _ e a.1,
    )

    pub absolute-made : {n root : ℕ} {t'' : List ℕ} → r ≡ Ok (n, root) → Wrote t' t'' (root + 1) node.absolute 0 0 0 → Absolute ts t t'' at used (Ok (n, root + 1))
    unfolding place Parsed enclosed Table.Expr
    absolute-made e w =
        let m = made_of e a.1 in (
          join ts at (at + 1) (Want kind.open_round ∷ []) (an_expr ++ Want kind.close_round ∷ []) (wanted ts at kind.open_round o (omega arith)) (next-at e a.0),
          record { tree = m.tree; span = span-wrote w (span-token kind.open_round o (omega arith) then m.span) (omega (arith, m.span.fewer)); shown = seen_one (expr-interval (expr_at m.tree (at + 1))) w m.shown },
        )

module _ (op : ℕ) (ts t : List ℕ) (at used : ℕ) where
  pub larger-stray : at ≤ length ts → (get_or ts at 0 ≡ kind.open_round → ⊥) → Larger op ts t t at used (Err at)
  unfolding place Parsed
  larger-stray h n = (fails ts at at (Want kind.open_round ∷ []) (an_expr ++ Want kind.comma ∷ an_expr ++ Want kind.close_round ∷ []) (unwanted ts at kind.open_round h n), refl)

  module _ (t₁ : List ℕ) (o : get_or ts at 0 ≡ kind.open_round) {r : Read} (a : Expr ts t t₁ (at + 1) used r) where
    pub larger-fault : {k : ℕ} → r ≡ Err k → Larger op ts t t₁ at used (Err k)
    unfolding place Parsed
    larger-fault {k} e = (
      join ts at (at + 1) (Want kind.open_round ∷ []) (an_expr ++ Want kind.comma ∷ an_expr ++ Want kind.close_round ∷ []) (wanted ts at kind.open_round o (omega arith)) (fails ts (at + 1) k an_expr (Want kind.comma ∷ an_expr ++ Want kind.close_round ∷ []) (fault-at e a.0)),
      fault-size _ _ _ _ _ _ _ e a.1,
    )

    module _ {n left : ℕ} (e : r ≡ Ok (n, left)) where
      -- the bracket and the first part
      begun : Follows ts at (Want kind.open_round ∷ an_expr) (next n)
      begun = join ts at (at + 1) (Want kind.open_round ∷ []) an_expr (wanted ts at kind.open_round o (omega arith)) (next-at e a.0)

      pub larger-comma : (get_or ts n 0 ≡ kind.comma → ⊥) → Larger op ts t t₁ at used (Err n)
      unfolding place Parsed
      larger-comma s =
          let m = made_of e a.1 in (
            join ts at n (Want kind.open_round ∷ an_expr) (Want kind.comma ∷ an_expr ++ Want kind.close_round ∷ []) begun (fails ts n n (Want kind.comma ∷ []) (an_expr ++ Want kind.close_round ∷ []) (unwanted ts n kind.comma m.span.within s)),
            m.span.size,
          )

      module _ (t₂ : List ℕ) (s : get_or ts n 0 ≡ kind.comma) {r' : Read} (b : Bracketed ts t₁ t₂ (n + 1) (left + 1) r') where
        pub larger-second : {k : ℕ} → r' ≡ Err k → Larger op ts t t₂ at used (Err k)
        unfolding place Parsed
        larger-second d =
            let m = made_of e a.1 in (
              join ts at n (Want kind.open_round ∷ an_expr) (Want kind.comma ∷ an_expr ++ Want kind.close_round ∷ []) begun (join ts n (n + 1) (Want kind.comma ∷ []) (an_expr ++ Want kind.close_round ∷ []) (wanted ts n kind.comma s (omega arith)) (fault-at d b.0)),
              fault-size _ _ _ _ _ _ _ d b.1 ∙ m.span.size,
            )

        pub larger-made : {i root : ℕ} {t₃ : List ℕ} → r' ≡ Ok (i, root) → Wrote t₂ t₃ (root + 1) op 0 left 0 → Larger op ts t t₃ at used (Ok (i, root + 1))
        unfolding place Parsed enclosed_two HoldsTwo
        larger-made {i} {root} {t₃} d w =
            let m = made_of e a.1 in
            let q = made_of d b.1 in
            let later = span-token {t = t₁} {used = left + 1} kind.comma s (omega arith) then q.span in (
              join ts at n (Want kind.open_round ∷ an_expr) (Want kind.comma ∷ an_expr ++ Want kind.close_round ∷ []) begun (join ts n (n + 1) (Want kind.comma ∷ []) (an_expr ++ Want kind.close_round ∷ []) (wanted ts n kind.comma s (omega arith)) (next-at d b.0)),
              record {
                tree = (m.tree, q.tree);
                span = span-wrote w (span-token kind.open_round o (omega arith) then m.span then later) (omega (arith, m.span.fewer, q.span.fewer));
                shown = rw (← span-place (wide-expr m.tree) m.span) (seen-two (expr-interval _) (expr-interval _) w (seen-later (expr-interval _) later (omega arith) m.shown) q.shown);
              },
            )

-- ---- an atom

-- no other atom is left but a literal
other_step : (k : ℕ) → (k ≡ kind.name → ⊥) → (k ≡ kind.open_round → ⊥) → (k ≡ kind.absolute → ⊥) → (k ≡ kind.maximum → ⊥) → (k ≡ kind.minimum → ⊥) → (s : List Sym) → step k (Atom' ∷ s) ≡ step k (Whole' ∷ s)
unfolding step onto find table rows_of is_may
other_step k a b c d e s = simp (ne_eqb k kind.name a, ne_eqb k kind.open_round b, ne_eqb k kind.absolute c, ne_eqb k kind.maximum d, ne_eqb k kind.minimum e)

module _ (ts t t' : List ℕ) (at used : ℕ) where
  pub atom-name : get_or ts at 0 ≡ kind.name → Wrote t t' used node.named at 0 0 → Atom ts t t' at used (Ok (at + 1, used))
  unfolding place Parsed table rows_of find flat_atom Table.Expr atom_at
  atom-name e w = (
    takes ts at Atom' kind.name e (omega arith) refl (λ l. here ts (at + 1) l),
    record { tree = Grammar.name; span = span-wrote w (span-token kind.name e (omega arith)) (omega arith); shown = seen-leaf w },
  )

  module _ (r : Read) where
    pub atom-bracketed : get_or ts at 0 ≡ kind.open_round → Bracketed ts t t' (at + 1) used r → Atom ts t t' at used r
    unfolding table rows_of find flat_atom closed atom_at
    atom-bracketed e a = (
      takes ts at Atom' kind.open_round e (omega arith) refl (λ l. a.0),
      parsed-as r (λ n root m. record { tree = Grammar.bracketed m.tree; span = span-token kind.open_round e (omega arith) then m.span; shown = m.shown }) (λ z. z) a.1,
    )

    pub atom-absolute : get_or ts at 0 ≡ kind.absolute → Absolute ts t t' (at + 1) used r → Atom ts t t' at used r
    unfolding table rows_of find flat_atom enclosed closed atom_at
    atom-absolute e a =
        let two : at + 1 + 1 ≡ at + 2 = omega arith in (
          takes ts at Atom' kind.absolute e (omega arith) refl (λ l. a.0),
          parsed-as r (λ n root m. record { tree = Grammar.absolute m.tree; span = span-token kind.absolute e (omega arith) then m.span; shown = rw two at m.shown }) (λ z. z) a.1,
        )

    -- max or min
    atom-two : (word : ℕ) (op : Syntax.Op) (both : Grammar.Expr → Grammar.Expr → Grammar.Atom) → 0 < word → find word (rows Atom') ≡ some (Want kind.open_round ∷ an_expr ++ Want kind.comma ∷ an_expr ++ Want kind.close_round ∷ []) → ((x y : Grammar.Expr) (us : List ℕ) → flat_atom (both x y) us ≡ word ∷ enclosed_two (x, y) us) → ((x y : Grammar.Expr) → atom_at (both x y) at ≡ Syntax.binary op (expr_at x (at + 2)) (expr_at y (at + 2 + wide (flat_expr x) + 1))) → get_or ts at 0 ≡ word → Larger (op_kind op) ts t t' (at + 1) used r → Atom ts t t' at used r
    unfolding HoldsTwo Table.Expr
    atom-two word op both h row text tree e a =
        let two : at + 1 + 1 ≡ at + 2 = omega arith in (
          takes ts at Atom' word e h row (λ l. a.0),
          parsed-as r (λ n root m. record { tree = both m.tree.0 m.tree.1; span = span-as (text m.tree.0 m.tree.1) (span-token word e h then m.span); shown = rw (tree m.tree.0 m.tree.1) (rw two at m.shown) }) (λ z. z) a.1,
        )

    pub atom-maximum : get_or ts at 0 ≡ kind.maximum → Larger (op_kind Syntax.maximum) ts t t' (at + 1) used r → Atom ts t t' at used r
    unfolding table rows_of find flat_atom enclosed_two closed atom_at
    atom-maximum = atom-two kind.maximum Syntax.maximum Grammar.maximum (omega arith) refl (λ x y us. refl) (λ x y. refl)

    pub atom-minimum : get_or ts at 0 ≡ kind.minimum → Larger (op_kind Syntax.minimum) ts t t' (at + 1) used r → Atom ts t t' at used r
    unfolding table rows_of find flat_atom enclosed_two closed atom_at
    atom-minimum = atom-two kind.minimum Syntax.minimum Grammar.minimum (omega arith) refl (λ x y us. refl) (λ x y. refl)

    pub atom-literal : (get_or ts at 0 ≡ kind.name → ⊥) → (get_or ts at 0 ≡ kind.open_round → ⊥) → (get_or ts at 0 ≡ kind.absolute → ⊥) → (get_or ts at 0 ≡ kind.maximum → ⊥) → (get_or ts at 0 ≡ kind.minimum → ⊥) → Literal ts t t' at used r → Atom ts t t' at used r
    unfolding ending table is_may flat_atom atom_at
    atom-literal a b c d e l = (
      like ts at (Atom' ∷ []) (Whole' ∷ []) (other_step (get_or ts at 0) a b c d e) (λ s. refl) l.0,
      parsed-as r (λ n root m. record { tree = Grammar.number m.tree; span = m.span; shown = m.shown }) (λ z. z) l.1,
    )

-- ---- terms and expressions

module _ (ts t t₁ : List ℕ) (at used : ℕ) {r : Read} where
  pub term-fault : {k : ℕ} → r ≡ Err k → Atom ts t t₁ at used r → Term ts t t₁ at used (Err k)
  term-fault = first-fails (Atom' ∷ []) (Factors' ∷ []) flat_atom _ flat_term _ ts t t₁ at used

  pub expr-fault : {k : ℕ} → r ≡ Err k → Term ts t t₁ at used r → Expr ts t t₁ at used (Err k)
  expr-fault = first-fails a_term (Terms' ∷ []) flat_term _ flat_expr _ ts t t₁ at used

  module _ (t₂ : List ℕ) {n root : ℕ} (r' : Read) where
    pub term_made : r ≡ Ok (n, root) → Atom ts t t₁ at used r → Factors ts t₁ t₂ n root r' → Term ts t t₂ at used r'
    unfolding flat_term term_at
    term_made = first-grows (Atom' ∷ []) (Factors' ∷ []) flat_atom flat_factors flat_term wide-atom Table.Expr _ (λ x z. factors_at x z n) (λ x. atom_at x at) Grammar.product (λ x z us. refl) ts t t₁ t₂ at used (λ x z s lo k q h. rw q at h) r'

    pub expr-made : r ≡ Ok (n, root) → Term ts t t₁ at used r → Terms ts t₁ t₂ n root r' → Expr ts t t₂ at used r'
    unfolding flat_expr expr_at
    expr-made = first-grows a_term (Terms' ∷ []) flat_term flat_terms flat_expr wide-term Table.Expr _ (λ x z. terms_at x z n) (λ x. term_at x at) Grammar.sum (λ x z us. refl) ts t t₁ t₂ at used (λ x z s lo k q h. rw q at h) r'

-- ---- the signs

abbrev pub FactorSign : ℕ → ℕ → Type 0
FactorSign = Joint (Atom' ∷ []) Factors' flat_atom flat_factors atom_at factors_at Table.Expr

times-sign : FactorSign kind.times (op_kind Syntax.times)
unfolding table rows_of find flat_factors factors_at Table.Expr
times-sign = record { more = Grammar.times; binary = Syntax.binary Syntax.times; present = omega arith; row = refl; text = λ a w us. refl; grows = λ z a w k. refl; shows = λ z v s lo k h. h }

divide-sign : FactorSign kind.divide (op_kind Syntax.divide)
unfolding table rows_of find flat_factors factors_at Table.Expr
divide-sign = record { more = Grammar.divide; binary = Syntax.binary Syntax.divide; present = omega arith; row = refl; text = λ a w us. refl; grows = λ z a w k. refl; shows = λ z v s lo k h. h }

pub factor-sign : (k op : ℕ) → Hit k op product_signs → FactorSign k op
factor-sign k op (inl s) = rw (s.0, s.1) times-sign
factor-sign k op (inr (inl s)) = rw (s.0, s.1) divide-sign
factor-sign k op (inr (inr z)) = absurd z

abbrev pub TermSign : ℕ → ℕ → Type 0
TermSign = Joint a_term Terms' flat_term flat_terms term_at terms_at Table.Expr

plus-sign : TermSign kind.plus (op_kind Syntax.plus)
unfolding table rows_of find flat_terms terms_at Table.Expr
plus-sign = record { more = Grammar.plus; binary = Syntax.binary Syntax.plus; present = omega arith; row = refl; text = λ a w us. refl; grows = λ z a w k. refl; shows = λ z v s lo k h. h }

minus-sign : TermSign kind.minus (op_kind Syntax.minus)
unfolding table rows_of find flat_terms terms_at Table.Expr
minus-sign = record { more = Grammar.minus; binary = Syntax.binary Syntax.minus; present = omega arith; row = refl; text = λ a w us. refl; grows = λ z a w k. refl; shows = λ z v s lo k h. h }

pub term-sign : (k op : ℕ) → Hit k op sum_signs → TermSign k op
term-sign k op (inl s) = rw (s.0, s.1) plus-sign
term-sign k op (inr (inl s)) = rw (s.0, s.1) minus-sign
term-sign k op (inr (inr z)) = absurd z

module _ (ts t : List ℕ) (at left : ℕ) where
  pub factors-none : at ≤ length ts → Apart (get_or ts at 0) product_signs → Factors ts t t at left (Ok (at, left))
  unfolding place Extended table rows_of is_may flat_factors factors_at
  factors-none h n = (passes ts at Factors' h refl n, record { tree = Grammar.no_factors; span = span_none h; shown = λ l x lo p. p })

  pub terms-none : at ≤ length ts → Apart (get_or ts at 0) sum_signs → Terms ts t t at left (Ok (at, left))
  unfolding place Extended table rows_of is_may flat_terms terms_at
  terms-none h n = (passes ts at Terms' h refl n, record { tree = Grammar.no_terms; span = span_none h; shown = λ l x lo p. p })

  module _ (t₁ : List ℕ) {r : Read} (op : ℕ) where
    pub factors-fault : {k : ℕ} → Hit (get_or ts at 0) op product_signs → Atom ts t t₁ (at + 1) (left + 1) r → r ≡ Err k → Factors ts t t₁ at left (Err k)
    factors-fault s a e = joined-fails ts t t₁ at left (factor-sign (get_or ts at 0) op s) a e

    pub terms-fault : {k : ℕ} → Hit (get_or ts at 0) op sum_signs → Term ts t t₁ (at + 1) (left + 1) r → r ≡ Err k → Terms ts t t₁ at left (Err k)
    terms-fault s a e = joined-fails ts t t₁ at left (term-sign (get_or ts at 0) op s) a e

    module _ (t₂ t₃ : List ℕ) {n root : ℕ} (r' : Read) where
      pub factors-more : Hit (get_or ts at 0) op product_signs → Atom ts t t₁ (at + 1) (left + 1) r → r ≡ Ok (n, root) → Wrote t₁ t₂ (root + 1) op 0 left 0 → Factors ts t₂ t₃ n (root + 1) r' → Factors ts t t₃ at left r'
      factors-more s a = joined-grows ts t t₁ at left (factor-sign (get_or ts at 0) op s) a wide-atom expr-interval t₂ t₃ r'

      pub terms-more : Hit (get_or ts at 0) op sum_signs → Term ts t t₁ (at + 1) (left + 1) r → r ≡ Ok (n, root) → Wrote t₁ t₂ (root + 1) op 0 left 0 → Terms ts t₂ t₃ n (root + 1) r' → Terms ts t t₃ at left r'
      terms-more s a = joined-grows ts t t₁ at left (term-sign (get_or ts at 0) op s) a wide-term expr-interval t₂ t₃ r'
