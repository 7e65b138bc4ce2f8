-- Each node of a text's table has tokens as its kind says: names, whole numbers, or names parted by commas. By induction on the derivation, from the widths of
-- its parts.
use mathlib.Core.Path.{◌≡◌, refl, sym}
use mathlib.Core.List.{List, [], ◌∷◌}
use mathlib.Core.Bool.{Bool, true, false}
use Prim.Native.Nat.{ℕ, zero, suc, ◌+◌, ◌-◌, ◌≤◌, ◌<◌}
use native.Mathlib.Numerals.{add-one}
use native.Mathlib.Omega.{arith}
use borrow.Author.Tests.{leb-true, leb-false}
use lib.Dec.{leb}
use lib.ListN.{get_or, drop}
use Rattle.token.specs.Kind as kind
use Rattle.grammar.specs.Grammar as derived
use Rattle.grammar.specs.Grammar.{Relation, less, at_most, greater, at_least, same, differs, Reads, flat_whole, flat_number, flat_expr, flat_terms, flat_term, flat_factors, flat_atom, flat_exprs, flat_args, flat_part, flat_parts, flat_set, flat_test, flat_ands, flat_ors, flat_cond, flat_scale, flat_rate, flat_values, flat_sets, flat_names, flat_channel, flat_action, flat_gate, flat_prefix, flat_next, flat_cont, flat_item, flat_items, flat_choices, flat_sums, flat_body, flat_params, flat_wholes, flat_starts, flat_start, flat_system, flat_definitions, flat_model}
use Rattle.grammar.specs.Syntax
use Rattle.grammar.specs.Syntax.{Op, plus, minus, times, divide, maximum, minimum, Join, without, union, inter, wide, literal_at, number_at, expr_at, terms_at, term_at, factors_at, atom_at, exprs_at, args_at, part_at, parts_at, set_at, test_at, ands_at, conjunction_at, ors_at, cond_at, scale_at, rate_at, values_at, sets_at, count_names, names_at, channel_at, action_at, gate_at, sums_prefix, sums_item, sums_choices, sums_body, branch_at, next_at, cont_at, item_at, conts_at, branches_at, sum_at, sums_at, body_at, params_at, wholes_at, starts_at, start_at, system_at, definitions_at, model_at, syntax_of}
use Rattle.grammar.proofs.Wide.{wide-whole, wide-number, wide-expr, wide-term, wide-atom, wide-part, wide-set, wide_test, wide-conjunction, wide-scale, wide-rate, wide-sets, wide-channel, wide-action, wide-gate, wide-prefix, wide-item, wide-sum, wide-body, wide-params, wide-start}
use Rattle.tree.specs.Node as node
use Rattle.tree.specs.Node.{op_kind, join_kind, relation_kind, test_kind, number_kind}
use Rattle.tree.specs.Table
use Rattle.tree.specs.Table.{Node, Leaf, One, Two, Three}
use Rattle.tree.proofs.Cells.{node-kind, node-token, node-third}
use Rattle.model.specs.Lists.{every_other}
use Rattle.model.proofs.Origins.{past, next-token}
use Rattle.names.specs.Placed.{Named, plain, binds, sort_of, SortFits, Fits}

-- ---- reading on in the tokens
pub head_at : {a : ℕ} {us : List ℕ} (ts : List ℕ) (k : ℕ) → drop k ts ≡ a ∷ us → get_or ts k 0 ≡ a
head_at [] zero e = absurd (let z : ◌≡◌ {A = ℕ} 0 1 = cc in omega arith)
head_at [] (suc k) e = absurd (let z : ◌≡◌ {A = ℕ} 0 1 = cc in omega arith)
head_at (x ∷ ts) zero e = cc
head_at (x ∷ ts) (suc k) e = head_at ts k e

module _ (ts : List ℕ) where
  next-two : {a b : ℕ} {us : List ℕ} (k : ℕ) → drop k ts ≡ a ∷ b ∷ us → drop (k + 2) ts ≡ us
  next-two k d = let e : k + 1 + 1 ≡ k + 2 = omega arith in rw e at (next-token ts (k + 1) (next-token ts k d))

  -- names parted by commas
  names-named : (n : derived.Names) (k : ℕ) (us : List ℕ) → drop k ts ≡ flat_names n us → Named ts (every_other k (count_names n))
  unfolding flat_names count_names every_other
  names-named derived.last_name k us d = (head_at ts k d, tt)
  names-named (derived.next_name r) k us d = rw (add-one (count_names r)) (head_at ts k d, names-named r (k + 2) us (next-two k d))

  some-names : (n : derived.Names) → 0 < count_names n
  unfolding count_names
  some-names derived.last_name = omega arith
  some-names (derived.next_name r) = omega arith

-- ---- the forms of a tree
module _ (ts t : List ℕ) where
  -- the nodes of the trees that P says stand from lo to k have such tokens
  pub record Fit (P : ℕ → ℕ → Type 0) : Type 0 where
    pub fits : (lo k : ℕ) → P lo k → (i : ℕ) → lo ≤ i → i ≤ k → Fits ts (get_or t i 0)

  root-fits : {k κ token left third : ℕ} → Node t k κ token left third → κ < 256 → SortFits (sort_of κ) ts token third → Fits ts (get_or t k 0)
  root-fits n l s = rw (node-kind n l, node-token n l, node-third n l) s

  fit-leaf : (κ token : ℕ) → κ < 256 → SortFits (sort_of κ) ts token 0 → Fit (Leaf t κ token)
  fit-leaf κ token l s = record { fits = λ lo k h i a b. let e : i ≡ k = omega (arith, h.low) in rw e (root-fits h.node l s) }

  -- a node with parts before it
  last_or : (i r : ℕ) {A : Type 0} → (i ≤ r → A) → (r < i → A) → A
  last_or i r {A} f g = by (leb i r) refl
    where
      by : (b : Bool) → leb i r ≡ b → A
      by true e = f (leb-true i r e)
      by false e = g (leb-false i r e)

  fit-one : (κ token third : ℕ) {P : ℕ → ℕ → Type 0} → κ < 256 → SortFits (sort_of κ) ts token third → Fit P → Fit (One t κ token third P)
  fit-one κ token third l s p =
      record {
        fits = λ lo k h i a b.
            last_or i h.root (λ q. p.fits lo h.root h.holds i a q)
            (λ q. let e : i ≡ k = omega (arith, h.above) in rw e (root-fits h.node l s));
      }

  fit-two : (κ token third : ℕ) {P Q : ℕ → ℕ → Type 0} → κ < 256 → SortFits (sort_of κ) ts token third → Fit P → Fit Q → Fit (Two t κ token third P Q)
  fit-two κ token third l s p q =
      record {
        fits = λ lo k h i a b.
            last_or i h.left (λ x. p.fits lo h.left h.holds-first i a x)
            (λ x. last_or i h.right (λ y. q.fits (h.left + 1) h.right h.holds-second i (omega arith) y)
            (λ y. let e : i ≡ k = omega (arith, h.above) in rw e (root-fits h.node l s)));
      }

  fit-three : (κ token : ℕ) {P Q R : ℕ → ℕ → Type 0} → κ < 256 → sort_of κ ≡ plain → Fit P → Fit Q → Fit R → Fit (Three t κ token P Q R)
  unfolding SortFits
  fit-three κ token l s p q r =
      record {
        fits = λ lo k h i a b.
            last_or i h.left (λ x. p.fits lo h.left h.holds-first i a x)
            (λ x. last_or i h.middle (λ y. q.fits (h.left + 1) h.middle h.holds-second i (omega arith) y)
            (λ y. last_or i h.right (λ z. r.fits (h.middle + 1) h.right h.holds-third i (omega arith) z)
            (λ z. let e : i ≡ k = omega (arith, h.above) in rw e (root-fits h.node l (rw s tt)))));
      }

  -- nodes that say nothing of tokens
  fit-plain : (κ token third : ℕ) {P Q : ℕ → ℕ → Type 0} → κ < 256 → sort_of κ ≡ plain → Fit P → Fit Q → Fit (Two t κ token third P Q)
  unfolding SortFits
  fit-plain κ token third l s p q = fit-two κ token third l (rw s tt) p q

  fit-over : (κ token third : ℕ) {P : ℕ → ℕ → Type 0} → κ < 256 → sort_of κ ≡ plain → Fit P → Fit (One t κ token third P)
  unfolding SortFits
  fit-over κ token third l s p = fit-one κ token third l (rw s tt) p

  op-plain : (o : Op) → (op_kind o < 256) × (sort_of (op_kind o) ≡ plain)
  unfolding op_kind sort_of number_kind
  op-plain plus = (omega arith, refl)
  op-plain minus = (omega arith, refl)
  op-plain times = (omega arith, refl)
  op-plain divide = (omega arith, refl)
  op-plain maximum = (omega arith, refl)
  op-plain minimum = (omega arith, refl)

  join-plain : (j : Join) → (join_kind j < 256) × (sort_of (join_kind j) ≡ plain)
  unfolding join_kind sort_of number_kind
  join-plain without = (omega arith, refl)
  join-plain union = (omega arith, refl)
  join-plain inter = (omega arith, refl)

  test_plain : (b : Bool) (r : Relation) → (test_kind b r < 256) × (sort_of (test_kind b r) ≡ plain)
  unfolding test_kind relation_kind sort_of number_kind
  test_plain false less = (omega arith, refl)
  test_plain false at_most = (omega arith, refl)
  test_plain false greater = (omega arith, refl)
  test_plain false at_least = (omega arith, refl)
  test_plain false same = (omega arith, refl)
  test_plain false differs = (omega arith, refl)
  test_plain true less = (omega arith, refl)
  test_plain true at_most = (omega arith, refl)
  test_plain true greater = (omega arith, refl)
  test_plain true at_least = (omega arith, refl)
  test_plain true same = (omega arith, refl)
  test_plain true differs = (omega arith, refl)

  -- ---- expressions
  literal-fit : (v : derived.Whole) (k : ℕ) (us : List ℕ) → drop k ts ≡ flat_whole v us → Fit (Table.Expr t (literal_at v k))
  unfolding flat_whole literal_at Table.Expr sort_of SortFits number_kind
  literal-fit derived.whole k us d = fit-leaf node.literal k (omega arith) (head_at ts k d)
  literal-fit derived.negative k us d = fit-leaf node.negative (k + 1) (omega arith) (head_at ts (k + 1) (next-token ts k d))

  binary_fit : (o : Op) (x y : Syntax.Expr) → Fit (Table.Expr t x) → Fit (Table.Expr t y) → Fit (Table.Expr t (Syntax.binary o x y))
  unfolding Table.Expr
  binary_fit o x y p q = fit-plain (op_kind o) 0 0 (op-plain o).0 (op-plain o).1 p q

  mutual
    unfolding flat_expr flat_terms flat_term flat_factors flat_atom expr_at terms_at term_at factors_at atom_at Table.Expr sort_of SortFits number_kind

    expr-fit : (e : derived.Expr) (k : ℕ) (us : List ℕ) → drop k ts ≡ flat_expr e us → Fit (Table.Expr t (expr_at e k))
    expr-fit (derived.sum x r) k us d = terms-fit r (term_at x k) (k + wide (flat_term x)) us (term-fit x k (flat_terms r us) d) (past ts k _ (wide-term x) d)

    terms-fit : (r : derived.Terms) (x : Syntax.Expr) (k : ℕ) (us : List ℕ) → Fit (Table.Expr t x) → drop k ts ≡ flat_terms r us → Fit (Table.Expr t (terms_at x r k))
    terms-fit derived.no_terms x k us p d = p
    terms-fit (derived.plus y r) x k us p d =
        let d₁ = next-token ts k d in
        terms-fit r _ _ us (binary_fit plus x (term_at y (k + 1)) p (term-fit y (k + 1) (flat_terms r us) d₁)) (past ts (k + 1) _ (wide-term y) d₁)
    terms-fit (derived.minus y r) x k us p d =
        let d₁ = next-token ts k d in
        terms-fit r _ _ us (binary_fit minus x (term_at y (k + 1)) p (term-fit y (k + 1) (flat_terms r us) d₁)) (past ts (k + 1) _ (wide-term y) d₁)

    term-fit : (y : derived.Term) (k : ℕ) (us : List ℕ) → drop k ts ≡ flat_term y us → Fit (Table.Expr t (term_at y k))
    term-fit (derived.product a r) k us d = factors-fit r (atom_at a k) (k + wide (flat_atom a)) us (atom-fit a k (flat_factors r us) d) (past ts k _ (wide-atom a) d)

    factors-fit : (r : derived.Factors) (x : Syntax.Expr) (k : ℕ) (us : List ℕ) → Fit (Table.Expr t x) → drop k ts ≡ flat_factors r us → Fit (Table.Expr t (factors_at x r k))
    factors-fit derived.no_factors x k us p d = p
    factors-fit (derived.times a r) x k us p d =
        let d₁ = next-token ts k d in
        factors-fit r _ _ us (binary_fit times x (atom_at a (k + 1)) p (atom-fit a (k + 1) (flat_factors r us) d₁)) (past ts (k + 1) _ (wide-atom a) d₁)
    factors-fit (derived.divide a r) x k us p d =
        let d₁ = next-token ts k d in
        factors-fit r _ _ us (binary_fit divide x (atom_at a (k + 1)) p (atom-fit a (k + 1) (flat_factors r us) d₁)) (past ts (k + 1) _ (wide-atom a) d₁)

    atom-fit : (a : derived.Atom) (k : ℕ) (us : List ℕ) → drop k ts ≡ flat_atom a us → Fit (Table.Expr t (atom_at a k))
    atom-fit (derived.number v) k us d = literal-fit v k us d
    atom-fit derived.name k us d = fit-leaf node.named k (omega arith) (head_at ts k d)
    atom-fit (derived.absolute e) k us d = fit-over node.absolute 0 0 (omega arith) refl (expr-fit e (k + 2) (kind.close_round ∷ us) (next-two ts k d))
    atom-fit (derived.maximum e f) k us d =
        let d₁ = next-two ts k d in
        binary_fit maximum (expr_at e (k + 2)) (expr_at f (k + 2 + wide (flat_expr e) + 1)) (expr-fit e (k + 2) (kind.comma ∷ flat_expr f (kind.close_round ∷ us)) d₁)
        (expr-fit f (k + 2 + wide (flat_expr e) + 1) (kind.close_round ∷ us) (next-token ts (k + 2 + wide (flat_expr e)) (past ts (k + 2) _ (wide-expr e) d₁)))
    atom-fit (derived.minimum e f) k us d =
        let d₁ = next-two ts k d in
        binary_fit minimum (expr_at e (k + 2)) (expr_at f (k + 2 + wide (flat_expr e) + 1)) (expr-fit e (k + 2) (kind.comma ∷ flat_expr f (kind.close_round ∷ us)) d₁)
        (expr-fit f (k + 2 + wide (flat_expr e) + 1) (kind.close_round ∷ us) (next-token ts (k + 2 + wide (flat_expr e)) (past ts (k + 2) _ (wide-expr e) d₁)))
    atom-fit (derived.bracketed e) k us d = expr-fit e (k + 1) (kind.close_round ∷ us) (next-token ts k d)

  -- a second expression, after the first and one token more
  second-fit : (a : ℕ) (e f : derived.Expr) (k : ℕ) (us : List ℕ) → drop k ts ≡ flat_expr e (a ∷ flat_expr f us) → Fit (Table.Expr t (expr_at f (k + wide (flat_expr e) + 1)))
  second-fit a e f k us d = expr-fit f (k + wide (flat_expr e) + 1) us (next-token ts (k + wide (flat_expr e)) (past ts k _ (wide-expr e) d))

  exprs-fit : (r : derived.Exprs) (k : ℕ) (us : List ℕ) → drop k ts ≡ flat_exprs r us → Fit (Table.Exprs t (exprs_at r k))
  unfolding flat_exprs exprs_at Table.Exprs sort_of number_kind
  exprs-fit (derived.last_expr e) k us d = expr-fit e k us d
  exprs-fit (derived.next_expr e r) k us d =
      fit-plain node.argument 0 0 (omega arith) refl (expr-fit e k _ d) (exprs-fit r (k + wide (flat_expr e) + 1) us (next-token ts (k + wide (flat_expr e)) (past ts k _ (wide-expr e) d)))

  -- ---- sets and conditions
  part-fit : (p : derived.Part) (k : ℕ) (us : List ℕ) → drop k ts ≡ flat_part p us → Fit (Table.Set t (part_at p k))
  unfolding flat_part part_at Table.Set sort_of number_kind
  part-fit (derived.single e) k us d = expr-fit e k us d
  part-fit (derived.range e f) k us d = fit-plain node.range 0 0 (omega arith) refl (expr-fit e k _ d) (second-fit _ e f k us d)

  joined-fit : (j : Join) (s r : Syntax.Set) → Fit (Table.Set t s) → Fit (Table.Set t r) → Fit (Table.Set t (Syntax.joined j s r))
  unfolding Table.Set
  joined-fit j s r p q = fit-plain (join_kind j) 0 0 (join-plain j).0 (join-plain j).1 p q

  parts-fit : (r : derived.Parts) (s : Syntax.Set) (k : ℕ) (us : List ℕ) → Fit (Table.Set t s) → drop k ts ≡ flat_parts r us → Fit (Table.Set t (parts_at s r k))
  unfolding flat_parts parts_at
  parts-fit derived.no_parts s k us p d = p
  parts-fit (derived.without y r) s k us p d =
      let d₁ = next-token ts k d in
      parts-fit r _ _ us (joined-fit without s (part_at y (k + 1)) p (part-fit y (k + 1) (flat_parts r us) d₁)) (past ts (k + 1) _ (wide-part y) d₁)
  parts-fit (derived.union y r) s k us p d =
      let d₁ = next-token ts k d in
      parts-fit r _ _ us (joined-fit union s (part_at y (k + 1)) p (part-fit y (k + 1) (flat_parts r us) d₁)) (past ts (k + 1) _ (wide-part y) d₁)
  parts-fit (derived.inter y r) s k us p d =
      let d₁ = next-token ts k d in
      parts-fit r _ _ us (joined-fit inter s (part_at y (k + 1)) p (part-fit y (k + 1) (flat_parts r us) d₁)) (past ts (k + 1) _ (wide-part y) d₁)

  set-fit : (s : derived.Set) (k : ℕ) (us : List ℕ) → drop k ts ≡ flat_set s us → Fit (Table.Set t (set_at s k))
  unfolding flat_set set_at
  set-fit (derived.set p r) k us d = parts-fit r (part_at p k) (k + wide (flat_part p)) us (part-fit p k (flat_parts r us) d) (past ts k _ (wide-part p) d)

  compare-fit : (b : Bool) (r : Relation) (x y : Syntax.Expr) → Fit (Table.Expr t x) → Fit (Table.Expr t y) → Fit (Table.Cond t (Syntax.compare b r x y))
  unfolding Table.Cond
  compare-fit b r x y p q = fit-plain (test_kind b r) 0 0 (test_plain b r).0 (test_plain b r).1 p q

  test-fit : (x : derived.Test) (k : ℕ) (us : List ℕ) → drop k ts ≡ flat_test x us → Fit (Table.Cond t (test_at x k))
  unfolding flat_test test_at
  test-fit (derived.holds e r f) k us d = compare-fit false r _ _ (expr-fit e k _ d) (second-fit _ e f k us d)
  test-fit (derived.fails e r f) k us d =
      let d₁ = next-token ts k d in
      compare-fit true r _ _ (expr-fit e (k + 1) _ d₁) (second-fit _ e f (k + 1) us d₁)

  ands-fit : (r : derived.Ands) (c : Syntax.Cond) (k : ℕ) (us : List ℕ) → Fit (Table.Cond t c) → drop k ts ≡ flat_ands r us → Fit (Table.Cond t (ands_at c r k))
  unfolding flat_ands ands_at Table.Cond sort_of number_kind
  ands-fit derived.no_ands c k us p d = p
  ands-fit (derived.both x r) c k us p d =
      let d₁ = next-token ts k d in
      ands-fit r _ _ us (fit-plain node.both 0 0 (omega arith) refl p (test-fit x (k + 1) (flat_ands r us) d₁)) (past ts (k + 1) _ (wide_test x) d₁)

  conjunction-fit : (x : derived.Test) (a : derived.Ands) (k : ℕ) (us : List ℕ) → drop k ts ≡ flat_test x (flat_ands a us) → Fit (Table.Cond t (conjunction_at x a k))
  unfolding conjunction_at
  conjunction-fit x a k us d = ands-fit a (test_at x k) (k + wide (flat_test x)) us (test-fit x k (flat_ands a us) d) (past ts k _ (wide_test x) d)

  ors-fit : (r : derived.Ors) (c : Syntax.Cond) (k : ℕ) (us : List ℕ) → Fit (Table.Cond t c) → drop k ts ≡ flat_ors r us → Fit (Table.Cond t (ors_at c r k))
  unfolding flat_ors ors_at Table.Cond sort_of number_kind
  ors-fit derived.no_ors c k us p d = p
  ors-fit (derived.either x a r) c k us p d =
      let d₁ = next-token ts k d in
      ors-fit r _ _ us (fit-plain node.either 0 0 (omega arith) refl p (conjunction-fit x a (k + 1) (flat_ors r us) d₁)) (past ts (k + 1) _ (wide-conjunction x a) d₁)

  cond-fit : (c : derived.Cond) (k : ℕ) (us : List ℕ) → drop k ts ≡ flat_cond c us → Fit (Table.Cond t (cond_at c k))
  unfolding flat_cond cond_at
  cond-fit (derived.cond x a r) k us d =
      ors-fit r (conjunction_at x a k) _ us (conjunction-fit x a k (flat_ors r us) d) (past ts k _ (wide-conjunction x a) d)

  -- ---- rates
  number-fit : (v : derived.Number) (k : ℕ) (us : List ℕ) → drop k ts ≡ flat_number v us → Fit (Table.Number t (number_at v k))
  unfolding flat_number flat_whole number_at Table.Number sort_of SortFits number_kind
  number-fit (derived.integer derived.whole) k us d = fit-leaf (number_kind false false) k (omega arith) (head_at ts k d)
  number-fit (derived.integer derived.negative) k us d = fit-leaf (number_kind true false) (k + 1) (omega arith) (head_at ts (k + 1) (next-token ts k d))
  number-fit derived.decimal k us d = fit-leaf (number_kind false true) k (omega arith) tt
  number-fit derived.negative_decimal k us d = fit-leaf (number_kind true true) (k + 1) (omega arith) tt

  scale-fit : (s : derived.Scale) (k : ℕ) (us : List ℕ) → drop k ts ≡ flat_scale s us → Fit (Table.Scale t (scale_at s k))
  unfolding flat_scale scale_at Table.Scale sort_of SortFits number_kind
  scale-fit (derived.fixed v) k us d = number-fit v k us d
  scale-fit derived.named k us d = fit-leaf node.scale_name k (omega arith) (head_at ts k d)

  rate-fit : (r : derived.Rate) (k : ℕ) (us : List ℕ) → drop k ts ≡ flat_rate r us → Fit (Table.Rate t (rate_at r k))
  unfolding flat_rate rate_at Table.Rate sort_of number_kind
  rate-fit (derived.plain s) k us d = scale-fit s k us d
  rate-fit (derived.scaled s a) k us d =
      fit-plain node.scaled 0 0 (omega arith) refl (scale-fit s k _ d) (atom-fit a (k + wide (flat_scale s) + 1) us (next-token ts (k + wide (flat_scale s)) (past ts k _ (wide-scale s) d)))

  -- ---- actions
  values-fit : (v : derived.Values) (k : ℕ) (us : List ℕ) → drop k ts ≡ flat_values v us → Fit (Table.Values t (values_at v k))
  unfolding flat_values values_at Table.Values sort_of number_kind
  values-fit (derived.one_value e) k us d = expr-fit e (k + 1) _ (next-token ts k d)
  values-fit (derived.two_values e f) k us d =
      let d₁ = next-token ts k d in
      fit-plain node.pair 0 0 (omega arith) refl (expr-fit e (k + 1) _ d₁) (second-fit _ e f (k + 1) _ d₁)

  sets-fit : (s : derived.Sets) (k : ℕ) (us : List ℕ) → drop k ts ≡ flat_sets s us → Fit (Table.Sets t (sets_at s k))
  unfolding flat_sets sets_at Table.Sets sort_of number_kind
  sets-fit (derived.one_set s) k us d = set-fit s (k + 1) _ (next-token ts k d)
  sets-fit (derived.two_sets s r) k us d =
      let d₁ = next-token ts k d in
      fit-plain node.pair 0 0 (omega arith) refl (set-fit s (k + 1) _ d₁) (set-fit r (k + 1 + wide (flat_set s) + 1) _ (next-token ts (k + 1 + wide (flat_set s)) (past ts (k + 1) _ (wide-set s) d₁)))

  channel-fit : (c : derived.Channel) (k : ℕ) (us : List ℕ) → drop k ts ≡ flat_channel c us → Fit (Table.Channel t (channel_at c k))
  unfolding flat_channel channel_at Table.Channel sort_of number_kind
  channel-fit (derived.one_item e) k us d = expr-fit e k us d
  channel-fit (derived.two_items e f) k us d = fit-plain node.two_items 0 0 (omega arith) refl (expr-fit e k _ d) (second-fit _ e f k us d)
  channel-fit (derived.three_items e f g) k us d =
      let d₁ = next-token ts (k + wide (flat_expr e)) (past ts k _ (wide-expr e) d) in
      fit-three node.three_items 0 (omega arith) refl (expr-fit e k _ d) (expr-fit f (k + wide (flat_expr e) + 1) _ d₁) (second-fit _ f g (k + wide (flat_expr e) + 1) us d₁)

  -- a channel, a sign, and values or sets
  sending-fit : (a κ : ℕ) → κ < 256 → sort_of κ ≡ plain → (c : derived.Channel) (v : derived.Values) (k : ℕ) (us : List ℕ) → drop k ts ≡ flat_channel c (a ∷ flat_values v us) → Fit (Two t κ 0 0 (Table.Channel t (channel_at c k)) (Table.Values t (values_at v (k + wide (flat_channel c) + 1))))
  sending-fit a κ l s c v k us d = fit-plain κ 0 0 l s (channel-fit c k _ d) (values-fit v (k + wide (flat_channel c) + 1) us (next-token ts (k + wide (flat_channel c)) (past ts k _ (wide-channel c) d)))

  asking-fit : (a κ : ℕ) → κ < 256 → sort_of κ ≡ plain → (c : derived.Channel) (s : derived.Sets) (k : ℕ) (us : List ℕ) → drop k ts ≡ flat_channel c (a ∷ flat_sets s us) → Fit (Two t κ 0 0 (Table.Channel t (channel_at c k)) (Table.Sets t (sets_at s (k + wide (flat_channel c) + 1))))
  asking-fit a κ l s c x k us d = fit-plain κ 0 0 l s (channel-fit c k _ d) (sets-fit x (k + wide (flat_channel c) + 1) us (next-token ts (k + wide (flat_channel c)) (past ts k _ (wide-channel c) d)))

  binding-fit : (a κ : ℕ) → κ < 256 → sort_of κ ≡ binds → (c : derived.Channel) (s : derived.Sets) (n : derived.Names) (k : ℕ) (us : List ℕ) → drop k ts ≡ flat_channel c (a ∷ flat_sets s (kind.open_round ∷ flat_names n us)) → Fit (Two t κ (k + wide (flat_channel c) + 1 + wide (flat_sets s) + 1) (count_names n) (Table.Channel t (channel_at c k)) (Table.Sets t (sets_at s (k + wide (flat_channel c) + 1))))
  unfolding SortFits
  binding-fit a κ l q c s n k us d =
      let d₁ = next-token ts (k + wide (flat_channel c)) (past ts k _ (wide-channel c) d) in
      let d₂ = next-token ts (k + wide (flat_channel c) + 1 + wide (flat_sets s)) (past ts (k + wide (flat_channel c) + 1) _ (wide-sets s) d₁) in
      fit-two κ (k + wide (flat_channel c) + 1 + wide (flat_sets s) + 1) (count_names n) l (rw q (omega arith, some-names ts n, names-named ts n (k + wide (flat_channel c) + 1 + wide (flat_sets s) + 1) us d₂)) (channel-fit c k _ d) (sets-fit s (k + wide (flat_channel c) + 1) _ d₁)

  action-fit : (a : derived.Action) (k : ℕ) (us : List ℕ) → drop k ts ≡ flat_action a us → Fit (Table.Action t (action_at a k))
  unfolding flat_action action_at names_at Table.Action sort_of SortFits number_kind
  action-fit derived.wait k us d = fit-leaf node.wait k (omega arith) tt
  action-fit (derived.launch c v) k us d = sending-fit _ node.launch (omega arith) refl c v k us d
  action-fit (derived.kill c v) k us d = sending-fit _ node.kill (omega arith) refl c v k us d
  action-fit (derived.receive c s) k us d = asking-fit _ node.receive (omega arith) refl c s k us d
  action-fit (derived.bind c s n) k us d = binding-fit _ node.bind (omega arith) refl c s n k _ d
  action-fit (derived.check c s) k us d = asking-fit _ node.check (omega arith) refl c s (k + 1) us (next-token ts k d)
  action-fit (derived.hand_send c v) k us d = sending-fit _ node.hand_send (omega arith) refl c v (k + 1) us (next-token ts k d)
  action-fit (derived.hand_receive c s) k us d = asking-fit _ node.hand_receive (omega arith) refl c s (k + 1) us (next-token ts k d)
  action-fit (derived.hand_bind c s n) k us d = binding-fit _ node.hand_bind (omega arith) refl c s n (k + 1) _ (next-token ts k d)

  -- ---- processes
  call-fit : (a : derived.Args) (k : ℕ) (us : List ℕ) → drop k ts ≡ kind.name ∷ flat_args a us → Fit (Table.Cont t (Syntax.call k (args_at a (k + 1))))
  unfolding flat_args args_at Table.Cont sort_of SortFits number_kind
  call-fit derived.no_args k us d = fit-leaf node.call k (omega arith) (head_at ts k d)
  call-fit (derived.args r) k us d =
      fit-one node.call_with k _ (omega arith) (head_at ts k d) (exprs-fit r (k + 1 + 1) _ (next-token ts (k + 1) (next-token ts k d)))

  gated-fit : (g : derived.Gate) (k : ℕ) (us : List ℕ) → drop k ts ≡ flat_gate g us → (f : ℕ) (a : Syntax.Action) (r : Syntax.Rate) (n : Syntax.Next) → Fit (Table.Offer t f a r n) → Fit (Table.Branch t (Syntax.branch f (gate_at g k) a r n))
  unfolding flat_gate gate_at Table.Branch sort_of number_kind
  gated-fit derived.no_gate k us d f a r n p = p
  gated-fit (derived.gate c) k us d f a r n p = fit-plain node.gate f 0 (omega arith) refl (cond-fit c (k + 1) _ (next-token ts k d)) p

  mutual
    unfolding flat_prefix flat_next flat_cont flat_item flat_items flat_choices branch_at next_at cont_at item_at conts_at branches_at Table.Branch Table.Offer Table.Branches Table.Sum Table.Cont Table.Conts sort_of SortFits number_kind

    prefix-fit : (p : derived.Prefix) (k n : ℕ) (us : List ℕ) → drop k ts ≡ flat_prefix p us → Fit (Table.Branch t (branch_at p k n))
    prefix-fit (derived.prefix g a r x) k n us d =
        let b = k + wide (flat_gate g) + 1 in
        let c = b + wide (flat_action a) + 1 in
        let d₁ = next-token ts (k + wide (flat_gate g)) (past ts k _ (wide-gate g) d) in
        let d₂ = next-token ts (b + wide (flat_action a)) (past ts b _ (wide-action a) d₁) in
        let d₃ = next-token ts (c + wide (flat_rate r)) (past ts c _ (wide-rate r) d₂) in
        gated-fit g k _ d k (action_at a b) (rate_at r c) (next_at x (c + wide (flat_rate r) + 1) n) (next-fit x (c + wide (flat_rate r) + 1) n us d₃ k (action_at a b) (rate_at r c) (action-fit a b _ d₁) (rate-fit r c _ d₂))

    next-fit : (x : derived.Next) (k n : ℕ) (us : List ℕ) → drop k ts ≡ flat_next x us → (f : ℕ) (a : Syntax.Action) (r : Syntax.Rate) → Fit (Table.Action t a) → Fit (Table.Rate t r) → Fit (Table.Offer t f a r (next_at x k n))
    next-fit derived.stop k n us d f a r p q = fit-plain node.stop f 0 (omega arith) refl p q
    next-fit (derived.dot c) k n us d f a r p q = fit-three node.dot f (omega arith) refl p q (cont-fit c (k + 1) n us (next-token ts k d))

    cont-fit : (c : derived.Cont) (k n : ℕ) (us : List ℕ) → drop k ts ≡ flat_cont c us → Fit (Table.Cont t (cont_at c k n))
    cont-fit (derived.chain p) k n us d = fit-over node.sum n _ (omega arith) refl (prefix-fit p k (n + 1) us d)
    cont-fit (derived.call a) k n us d = call-fit a k us d
    cont-fit (derived.group i r) k n us d =
        let d₁ = next-token ts k d in
        fit-over node.group k 0 (omega arith) refl (items-fit r (item_at i (k + 1) n) (k + 1 + wide (flat_item i)) (n + sums_item i) us (item-fit i (k + 1) n (flat_items r us) d₁) (past ts (k + 1) _ (wide-item i) d₁))

    item-fit : (i : derived.Item) (k n : ℕ) (us : List ℕ) → drop k ts ≡ flat_item i us → Fit (Table.Cont t (item_at i k n))
    item-fit (derived.item_sum p r) k n us d =
        fit-over node.sum n _ (omega arith) refl (choices-fit r (branch_at p k (n + 1)) (k + wide (flat_prefix p)) (n + 1 + sums_prefix p) us (prefix-fit p k (n + 1) (flat_choices r us) d) (past ts k _ (wide-prefix p) d))
    item-fit (derived.item_call a) k n us d = call-fit a k us d
    item-fit (derived.item_group i r) k n us d =
        let d₁ = next-token ts k d in
        fit-over node.group k 0 (omega arith) refl (items-fit r (item_at i (k + 1) n) (k + 1 + wide (flat_item i)) (n + sums_item i) us (item-fit i (k + 1) n (flat_items r us) d₁) (past ts (k + 1) _ (wide-item i) d₁))

    items-fit : (r : derived.Items) (x : Syntax.Cont) (k n : ℕ) (us : List ℕ) → Fit (Table.Cont t x) → drop k ts ≡ flat_items r us → Fit (Table.Conts t (conts_at x r k n))
    items-fit derived.close x k n us p d = p
    items-fit (derived.also i r) x k n us p d =
        let d₁ = next-token ts k d in
        fit-plain node.item 0 0 (omega arith) refl p (items-fit r (item_at i (k + 1) n) (k + 1 + wide (flat_item i)) (n + sums_item i) us (item-fit i (k + 1) n (flat_items r us) d₁) (past ts (k + 1) _ (wide-item i) d₁))

    choices-fit : (r : derived.Choices) (b : Syntax.Branch) (k n : ℕ) (us : List ℕ) → Fit (Table.Branch t b) → drop k ts ≡ flat_choices r us → Fit (Table.Branches t (branches_at b r k n))
    choices-fit derived.no_choices b k n us p d = p
    choices-fit (derived.or x r) b k n us p d =
        let d₁ = next-token ts k d in
        fit-plain node.choice 0 0 (omega arith) refl p (choices-fit r (branch_at x (k + 1) n) (k + 1 + wide (flat_prefix x)) (n + sums_prefix x) us (prefix-fit x (k + 1) n (flat_choices r us) d₁) (past ts (k + 1) _ (wide-prefix x) d₁))

  sum-fit : (p : derived.Prefix) (r : derived.Choices) (k n : ℕ) (us : List ℕ) → drop k ts ≡ flat_prefix p (flat_choices r us) → Fit (Table.Sum t (sum_at p r k n))
  unfolding sum_at Table.Sum sort_of number_kind
  sum-fit p r k n us d =
      fit-over node.sum n _ (omega arith) refl (choices-fit r (branch_at p k (n + 1)) (k + wide (flat_prefix p)) (n + 1 + sums_prefix p) us (prefix-fit p k (n + 1) (flat_choices r us) d) (past ts k _ (wide-prefix p) d))

  sums-fit : (r : derived.Sums) (s : Syntax.Sum) (k n : ℕ) (us : List ℕ) → Fit (Table.Sum t s) → drop k ts ≡ flat_sums r us → Fit (Table.Sums t (sums_at s r k n))
  unfolding flat_sums sums_at Table.Sums sort_of number_kind
  sums-fit derived.no_sums s k n us p d = p
  sums-fit (derived.beside x c r) s k n us p d =
      let d₁ = next-token ts k d in
      fit-plain node.beside 0 0 (omega arith) refl p (sums-fit r (sum_at x c (k + 1) n) _ _ us (sum-fit x c (k + 1) n (flat_sums r us) d₁) (past ts (k + 1) _ (wide-sum x c) d₁))

  body-fit : (b : derived.Body) (k n : ℕ) (us : List ℕ) → drop k ts ≡ flat_body b us → Fit (Table.Sums t (body_at b k n))
  unfolding flat_body body_at
  body-fit (derived.body p c r) k n us d = sums-fit r (sum_at p c k n) _ _ us (sum-fit p c k n (flat_sums r us) d) (past ts k _ (wide-sum p c) d)

  -- ---- lines
  definition-fit : (p : derived.Params) (k : ℕ) (us : List ℕ) (b : Syntax.Sums) → drop k ts ≡ kind.name ∷ flat_params p us → Fit (Table.Sums t b) → Fit (Table.Definition t k (params_at p (k + 1)) b)
  unfolding flat_params params_at names_at Table.Definition sort_of SortFits number_kind every_other
  definition-fit derived.no_params k us b d q = fit-one node.definition k 0 (omega arith) (head_at ts k d, tt) q
  definition-fit (derived.params n) k us b d q =
      let d₁ = next-token ts (k + 1) (next-token ts k d) in
      let e : k + 1 + 1 ≡ k + 2 = omega arith in
      let f = fit-one node.definition k (count_names n) (omega arith) (head_at ts k d, rw e at (names-named ts n (k + 1 + 1) _ d₁)) q in
      record { fits = λ lo m h i a c. f.fits lo m h.2 i a c }

  wholes-fit : (r : derived.Wholes) (k : ℕ) (us : List ℕ) → drop k ts ≡ flat_wholes r us → Fit (Table.Wholes t (wholes_at r k))
  unfolding flat_wholes wholes_at literal_at Table.Wholes sort_of number_kind
  wholes-fit (derived.last_whole v) k us d = literal-fit v k us d
  wholes-fit (derived.next_whole v r) k us d =
      fit-plain node.whole 0 0 (omega arith) refl (literal-fit v k _ d) (wholes-fit r (k + wide (flat_whole v) + 1) us (next-token ts (k + wide (flat_whole v)) (past ts k _ (wide-whole v) d)))

  once-fit : (s : derived.Starts) (k : ℕ) (us : List ℕ) → drop k ts ≡ kind.name ∷ flat_starts s us → Fit (Table.Start t (Syntax.once k (starts_at s (k + 1))))
  unfolding flat_starts starts_at Table.Start sort_of SortFits number_kind
  once-fit derived.no_starts k us d = fit-leaf node.start k (omega arith) (head_at ts k d)
  once-fit (derived.starts r) k us d = fit-one node.start_with k _ (omega arith) (head_at ts k d) (wholes-fit r (k + 1 + 1) _ (next-token ts (k + 1) (next-token ts k d)))

  counted-fit : (s : derived.Starts) (k : ℕ) (us : List ℕ) → drop k ts ≡ kind.whole ∷ kind.times ∷ kind.name ∷ flat_starts s us → Fit (Table.Start t (Syntax.counted k (k + 2) (starts_at s (k + 3))))
  unfolding flat_starts starts_at Table.Start sort_of SortFits number_kind
  counted-fit derived.no_starts k us d =
      let e : k + 2 - 2 ≡ k = omega arith in
      let f = fit-leaf node.counted (k + 2) (omega arith) (omega arith, head_at ts (k + 2) (next-two ts k d), rw e (head_at ts k d)) in
      record { fits = λ lo m h i a c. f.fits lo m h.1 i a c }
  counted-fit (derived.starts r) k us d =
      let e : k + 2 - 2 ≡ k = omega arith in
      let g : k + 2 + 1 + 1 ≡ k + 3 + 1 = omega arith in
      let d₁ = rw g at (next-token ts (k + 2 + 1) (next-token ts (k + 2) (next-two ts k d))) in
      let f = fit-one node.counted_with (k + 2) (Table.count_wholes (wholes_at r (k + 3 + 1))) (omega arith) (omega arith, head_at ts (k + 2) (next-two ts k d), rw e (head_at ts k d)) (wholes-fit r (k + 3 + 1) _ d₁) in
      record { fits = λ lo m h i a c. f.fits lo m h.1 i a c }

  start-fit : (s : derived.Start) (k : ℕ) (us : List ℕ) → drop k ts ≡ flat_start s us → Fit (Table.Start t (start_at s k))
  unfolding flat_start start_at
  start-fit (derived.once s) k us d = once-fit s k us d
  start-fit (derived.counted s) k us d = counted-fit s k us d

  system-fit : (s : derived.System) (k : ℕ) (us : List ℕ) → drop k ts ≡ flat_system s us → Fit (Table.System t (system_at s k))
  unfolding flat_system system_at Table.System sort_of number_kind
  system-fit (derived.last_start i) k us d = start-fit i k _ d
  system-fit (derived.next_start i r) k us d =
      fit-plain node.system 0 0 (omega arith) refl (start-fit i k _ d) (system-fit r (k + wide (flat_start i) + 1) us (next-token ts (k + wide (flat_start i)) (past ts k _ (wide-start i) d)))

  -- past the name, the parameters and `=`; then past the body and `;`
  to-body : (a : ℕ) (p : derived.Params) (k : ℕ) (us : List ℕ) → drop k ts ≡ kind.name ∷ flat_params p (a ∷ us) → drop (k + 1 + wide (flat_params p) + 1) ts ≡ us
  to-body a p k us d = next-token ts (k + 1 + wide (flat_params p)) (past ts (k + 1) _ (wide-params p) (next-token ts k d))

  definitions-fit : (l : derived.Definitions) (k n : ℕ) (us : List ℕ) → drop k ts ≡ flat_definitions l us → Fit (Table.Definitions t (definitions_at l k n))
  unfolding flat_definitions definitions_at Table.Definitions sort_of number_kind
  definitions-fit (derived.last_definition p b s) k n us d =
      let c = k + 1 + wide (flat_params p) + 1 in
      let d₁ = to-body _ p k _ d in
      fit-plain node.last 0 0 (omega arith) refl (definition-fit p k _ (body_at b c n) d (body-fit b c n _ d₁)) (system-fit s (c + wide (flat_body b) + 1) us (next-token ts (c + wide (flat_body b)) (past ts c _ (wide-body b) d₁)))
  definitions-fit (derived.next_definition p b r) k n us d =
      let c = k + 1 + wide (flat_params p) + 1 in
      let d₁ = to-body _ p k _ d in
      fit-plain node.next 0 0 (omega arith) refl (definition-fit p k _ (body_at b c n) d (body-fit b c n _ d₁)) (definitions-fit r (c + wide (flat_body b) + 1) (n + sums_body b) us (next-token ts (c + wide (flat_body b)) (past ts c _ (wide-body b) d₁)))

  model-fit : (m : derived.Model) (k : ℕ) (us : List ℕ) → drop k ts ≡ flat_model m us → Fit (Table.Model t (model_at m k))
  unfolding flat_model model_at Table.Model sort_of SortFits number_kind
  model-fit (derived.definitions l) k us d = definitions-fit l k 0 us d
  model-fit (derived.variable v m) k us d =
      let d₁ = next-two ts k d in
      fit-two node.variable k 0 (omega arith) (head_at ts k d) (number-fit v (k + 2) _ d₁) (model-fit m (k + 2 + wide (flat_number v) + 1) us (next-token ts (k + 2 + wide (flat_number v)) (past ts (k + 2) _ (wide-number v) d₁)))

  -- in a text that reads as m, every node up to the root has such tokens
  pub all_fit : (m : derived.Model) (root : ℕ) → Reads ts m → Table.Model t (syntax_of m) 0 root → (i : ℕ) → i ≤ root → Fits ts (get_or t i 0)
  unfolding Reads syntax_of
  all_fit m root r h i l = (model-fit m 0 [] (sym r)).fits 0 root h i (omega arith) l
