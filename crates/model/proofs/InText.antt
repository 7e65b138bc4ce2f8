-- Every token that a part of the syntax tree names stands before the end of what the part is written as. By induction on the derivation, from the
-- widths of its parts.
use mathlib.Core.Path.{◌≡◌, refl, sym, subst}
use mathlib.Core.List.Memᴰ.{append_cases}
use mathlib.Core.List.Memᴰ.{cases_cons as cases}
use mathlib.Core.List.Memᴰ.{eq_of_singleton}
use mathlib.Core.List.Memᴰ.{head}
use mathlib.Core.List.Memᴰ.{not-nil as nowhere}
use mathlib.Core.List.{List, [], ◌∷◌, ◌++◌, Memᴰ as In}
use mathlib.Core.Bool.{Bool, true, false, cond}
use mathlib.Core.Logic.{⊎_elim}
use Prim.Native.Nat.{ℕ, zero, suc, ◌+◌, ◌≤◌, ◌<◌}
use native.Mathlib.Omega.{arith}
use Rattle.grammar.specs.Grammar as derived
use Rattle.grammar.specs.Grammar.{flat_whole, flat_number, flat_expr, flat_terms, flat_term, flat_factors, flat_atom, flat_exprs, flat_args, flat_part, flat_parts, flat_set, flat_test, flat_ands, flat_ors, flat_cond, flat_scale, flat_rate, flat_values, flat_sets, flat_names, flat_channel, flat_action, flat_gate}
use Rattle.grammar.specs.Syntax
use Rattle.grammar.specs.Syntax.{wide, literal_at, number_at, expr_at, terms_at, term_at, factors_at, atom_at, exprs_at, args_at, part_at, parts_at, set_at, test_at, ands_at, conjunction_at, ors_at, cond_at, scale_at, rate_at, values_at, sets_at, count_names, names_at, channel_at, action_at, gate_at}
use Rattle.grammar.proofs.Wide.{wide-whole, wide-number, wide-expr, wide-terms, wide-term, wide-factors, wide-atom, wide-exprs, wide-args, wide-part, wide-parts, wide-set, wide_test, wide-ands, wide-conjunction, wide-ors, wide-cond, wide-scale, wide-rate, wide-values, wide-sets, wide-names, wide-channel, wide-action, wide-gate}
use Rattle.model.specs.Lists.{every_other}
use Rattle.model.specs.Sites.{Site, whole, value, scale, bound, branch, call, expr_sites, exprs_sites, set_sites, cond_sites, gate_sites, number_sites, scale_sites, rate_sites, is_lone, item_sites, channel_sites, values_sites, sets_sites, count_sets, tokens_of, action_sites, args_sites}

-- l: where the part, or the text, ends
module _ (l : ℕ) where
  -- a site's tokens stand before it
  abbrev pub Before : Site → Type 0
  Before (whole b k) = k < l
  Before (value k) = k < l
  Before (scale k) = k < l
  Before (bound ks n) = (k : ℕ) → In k ks → k < l
  Before (branch i k) = k < l
  Before (call k n) = k < l

  abbrev pub AllBefore : List Site → Type 0
  AllBefore xs = (x : Site) → In x xs → Before x

  nothing : AllBefore []
  nothing x i = absurd (nowhere i)

  one : (x : Site) → Before x → AllBefore (x ∷ [])
  one x h y i = subst (λ (z : Site). Before z) (sym (eq_of_singleton i)) h

  pub both : (xs ys : List Site) → AllBefore xs → AllBefore ys → AllBefore (xs ++ ys)
  both xs ys h g x i = ⊎_elim (λ (j : In x xs). h x j) (λ (j : In x ys). g x j) (append_cases xs i)

  -- ---- expressions

  pub literal-before : (v : derived.Whole) (k : ℕ) → k + wide (flat_whole v) ≤ l → AllBefore (expr_sites (literal_at v k))
  unfolding expr_sites literal_at
  literal-before derived.whole k h = one (whole false k) (omega (arith, (wide-whole derived.whole).width))
  literal-before derived.negative k h = one (whole true (k + 1)) (omega (arith, (wide-whole derived.negative).width))

  mutual
    unfolding expr_at terms_at term_at factors_at atom_at expr_sites

    expr-before : (e : derived.Expr) (k : ℕ) → k + wide (flat_expr e) ≤ l → AllBefore (expr_sites (expr_at e k))
    expr-before (derived.sum t r) k h =
        terms-before r (term_at t k) (k + wide (flat_term t)) (term-before t k (omega (arith, (wide-expr (derived.sum t r)).width))) (omega (arith, (wide-expr (derived.sum t r)).width))

    terms-before : (r : derived.Terms) (x : Syntax.Expr) (k : ℕ) → AllBefore (expr_sites x) → k + wide (flat_terms r) ≤ l → AllBefore (expr_sites (terms_at x r k))
    terms-before derived.no_terms x k g h = g
    terms-before (derived.plus t r) x k g h =
        terms-before r _ _ (both (expr_sites x) _ g (term-before t (k + 1) (omega (arith, (wide-terms (derived.plus t r)).width)))) (omega (arith, (wide-terms (derived.plus t r)).width))
    terms-before (derived.minus t r) x k g h =
        terms-before r _ _ (both (expr_sites x) _ g (term-before t (k + 1) (omega (arith, (wide-terms (derived.minus t r)).width)))) (omega (arith, (wide-terms (derived.minus t r)).width))

    term-before : (t : derived.Term) (k : ℕ) → k + wide (flat_term t) ≤ l → AllBefore (expr_sites (term_at t k))
    term-before (derived.product a f) k h =
        factors-before f (atom_at a k) (k + wide (flat_atom a)) (atom-before a k (omega (arith, (wide-term (derived.product a f)).width))) (omega (arith, (wide-term (derived.product a f)).width))

    factors-before : (r : derived.Factors) (x : Syntax.Expr) (k : ℕ) → AllBefore (expr_sites x) → k + wide (flat_factors r) ≤ l → AllBefore (expr_sites (factors_at x r k))
    factors-before derived.no_factors x k g h = g
    factors-before (derived.times a r) x k g h =
        factors-before r _ _ (both (expr_sites x) _ g (atom-before a (k + 1) (omega (arith, (wide-factors (derived.times a r)).width)))) (omega (arith, (wide-factors (derived.times a r)).width))
    factors-before (derived.divide a r) x k g h =
        factors-before r _ _ (both (expr_sites x) _ g (atom-before a (k + 1) (omega (arith, (wide-factors (derived.divide a r)).width)))) (omega (arith, (wide-factors (derived.divide a r)).width))

    atom-before : (a : derived.Atom) (k : ℕ) → k + wide (flat_atom a) ≤ l → AllBefore (expr_sites (atom_at a k))
    atom-before (derived.number v) k h = literal-before v k (omega (arith, (wide-atom (derived.number v)).width))
    atom-before derived.name k h = one (value k) (omega (arith, (wide-atom derived.name).width))
    atom-before (derived.absolute e) k h = expr-before e (k + 2) (omega (arith, (wide-atom (derived.absolute e)).width))
    atom-before (derived.maximum e f) k h =
        both (expr_sites (expr_at e (k + 2))) _ (expr-before e (k + 2) (omega (arith, (wide-atom (derived.maximum e f)).width))) (expr-before f (k + 2 + wide (flat_expr e) + 1) (omega (arith, (wide-atom (derived.maximum e f)).width)))
    atom-before (derived.minimum e f) k h =
        both (expr_sites (expr_at e (k + 2))) _ (expr-before e (k + 2) (omega (arith, (wide-atom (derived.minimum e f)).width))) (expr-before f (k + 2 + wide (flat_expr e) + 1) (omega (arith, (wide-atom (derived.minimum e f)).width)))
    atom-before (derived.bracketed e) k h = expr-before e (k + 1) (omega (arith, (wide-atom (derived.bracketed e)).width))

  -- two expressions, the second after the first and m tokens more
  two-before : (e f : derived.Expr) (k m : ℕ) → k + wide (flat_expr e) + m + wide (flat_expr f) ≤ l → AllBefore (expr_sites (expr_at e k) ++ expr_sites (expr_at f (k + wide (flat_expr e) + m)))
  two-before e f k m h = both (expr_sites (expr_at e k)) _ (expr-before e k (omega arith)) (expr-before f (k + wide (flat_expr e) + m) (omega arith))

  exprs-before : (r : derived.Exprs) (k : ℕ) → k + wide (flat_exprs r) ≤ l → AllBefore (exprs_sites (exprs_at r k))
  unfolding exprs_at exprs_sites
  exprs-before (derived.last_expr e) k h = expr-before e k (omega (arith, (wide-exprs (derived.last_expr e)).width))
  exprs-before (derived.next_expr e r) k h =
      both (expr_sites (expr_at e k)) _ (expr-before e k (omega (arith, (wide-exprs (derived.next_expr e r)).width))) (exprs-before r (k + wide (flat_expr e) + 1) (omega (arith, (wide-exprs (derived.next_expr e r)).width)))

  pub args-before : (a : derived.Args) (k : ℕ) → k + wide (flat_args a) ≤ l → AllBefore (args_sites (args_at a k))
  unfolding args_at args_sites
  args-before derived.no_args k h = nothing
  args-before (derived.args r) k h = exprs-before r (k + 1) (omega (arith, (wide-args (derived.args r)).width))

  -- ---- sets and conditions

  part-before : (p : derived.Part) (k : ℕ) → k + wide (flat_part p) ≤ l → AllBefore (set_sites (part_at p k))
  unfolding part_at set_sites
  part-before (derived.single e) k h = expr-before e k (omega (arith, (wide-part (derived.single e)).width))
  part-before (derived.range e f) k h = two-before e f k 1 (omega (arith, (wide-part (derived.range e f)).width))

  parts-before : (r : derived.Parts) (s : Syntax.Set) (k : ℕ) → AllBefore (set_sites s) → k + wide (flat_parts r) ≤ l → AllBefore (set_sites (parts_at s r k))
  unfolding parts_at set_sites
  parts-before derived.no_parts s k g h = g
  parts-before (derived.without p r) s k g h =
      parts-before r _ _ (both (set_sites s) _ g (part-before p (k + 1) (omega (arith, (wide-parts (derived.without p r)).width)))) (omega (arith, (wide-parts (derived.without p r)).width))
  parts-before (derived.union p r) s k g h =
      parts-before r _ _ (both (set_sites s) _ g (part-before p (k + 1) (omega (arith, (wide-parts (derived.union p r)).width)))) (omega (arith, (wide-parts (derived.union p r)).width))
  parts-before (derived.inter p r) s k g h =
      parts-before r _ _ (both (set_sites s) _ g (part-before p (k + 1) (omega (arith, (wide-parts (derived.inter p r)).width)))) (omega (arith, (wide-parts (derived.inter p r)).width))

  set_before : (s : derived.Set) (k : ℕ) → k + wide (flat_set s) ≤ l → AllBefore (set_sites (set_at s k))
  unfolding set_at
  set_before (derived.set p r) k h =
      parts-before r (part_at p k) (k + wide (flat_part p)) (part-before p k (omega (arith, (wide-set (derived.set p r)).width))) (omega (arith, (wide-set (derived.set p r)).width))

  test-before : (t : derived.Test) (k : ℕ) → k + wide (flat_test t) ≤ l → AllBefore (cond_sites (test_at t k))
  unfolding test_at cond_sites
  test-before (derived.holds e r f) k h = two-before e f k 1 (omega (arith, (wide_test (derived.holds e r f)).width))
  test-before (derived.fails e r f) k h = two-before e f (k + 1) 1 (omega (arith, (wide_test (derived.fails e r f)).width))

  ands-before : (r : derived.Ands) (c : Syntax.Cond) (k : ℕ) → AllBefore (cond_sites c) → k + wide (flat_ands r) ≤ l → AllBefore (cond_sites (ands_at c r k))
  unfolding ands_at cond_sites
  ands-before derived.no_ands c k g h = g
  ands-before (derived.both t r) c k g h =
      ands-before r _ _ (both (cond_sites c) _ g (test-before t (k + 1) (omega (arith, (wide-ands (derived.both t r)).width)))) (omega (arith, (wide-ands (derived.both t r)).width))

  conjunction-before : (t : derived.Test) (a : derived.Ands) (k : ℕ) → k + wide (flat_test t) + wide (flat_ands a) ≤ l → AllBefore (cond_sites (conjunction_at t a k))
  unfolding conjunction_at
  conjunction-before t a k h = ands-before a (test_at t k) (k + wide (flat_test t)) (test-before t k (omega arith)) h

  ors-before : (r : derived.Ors) (c : Syntax.Cond) (k : ℕ) → AllBefore (cond_sites c) → k + wide (flat_ors r) ≤ l → AllBefore (cond_sites (ors_at c r k))
  unfolding ors_at cond_sites
  ors-before derived.no_ors c k g h = g
  ors-before (derived.either t a r) c k g h =
      ors-before r _ _ (both (cond_sites c) _ g (conjunction-before t a (k + 1) (omega (arith, (wide-ors (derived.either t a r)).width)))) (omega (arith, (wide-ors (derived.either t a r)).width, (wide-conjunction t a).width))

  cond-before : (c : derived.Cond) (k : ℕ) → k + wide (flat_cond c) ≤ l → AllBefore (cond_sites (cond_at c k))
  unfolding cond_at
  cond-before (derived.cond t a r) k h =
      ors-before r (conjunction_at t a k) _ (conjunction-before t a k (omega (arith, (wide-cond (derived.cond t a r)).width))) (omega (arith, (wide-cond (derived.cond t a r)).width, (wide-conjunction t a).width))

  pub gate-before : (g : derived.Gate) (k : ℕ) → k + wide (flat_gate g) ≤ l → AllBefore (gate_sites (gate_at g k))
  unfolding gate_at gate_sites
  gate-before derived.no_gate k h = nothing
  gate-before (derived.gate c) k h = cond-before c (k + 1) (omega (arith, (wide-gate (derived.gate c)).width))

  -- ---- rates

  pub number-before : (v : derived.Number) (k : ℕ) → k + wide (flat_number v) ≤ l → AllBefore (number_sites (number_at v k))
  unfolding number_at number_sites
  number-before (derived.integer derived.whole) k h = one (whole false k) (omega (arith, (wide-number (derived.integer derived.whole)).width, (wide-whole derived.whole).width))
  number-before (derived.integer derived.negative) k h = one (whole true (k + 1)) (omega (arith, (wide-number (derived.integer derived.negative)).width, (wide-whole derived.negative).width))
  number-before derived.decimal k h = nothing
  number-before derived.negative_decimal k h = nothing

  scale-before : (s : derived.Scale) (k : ℕ) → k + wide (flat_scale s) ≤ l → AllBefore (scale_sites (scale_at s k))
  unfolding scale_at scale_sites
  scale-before (derived.fixed v) k h = number-before v k (omega (arith, (wide-scale (derived.fixed v)).width))
  scale-before derived.named k h = one (scale k) (omega (arith, (wide-scale derived.named).width))

  pub rate-before : (r : derived.Rate) (k : ℕ) → k + wide (flat_rate r) ≤ l → AllBefore (rate_sites (rate_at r k))
  unfolding rate_at rate_sites
  rate-before (derived.plain s) k h = scale-before s k (omega (arith, (wide-rate (derived.plain s)).width))
  rate-before (derived.scaled s a) k h =
      both (scale_sites (scale_at s k)) _ (scale-before s k (omega (arith, (wide-rate (derived.scaled s a)).width))) (atom-before a (k + wide (flat_scale s) + 1) (omega (arith, (wide-rate (derived.scaled s a)).width)))

  -- ---- actions

  values-before : (v : derived.Values) (k : ℕ) → k + wide (flat_values v) ≤ l → AllBefore (values_sites (values_at v k))
  unfolding values_at values_sites
  values-before (derived.one_value e) k h = expr-before e (k + 1) (omega (arith, (wide-values (derived.one_value e)).width))
  values-before (derived.two_values e f) k h = two-before e f (k + 1) 1 (omega (arith, (wide-values (derived.two_values e f)).width))

  sets-before : (s : derived.Sets) (k : ℕ) → k + wide (flat_sets s) ≤ l → AllBefore (sets_sites (sets_at s k))
  unfolding sets_at sets_sites
  sets-before (derived.one_set s) k h = set_before s (k + 1) (omega (arith, (wide-sets (derived.one_set s)).width))
  sets-before (derived.two_sets s r) k h =
      both (set_sites (set_at s (k + 1))) _ (set_before s (k + 1) (omega (arith, (wide-sets (derived.two_sets s r)).width))) (set_before r (k + 1 + wide (flat_set s) + 1) (omega (arith, (wide-sets (derived.two_sets s r)).width)))

  -- names parted by commas, n of them from token k on
  others-before : (n k : ℕ) (j : ℕ) → k + n + n ≤ l + 1 → In j (every_other k n) → j < l
  unfolding every_other
  others-before zero k j h i = absurd (nowhere i)
  others-before (suc n) k j h i = ⊎_elim (λ (e : j ≡ k). omega arith) (λ (m : In j (every_other (k + 2) n)). others-before n (k + 2) j (omega arith) m) (cases i)

  names-width : (n : derived.Names) → wide (flat_names n) + 1 ≡ count_names n + count_names n
  unfolding count_names
  names-width derived.last_name = omega (arith, (wide-names derived.last_name).width)
  names-width (derived.next_name r) = let h = names-width r in omega (arith, (wide-names (derived.next_name r)).width)

  pub names-before : (n : derived.Names) (k : ℕ) → k + wide (flat_names n) ≤ l → (j : ℕ) → In j (tokens_of (names_at n k)) → j < l
  unfolding tokens_of names_at
  names-before n k h j i = others-before (count_names n) k j (omega (arith, names-width n)) i

  lone-before : (k : ℕ) (b : Bool) → k < l → AllBefore (cond b [] (value k ∷ []))
  lone-before k true h = nothing
  lone-before k false h = one (value k) h

  item-before : (w : ℕ → List ℕ) (e : Syntax.Expr) → AllBefore (expr_sites e) → AllBefore (item_sites w e)
  unfolding item_sites expr_sites
  item-before w (Syntax.literal b k) h = h
  item-before w (Syntax.named k) h = lone-before k (is_lone w k) (h (value k) (head refl))
  item-before w (Syntax.absolute e) h = h
  item-before w (Syntax.binary o e f) h = h

  channel-before : (w : ℕ → List ℕ) (c : derived.Channel) (k : ℕ) → k + wide (flat_channel c) ≤ l → AllBefore (channel_sites w (channel_at c k))
  unfolding channel_sites channel_at
  channel-before w (derived.one_item e) k h = item-before w (expr_at e k) (expr-before e k (omega (arith, (wide-channel (derived.one_item e)).width)))
  channel-before w (derived.two_items e f) k h =
      let n = (wide-channel (derived.two_items e f)).width in
      both (item_sites w (expr_at e k)) _ (item-before w (expr_at e k) (expr-before e k (omega arith))) (item-before w (expr_at f (k + wide (flat_expr e) + 1)) (expr-before f (k + wide (flat_expr e) + 1) (omega arith)))
  channel-before w (derived.three_items e f g) k h =
      let n = (wide-channel (derived.three_items e f g)).width in
      let m = k + wide (flat_expr e) + 1 in
      both (item_sites w (expr_at e k)) _ (item-before w (expr_at e k) (expr-before e k (omega arith))) (both (item_sites w (expr_at f m)) _ (item-before w (expr_at f m) (expr-before f m (omega arith))) (item-before w (expr_at g (m + wide (flat_expr f) + 1)) (expr-before g (m + wide (flat_expr f) + 1) (omega arith))))

  -- a channel, and what follows it and a sign
  sending-before : (w : ℕ → List ℕ) (c : derived.Channel) (v : derived.Values) (k : ℕ) → k + wide (flat_channel c) + 1 + wide (flat_values v) ≤ l → AllBefore (channel_sites w (channel_at c k) ++ values_sites (values_at v (k + wide (flat_channel c) + 1)))
  sending-before w c v k h = both (channel_sites w (channel_at c k)) _ (channel-before w c k (omega arith)) (values-before v (k + wide (flat_channel c) + 1) (omega arith))

  asking-before : (w : ℕ → List ℕ) (c : derived.Channel) (s : derived.Sets) (k : ℕ) → k + wide (flat_channel c) + 1 + wide (flat_sets s) ≤ l → AllBefore (channel_sites w (channel_at c k) ++ sets_sites (sets_at s (k + wide (flat_channel c) + 1)))
  asking-before w c s k h = both (channel_sites w (channel_at c k)) _ (channel-before w c k (omega arith)) (sets-before s (k + wide (flat_channel c) + 1) (omega arith))

  binding-before : (w : ℕ → List ℕ) (c : derived.Channel) (s : derived.Sets) (n : derived.Names) (k : ℕ) → k + wide (flat_channel c) + 1 + wide (flat_sets s) + 1 + wide (flat_names n) ≤ l
      → AllBefore (channel_sites w (channel_at c k) ++ sets_sites (sets_at s (k + wide (flat_channel c) + 1)) ++ (bound (tokens_of (names_at n (k + wide (flat_channel c) + 1 + wide (flat_sets s) + 1))) (count_sets (sets_at s (k + wide (flat_channel c) + 1))) ∷ []))
  binding-before w c s n k h =
      both (channel_sites w (channel_at c k) ++ sets_sites (sets_at s (k + wide (flat_channel c) + 1))) _ (asking-before w c s k (omega arith)) (one _ (names-before n (k + wide (flat_channel c) + 1 + wide (flat_sets s) + 1) h))

  pub action-before : (w : ℕ → List ℕ) (a : derived.Action) (k : ℕ) → k + wide (flat_action a) ≤ l → AllBefore (action_sites w (action_at a k))
  unfolding action_at action_sites
  action-before w derived.wait k h = nothing
  action-before w (derived.launch c v) k h = sending-before w c v k (omega (arith, (wide-action (derived.launch c v)).width))
  action-before w (derived.kill c v) k h = sending-before w c v k (omega (arith, (wide-action (derived.kill c v)).width))
  action-before w (derived.receive c s) k h = asking-before w c s k (omega (arith, (wide-action (derived.receive c s)).width))
  action-before w (derived.bind c s n) k h = binding-before w c s n k (omega (arith, (wide-action (derived.bind c s n)).width))
  action-before w (derived.check c s) k h = asking-before w c s (k + 1) (omega (arith, (wide-action (derived.check c s)).width))
  action-before w (derived.hand_send c v) k h = sending-before w c v (k + 1) (omega (arith, (wide-action (derived.hand_send c v)).width))
  action-before w (derived.hand_receive c s) k h = asking-before w c s (k + 1) (omega (arith, (wide-action (derived.hand_receive c s)).width))
  action-before w (derived.hand_bind c s n) k h = binding-before w c s n (k + 1) (omega (arith, (wide-action (derived.hand_bind c s n)).width))
