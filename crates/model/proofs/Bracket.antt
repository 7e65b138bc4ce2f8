-- Where question 9 compares names with sets, the token it gives is the `(` before the names. From where branches are written: only a binding action
-- has a site of names.
use mathlib.Core.Path.{◌≡◌, refl, sym, ap, subst}
use mathlib.Core.List.Memᴰ.{append_cases}
use mathlib.Core.List.Memᴰ.{eq_of_singleton}
use mathlib.Core.List.Memᴰ.{not-nil as nowhere}
use mathlib.Core.List.{List, [], ◌∷◌, ◌++◌, Memᴰ as In}
use mathlib.Core.Bool.{Bool, true, false, cond}
use mathlib.Core.Option.{some}
use mathlib.Core.Logic.{⊎_elim}
use Prim.Native.Nat.{ℕ, ◌+◌, ◌-◌}
use native.Mathlib.Numerals.{add-one}
use native.Mathlib.Omega.{arith}
use lib.ListN.{drop, get_or, get_elem?}
use Rattle.token.specs.Kind as kind
use Rattle.token.specs.Token.{tokens, kinds_of}
use Rattle.grammar.specs.Grammar as derived
use Rattle.grammar.specs.Grammar.{Reads, flat_sets, flat_names, flat_channel, flat_action, flat_gate, flat_prefix}
use Rattle.grammar.specs.Syntax
use Rattle.grammar.specs.Syntax.{wide, sets_at, count_names, names_at, channel_at, action_at, branch_at, syntax_of}
use Rattle.grammar.proofs.Wide.{wide-sets, wide-channel, wide-gate}
use Rattle.model.specs.Lists.{every_other}
use Rattle.model.specs.Sites.{Scope, Site, whole, value, scale, bound, branch, call, expr_sites, exprs_sites, set_sites, cond_sites, gate_sites, number_sites, scale_sites, rate_sites, is_lone, item_sites, channel_sites, values_sites, sets_sites, count_sets, tokens_of, action_sites, args_sites}
use Rattle.model.specs.Words.{word_of}
use Rattle.model.specs.Stands.{BranchIn, SiteIn, beginning, in_gate, in_action, in_rate, calling, in_call}
use Rattle.model.specs.Questions.{Yes5}
use Rattle.model.proofs.Lone.{action_in}
use Rattle.model.proofs.Origins.{past, next-token, token-is, written}

-- ---- no names but in binding actions

-- a site of an expression or a number
abbrev Simple : Site → Type 0
Simple (whole b k) = Unit {0}
Simple (value k) = Unit {0}
Simple (scale k) = Unit {0}
Simple (bound ks n) = ⊥
Simple (branch i k) = ⊥
Simple (call k n) = ⊥

abbrev AllSimple : List Site → Type 0
AllSimple xs = (x : Site) → In x xs → Simple x

both : (xs ys : List Site) → AllSimple xs → AllSimple ys → AllSimple (xs ++ ys)
both xs ys h g x i = ⊎_elim (λ (j : In x xs). h x j) (λ (j : In x ys). g x j) (append_cases xs i)

simple-expr : (e : Syntax.Expr) → AllSimple (expr_sites e)
unfolding expr_sites
simple-expr (Syntax.literal b k) = λ x i. subst (λ (y : Site). Simple y) (sym (eq_of_singleton i)) tt
simple-expr (Syntax.named k) = λ x i. subst (λ (y : Site). Simple y) (sym (eq_of_singleton i)) tt
simple-expr (Syntax.absolute e) = simple-expr e
simple-expr (Syntax.binary o e f) = both (expr_sites e) (expr_sites f) (simple-expr e) (simple-expr f)

simple-exprs : (r : Syntax.Exprs) → AllSimple (exprs_sites r)
unfolding exprs_sites
simple-exprs (Syntax.last_expr e) = simple-expr e
simple-exprs (Syntax.next_expr e r) = both (expr_sites e) (exprs_sites r) (simple-expr e) (simple-exprs r)

simple-args : (a : Syntax.Args) → AllSimple (args_sites a)
unfolding args_sites
simple-args Syntax.no_args = λ x i. absurd (nowhere i)
simple-args (Syntax.args r) = simple-exprs r

simple-set : (s : Syntax.Set) → AllSimple (set_sites s)
unfolding set_sites
simple-set (Syntax.single e) = simple-expr e
simple-set (Syntax.range e f) = both (expr_sites e) (expr_sites f) (simple-expr e) (simple-expr f)
simple-set (Syntax.joined j s r) = both (set_sites s) (set_sites r) (simple-set s) (simple-set r)

simple-cond : (c : Syntax.Cond) → AllSimple (cond_sites c)
unfolding cond_sites
simple-cond (Syntax.compare b r e f) = both (expr_sites e) (expr_sites f) (simple-expr e) (simple-expr f)
simple-cond (Syntax.both c d) = both (cond_sites c) (cond_sites d) (simple-cond c) (simple-cond d)
simple-cond (Syntax.either c d) = both (cond_sites c) (cond_sites d) (simple-cond c) (simple-cond d)

simple-gate : (g : Syntax.Gate) → AllSimple (gate_sites g)
unfolding gate_sites
simple-gate Syntax.no_gate = λ x i. absurd (nowhere i)
simple-gate (Syntax.gate c) = simple-cond c

one : (x : Site) → Simple x → AllSimple (x ∷ [])
one x h y i = subst (λ (z : Site). Simple z) (sym (eq_of_singleton i)) h

simple-number : (v : Syntax.Number) → AllSimple (number_sites v)
unfolding number_sites
simple-number (Syntax.number b false k) = one _ tt
simple-number (Syntax.number b true k) = λ x i. absurd (nowhere i)

simple-scale : (s : Syntax.Scale) → AllSimple (scale_sites s)
unfolding scale_sites
simple-scale (Syntax.fixed v) = simple-number v
simple-scale (Syntax.named_scale k) = one _ tt

simple-rate : (r : Syntax.Rate) → AllSimple (rate_sites r)
unfolding rate_sites
simple-rate (Syntax.plain s) = simple-scale s
simple-rate (Syntax.scaled s e) = both (scale_sites s) (expr_sites e) (simple-scale s) (simple-expr e)

simple-lone : (k : ℕ) (b : Bool) → AllSimple (cond b [] (value k ∷ []))
simple-lone k true = λ x i. absurd (nowhere i)
simple-lone k false = one _ tt

simple-item : (w : ℕ → List ℕ) (c : Syntax.Expr) → AllSimple (item_sites w c)
unfolding item_sites
simple-item w (Syntax.literal b k) = simple-expr (Syntax.literal b k)
simple-item w (Syntax.named k) = simple-lone k (is_lone w k)
simple-item w (Syntax.absolute e) = simple-expr (Syntax.absolute e)
simple-item w (Syntax.binary o e f) = simple-expr (Syntax.binary o e f)

simple-channel : (w : ℕ → List ℕ) (c : Syntax.Channel) → AllSimple (channel_sites w c)
unfolding channel_sites
simple-channel w (Syntax.one_item e) = simple-item w e
simple-channel w (Syntax.two_items e f) = both (item_sites w e) (item_sites w f) (simple-item w e) (simple-item w f)
simple-channel w (Syntax.three_items e f g) = both (item_sites w e) (item_sites w f ++ item_sites w g) (simple-item w e) (both (item_sites w f) (item_sites w g) (simple-item w f) (simple-item w g))

simple-values : (w : ℕ → List ℕ) (c : Syntax.Channel) (v : Syntax.Values) → AllSimple (channel_sites w c ++ values_sites v)
unfolding values_sites
simple-values w c (Syntax.one_value e) = both (channel_sites w c) (expr_sites e) (simple-channel w c) (simple-expr e)
simple-values w c (Syntax.two_values e f) = both (channel_sites w c) (expr_sites e ++ expr_sites f) (simple-channel w c) (both (expr_sites e) (expr_sites f) (simple-expr e) (simple-expr f))

simple-sets : (w : ℕ → List ℕ) (c : Syntax.Channel) (s : Syntax.Sets) → AllSimple (channel_sites w c ++ sets_sites s)
unfolding sets_sites
simple-sets w c (Syntax.one_set s) = both (channel_sites w c) (set_sites s) (simple-channel w c) (simple-set s)
simple-sets w c (Syntax.two_sets s r) = both (channel_sites w c) (set_sites s ++ set_sites r) (simple-channel w c) (both (set_sites s) (set_sites r) (simple-set s) (simple-set r))

-- ---- the bracket

-- the names' first token
first-other : (c k : ℕ) → get_or (every_other k (c + 1)) 0 0 ≡ k
unfolding every_other
first-other c k = rw (add-one c)

first-name : (n : derived.Names) (k : ℕ) → get_or (tokens_of (names_at n k)) 0 0 ≡ k
unfolding tokens_of names_at count_names every_other
first-name derived.last_name k = refl
first-name (derived.next_name r) k = first-other (count_names r) k

module _ (w : ℕ → List ℕ) (ts : List ℕ) where
  -- the bracket stands before them
  abbrev Bracketed : List ℕ → Type 0
  Bracketed ks = get_elem? ts (get_or ks 0 0 - 1) ≡ some kind.open_round

  bind-bracket : (c : derived.Channel) (s : derived.Sets) (n : derived.Names) (k : ℕ) (us : List ℕ) (ks : List ℕ) (q : ℕ)
      → drop k ts ≡ flat_channel c (kind.query ∷ flat_sets s (kind.open_round ∷ flat_names n (kind.close_round ∷ us)))
      → In (bound ks q) (channel_sites w (channel_at c k) ++ sets_sites (sets_at s (k + wide (flat_channel c) + 1)) ++ (bound (tokens_of (names_at n (k + wide (flat_channel c) + 1 + wide (flat_sets s) + 1))) (count_sets (sets_at s (k + wide (flat_channel c) + 1))) ∷ []))
      → Bracketed ks
  bind-bracket c s n k us ks q d i =
      ⊎_elim (λ (j : In (bound ks q) (channel_sites w (channel_at c k) ++ sets_sites (sets_at s (k + wide (flat_channel c) + 1)))). absurd (simple-sets w (channel_at c k) (sets_at s (k + wide (flat_channel c) + 1)) (bound ks q) j))
      (λ (j : In (bound ks q) (bound (tokens_of (names_at n (k + wide (flat_channel c) + 1 + wide (flat_sets s) + 1))) (count_sets (sets_at s (k + wide (flat_channel c) + 1))) ∷ [])). found (eq_of_singleton j)) (append_cases _ i)
    where
      p : ℕ
      p = k + wide (flat_channel c) + 1 + wide (flat_sets s)

      there : get_elem? ts p ≡ some kind.open_round
      there = token-is ts p (past ts (k + wide (flat_channel c) + 1) _ (wide-sets s) (next-token ts (k + wide (flat_channel c)) (past ts k _ (wide-channel c) d)))

      found : bound ks q ≡ bound (tokens_of (names_at n (p + 1))) (count_sets (sets_at s (k + wide (flat_channel c) + 1))) → Bracketed ks
      found e =
          let f : ks ≡ tokens_of (names_at n (p + 1)) = cc in
          let g : get_or ks 0 0 - 1 ≡ p = omega (arith, ap (λ (x : List ℕ). get_or x 0 0) f, first-name n (p + 1)) in
          rw g there

  action-bracket : (a : derived.Action) (k : ℕ) (us : List ℕ) (ks : List ℕ) (q : ℕ) → drop k ts ≡ flat_action a us → In (bound ks q) (action_sites w (action_at a k)) → Bracketed ks
  unfolding flat_action action_at action_sites
  action-bracket derived.wait k us ks q d i = absurd (nowhere i)
  action-bracket (derived.launch c v) k us ks q d i = absurd (simple-values w _ _ (bound ks q) i)
  action-bracket (derived.kill c v) k us ks q d i = absurd (simple-values w _ _ (bound ks q) i)
  action-bracket (derived.receive c s) k us ks q d i = absurd (simple-sets w _ _ (bound ks q) i)
  action-bracket (derived.bind c s n) k us ks q d i = bind-bracket c s n k us ks q d i
  action-bracket (derived.check c s) k us ks q d i = absurd (simple-sets w _ _ (bound ks q) i)
  action-bracket (derived.hand_send c v) k us ks q d i = absurd (simple-values w _ _ (bound ks q) i)
  action-bracket (derived.hand_receive c s) k us ks q d i = absurd (simple-sets w _ _ (bound ks q) i)
  action-bracket (derived.hand_bind c s n) k us ks q d i = bind-bracket c s n (k + 1) us ks q (next-token ts k d) i

  prefix-bracket : (p : derived.Prefix) (k n : ℕ) (us : List ℕ) (ks : List ℕ) (q : ℕ) → drop k ts ≡ flat_prefix p us → In (bound ks q) (action_sites w (action_in (branch_at p k n))) → Bracketed ks
  unfolding flat_prefix branch_at
  prefix-bracket (derived.prefix g a r x) k n us ks q d i =
      action-bracket a (k + wide (flat_gate g) + 1) _ ks q (next-token ts (k + wide (flat_gate g)) (past ts k _ (wide-gate g) d)) i

  module _ (m : derived.Model) (reads : Reads ts m) where
    branch-bracket : {sc : Scope} {i : ℕ} (b : Syntax.Branch) (ks : List ℕ) (q : ℕ) → BranchIn (syntax_of m) sc i b → In (bound ks q) (action_sites w (action_in b)) → Bracketed ks
    branch-bracket b ks q h i =
        let o = written ts m reads h in
        prefix-bracket o.prefix o.place o.number o.rest ks q o.text (subst (λ (x : Syntax.Branch). In (bound ks q) (action_sites w (action_in x))) o.tree i)

    by-site : {sc : Scope} (x : Site) (ks : List ℕ) (q : ℕ) → SiteIn w (syntax_of m) sc x → x ≡ bound ks q → Bracketed ks
    by-site x ks q (beginning h) e = absurd (let z : ◌≡◌ {A = ℕ} 0 1 = cc in omega arith)
    by-site x ks q (in_gate {g = g} h i) e = absurd (subst (λ (y : Site). Simple y) e (simple-gate g x i))
    by-site x ks q (in_action {a = a} h i) e = branch-bracket _ ks q h (subst (λ (y : Site). In y (action_sites w a)) e i)
    by-site x ks q (in_rate {r = r} h i) e = absurd (subst (λ (y : Site). Simple y) e (simple-rate r x i))
    by-site x ks q (calling h l) e = absurd (let z : ◌≡◌ {A = ℕ} 0 1 = cc in omega arith)
    by-site x ks q (in_call {es = es} h l i) e = absurd (subst (λ (y : Site). Simple y) e (simple-args es x i))

-- the token that question 9 gives for names against sets is a `(`
pub bracket-before : (text : List ℕ) (s : Syntax.Model) → Yes5 text s → {sc : Scope} {ks : List ℕ} {n : ℕ} → SiteIn (word_of text) s sc (bound ks n) → get_elem? (kinds_of (tokens text)) (get_or ks 0 0 - 1) ≡ some kind.open_round
bracket-before text s y5 {sc} {ks} {n} h =
    by-site (word_of text) (kinds_of (tokens text)) y5.reading y5.reads (bound ks n) ks n (subst (λ (m : Syntax.Model). SiteIn (word_of text) m sc (bound ks n)) (sym y5.tree) h) refl
