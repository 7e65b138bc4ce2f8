-- The sums of a syntax tree are numbered from 0 in the order in which the tree holds them, each before those in its continuations. By induction
-- on the derivation; assumes nothing.
use mathlib.Core.Path.{◌≡◌, refl}
use Prim.Native.Nat.{ℕ, ◌+◌}
use native.Mathlib.Omega.{arith}
use Rattle.grammar.specs.Grammar as derived
use Rattle.grammar.specs.Syntax
use Rattle.grammar.specs.Syntax.{sums_prefix, sums_next, sums_cont, sums_item, sums_items, sums_choices, branch_at, next_at, cont_at, item_at, conts_at, branches_at, sum_at, sums_at, body_at, sums_sums, sums_body, definitions_at, model_at, syntax_of}
use Rattle.model.specs.Sites.{definitions_in, definitions}
use Rattle.model.specs.Numbering.{count_sum, count_branches, count_branch, count_next, count_cont, count_conts, count_sums, SumFrom, BranchesFrom, BranchFrom, NextFrom, ContFrom, ContsFrom, SumsFrom, DefinitionsFrom}

-- ---- a tree from a derivation has as many sums as the derivation, numbered from n on

mutual
  unfolding branch_at next_at cont_at item_at conts_at branches_at sums_prefix sums_next sums_cont sums_item sums_items sums_choices

  prefix-from : (p : derived.Prefix) (k n : ℕ) → BranchFrom (branch_at p k n) n × (count_branch (branch_at p k n) ≡ sums_prefix p)
  prefix-from (derived.prefix g a r x) k n = next-from x _ n

  next-from : (x : derived.Next) (k n : ℕ) → NextFrom (next_at x k n) n × (count_next (next_at x k n) ≡ sums_next x)
  next-from derived.stop k n = (tt, refl)
  next-from (derived.dot c) k n = cont-from c (k + 1) n

  cont-from : (c : derived.Cont) (k n : ℕ) → ContFrom (cont_at c k n) n × (count_cont (cont_at c k n) ≡ sums_cont c)
  cont-from (derived.chain p) k n = let h = prefix-from p k (n + 1) in ((refl, h.0), omega (arith, h.1))
  cont-from (derived.call a) k n = (tt, refl)
  cont-from (derived.group i r) k n =
      let h = item_from i (k + 1) n in
      let g = items-from r (item_at i (k + 1) n) (k + 1 + Syntax.wide (derived.flat_item i)) n (n + sums_item i) h.0 (omega (arith, h.1)) in
      (g.0, omega (arith, h.1, g.1))

  item_from : (i : derived.Item) (k n : ℕ) → ContFrom (item_at i k n) n × (count_cont (item_at i k n) ≡ sums_item i)
  item_from (derived.item_sum p r) k n =
      let h = prefix-from p k (n + 1) in
      let g = choices-from r (branch_at p k (n + 1)) _ (n + 1) (n + 1 + sums_prefix p) h.0 (omega (arith, h.1)) in
      ((refl, g.0), omega (arith, h.1, g.1))
  item_from (derived.item_call a) k n = (tt, refl)
  item_from (derived.item_group i r) k n =
      let h = item_from i (k + 1) n in
      let g = items-from r (item_at i (k + 1) n) (k + 1 + Syntax.wide (derived.flat_item i)) n (n + sums_item i) h.0 (omega (arith, h.1)) in
      (g.0, omega (arith, h.1, g.1))

  items-from : (r : derived.Items) (c : Syntax.Cont) (k n₀ n : ℕ) → ContFrom c n₀ → n ≡ n₀ + count_cont c → ContsFrom (conts_at c r k n) n₀ × (count_conts (conts_at c r k n) ≡ count_cont c + sums_items r)
  items-from derived.close c k n₀ n h e = (h, omega arith)
  items-from (derived.also i r) c k n₀ n h e =
      let f = item_from i (k + 1) n in
      let g = items-from r (item_at i (k + 1) n) (k + 1 + Syntax.wide (derived.flat_item i)) n (n + sums_item i) f.0 (omega (arith, f.1)) in
      ((h, rw (← e) g.0), omega (arith, f.1, g.1))

  choices-from : (r : derived.Choices) (b : Syntax.Branch) (k n₀ n : ℕ) → BranchFrom b n₀ → n ≡ n₀ + count_branch b → BranchesFrom (branches_at b r k n) n₀ × (count_branches (branches_at b r k n) ≡ count_branch b + sums_choices r)
  choices-from derived.no_choices b k n₀ n h e = (h, omega arith)
  choices-from (derived.or p r) b k n₀ n h e =
      let f = prefix-from p (k + 1) n in
      let g = choices-from r (branch_at p (k + 1) n) (k + 1 + Syntax.wide (derived.flat_prefix p)) n (n + sums_prefix p) f.0 (omega (arith, f.1)) in
      ((h, rw (← e) g.0), omega (arith, f.1, g.1))

sum-from : (p : derived.Prefix) (r : derived.Choices) (k n : ℕ) → SumFrom (sum_at p r k n) n × (count_sum (sum_at p r k n) ≡ 1 + sums_prefix p + sums_choices r)
unfolding sum_at
sum-from p r k n =
    let h = prefix-from p k (n + 1) in
    let g = choices-from r (branch_at p k (n + 1)) (k + Syntax.wide (derived.flat_prefix p)) (n + 1) (n + 1 + sums_prefix p) h.0 (omega (arith, h.1)) in
    ((refl, g.0), omega (arith, h.1, g.1))

sums-from : (r : derived.Sums) (s : Syntax.Sum) (k n₀ n : ℕ) → SumFrom s n₀ → n ≡ n₀ + count_sum s → SumsFrom (sums_at s r k n) n₀ × (count_sums (sums_at s r k n) ≡ count_sum s + sums_sums r)
unfolding sums_at sums_sums
sums-from derived.no_sums s k n₀ n h e = (h, omega arith)
sums-from (derived.beside p c r) s k n₀ n h e =
    let f = sum-from p c (k + 1) n in
    let g = sums-from r (sum_at p c (k + 1) n) (k + 1 + Syntax.wide (λ ts. derived.flat_prefix p (derived.flat_choices c ts))) n (n + 1 + sums_prefix p + sums_choices c) f.0 (omega (arith, f.1)) in
    ((h, rw (← e) g.0), omega (arith, f.1, g.1))

body-from : (b : derived.Body) (k n : ℕ) → SumsFrom (body_at b k n) n × (count_sums (body_at b k n) ≡ sums_body b)
unfolding body_at sums_body
body-from (derived.body p c r) k n =
    let f = sum-from p c k n in
    let g = sums-from r (sum_at p c k n) (k + Syntax.wide (λ ts. derived.flat_prefix p (derived.flat_choices c ts))) n (n + 1 + sums_prefix p + sums_choices c) f.0 (omega (arith, f.1)) in
    (g.0, omega (arith, f.1, g.1))

definitions-from : (d : derived.Definitions) (k n : ℕ) → DefinitionsFrom (definitions_in (definitions_at d k n)) n
unfolding definitions_in definitions_at
definitions-from (derived.last_definition p b s) k n = ((body-from b _ n).0, tt)
definitions-from (derived.next_definition p b d) k n =
    let f = body-from b (k + 1 + Syntax.wide (derived.flat_params p) + 1) n in
    (f.0, rw f.1 (definitions-from d _ (n + sums_body b)))

model-from : (m : derived.Model) (k : ℕ) → DefinitionsFrom (definitions (model_at m k)) 0
unfolding definitions model_at
model-from (derived.definitions d) k = definitions-from d k 0
model-from (derived.variable v m) k = model-from m _

-- the sums of a text are numbered from 0
pub numbered : (m : derived.Model) → DefinitionsFrom (definitions (syntax_of m)) 0
unfolding syntax_of
numbered m = model-from m 0
