-- Walking the definitions and then the system line resolves a model's whole tree: definitions, sums by their numbers, items. By induction on the tree, where no question found a fault.
use mathlib.Core.Path.{◌≡◌, refl, sym, ap, ◌∙◌, subst}
use mathlib.Core.List.Memᴰ.{head}
use mathlib.Core.List.Memᴰ.{tail}
use mathlib.Core.List.{List, [], ◌∷◌, ◌++◌, append-nil, Memᴰ as In}
use mathlib.Core.Bool.{Bool, true}
use mathlib.Core.Option.{some}
use Prim.Native.Nat.{ℕ, zero, suc, ◌+◌, ◌-◌, ◌≤◌, ◌<◌}
use native.Mathlib.Numerals.{add-one}
use native.Mathlib.Omega.{arith}
use lib.ListN.{length, get_or, get_elem?}
use Rattle.value.specs.Range.{InRange}
use Rattle.word.specs.Number.{worth}
use Rattle.grammar.specs.Syntax
use Rattle.tree.specs.Node as node
use Rattle.tree.specs.Node.{field, kind_of, token_of, left_of, third_of, number_kind}
use Rattle.tree.specs.Table
use Rattle.tree.specs.Table.{Node, One, Two}
use Rattle.tree.proofs.Cells.{node-kind, node-left, node-third}
use Rattle.tree.proofs.Holds.{sums-interval, system-interval, definition-interval}
use Rattle.model.specs.Lists.{each}
use Rattle.model.specs.Sites.{Scope, whole, tokens_of, Variable, Definition, variables, definitions, definitions_in, system_in, starts_in, params_of}
use Rattle.model.specs.Words.{whole_of}
use Rattle.model.specs.Limits.{local_limit, count_limit}
use Rattle.model.specs.Stands.{sums_of, SumIn, defined, BranchIn}
use Rattle.model.specs.Faults.{NotNew, start_list, start_wholes}
use Rattle.model.specs.Resolved
use Rattle.model.specs.Resolved.{channel_names, sum_uses, sums_uses, definition_uses, firsts, sum_number, sum_numbers, resolve_start, sum_tree, sums_tree, all_sums, resolved}
use Rattle.model.specs.Numbering.{count_sum, count_sums, count_definitions, SumsFrom, DefinitionsFrom}
use Rattle.model.specs.Faultless.{scale_of, Faultless}
use Rattle.model.proofs.Channels.{firsts-append}
use Rattle.names.proofs.Scopes.{every-length}
use Rattle.tables.specs.Settled.{Index, Pair}
use Rattle.tables.specs.Represents as represents
use Rattle.tables.specs.Represents.{Starts}
use Rattle.settle.specs.Walks.{Role, role_of, role_at, Point, params_at, cell_by, step_by, cell_of, step, SafeBy}
use Rattle.settle.specs.Walks as role
use Rattle.settle.proofs.Moves.{Moved, Moves, Does, plain-does, moved-with, moved_to, moved-both, moved-node, two}
use Rattle.settle.proofs.Branches.{on, on-on, sum-going}
use Rattle.settle.proofs.Lines.{system-stays}

module _ (w : ℕ → List ℕ) (m : Syntax.Model) (ok : Faultless w m) (new : (k : ℕ) → NotNew w m k → ⊥) (told : ℕ → Type 0) (decimals : (sc : Scope) (i k : ℕ) (g : Syntax.Gate) (x : Syntax.Action) (r : Syntax.Rate) (n : Syntax.Next) → BranchIn m sc i (Syntax.branch k g x r n) → (b : Bool) (j : ℕ) → scale_of r ≡ Syntax.fixed (Syntax.number b true j) → told j) (t t' roots scopes : List ℕ) (trace : ℕ → Point) (first last : ℕ)
    (steps : (i : ℕ) → first ≤ i → i < last → trace (i + 1) ≡ step w (variables m) (definitions m) t i (trace i)) where
  abbrev vs : List Variable
  vs = variables m

  abbrev ds : List Definition
  ds = definitions m

  abbrev cs : List ℕ
  cs = channel_names w vs ds

  -- ---- a definition's sums

  sums-pair : {k : ℕ} (n : ℕ) (ns : List ℕ) → 0 < length ns → Pair t' node.beside (Index t' node.sum n) (represents.Sums t' ns) k → represents.Sums t' (n ∷ ns) k
  unfolding represents.Sums
  sums-pair n [] l h = absurd (omega arith)
  sums-pair n (o ∷ ns) l h = h

  numbers-some : (s : Syntax.Sums) → 0 < length (sum_numbers s)
  unfolding sum_numbers
  numbers-some (Syntax.last_sum s) = omega arith
  numbers-some (Syntax.next_sum s r) = omega arith

  sums-going : (s : Syntax.Sums) (p : Point) (a : ℕ) → length p.scope ≤ local_limit → ((x : Syntax.Sum) → In x (sums_of s) → SumIn m p.scope x) → SumsFrom s a
      → Moves w vs ds cs told t t' roots scopes trace first last p (on w m ok new told decimals t t' roots scopes trace first last steps p (sums_uses w vs p.scope s) (count_sums s)) a (count_sums s) (sums_tree w vs ds cs p.definitions p.scope s) (Table.Sums t s) (represents.Sums t' (sum_numbers s))
  unfolding Table.Sums sums_uses sums_tree sums_of sum_numbers represents.Sums role_of number_kind
  sums-going (Syntax.last_sum s) p a few l f lo k h u v e = sum-going w m ok new told decimals t t' roots scopes trace first last steps s p a few (l s (head refl)) f lo k h u v e
  sums-going (Syntax.next_sum s r) p a few l f lo k h u v e =
      let q = on w m ok new told decimals t t' roots scopes trace first last steps p (sum_uses w vs p.scope s) (count_sum s) in
      moved_to w vs ds cs told t t' roots scopes trace first last (on-on w m ok new told decimals t t' roots scopes trace first last steps p (sum_uses w vs p.scope s) (sums_uses w vs p.scope r) (count_sum s) (count_sums r))
      (moved-with w vs ds cs told t t' roots scopes trace first last
      (two w vs ds cs told t t' roots scopes trace first last steps (omega arith) (λ lo left k x u l n. plain-does w vs ds cs told t t' roots scopes trace first last steps (omega arith) refl n) (λ lo k x. (sums-interval r).low x)
      (λ lo k h u v e. sum-going w m ok new told decimals t t' roots scopes trace first last steps s p a few (l s (head refl)) f.0 lo k h u v e)
      (λ lo k h u v e. sums-going r q (a + count_sum s) few (λ x i. l x (tail i)) f.1 lo k h u v e) lo k h u v e)
      (λ x y. sums-pair (sum_number s) (sum_numbers r) (numbers-some r) y))

  -- ---- a definition

  after-definition : Point → Scope → Syntax.Sums → Point
  after-definition p sc b = record { scope = params_at ds (p.definitions + 1); seen = firsts w vs p.seen (sums_uses w vs sc b); sums = p.sums + count_sums b; definitions = p.definitions + 1 }

  definition-does : {k token left third : ℕ} (p : Point) → Node t k node.definition token left third
      → Does w vs ds cs told t t' roots scopes trace first last steps k p (record { scope = params_at ds (p.definitions + 1); seen = p.seen; sums = p.sums; definitions = p.definitions + 1 }) (get_or t k 0)
  unfolding step cell_of step_by cell_by role_of number_kind
  definition-does {k} p n =
      let r : role_at t k ≡ role.definition = ap role_of (node-kind n (omega arith)) in
      record { step_is = rw r; safe = rw r tt; becomes = rw r; other = λ x. absurd (let z : ◌≡◌ {A = ℕ} 0 1 = cc (r, x) in omega arith); linked = λ x. absurd (let z : ◌≡◌ {A = ℕ} 0 1 = cc (r, x) in omega arith) }

  one-going : (j : ℕ) (e : Definition) (p : Point) (a : ℕ) → In e ds → e.params ≡ p.scope → SumsFrom e.sums a
      → Moves w vs ds cs told t t' roots scopes trace first last p (after-definition p p.scope e.sums) a (count_sums e.sums) (sums_tree w vs ds cs p.definitions e.params e.sums) (One t node.definition j (length e.params) (Table.Sums t e.sums)) (represents.Definition t' (Resolved.defined e))
  unfolding after-definition Resolved.defined
  one-going j e p a i s f lo k h u v x =
      let l = ok.parameters e i in
      let few : length p.scope ≤ local_limit = rw (← s) (omega arith) in
      let y = sums-going e.sums p a few (λ x j. subst (λ (sc : Scope). SumIn m sc x) s (defined i j)) f lo h.root h.holds u (omega (arith, h.above)) x in
      rw s
      (moved-with w vs ds cs told t t' roots scopes trace first last
      (moved-node w vs ds cs told t t' roots scopes trace first last steps y h.above u v (definition-does (on w m ok new told decimals t t' roots scopes trace first last steps p (sums_uses w vs p.scope e.sums) (count_sums e.sums)) h.node))
      (λ q z. record {
        root = h.root;
        above = h.above;
        kind-is = ap kind_of z.1 ∙ node-kind h.node (omega arith);
        params_are = ap third_of z.1 ∙ node-third h.node (omega arith) ∙ ap length s;
        holds = z.0;
      }))

  definition-one : (j : ℕ) (q : Syntax.Params) (b : Syntax.Sums) (lo k : ℕ) → Table.Definition t j q b lo k → One t node.definition j (length (params_of q)) (Table.Sums t b) lo k
  unfolding Table.Definition params_of tokens_of
  definition-one j Syntax.no_params b lo k h = h
  definition-one j (Syntax.params (Syntax.names f n)) b lo k h = rw (every-length f n) h.2

  -- ---- definitions, and the system line below them

  -- each definition of a list, in the nodes to the left of those from k down
  abbrev pub Held : List Definition → ℕ → Type 0
  Held [] k = Unit {0}
  Held (e ∷ es) k = represents.Definition t' (Resolved.defined e) (left_of (get_or t k 0)) × Held es (k - 1)

  pub held_at : (es : List Definition) (k j : ℕ) (x : Resolved.Defined) → Held es k → get_elem? (each (λ d. Resolved.defined d ∷ []) es) j ≡ some x → represents.Definition t' x (left_of (get_or t (k - j) 0))
  unfolding each
  held_at [] k j x h e = absurd (let z : ◌≡◌ {A = ℕ} 0 1 = cc in omega arith)
  held_at (d ∷ es) k zero x h e =
      let q : Resolved.defined d ≡ x = cc in
      let z : k - 0 ≡ k = omega arith in
      rw (z, ← q) h.0
  held_at (d ∷ es) k (suc j) x h e = let z : k - suc j ≡ k - 1 - j = omega arith in rw z (held_at es (k - 1) j x h.1 e)

  point_at : {xs ys : List ℕ} {i j m n : ℕ} → xs ≡ ys → i ≡ j → m ≡ n → ◌≡◌ {A = Point} (record { scope = params_at ds m; seen = xs; sums = i; definitions = m }) (record { scope = params_at ds n; seen = ys; sums = j; definitions = n })
  point_at e f g = rw (e, f, g)

  -- what is known after the definitions es
  abbrev pub after : Point → List Definition → Point
  after p es = record { scope = params_at ds (p.definitions + length es); seen = firsts w vs p.seen (each (definition_uses w vs) es); sums = p.sums + count_definitions es; definitions = p.definitions + length es }

  -- what the system line's values and counts keep to
  pub record LineFine (s : Syntax.System) : Type 0 where
    pub values : (x : Syntax.Start) (b : Bool) (k : ℕ) → In x (starts_in s) → In (whole b k) (start_wholes (start_list x)) → InRange (whole_of w b k)
    pub counts : (c k : ℕ) (r : Syntax.Starts) → In (Syntax.counted c k r) (starts_in s) → worth 0 (w c) ≤ count_limit

  scope-after : (p : Point) (sc : Scope) (b : Syntax.Sums) → (after-definition p sc b).scope ≡ params_at ds (after-definition p sc b).definitions
  unfolding after-definition
  scope-after p sc b = refl

  tail-after : (p : Point) (sc : Scope) (b : Syntax.Sums) (i : ℕ) → params_at ds ((after-definition p sc b).definitions + i) ≡ params_at ds (p.definitions + suc i)
  unfolding after-definition
  tail-after p sc b i = let r : p.definitions + 1 + i ≡ p.definitions + suc i = omega arith in ap (params_at ds) r

  -- the system line stands after the definitions
  line_low : (d : Syntax.Definitions) (lo k : ℕ) → Table.Definitions t d lo k → lo ≤ k - length (definitions_in d)
  unfolding Table.Definitions definitions_in
  line_low (Syntax.last_definition n q b s) lo k h = omega (arith, h.above, (definition-interval n q b).low h.holds-first, (system-interval s).low h.holds-second)
  line_low (Syntax.next_definition n q b d) lo k h = omega (arith, h.above, (definition-interval n q b).low h.holds-first, line_low d (h.left + 1) h.right h.holds-second)

  -- the walk over definitions and the system line
  unfoldable pub Ends : List Definition → Syntax.System → Point → ℕ → ℕ → ℕ → Type 0
  Ends es s p a lo k = Moved w vs ds cs told t t' roots scopes trace first last lo (k - length es) (after p es) a (count_definitions es) (all_sums w vs ds cs p.definitions es) (Held es k × Starts t' (each (λ x. resolve_start w vs ds cs x ∷ []) (starts_in s)) (k - length es))

  last-going : (e : Definition) (n : ℕ) (q : Syntax.Params) (s : Syntax.System) (p : Point) (a lo k : ℕ) → e.params ≡ params_of q → Two t node.last 0 0 (Table.Definition t n q e.sums) (Table.System t s) lo k → params_of q ≡ p.scope
      → In e ds → SumsFrom e.sums a → LineFine s → first ≤ lo → k - 1 < last → trace lo ≡ p → Ends (e ∷ []) s p a lo k
  unfolding Ends all_sums each definition_uses after-definition
  last-going g n q s p a lo k same h sc inside f line u v e =
      let o = h.above in
      let b = g.sums in
      let low = (system-interval s).low h.holds-second in
      let end : k - 1 ≡ h.right = omega arith in
      let one = rw (← same) at (definition-one n q b lo h.left h.holds-first) in
      let x = one-going n g p a inside (same ∙ sc) f lo h.left one u (omega arith) e in
      let y = system-stays w m ok.definitions told t t' roots scopes trace first last steps (after-definition p p.scope b) s line.values line.counts (a + count_sums b) (h.left + 1) h.right h.holds-second (omega (arith, x.low)) (omega arith) x.after in
      let i = node-left h.node (omega arith) in
      let j : firsts w vs p.seen (sums_uses w vs p.scope b) ≡ firsts w vs p.seen (sums_uses w vs g.params b ++ []) = ap (firsts w vs p.seen) (sym (append-nil (sums_uses w vs p.scope b)) ∙ ap (λ (r : Scope). sums_uses w vs r b ++ []) (sym (same ∙ sc))) in
      let c : p.sums + count_sums b ≡ p.sums + (count_sums b + 0) = omega arith in
      rw end (moved_to w vs ds cs told t t' roots scopes trace first last (point_at j c refl) (moved-with w vs ds cs told t t' roots scopes trace first last (moved-both w vs ds cs told t t' roots scopes trace first last x y) (λ r z. ((rw i z.0, tt), z.1))))

  next-going : (e : Definition) (es : List Definition) (n : ℕ) (q : Syntax.Params) (d : Syntax.Definitions) (s : Syntax.System) (p : Point) (a lo k : ℕ) → e.params ≡ params_of q
      → (h : Two t node.next 0 0 (Table.Definition t n q e.sums) (Table.Definitions t d) lo k) → h.left + 1 ≤ h.right - length es → params_of q ≡ p.scope → In e ds → SumsFrom e.sums a → first ≤ lo → k - suc (length es) < last → trace lo ≡ p
      → (first ≤ h.left + 1 → h.right - length es < last → trace (h.left + 1) ≡ after-definition p p.scope e.sums → Ends es s (after-definition p p.scope e.sums) (a + count_sums e.sums) (h.left + 1) h.right)
      → Ends (e ∷ es) s p a lo k
  unfolding Ends all_sums each definition_uses after-definition
  next-going g es n q d s p a lo k same h low sc inside f u v e rest =
      let o = h.above in
      let b = g.sums in
      let end : k - suc (length es) ≡ h.right - length es = omega arith in
      let before : k - 1 ≡ h.right = omega arith in
      let one = rw (← same) at (definition-one n q b lo h.left h.holds-first) in
      let x = one-going n g p a inside (same ∙ sc) f lo h.left one u (omega arith) e in
      let y = rest (omega (arith, x.low)) (omega arith) x.after in
      let i = node-left h.node (omega arith) in
      let j : firsts w vs (firsts w vs p.seen (sums_uses w vs p.scope b)) (each (definition_uses w vs) es) ≡ firsts w vs p.seen (sums_uses w vs g.params b ++ each (definition_uses w vs) es) =
      sym (firsts-append w vs p.seen (sums_uses w vs p.scope b) (each (definition_uses w vs) es)) ∙ ap (λ (r : Scope). firsts w vs p.seen (sums_uses w vs r b ++ each (definition_uses w vs) es)) (sym (same ∙ sc)) in
      let c : p.sums + count_sums b + count_definitions es ≡ p.sums + (count_sums b + count_definitions es) = omega arith in
      let l : p.definitions + 1 + length es ≡ p.definitions + suc (length es) = omega arith in
      let y' = subst (λ (j : ℕ). Moved w vs ds cs told t t' roots scopes trace first last (h.left + 1) (h.right - length es) (after (after-definition p p.scope b) es) (a + count_sums b) (count_definitions es) (all_sums w vs ds cs j es) (Held es h.right × Starts t' (each (λ x. resolve_start w vs ds cs x ∷ []) (starts_in s)) (h.right - length es))) (add-one p.definitions) y in
      rw (end, before) (moved_to w vs ds cs told t t' roots scopes trace first last (point_at j c l) (moved-with w vs ds cs told t t' roots scopes trace first last (moved-both w vs ds cs told t t' roots scopes trace first last x y') (λ r z. ((rw i z.0, z.1.0), z.1.1))))

  pub definitions-going : (d : Syntax.Definitions) (p : Point) (a lo k : ℕ) → Table.Definitions t d lo k → ((i : ℕ) → params_at ds (p.definitions + i) ≡ params_at (definitions_in d) i) → p.scope ≡ params_at ds p.definitions
      → ((e : Definition) → In e (definitions_in d) → In e ds) → DefinitionsFrom (definitions_in d) a → LineFine (system_in d) → first ≤ lo → k - length (definitions_in d) < last → trace lo ≡ p → Ends (definitions_in d) (system_in d) p a lo k
  unfolding Table.Definitions definitions_in system_in params_at
  definitions-going (Syntax.last_definition n q b s) p a lo k h tail-is scope-is inside f line u v e =
      let z : p.definitions + 0 ≡ p.definitions = omega arith in
      last-going (record { name = n; params = params_of q; sums = b }) n q s p a lo k refl h (sym (scope-is ∙ ap (params_at ds) (sym z) ∙ tail-is 0)) (inside _ (head refl)) f.0 line u v e
  definitions-going (Syntax.next_definition n q b d) p a lo k h tail-is scope-is inside f line u v e =
      let z : p.definitions + 0 ≡ p.definitions = omega arith in
      next-going (record { name = n; params = params_of q; sums = b }) (definitions_in d) n q d (system_in d) p a lo k refl h (line_low d (h.left + 1) h.right h.holds-second) (sym (scope-is ∙ ap (params_at ds) (sym z) ∙ tail-is 0)) (inside _ (head refl)) f.0 u v e
      (λ u' v' e'. definitions-going d (after-definition p p.scope b) (a + count_sums b) (h.left + 1) h.right h.holds-second (λ i. tail-after p p.scope b i ∙ tail-is (suc i)) (scope-after p p.scope b) (λ g i. inside g (tail i)) f.1 line u' v' e')
