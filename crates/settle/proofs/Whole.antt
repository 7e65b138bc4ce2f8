-- One walk over a model's nodes, from its first definition to the system line, leaves tables that represent the resolved model. From the walks over its parts.
use mathlib.Core.Path.{◌≡◌, refl, sym, ap, ◌∙◌, subst}
use mathlib.Core.List.{List, [], ◌∷◌, ◌++◌, append-nil, append_assoc, Memᴰ as In}
use mathlib.Core.Bool.{Bool, true, false, cond}
use mathlib.Core.Option.{some}
use Prim.Native.Nat.{ℕ, zero, suc, ◌+◌, ◌-◌, ◌≤◌, ◌<◌}
use native.Mathlib.Omega.{arith}
use lib.ListN.{length, get_or, get_elem?}
use Rattle.grammar.specs.Syntax
use Rattle.tree.specs.Node.{field, token_of, left_of, third_of}
use Rattle.tree.specs.Table
use Rattle.tree.proofs.Holds.{number-low}
use Rattle.model.specs.Lists.{each}
use Rattle.model.specs.Sites.{Scope, Variable, Definition, variables, definitions, definitions_in, system_in, system, starts_in, starts}
use Rattle.model.specs.Faults.{NotNew}
use Rattle.model.specs.Given.{meaning}
use Rattle.model.specs.Resolved
use Rattle.model.specs.Resolved.{is_channel_name, channel_names, definition_uses, firsts, resolve_start, all_sums, resolved}
use Rattle.model.proofs.Members.{got-below, got-some}
use Rattle.model.specs.Numbering.{count_definitions, DefinitionsFrom}
use Rattle.model.specs.Faultless.{scale_of, Faultless}
use Rattle.model.proofs.Channels.{firsts_more}
use Rattle.model.specs.Stands.{BranchIn}
use Rattle.model.proofs.Closes.{length-each}
use Rattle.names.proofs.Chains.{definitions-run}
use Rattle.tables.specs.Represents.{Represents, Starts}
use Rattle.settle.specs.Walks.{Role, role_at, Point, params_at, step_by, cell_of, step, walked, begun, point_at, scope_at}
use Rattle.settle.specs.Walks as role
use Rattle.settle.proofs.Moves.{Safe, Done, SumAt, Mark, marked-at, Moved}
use Rattle.settle.proofs.Heard.{met-length}
use Rattle.settle.proofs.Definitions.{Held, held_at, after, LineFine, Ends, definitions-going}

-- the definitions of a model stand after its variables' numbers and below the nodes of the variables
pub record Below (t : List ℕ) (m : Syntax.Model) (lo k : ℕ) : Type 0 where
  pub definitions : Syntax.Definitions
  pub holds : Table.Definitions t definitions (lo + length (variables m)) (k - length (variables m))
  pub lists : Rattle.model.specs.Sites.definitions m ≡ definitions_in definitions
  pub line : system m ≡ system_in definitions

pub below : (t : List ℕ) (m : Syntax.Model) (lo k : ℕ) → Table.Model t m lo k → Below t m lo k
unfolding Table.Model variables definitions system
below t (Syntax.definitions d) lo k h =
    let e : lo + 0 ≡ lo = omega arith in
    let f : k - 0 ≡ k = omega arith in
    record { definitions = d; holds = rw (e, f) h; lists = refl; line = refl }
below t (Syntax.variable n v m) lo k h =
    let b = below t m (h.left + 1) h.right h.holds-second in
    let z = number-low t v lo h.left h.holds-first in
    let e : h.left + 1 + length (variables m) ≡ lo + suc (length (variables m)) = omega arith in
    let f : h.right - length (variables m) ≡ k - suc (length (variables m)) = omega (arith, h.above) in
    record { definitions = b.definitions; holds = subst (λ (i : ℕ). Table.Definitions t b.definitions i (k - suc (length (variables m)))) e (subst (λ (i : ℕ). Table.Definitions t b.definitions (h.left + 1 + length (variables m)) i) f b.holds); lists = b.lists; line = b.line }

module _ (w : ℕ → List ℕ) (vs : List Variable) (ds : List Definition) (t : List ℕ) where
  -- ---- the channel names only grow, by one a node at most

  pub record Grows (xs ys : List ℕ) : Type 0 where
    pub more : List ℕ
    pub ends : ys ≡ xs ++ more
    pub few : length ys ≤ length xs + 1

  same_seen : (xs : List ℕ) → Grows xs xs
  same_seen xs = record { more = []; ends = sym (append-nil xs); few = omega arith }

  met-seen : (xs : List ℕ) (k : ℕ) (b : Bool) → Grows xs (cond b (firsts w vs xs (k ∷ [])) xs)
  met-seen xs k true = let f = firsts_more w vs xs (k ∷ []) in record { more = f.0; ends = f.1; few = (met-length w k vs xs).1 }
  met-seen xs k false = same_seen xs

  by-role : (r : Role) (c b : ℕ) (p : Point) → Grows p.seen (step_by w vs ds r c b p).seen
  unfolding step_by
  by-role (role.whole b) c q p = same_seen p.seen
  by-role role.name c q p = met-seen p.seen (token_of c) (is_channel_name (meaning w vs p.scope (token_of c)))
  by-role (role.number b d) c q p = same_seen p.seen
  by-role role.scale c q p = same_seen p.seen
  by-role role.action c q p = same_seen p.seen
  by-role role.ending c q p = same_seen p.seen
  by-role role.sum c q p = same_seen p.seen
  by-role role.call c q p = same_seen p.seen
  by-role role.definition c q p = same_seen p.seen
  by-role (role.item b) c q p = same_seen p.seen
  by-role role.plain c q p = same_seen p.seen

  seen_step : (i : ℕ) (p : Point) → Grows p.seen (step w vs ds t i p).seen
  unfolding step
  seen_step i p = by-role (role_at t i) (get_or t i 0) (third_of (get_or t (left_of (get_or t i 0)) 0)) p

  pub seen_more : (first a n : ℕ) (p : Point) → (more : List ℕ) × ((walked w vs ds t first (a + n) p).seen ≡ (walked w vs ds t first a p).seen ++ more)
  unfolding walked
  seen_more first a zero p = let e : a + 0 ≡ a = omega arith in rw e ([], sym (append-nil _))
  seen_more first a (suc n) p =
      let r = seen_more first a n p in
      let g = seen_step (first + (a + n)) (walked w vs ds t first (a + n) p) in
      let e : a + suc n ≡ suc (a + n) = omega arith in
      rw e (r.0 ++ g.more, g.ends ∙ ap (λ (l : List ℕ). l ++ g.more) r.1 ∙ append_assoc (walked w vs ds t first a p).seen r.0 g.more)

  pub seen_few : (first n : ℕ) (p : Point) → length (walked w vs ds t first n p).seen ≤ length p.seen + n
  unfolding walked
  seen_few first zero p = omega arith
  seen_few first (suc n) p =
      let r = seen_few first n p in
      let g = seen_step (first + n) (walked w vs ds t first n p) in
      omega (arith, g.few)

module _ (w : ℕ → List ℕ) (vs : List Variable) (ds : List Definition) (t : List ℕ) where
  counts-by : (r : Role) (c b : ℕ) (p : Point) → ((step_by w vs ds r c b p).sums ≤ p.sums + 1) × ((step_by w vs ds r c b p).definitions ≤ p.definitions + 1)
  unfolding step_by
  counts-by (role.whole b) c q p = (omega arith, omega arith)
  counts-by role.name c q p = (omega arith, omega arith)
  counts-by (role.number b d) c q p = (omega arith, omega arith)
  counts-by role.scale c q p = (omega arith, omega arith)
  counts-by role.action c q p = (omega arith, omega arith)
  counts-by role.ending c q p = (omega arith, omega arith)
  counts-by role.sum c q p = (omega arith, omega arith)
  counts-by role.call c q p = (omega arith, omega arith)
  counts-by role.definition c q p = (omega arith, omega arith)
  counts-by (role.item b) c q p = (omega arith, omega arith)
  counts-by role.plain c q p = (omega arith, omega arith)

  grows-by : (r : Role) (c b : ℕ) (p : Point) → p.definitions ≤ (step_by w vs ds r c b p).definitions
  unfolding step_by
  grows-by (role.whole b) c q p = omega arith
  grows-by role.name c q p = omega arith
  grows-by (role.number b d) c q p = omega arith
  grows-by role.scale c q p = omega arith
  grows-by role.action c q p = omega arith
  grows-by role.ending c q p = omega arith
  grows-by role.sum c q p = omega arith
  grows-by role.call c q p = omega arith
  grows-by role.definition c q p = omega arith
  grows-by (role.item b) c q p = omega arith
  grows-by role.plain c q p = omega arith

  -- definitions are never fewer later on
  pub definitions-more : (first a n : ℕ) (p : Point) → (walked w vs ds t first a p).definitions ≤ (walked w vs ds t first (a + n) p).definitions
  unfolding walked step
  definitions-more first a zero p = let e : a + 0 ≡ a = omega arith in rw e (omega arith)
  definitions-more first a (suc n) p =
      let r = definitions-more first a n p in
      let q = walked w vs ds t first (a + n) p in
      let g = grows-by (role_at t (first + (a + n))) (get_or t (first + (a + n)) 0) (third_of (get_or t (left_of (get_or t (first + (a + n)) 0)) 0)) q in
      let e : a + suc n ≡ suc (a + n) = omega arith in
      rw e (omega (arith, g, r))

  -- sums and definitions are counted one a node at most
  pub counts-few : (first n : ℕ) (p : Point) → ((walked w vs ds t first n p).sums ≤ p.sums + n) × ((walked w vs ds t first n p).definitions ≤ p.definitions + n)
  unfolding walked step
  counts-few first zero p = (omega arith, omega arith)
  counts-few first (suc n) p =
      let r = counts-few first n p in
      let q = walked w vs ds t first n p in
      let g = counts-by (role_at t (first + n)) (get_or t (first + n) 0) (third_of (get_or t (left_of (get_or t (first + n) 0)) 0)) q in
      (omega (arith, g.0, r.0), omega (arith, g.1, r.1))

module _ (w : ℕ → List ℕ) (m : Syntax.Model) (t : List ℕ) where
  abbrev pub vs : List Variable
  vs = variables m

  abbrev pub ds : List Definition
  ds = definitions m

  abbrev pub cs : List ℕ
  cs = channel_names w vs ds

  abbrev pub trace : ℕ → Point
  trace i = point_at w vs ds t i

  -- the first node of the definitions
  abbrev pub first : ℕ
  first = length vs

  -- each node takes the walk a step on
  pub steps_on : (i : ℕ) → first ≤ i → trace (i + 1) ≡ step w vs ds t i (trace i)
  unfolding point_at walked
  steps_on i l =
      let e : i + 1 - first ≡ suc (i - first) = omega arith in
      let f : first + (i - first) ≡ i = omega arith in
      rw e (ap (λ (j : ℕ). step w vs ds t j (walked w vs ds t first (i - first) (begun w vs ds))) f)

  pub trace-begun : trace first ≡ begun w vs ds
  unfolding point_at walked
  trace-begun = let e : first - first ≡ 0 = omega arith in rw e

  pub names-few : (i : ℕ) → length (trace i).seen ≤ i
  unfolding point_at
  names-few i = let h = seen_few w vs ds t first (i - first) (begun w vs ds) in omega arith

  pub numbers-few : (i : ℕ) → ((trace i).sums ≤ i) × ((trace i).definitions ≤ i)
  unfolding point_at
  numbers-few i = let h = counts-few w vs ds t first (i - first) (begun w vs ds) in (omega (arith, h.0), omega (arith, h.1))

  names_more : (i j : ℕ) → first ≤ i → i ≤ j → (more : List ℕ) × ((trace j).seen ≡ (trace i).seen ++ more)
  unfolding point_at
  names_more i j f l =
      let e : j - first ≡ i - first + (j - i) = omega arith in
      rw e (seen_more w vs ds t first (i - first) (j - i) (begun w vs ds))

  definitions-later : (i j : ℕ) → first ≤ i → i ≤ j → (trace i).definitions ≤ (trace j).definitions
  unfolding point_at
  definitions-later i j f l =
      let e : j - first ≡ i - first + (j - i) = omega arith in
      rw e (definitions-more w vs ds t first (i - first) (j - i) (begun w vs ds))

  module _ (root : ℕ) (ok : Faultless w m) (new : (k : ℕ) → NotNew w m k → ⊥) (told : ℕ → Type 0) (decimals : (sc : Scope) (i k : ℕ) (g : Syntax.Gate) (x : Syntax.Action) (r : Syntax.Rate) (n : Syntax.Next) → BranchIn m sc i (Syntax.branch k g x r n) → (b : Bool) (j : ℕ) → scale_of r ≡ Syntax.fixed (Syntax.number b true j) → told j) (h : Table.Model t m 0 root) where
    -- the system line's node, and the first after it
    abbrev pub line : ℕ
    line = root - length vs - length ds

    abbrev pub last : ℕ
    last = line + 1

    pub definitions-below : length ds ≤ root - length vs
    definitions-below =
        let b = below t m 0 root h in
        let r = (definitions-run t b.definitions (0 + length vs) (root - length vs) b.holds).1 in
        omega (arith, ap length b.lists)

    module _ (t' roots scopes : List ℕ) where
      ends : Ends w m ok new told decimals t t' roots scopes trace first last (λ i l u. steps_on i l) ds (system m) (begun w vs ds) 0 first (root - length vs)
      unfolding starts
      ends =
          let b = below t m 0 root h in
          let e : 0 + length vs ≡ length vs = omega arith in
          let fine : LineFine w m ok new told decimals t t' roots scopes trace first last (λ i l u. steps_on i l) (system m) = record { values = λ x b k i j. ok.values x b k i j; counts = λ c k r i. ok.counts c k r i } in
          let all = definitions-going w m ok new told decimals t t' roots scopes trace first last (λ i l u. steps_on i l) b.definitions (begun w vs ds) 0 first (root - length vs) (rw e at b.holds)
          (λ i. let z : 0 + i ≡ i = omega arith in ap (params_at ds) z ∙ ap (λ (es : List Definition). params_at es i) b.lists) refl (λ e i. subst (λ (es : List Definition). In e es) (sym b.lists) i)
          (subst (λ (es : List Definition). DefinitionsFrom es 0) b.lists ok.numbering) (subst (λ (s : Syntax.System). LineFine w m ok new told decimals t t' roots scopes trace first last (λ i l u. steps_on i l) s) b.line fine) (omega arith) (omega (arith, ap length b.lists)) trace-begun in
          subst (λ (es : List Definition). Ends w m ok new told decimals t t' roots scopes trace first last (λ i l u. steps_on i l) es (system m) (begun w vs ds) 0 first (root - length vs)) (sym b.lists)
          (subst (λ (s : Syntax.System). Ends w m ok new told decimals t t' roots scopes trace first last (λ i l u. steps_on i l) (definitions_in b.definitions) s (begun w vs ds) 0 first (root - length vs)) (sym b.line) all)

      moved : Moved w vs ds cs told t t' roots scopes trace first last first line (after w m ok new told decimals t t' roots scopes trace first last (λ i l u. steps_on i l) (begun w vs ds) ds) 0 (count_definitions ds) (all_sums w vs ds cs 0 ds) (Held w m ok new told decimals t t' roots scopes trace first last (λ i l u. steps_on i l) ds (root - length vs) × Starts t' (each (λ x. resolve_start w vs ds cs x ∷ []) (starts_in (system m))) line)
      unfolding Ends
      moved = ends

      -- ---- before the walk: what each node has, and that sums have different numbers

      pub node-safe : (i : ℕ) → first ≤ i → i ≤ line → Safe w vs ds cs told t t' roots scopes trace first last i
      node-safe = moved.safe

      pub number-below : (i : ℕ) → first ≤ i → i ≤ line → role_at t i ≡ role.sum → (token_of (get_or t i 0) < count_definitions ds) × (0 < i)
      number-below i f l s = let h = moved.numbers i f l s in (omega (arith, h.1), h.2)

      pub node-linked : (i : ℕ) → first ≤ i → i ≤ line → role_at t i ≡ role.ending → (first ≤ left_of (get_or t i 0)) × (left_of (get_or t i 0) < i) × (role_at t (left_of (get_or t i 0)) ≡ role.action)
      node-linked = moved.linked

      pub numbers_apart : (i j : ℕ) → first ≤ i → i ≤ line → first ≤ j → j ≤ line → role_at t i ≡ role.sum → role_at t j ≡ role.sum → token_of (get_or t i 0) ≡ token_of (get_or t j 0) → i ≡ j
      numbers_apart = moved.apart

      pub line_after : first ≤ line
      line_after = moved.low

      -- ---- after it

      pub sums-after : (trace last).sums ≡ count_definitions ds
      sums-after = ap (λ (p : Point). p.sums) moved.after ∙ omega arith

      -- a node's definition is one of them, or past the last
      pub definitions-few : (i : ℕ) → first ≤ i → i ≤ line → (trace i).definitions ≤ length ds
      definitions-few i f l = let e = ap (λ (p : Point). p.definitions) moved.after in omega (arith, e, definitions-later i last f (omega arith))

      pub names-after : (trace last).seen ≡ cs
      unfolding channel_names
      names-after = ap (λ (p : Point). p.seen) moved.after

      module _ (room : root < field) (cells : (i : ℕ) → first ≤ i → i < last → get_or t' i 0 ≡ cell_of w vs ds t i (trace i))
          (sums : (i : ℕ) → first ≤ i → i < last → role_at t i ≡ role.sum → (get_or roots (token_of (get_or t i 0)) 0 ≡ i - 1) × (get_or scopes (token_of (get_or t i 0)) 0 ≡ scope_at (trace i)))
          (outside : (i : ℕ) → last ≤ i → get_or t' i 0 ≡ get_or t i 0) (roots-fit : count_definitions ds ≤ length roots) (scopes-fit : count_definitions ds ≤ length scopes) where
        done : Done w vs ds cs told t t' roots scopes trace first last
        done =
            record {
              cells = cells;
              sums = sums;
              names = λ i f l. let q = names_more i last f l in (q.0, sym names-after ∙ q.1);
              few = let q = names-few last in let z = ap length names-after in omega arith;
            }

        mark : (n : ℕ) (s : Resolved.Sum) → get_elem? (all_sums w vs ds cs 0 ds) n ≡ some s → Mark w vs ds cs told t t' roots scopes trace first last s n
        mark n s e = let z : 0 + n ≡ n = omega arith in rw z at (marked-at w vs ds cs told t t' roots scopes trace first last (all_sums w vs ds cs 0 ds) 0 n s (moved.marks done) e)

        -- each sum has a node
        pub sum-node : (n : ℕ) → n < count_definitions ds → SumAt w vs ds cs told t t' roots scopes trace first last n
        sum-node n l = let s = got-some (all_sums w vs ds cs 0 ds) n (omega (arith, moved.count)) in (mark n s.0 s.1).node

        pub represented : Represents t' roots scopes root (length vs) (length ds) (count_definitions ds) (length cs) (resolved w m)
        unfolding resolved starts
        represented =
            let x = moved.holds done in
            record {
              sums-are = sym moved.count;
              roots-fit = roots-fit;
              scopes-fit = scopes-fit;
              branches = λ n s e. let k = mark n s e in k.branches;
              scope = λ n s e. let k = mark n s e in k.scope;
              definitions-are = sym (length-each Resolved.defined ds);
              definition = λ d e g.
                  let l = got-below (each (λ x. Resolved.defined x ∷ []) ds) d g in
                  let z = length-each Resolved.defined ds in
                  let same : get_or t' (root - length vs - d) 0 ≡ get_or t (root - length vs - d) 0 = outside (root - length vs - d) (omega (arith, definitions-below)) in
                  rw same (held_at w m ok new told decimals t t' roots scopes trace first last (λ i l u. steps_on i l) ds (root - length vs) d e x.0 g);
              channels-are = refl;
              starts = x.1;
            }
