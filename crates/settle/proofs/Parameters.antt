-- A definition's parameters are every second token after its name, as many as its node says. From what the table of nodes holds.
use mathlib.Core.Path.{◌≡◌, refl, sym, ap, ap₂, ◌∙◌}
use mathlib.Core.List.Memᴰ.{head}
use mathlib.Core.List.Memᴰ.{tail}
use mathlib.Core.List.{List, [], ◌∷◌, Memᴰ as In}
use Prim.Native.Nat.{ℕ, zero, suc, ◌+◌, ◌-◌, ◌*◌, ◌≤◌, ◌<◌}
use native.Mathlib.Omega.{arith}
use lib.ListN.{length, get_or}
use Rattle.grammar.specs.Syntax
use Rattle.grammar.proofs.Follows.{inside}
use Rattle.tree.specs.Node as node
use Rattle.tree.specs.Node.{field, kind_of, token_of, left_of, third_of, number_kind}
use Rattle.tree.specs.Table
use Rattle.tree.specs.Table.{Node, Two}
use Rattle.tree.proofs.Cells.{node-kind, node-token, node-left, node-third}
use Rattle.tree.proofs.Holds.{system-interval, definitions-interval}
use Rattle.model.specs.Lists.{every_other}
use Rattle.model.specs.Sites.{Definition, definitions_in, params_of, tokens_of, variables}
use Rattle.model.specs.Limits.{local_limit, parameter_limit}
use Rattle.names.specs.declared.Question.TheVariants.{Given}
use Rattle.names.specs.declared.Lists.{Lists}
use Rattle.names.specs.declared.scope.Scope.{Scope}
use Rattle.names.specs.Placed.{Named, Fits, SortFits, sort_of}
use Rattle.names.specs.Settings.{Extended, Scoped}
use Rattle.names.proofs.Scopes.{every-length}
use Rattle.settle.specs.declared.Walk.{Walk}
use Rattle.settle.specs.Walks.{params_at, begun}
use Rattle.settle.specs.Places.{Lookup, word_in, kinds_in, variables_in, definitions_of, Knows}
use Rattle.settle.proofs.Whole.{below}
use Rattle.settle.proofs.Finds.{definitions-reach}
use Rattle.settle.proofs.Kids.{none-hung}

-- definition j, listed in the node i
pub record Listed (t : List ℕ) (es : List Definition) (j i : ℕ) : Type 0 where
  pub left : ℕ
  pub left_is : left_of (get_or t i 0) ≡ left
  pub near : left < i
  pub kind-is : kind_of (get_or t left 0) ≡ node.definition
  pub params_are : params_at es j ≡ every_other (token_of (get_or t left 0) + 2) (third_of (get_or t left 0))
  pub found : Definition
  pub member : In found es
  pub same : found.params ≡ params_at es j

definition-listed : (t : List ℕ) (n : ℕ) (q : Syntax.Params) (b : Syntax.Sums) (lo k : ℕ) → Table.Definition t n q b lo k → (kind_of (get_or t k 0) ≡ node.definition) × (params_of q ≡ every_other (token_of (get_or t k 0) + 2) (third_of (get_or t k 0)))
unfolding Table.Definition params_of tokens_of every_other
definition-listed t n Syntax.no_params b lo k h = (node-kind h.node (omega arith), rw (node-third h.node (omega arith)))
definition-listed t n (Syntax.params (Syntax.names f m)) b lo k h =
    (node-kind h.2.node (omega arith), ap₂ every_other (h.0 ∙ ap (λ (i : ℕ). i + 2) (sym (node-token h.2.node (omega arith)))) (sym (node-third h.2.node (omega arith))))

first-listed : (t : List ℕ) (κ : ℕ) (n : ℕ) (q : Syntax.Params) (b : Syntax.Sums) (es : List Definition) (lo left k : ℕ) → κ < 256 → Node t k κ 0 left 0 → left < k → Table.Definition t n q b lo left
    → Listed t (record { name = n; params = params_of q; sums = b } ∷ es) 0 (k - 0)
unfolding params_at
first-listed t κ n q b es lo left k l x near d =
    let e : k - 0 ≡ k = omega arith in
    let r = definition-listed t n q b lo left d in
    rw e (record { left = left; left_is = node-left x l; near = near; kind-is = r.0; params_are = r.1; found = record { name = n; params = params_of q; sums = b }; member = head refl; same = refl })

pub definitions-listed : (t : List ℕ) (d : Syntax.Definitions) (lo k : ℕ) → Table.Definitions t d lo k → (j : ℕ) → j < length (definitions_in d) → Listed t (definitions_in d) j (k - j)
unfolding Table.Definitions definitions_in params_at
definitions-listed t (Syntax.last_definition n q b s) lo k h zero l =
    first-listed t node.last n q b [] lo h.left k (omega arith) h.node (omega (arith, h.above, (system-interval s).low h.holds-second)) h.holds-first
definitions-listed t (Syntax.last_definition n q b s) lo k h (suc j) l = absurd (omega arith)
definitions-listed t (Syntax.next_definition n q b d) lo k h zero l =
    first-listed t node.next n q b (definitions_in d) lo h.left k (omega arith) h.node (omega (arith, h.above, (definitions-interval d).low h.holds-second)) h.holds-first
definitions-listed t (Syntax.next_definition n q b d) lo k h (suc j) l =
    let r = definitions-listed t d (h.left + 1) h.right h.holds-second j (omega arith) in
    let e : k - suc j ≡ h.right - j = omega (arith, h.above) in
    rw e (record { left = r.left; left_is = r.left_is; near = r.near; kind-is = r.kind-is; params_are = r.params_are; found = r.found; member = tail r.member; same = r.same })

params-past : (es : List Definition) (d : ℕ) → length es ≤ d → params_at es d ≡ []
unfolding params_at
params-past [] d l = refl
params-past (e ∷ es) zero l = absurd (omega arith)
params-past (e ∷ es) (suc d) l = params-past es d (omega arith)

-- ---- the cases of `parameters_of`
module _ {low high nodes : List ℕ} {lists : Lists} (h : Lookup low high nodes lists) (d : ℕ) where
  pub no-parameters : (r : Scope) → lists.definitions ≤ d → length r.names ≡ local_limit → r.count ≡ 0 → Scoped Given (kinds_in h) r (params_at (definitions_of h) d)
  no-parameters r l full none =
      let e = params-past (definitions_of h) d (omega (arith, h.base.world.gathered.definitions-are)) in
      rw e (record { full = full; count = none ∙ omega arith; locals_are = λ q. rw none; named = tt })

  module _ (l : d < lists.definitions) where
    listed : Listed h.table (definitions_of h) d (lists.root - lists.variables - d)
    listed =
        let w = h.base.world in
        let b = below h.table w.model 0 lists.root w.holds in
        let r = definitions-listed h.table b.definitions (0 + length (variables w.model)) (lists.root - length (variables w.model)) b.holds d (omega (arith, w.gathered.definitions-are, ap length b.lists)) in
        rw (w.gathered.variables-are, b.lists) r

    cell-is : get_or nodes (left_of (get_or nodes (lists.root - lists.variables - d) 0)) 0 ≡ get_or h.table listed.left 0
    cell-is = ap (λ (c : ℕ). get_or nodes (left_of c) 0) (h.kept.chain d l) ∙ h.kept.definitions d l ∙ ap (λ (i : ℕ). get_or h.table i 0) listed.left_is

    pub parameters-inside : (lists.variables ≤ lists.root) × (d ≤ lists.root - lists.variables) × (lists.root - lists.variables - d < length nodes) × (left_of (get_or nodes (lists.root - lists.variables - d) 0) < length nodes)
    parameters-inside =
        let r = definitions-reach h in
        let x = r.each d l in
        let y = listed.near in
        (omega arith, omega (arith, r.count), x.node, x.left)

    module _ (c : ℕ) (is : c ≡ get_or nodes (left_of (get_or nodes (lists.root - lists.variables - d) 0)) 0) where
      here : c ≡ get_or h.table listed.left 0
      here = is ∙ cell-is

      params_is : params_at (definitions_of h) d ≡ every_other (token_of c + 2) (third_of c)
      params_is = rw here listed.params_are

      fits : SortFits (sort_of node.definition) (kinds_in h) (token_of c) (third_of c)
      fits =
          let y = listed.near in
          let f = h.base.world.placed listed.left (omega arith) in
          let g : Fits (kinds_in h) c = rw here f in
          rw (ap kind_of here ∙ listed.kind-is) at g

      named : Named (kinds_in h) (every_other (token_of c + 2) (third_of c))
      unfolding sort_of SortFits number_kind
      named = fits.1

      few : third_of c ≤ parameter_limit
      few = let e = ap length (listed.same ∙ params_is) in omega (arith, h.base.short listed.found listed.member, every-length (token_of c + 2) (third_of c))

      token-small : token_of c < 4096
      unfolding sort_of SortFits number_kind
      token-small = let e = inside (kinds_in h) (token_of c) (omega (arith, fits.0)) in omega (arith, h.base.world.few)

      pub parameters-room : token_of c + 2 + 2 * third_of c ≤ field
      parameters-room = omega (arith, token-small, few)

      pub with-parameters : (none r : Scope) → none.count ≡ 0 → Extended none (every_other (token_of c + 2) (third_of c)) r → Scoped Given (kinds_in h) r (params_at (definitions_of h) d)
      with-parameters none r z x =
          let n = every-length (token_of c + 2) (third_of c) in
          rw params_is
          (record {
            full = x.full;
            count = x.count ∙ rw z (omega (arith, n));
            locals_are = λ q. x.names-are (rw z (omega (arith, n, few))) ∙ rw z;
            named = named;
          })

-- what the walk holds before the first definition
pub first-known : {low high nodes : List ℕ} {lists : Lists} (h : Lookup low high nodes lists) (heard : List ℕ) (walk : Walk) → Scoped Given (kinds_in h) walk.scope (params_at (definitions_of h) 0) → walk.sums ≡ 0 → walk.definitions ≡ 0
    → Knows low high (kinds_in h) heard 0 walk (begun (word_in h) (variables_in h) (definitions_of h))
first-known {low} {high} h heard walk s n d = record { scoped = s; channels = refl; hung = none-hung low high heard; named = tt; sums = n; definitions = d }
