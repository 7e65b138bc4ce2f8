-- What the walk holds after a node is what it then knows. From the laws of scopes that grow and shrink.
use mathlib.Core.Path.{◌≡◌, sym, ap, ◌∙◌}
use mathlib.Core.List.{List, [], ◌∷◌, ◌++◌}
use mathlib.Core.Bool.{◌&&◌}
use mathlib.Core.Logic.{inl, inr}
use Prim.Native.Nat.{ℕ, zero, suc, ◌+◌, ◌-◌, ◌*◌, ◌≤◌, ◌<◌}
use native.Mathlib.Omega.{arith}
use borrow.Author.Tests.{le-leb, lt-leb}
use lib.Dec.{leb}
use lib.ListN.{length, get_or, take, length-append, length-take}
use lib.Seq.{take-take, length-take-le}
use Rattle.tree.specs.Node.{field, kind_of, token_of, left_of, third_of, number_kind}
use Rattle.model.specs.Lists.{every_other}
use Rattle.model.specs.Limits.{local_limit}
use Rattle.names.specs.declared.Question.TheVariants.{Given}
use Rattle.names.specs.declared.Lists.{Lists}
use Rattle.names.specs.declared.scope.Scope.{Scope}
use Rattle.names.specs.Placed.{Named, SortFits, sort_of}
use Rattle.names.specs.Settings.{Extended, Scoped}
use Rattle.names.proofs.Scopes.{every-length, every-inside}
use Rattle.settle.specs.declared.Walk.{Walk}
use Rattle.settle.specs.Walks.{name, role_of, Point, params_at, step_by, Binds}
use Rattle.settle.specs.Places.{word_in, kinds_in, variables_in, definitions_of, Knows, Turn, turned}
use Rattle.settle.proofs.Finds.{asks}
use Rattle.settle.proofs.Roles.{action-role, ending-role, step-none}

-- ---- the cases of `is_among`
pub among_second : (a κ b : ℕ) → a ≤ κ → leb κ b ≡ (leb a κ && leb κ b)
among_second a κ b l = rw (le-leb a κ l)

pub among_first : (a κ b : ℕ) → κ < a → leb a κ ≡ (leb a κ && leb κ b)
among_first a κ b l = rw (lt-leb a κ l)

named-append : (ts ks ls : List ℕ) → Named ts ks → Named ts ls → Named ts (ks ++ ls)
named-append ts [] ls h g = g
named-append ts (k ∷ ks) ls h g = (h.0, named-append ts ks ls h.1 g)

named-front : (ts ks : List ℕ) (n : ℕ) → Named ts ks → Named ts (take n ks)
named-front ts ks zero h = tt
named-front ts [] (suc n) h = tt
named-front ts (k ∷ ks) (suc n) h = (h.0, named-front ts ks n h.1)

module _ {low high nodes : List ℕ} {lists : Lists} {heard : List ℕ} {met : ℕ} {walk : Walk} {c : ℕ} (h : Turn low high nodes lists heard met walk c) where
  abbrev p : Point
  p = h.point

  abbrev ts : List ℕ
  ts = kinds_in h.at

  abbrev sc : Scoped Given ts walk.scope p.scope
  sc = h.knows.scoped

  -- in another scope
  scoped-as : (r : Walk) (scope : List ℕ) → Scoped Given ts r.scope scope → r.sums ≡ walk.sums → r.definitions ≡ walk.definitions
      → Knows low high ts heard met r (record { scope = scope; seen = p.seen; sums = p.sums; definitions = p.definitions })
  scoped-as r scope s b d = record { scoped = s; channels = h.knows.channels; hung = h.knows.hung; named = h.knows.named; sums = b ∙ h.knows.sums; definitions = d ∙ h.knows.definitions }

  -- ---- an action
  module _ (l : 36 ≤ kind_of c) (u : kind_of c ≤ 44) where
    action-safe : (length p.scope + third_of c ≤ local_limit) × Binds (kind_of c) (third_of c)
    action-safe = rw (action-role (kind_of c) l u) at h.safe

    bound-named : Binds (kind_of c) (third_of c) → Named ts (every_other (token_of c) (third_of c))
    unfolding sort_of SortFits number_kind every_other
    bound-named (inl e) = (rw e at h.fits).2
    bound-named (inr (inl e)) = (rw e at h.fits).2
    bound-named (inr (inr e)) = rw e tt

    room_for : (n : ℕ) → Named ts (every_other (token_of c) n) → n ≤ local_limit → token_of c + 2 * n ≤ field
    unfolding token_of
    room_for zero q l = omega arith
    room_for (suc n) q l = let e = every-inside ts (token_of c) (suc n) q (omega arith) in omega (arith, h.at.base.world.few)

    pub action-room : token_of c + 2 * third_of c ≤ field
    action-room = room_for (third_of c) (bound-named action-safe.1) (omega (arith, action-safe.0))

    pub after-action : (s : Scope) (r : Walk) → Extended walk.scope (every_other (token_of c) (third_of c)) s → r.scope ≡ s → r.sums ≡ walk.sums → r.definitions ≡ walk.definitions → Knows low high ts heard met r (turned h)
    unfolding step_by
    after-action s r x e b d =
        let n = every-length (token_of c) (third_of c) in
        let m = length-append p.scope (every_other (token_of c) (third_of c)) in
        let k : Scoped Given ts s (p.scope ++ every_other (token_of c) (third_of c)) =
        record {
          full = x.full;
          count = x.count ∙ omega (arith, sc.count, action-safe.0);
          locals_are = λ q. x.names-are (omega (arith, sc.count, action-safe.0)) ∙ ap (λ (l : List ℕ). l ++ every_other (token_of c) (third_of c)) (sc.locals_are q);
          named = named-append ts p.scope (every_other (token_of c) (third_of c)) sc.named (bound-named action-safe.1);
        } in
        rw (action-role (kind_of c) l u) (scoped-as r (p.scope ++ every_other (token_of c) (third_of c)) (rw e k) b d)

  -- ---- the end of a branch
  module _ (l : 45 ≤ kind_of c) (u : kind_of c ≤ 46) where
    pub ending-inside : left_of c < length nodes
    ending-inside = h.inside (ending-role (kind_of c) l u)

    module _ (n : ℕ) (is : n ≡ third_of (get_or nodes (left_of c) 0)) where
      fewer : n ≤ length p.scope
      fewer = rw is (rw (ending-role (kind_of c) l u) at h.safe)

      counted : walk.scope.count ≡ length p.scope
      counted = omega (arith, sc.count, ap length (sc.locals_are (asks h.at)), length-take walk.scope.count walk.scope.names)

      pub ending-few : n ≤ walk.scope.count
      ending-few = omega (arith, fewer, counted)

      pub after-ending : (s : Scope) (r : Walk) → s.names ≡ walk.scope.names → s.count ≡ walk.scope.count - n → r.scope ≡ s → r.sums ≡ walk.sums → r.definitions ≡ walk.definitions → Knows low high ts heard met r (turned h)
      unfolding step_by
      after-ending s r x y e b d =
          let z = length-take-le (length p.scope - n) p.scope (omega arith) in
          let q : s.count ≡ length p.scope - n = omega (arith, counted) in
          let k : Scoped Given ts s (take (length p.scope - n) p.scope) =
          record {
            full = rw x sc.full;
            count = omega (arith, sc.count, counted, fewer);
            locals_are = λ g. rw (x, q) (sym (take-take (length p.scope - n) walk.scope.count walk.scope.names (omega (arith, counted))) ∙ ap (take (length p.scope - n)) (sc.locals_are g));
            named = named-front ts p.scope (length p.scope - n) sc.named;
          } in
          rw (ending-role (kind_of c) l u, ← is) (scoped-as r (take (length p.scope - n) p.scope) (rw e k) b d)

  -- ---- a sum and a definition
  pub after-sum : (r : Walk) → kind_of c ≡ 49 → r.scope ≡ walk.scope → r.sums ≡ walk.sums + 1 → r.definitions ≡ walk.definitions → Knows low high ts heard met r (turned h)
  unfolding step_by role_of number_kind
  after-sum r e s b d = rw e (record { scoped = rw s sc; channels = h.knows.channels; hung = h.knows.hung; named = h.knows.named; sums = b ∙ ap (λ (n : ℕ). n + 1) h.knows.sums; definitions = d ∙ h.knows.definitions })

  pub after-definition : (r : Walk) → kind_of c ≡ 56 → Scoped Given ts r.scope (params_at (definitions_of h.at) (walk.definitions + 1)) → r.sums ≡ walk.sums → r.definitions ≡ walk.definitions + 1 → Knows low high ts heard met r (turned h)
  unfolding step_by role_of number_kind
  after-definition r e s b d =
      rw e (record { scoped = rw (← h.knows.definitions) s; channels = h.knows.channels; hung = h.knows.hung; named = h.knows.named; sums = b ∙ h.knows.sums; definitions = d ∙ ap (λ (n : ℕ). n + 1) h.knows.definitions })

  pub after_none : (role_of (kind_of c) ≡ name → ⊥) → (36 ≤ kind_of c → kind_of c ≤ 44 → ⊥) → (45 ≤ kind_of c → kind_of c ≤ 46 → ⊥) → (kind_of c ≡ 49 → ⊥) → (kind_of c ≡ 56 → ⊥) → Knows low high ts heard met walk (turned h)
  after_none e a b s d = rw (step-none (kind_of c) (word_in h.at) (variables_in h.at) (definitions_of h.at) c (third_of (get_or nodes (left_of c) 0)) p a b s d e) h.knows
