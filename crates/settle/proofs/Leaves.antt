-- Calls, items of the system line, numbers and scales become what the walk says. From the kinds of nodes and the tables of contents.
use mathlib.Core.Path.{◌≡◌, refl, sym, ap, ◌∙◌, subst}
use mathlib.Core.List.{List, []}
use mathlib.Core.Bool.{Bool, true, false, cond}
use mathlib.Core.Logic.{◌⊎◌, inl, inr, ⊎_elim}
use Prim.Native.Nat.{ℕ, ◌+◌, ◌-◌, ◌≤◌, ◌<◌, min}
use native.Mathlib.Decide.{dec_le}
use native.Mathlib.Omega.{arith}
use borrow.Author.Tests.{eqb-true, eqb-false}
use lib.Dec.{eqb}
use lib.IntN.{ℤ}
use lib.ListN.{length, get_or}
use Rattle.word.specs.Number.{worth, cap}
use Rattle.token.specs.Kind as kind
use Rattle.grammar.proofs.Follows.{inside}
use Rattle.tree.specs.Node as node
use Rattle.tree.specs.Node.{field, cell, kind_of, token_of, left_of, third_of, number_kind}
use Rattle.model.specs.Words.{whole_of}
use Rattle.names.specs.declared.Lists.{Lists}
use Rattle.names.specs.declared.scope.Scope.{Scope}
use Rattle.names.specs.Placed.{IsName, SortFits, sort_of, wholes}
use Rattle.value.specs.Range.{farthest, InRange}
use Rattle.grammar.specs.Syntax
use Rattle.model.specs.Given.{is_given, meaning}
use Rattle.model.specs.Resolved
use Rattle.model.specs.Resolved.{number_scale, scale_named}
use Rattle.model.proofs.Members.{not-both}
use Rattle.tables.specs.Settled.{number_cell}
use Rattle.settle.specs.Walks.{Role, whole, number, call, item, role_of, Point, definition_of, count_of, scale_cell, NumberSafe, cell_by}
use Rattle.settle.specs.Places.{signed, Lookup, word_in, kinds_in, variables_in, definitions_of, CallKind, Calls, ScaleTold, Told, meaning_at, Leaf}
use Rattle.settle.proofs.Cells.{whole_is}
use Rattle.settle.proofs.Meets.{scale_same}
use Rattle.settle.proofs.Roles.{Kinded, as-whole, as-negative, as-name, as_number, as-scale, as-action, as-ending, as-sum, as_call, as-definition, as-start, as-counted, as_plain, kinded, small-number, cell-none, number-kind-of}
use Rattle.settle.proofs.Branches.{definition-fits, fields_fit}

next_of : (κ a : ℕ) → a ≤ κ → κ ≤ a + 1 → (κ ≡ a) ⊎ (κ ≡ a + 1)
next_of κ a l u = by (dec_le κ a)
  where
    by : Dec (κ ≤ a) → (κ ≡ a) ⊎ (κ ≡ a + 1)
    by (yes c) = inl (omega arith)
    by (no c) = inr (omega arith)

halves : (κ : ℕ) → 57 ≤ κ → κ ≤ 60 → ((57 ≤ κ) × (κ ≤ 58)) ⊎ ((59 ≤ κ) × (κ ≤ 60))
halves κ l u = by (dec_le κ 58)
  where
    by : Dec (κ ≤ 58) → ((57 ≤ κ) × (κ ≤ 58)) ⊎ ((59 ≤ κ) × (κ ≤ 60))
    by (yes c) = inl (l, c)
    by (no c) = inr (omega arith, u)

-- 1 or 2
literal-kind : (κ c : ℕ) → (1 ≤ κ) × (κ ≤ 2) → κ ≡ kind_of c → kind_of c ≡ cond (eqb κ 2) node.negative node.literal
literal-kind κ c l e = by (eqb κ 2) refl
  where
    by : (b : Bool) → eqb κ 2 ≡ b → kind_of c ≡ cond b 2 1
    by true q = let z = eqb-true κ 2 q in omega arith
    by false q = let z = eqb-false κ 2 q in sym e ∙ omega (arith, l.0, l.1)

number-sort : (b : Bool) (κ : ℕ) → κ ≡ number_kind b false → sort_of κ ≡ wholes
unfolding sort_of number_kind
number-sort true κ e = rw e
number-sort false κ e = rw e

module _ {low high nodes : List ℕ} {lists : Lists} {c : ℕ} (h : Calls low high nodes lists c) where
  -- a call's role
  data Called : Role → Type 0 where
    a_call : kind_of c ≤ 51 → Called call
    a-start : 57 ≤ kind_of c → kind_of c ≤ 58 → Called (item false)
    a-counted : 59 ≤ kind_of c → Called (item true)

  called : Called (role_of (kind_of c))
  called = by (role_of (kind_of c)) (kinded (kind_of c)) h.calls
    where
      by : (r : Role) → Kinded (kind_of c) r → CallKind (kind_of c) → Called r
      by r (as-whole e) (inl q) = absurd (omega (arith, q.0))
      by r (as-whole e) (inr q) = absurd (omega (arith, q.0))
      by r (as-negative e) (inl q) = absurd (omega (arith, q.0))
      by r (as-negative e) (inr q) = absurd (omega (arith, q.0))
      by r (as-name e) (inl q) = absurd (omega (arith, q.0))
      by r (as-name e) (inr q) = absurd (omega (arith, q.0))
      by r (as_number b d e) (inl q) = absurd (let z = small-number b d in omega (arith, q.0))
      by r (as_number b d e) (inr q) = absurd (let z = small-number b d in omega (arith, q.0))
      by r (as-scale e) (inl q) = absurd (omega (arith, q.0))
      by r (as-scale e) (inr q) = absurd (omega (arith, q.0))
      by r (as-action x y) (inl q) = absurd (omega (arith, q.0))
      by r (as-action x y) (inr q) = absurd (omega (arith, q.0))
      by r (as-ending x y) (inl q) = absurd (omega (arith, q.0))
      by r (as-ending x y) (inr q) = absurd (omega (arith, q.0))
      by r (as-sum e) (inl q) = absurd (omega (arith, q.0))
      by r (as-sum e) (inr q) = absurd (omega (arith, q.0))
      by r (as_call x y) q = a_call y
      by r (as-definition e) (inl q) = absurd (omega (arith, q.1))
      by r (as-definition e) (inr q) = absurd (omega (arith, q.0))
      by r (as-start x y) q = a-start x y
      by r (as-counted x y) q = a-counted x
      by r (as_plain a b c d e f) (inl q) = absurd (e q.0 q.1)
      by r (as_plain a b c d e f) (inr q) = absurd (f q.0 q.1)

  call-sort : (κ : ℕ) → CallKind κ → SortFits (sort_of κ) (kinds_in h.at) (token_of c) (third_of c) → IsName (kinds_in h.at) (token_of c)
  unfolding sort_of SortFits number_kind
  call-sort κ q f = by q
    where
      single : (a : ℕ) → (SortFits (sort_of a) (kinds_in h.at) (token_of c) (third_of c) → IsName (kinds_in h.at) (token_of c)) → κ ≡ a → IsName (kinds_in h.at) (token_of c)
      single a g e = g (rw e at f)

      by : CallKind κ → IsName (kinds_in h.at) (token_of c)
      by (inl z) = ⊎_elim (single 50 (λ x. x)) (single 51 (λ x. x)) (next_of κ 50 z.0 z.1)
      by (inr z) = ⊎_elim (λ (y : (57 ≤ κ) × (κ ≤ 58)). ⊎_elim (single 57 (λ x. x)) (single 58 (λ x. x)) (next_of κ 57 y.0 y.1)) (λ (y : (59 ≤ κ) × (κ ≤ 60)). ⊎_elim (single 59 (λ x. x.1)) (single 60 (λ x. x.1)) (next_of κ 59 y.0 y.1)) (halves κ z.0 z.1)

  pub calls-name : IsName (kinds_in h.at) (token_of c)
  calls-name = call-sort (kind_of c) h.calls h.fits

  pub call-fields : (definition_of (word_in h.at) (variables_in h.at) (definitions_of h.at) (token_of c) < field) × (left_of c < field) × (third_of c < field)
  call-fields = (definition-fits (word_in h.at) (definitions_of h.at) (token_of c) h.at.base.few, (fields_fit c).0, (fields_fit c).1)

  abbrev Became : ℕ → Point → Type 0
  Became r p = r ≡ cell_by (word_in h.at) (variables_in h.at) (definitions_of h.at) (role_of (kind_of c)) c p

  abbrev d : ℕ
  d = definition_of (word_in h.at) (variables_in h.at) (definitions_of h.at) (token_of c)

  pub call-done : (x : ℕ) (p : Point) → kind_of c < 57 → x ≡ cell (kind_of c) d (left_of c) (third_of c) → Became x p
  unfolding cell_by
  call-done x p l e = by (role_of (kind_of c)) called
    where
      by : (r : Role) → Called r → x ≡ cell_by (word_in h.at) (variables_in h.at) (definitions_of h.at) r c p
      by r (a_call u) = e
      by r (a-start y u) = absurd (omega arith)
      by r (a-counted y) = absurd (omega arith)

  pub start-done : (x : ℕ) (p : Point) → 57 ≤ kind_of c → kind_of c < 59 → x ≡ cell (kind_of c) d 1 (third_of c) → Became x p
  unfolding cell_by count_of
  start-done x p l u e = by (role_of (kind_of c)) called
    where
      by : (r : Role) → Called r → x ≡ cell_by (word_in h.at) (variables_in h.at) (definitions_of h.at) r c p
      by r (a_call y) = absurd (omega arith)
      by r (a-start y z) = e
      by r (a-counted y) = absurd (omega arith)

  module _ (l : 59 ≤ kind_of c) where
    counts : (2 ≤ token_of c) × (get_or (kinds_in h.at) (token_of c - 2) 0 ≡ kind.whole)
    unfolding sort_of SortFits number_kind
    counts = by h.calls
      where
        single : (a : ℕ) → (SortFits (sort_of a) (kinds_in h.at) (token_of c) (third_of c) → (2 ≤ token_of c) × (get_or (kinds_in h.at) (token_of c - 2) 0 ≡ kind.whole)) → kind_of c ≡ a → (2 ≤ token_of c) × (get_or (kinds_in h.at) (token_of c - 2) 0 ≡ kind.whole)
        single a g e = g (rw e at h.fits)

        by : CallKind (kind_of c) → (2 ≤ token_of c) × (get_or (kinds_in h.at) (token_of c - 2) 0 ≡ kind.whole)
        by (inl z) = absurd (omega (arith, z.1))
        by (inr z) = ⊎_elim (single 59 (λ x. (x.0, x.2))) (single 60 (λ x. (x.0, x.2))) (next_of (kind_of c) 59 l z.1)

    role-is : role_of (kind_of c) ≡ item true
    role-is = by (role_of (kind_of c)) called
      where
        by : (r : Role) → Called r → r ≡ item true
        by r (a_call y) = absurd (omega arith)
        by r (a-start y z) = absurd (omega arith)
        by r (a-counted y) = refl

    pub count-told : (2 ≤ token_of c) × (token_of c - 2 < length low) × (get_or low (token_of c - 2) 0 ≡ worth 0 (word_in h.at (token_of c - 2))) × (get_or low (token_of c - 2) 0 < field)
    count-told =
        let q = counts in
        let few = h.counted role-is in
        let n = h.at.base.world.numbers (token_of c - 2) q.1 in
        let in-text = inside (kinds_in h.at) (token_of c - 2) (omega (arith, q.1)) in
        (q.0, omega (arith, h.at.base.world.lows), omega arith, omega arith)

    pub counted-done : (x : ℕ) (p : Point) → x ≡ cell (kind_of c - 2) d (get_or low (token_of c - 2) 0) (third_of c) → Became x p
    unfolding cell_by count_of
    counted-done x p e = rw role-is (e ∙ ap (λ (n : ℕ). cell (kind_of c - 2) d n (third_of c)) count-told.2)

-- ---- the cases of `leaf_cell`
module _ {low high nodes : List ℕ} {lists : Lists} {scope : Scope} {x : ℕ} (h : Leaf low high nodes lists scope x) where
  abbrev at : Lookup low high nodes lists
  at = h.place.at

  abbrev Became' : ℕ → Type 0
  Became' r = r ≡ cell_by (word_in at) (variables_in at) (definitions_of at) (role_of (kind_of x)) x h.point

  -- the contents of a whole number's token
  told-whole : sort_of (kind_of x) ≡ wholes → (token_of x < length low) × (get_or low (token_of x) 0 ≡ min cap (worth 0 (word_in at (token_of x))))
  unfolding SortFits
  told-whole e =
      let f : get_or (kinds_in at) (token_of x) 0 ≡ kind.whole = rw e at h.fits in
      (omega (arith, inside (kinds_in at) (token_of x) (omega arith), at.base.world.lows), at.base.world.numbers (token_of x) f)

  -- a whole number
  module _ (κ : ℕ) (l : (1 ≤ κ) × (κ ≤ 2)) (e : κ ≡ kind_of x) where
    abbrev b : Bool
    b = eqb κ 2

    whole-role : (sort_of (kind_of x) ≡ wholes) × (role_of (kind_of x) ≡ whole b)
    unfolding sort_of role_of number_kind
    whole-role = by b (literal-kind κ x l e)
      where
        by : (b : Bool) → kind_of x ≡ cond b 2 1 → (sort_of (kind_of x) ≡ wholes) × (role_of (kind_of x) ≡ whole b)
        by true e = rw e (refl, refl)
        by false e = rw e (refl, refl)

    pub whole-inside : (token_of x < length low) × (get_or low (token_of x) 0 ≤ farthest)
    whole-inside =
        let t = told-whole whole-role.0 in
        let s : InRange (whole_of (word_in at) b (token_of x)) = rw whole-role.1 at h.safe in
        (t.0, (whole_is (word_in at) b (token_of x) (get_or low (token_of x) 0) s t.1).0)

    pub whole-done : (r : ℕ) → r ≡ number_cell node.literal (signed b (get_or low (token_of x) 0)) → Became' r
    unfolding cell_by
    whole-done r z =
        let t = told-whole whole-role.0 in
        let s : InRange (whole_of (word_in at) b (token_of x)) = rw whole-role.1 at h.safe in
        rw whole-role.1 (z ∙ ap (number_cell node.literal) (whole_is (word_in at) b (token_of x) (get_or low (token_of x) 0) s t.1).1)

  -- a number of a rate
  module _ (l : 29 ≤ kind_of x) (u : kind_of x ≤ 32) where
    abbrev n : (b : Bool) × (d : Bool) × (kind_of x ≡ number_kind b d) × (role_of (kind_of x) ≡ number b d)
    n = number-kind-of (kind_of x) l u

    number-told : ScaleTold low (word_in at) n.0 n.1 (kind_of x) (token_of x)
    number-told = by n.0 n.1 n.2 (rw n.3 at h.safe)
      where
        by : (b d : Bool) → kind_of x ≡ number_kind b d → NumberSafe (word_in at) (Told low (word_in at)) (Syntax.number b d (token_of x)) → ScaleTold low (word_in at) b d (kind_of x) (token_of x)
        by b false e s = let t = told-whole (number-sort b (kind_of x) e) in record { kind-is = e; inside = t.0; wholes = λ z. t.1; safe = s }
        by b true e s = record { kind-is = e; inside = s.1.0; wholes = λ z. not-both refl z; safe = s }

    number-done : (r : ℕ) → r ≡ scale_cell (Resolved.fixed (number_scale (word_in at) [] [] [] (Syntax.number n.0 n.1 (token_of x)))) → Became' r
    unfolding cell_by
    number-done r e = rw n.3 (e ∙ ap (λ (z : ℤ). scale_cell (Resolved.fixed z)) (scale_same (word_in at) (variables_in at) (definitions_of at) n.0 n.1 (token_of x)))

    -- what is asked of `scale_cell`, and what its answer is
    pub number-asked : (κ k : ℕ) → κ ≡ kind_of x → k ≡ token_of x → (w : ℕ → List ℕ) × (b : Bool) × (d : Bool) × ScaleTold low w b d κ k
    number-asked κ k e f = (word_in at, n.0, n.1, rw (e, f) number-told)

    pub number-answered : (r κ k : ℕ) → κ ≡ kind_of x → k ≡ token_of x → ((w : ℕ → List ℕ) (b d : Bool) → ScaleTold low w b d κ k → r ≡ scale_cell (Resolved.fixed (number_scale w [] [] [] (Syntax.number b d k)))) → Became' r
    number-answered r κ k e f g = number-done r (g (word_in at) n.0 n.1 (rw (e, f) number-told) ∙ ap (λ (j : ℕ). scale_cell (Resolved.fixed (number_scale (word_in at) [] [] [] (Syntax.number n.0 n.1 j)))) f)

  -- a rate's name
  module _ (e : kind_of x ≡ 33) where
    pub scale-leaf : IsName (kinds_in at) (token_of x) × (is_given (meaning_at h.place (token_of x)) ≡ true)
    unfolding sort_of SortFits role_of number_kind
    scale-leaf =
        let f : IsName (kinds_in at) (token_of x) = rw e at h.fits in
        let g : is_given (meaning (word_in at) (variables_in at) h.point.scope (token_of x)) ≡ true = rw e at h.safe in
        (f, subst (λ (s : List ℕ). is_given (meaning (word_in at) (variables_in at) s (token_of x)) ≡ true) h.scope-is g)

    pub scale-done : (r : ℕ) → r ≡ scale_cell (scale_named (word_in at) (variables_in at) (definitions_of at) [] (meaning_at h.place (token_of x))) → Became' r
    unfolding cell_by role_of number_kind
    scale-done r e' = rw e (e' ∙ ap (λ (s : List ℕ). scale_cell (scale_named (word_in at) (variables_in at) (definitions_of at) [] (meaning (word_in at) (variables_in at) s (token_of x)))) (sym h.scope-is))

  pub leaf-calls : CallKind (kind_of x) → Calls low high nodes lists x
  leaf-calls q = record { at = at; fits = h.fits; calls = q; counted = λ r. rw r at h.safe }

  pub leaf-called : (q : CallKind (kind_of x)) (r : ℕ) → ((g : Calls low high nodes lists x) (p : Point) → r ≡ cell_by (word_in g.at) (variables_in g.at) (definitions_of g.at) (role_of (kind_of x)) x p) → Became' r
  unfolding leaf-calls
  leaf-called q r f = f (leaf-calls q) h.point

  pub leaf-none : (1 ≤ kind_of x → kind_of x ≤ 2 → ⊥) → (29 ≤ kind_of x → kind_of x ≤ 32 → ⊥) → (kind_of x ≡ 33 → ⊥) → (50 ≤ kind_of x → kind_of x ≤ 51 → ⊥) → (57 ≤ kind_of x → kind_of x ≤ 60 → ⊥) → Became' x
  leaf-none a b s d f = sym (cell-none (kind_of x) (word_in at) (variables_in at) (definitions_of at) x h.point a b s d f h.other)
