-- The returns of the readers of what follows a name and a comma, over plain variables: what each answers follows from the tokens it looked at, the nodes it wrote
-- and what its callees answered. From the laws of the machine and of spans.
use mathlib.Core.Path.{◌≡◌, refl, ap, ◌∙◌}
use mathlib.Core.List.{List, [], ◌∷◌, ◌++◌}
use mathlib.Core.Bool.{true, false}
use mathlib.Core.Logic.{◌⊎◌}
use Prim.Native.Nat.{ℕ, ◌+◌, ◌≤◌, ◌<◌}
use native.Mathlib.Omega.{arith}
use lib.ListN.{length, get_or}
use lib.Seq.{get_or-set_other}
use Rattle.std.specs.Prelude.{Err, Ok}
use Rattle.token.specs.Kind as kind
use Rattle.grammar.specs.Grammar
use Rattle.grammar.specs.Grammar.{flat_whole, flat_number, flat_expr, flat_term, flat_terms, flat_factors, flat_atom, flat_scale, flat_rate, flat_channel, flat_action}
use Rattle.grammar.specs.Machine.{Sym, Want, Atom', Factors', Terms', ThirdItem, Braced, LoneComma, LoneScale, LoneProduct, an_expr, the_deed}
use Rattle.grammar.specs.Follows.{Answer, Follows}
use Rattle.grammar.specs.Syntax
use Rattle.grammar.specs.Syntax.{wide, literal_at, number_at, expr_at, term_at, terms_at, factors_at, atom_at, scale_at, rate_at, channel_at, action_at}
use Rattle.grammar.proofs.Follows.{join, fails}
use Rattle.grammar.proofs.Alike.{lone-comma, comma-decimal, minus-decimal, comma-scale, minus-scale, minus-other, comma-channel, scale-ends, product-ends, scale-times, scale-channel, product-channel}
use Rattle.grammar.proofs.Prepends.{Prepends, longer, place as prepended}
use Rattle.grammar.proofs.Wide.{wide-expr, wide-atom, wide-scale}
use Rattle.tree.specs.Node as node
use Rattle.tree.specs.Node.{cell, number_kind, op_kind}
use Rattle.tree.specs.Table
use Rattle.tree.specs.Reading.{place_counted, Span, Grown, Extended, Read, Counted}
use Rattle.tree.proofs.Interval.{Interval}
use Rattle.tree.proofs.Holds.{expr-interval, scale-interval, action-interval}
use Rattle.tree.proofs.Spans.{span-token, ◌then◌, span-as, Wrote, wrote-size, span-wrote, span-over, span-place, Seen, seen-later, seen-over, seen-leaf, seen-two, next-at, fault-at, made_of, grown-of, fault-size}
use Rattle.syntax.specs.Channels.{Third, no_third, third, flat_third, third_at}
use Rattle.syntax.specs.Actions.{flat_deed}
use Rattle.syntax.specs.Braces.{flat_closed, flat_rated, flat_inside, flat_rest, rest_at, Inside, Seconds, Either}
use Rattle.syntax.proofs.Forms.{span-paid}
use Rattle.syntax.proofs.Expressions.{Atom, Expr}
use Rattle.syntax.proofs.Deeds.{action_of, action-text, action-at}
use Rattle.syntax.proofs.Braces.{Rest, Closing, Rated, rated-made, inner_made}
use Rattle.syntax.proofs.Widths.{wide-begun, wide-times}

-- what is below a node stays when that node is written
seen-under : {a b : ℕ} {P : List ℕ → ℕ → ℕ → Type 0} {t t' : List ℕ} {u kind token left third lo k : ℕ} → Interval a b P → Wrote t t' u kind token left third → k < u → Seen P t lo k → Seen P t' lo k
seen-under {t = t} {u = u} {kind} {token} {left} {third} p w h q l =
    p.keep (λ i m n. ap (λ (x : List ℕ). get_or x i 0) w.written ∙ get_or-set_other t u i (cell kind token left third) 0 (omega arith)) (q (omega (arith, wrote-size w)))

-- ---- a name, a comma, and an item or the part of it that was read

pub record Begun {T : Type 0} (flat : T → List ℕ → List ℕ) (item_at : T → ℕ → Syntax.Expr) (ts t t' : List ℕ) (at used n mid : ℕ) : Type 0 where
  pub item : T
  pub span : Span (λ us. kind.name ∷ kind.comma ∷ flat item us) ts t t' at used n (mid + 1)
  pub spare : mid + 1 + at < used + n
  pub below : used ≤ mid
  pub first : used < length t' → Table.Expr t' (Syntax.named at) used used
  pub second : mid < length t' → Table.Expr t' (item_at item (at + 1 + 1)) (used + 1) mid

-- the name alone, as an item
lonely : Grammar.Expr
lonely = Grammar.sum (Grammar.product Grammar.name Grammar.no_factors) Grammar.no_terms

items_of : Grammar.Expr → Third → Grammar.Channel
items_of f no_third = Grammar.two_items lonely f
items_of f (third g) = Grammar.three_items lonely f g

items-text : (f : Grammar.Expr) (i : Third) (us : List ℕ) → flat_channel (items_of f i) us ≡ kind.name ∷ kind.comma ∷ flat_expr f (flat_third i us)
unfolding flat_channel flat_third flat_expr flat_term flat_terms flat_factors flat_atom items_of lonely
items-text f no_third us = refl
items-text f (third g) us = refl

items_at : (f : Grammar.Expr) (i : Third) (at : ℕ) → third_at (Syntax.named at) (expr_at f (at + 1 + 1)) i (at + 1 + 1 + wide (flat_expr f)) ≡ channel_at (items_of f i) at
unfolding wide channel_at third_at expr_at term_at terms_at factors_at atom_at flat_expr flat_term flat_terms flat_factors flat_atom items_of lonely
items_at f no_third at = refl
items_at f (third g) at = refl

items-wide : (f : Grammar.Expr) (i : Third) → wide (flat_channel (items_of f i)) ≡ 2 + (wide (flat_expr f) + wide (flat_third i))
unfolding wide
items-wide f i = let e = longer (wide-expr f) (flat_third i []) in let d = ap length (items-text f i []) in omega (arith, d, e)

-- two items, and what follows them
pub begun-inside : (ts t t₁ t₂ : List ℕ) (at used n mid : ℕ) (r : Counted) → Begun flat_expr expr_at ts t t₁ at used n mid → Seconds ts t₁ t₂ n used mid r → Inside ts t t₂ at used r
unfolding Seconds Inside
begun-inside ts t t₁ t₂ at used n mid (Ok (m, root, left)) b s =
    let d = s.done in
    let c = items_of b.item d.items in
    let k : n ≡ at + 1 + 1 + wide (flat_expr b.item) = omega (arith, span-place (wide-begun (wide-expr b.item)) b.span, (wide-begun (wide-expr b.item)).width) in
    let j : n + wide (flat_third d.items) ≡ at + wide (flat_channel c) = omega (arith, k, items-wide b.item d.items) in
    let text : (us : List ℕ) → flat_action (action_of c d.deed) us ≡ kind.name ∷ kind.comma ∷ flat_expr b.item (flat_third d.items (flat_deed d.deed us)) = λ us. action-text c d.deed us ∙ items-text b.item d.items (flat_deed d.deed us) in
    let shown : s.left < length s.table → Table.Action s.table (action_at (action_of c d.deed) at) used s.left = λ l.
    let room : mid < length t₁ = omega (arith, d.span.more, d.span.size) in
    let h = d.shown l (Syntax.named at) (expr_at b.item (at + 1 + 1)) used (b.first (omega (arith, b.span.more))) (b.second room) in
    rw (← action-at c d.deed at, ← items_at b.item d.items at, ← j, ← k) h in
    inner_made ts t s.table t₂ at used s.comma s.left (Ok (m, root, left)) (record { tree = action_of c d.deed; span = span-as text (span-paid (b.span then d.span) (omega (arith, b.spare, d.span.fewer))); shown = shown }) s.rated s.spare
begun-inside ts t t₁ t₂ at used n mid (Err k) b s = s ∙ b.span.size

-- more of the item
module _ {A : Type 0} {flat_a : A → List ℕ → List ℕ} {first_at : A → ℕ → Syntax.Expr} (both : A → Grammar.Factors × Grammar.Terms → Grammar.Expr) (text : (y : A) (z : Grammar.Factors × Grammar.Terms) (us : List ℕ) → flat_expr (both y z) us ≡ flat_a y (flat_rest z us)) (wide-first : (y : A) → Prepends (λ us. kind.name ∷ kind.comma ∷ flat_a y us) (1 + (1 + wide (flat_a y)))) (shows : (y : A) (z : Grammar.Factors × Grammar.Terms) (k : ℕ) → rest_at (first_at y k) z (k + wide (flat_a y)) ≡ expr_at (both y z) k) where
  begun_more : {ts t t₁ t₂ : List ℕ} {at used n left m mid : ℕ} → Begun flat_a first_at ts t t₁ at used n left → Grown flat_rest (λ x p. rest_at x p n) Table.Expr Table.Expr ts t₁ t₂ n left m mid → Begun flat_expr expr_at ts t t₂ at used m mid
  begun_more {t₁ = t₁} {at = at} {used = used} {n = n} {left = left} {mid = mid} b g =
      let k : n ≡ at + 1 + 1 + wide (flat_a b.item) = omega (arith, span-place (wide-first b.item) b.span, (wide-first b.item).width) in
      record {
        item = both b.item g.tree;
        span = span-as (λ us. ap (λ (vs : List ℕ). kind.name ∷ kind.comma ∷ vs) (text b.item g.tree us)) (b.span then g.span);
        spare = omega (arith, b.spare, g.span.fewer);
        below = omega (arith, b.below, g.span.more);
        first = seen-later (expr-interval (Syntax.named at)) g.span (omega (arith, b.below)) b.first;
        second = λ l.
            let room : left < length t₁ = omega (arith, g.span.more, g.span.size) in
            rw (← shows b.item g.tree (at + 1 + 1), ← k) (g.shown l (first_at b.item (at + 1 + 1)) (used + 1) (b.second room));
      }

-- an item that begins with an atom, and with two that are multiplied
atom_first : Grammar.Atom → Grammar.Factors × Grammar.Terms → Grammar.Expr
atom_first a z = Grammar.sum (Grammar.product a z.0) z.1

flat_two : Grammar.Atom × Grammar.Atom → List ℕ → List ℕ
flat_two y ts = flat_atom y.0 (kind.times ∷ flat_atom y.1 ts)

two_at : Grammar.Atom × Grammar.Atom → ℕ → Syntax.Expr
two_at y k = Syntax.binary Syntax.times (atom_at y.0 k) (atom_at y.1 (k + wide (flat_atom y.0) + 1))

two_first : Grammar.Atom × Grammar.Atom → Grammar.Factors × Grammar.Terms → Grammar.Expr
two_first y z = Grammar.sum (Grammar.product y.0 (Grammar.times y.1 z.0)) z.1

atom-text : (a : Grammar.Atom) (z : Grammar.Factors × Grammar.Terms) (us : List ℕ) → flat_expr (atom_first a z) us ≡ flat_atom a (flat_rest z us)
unfolding flat_expr flat_term flat_terms flat_factors flat_atom flat_rest atom_first
atom-text a z us = refl

two-text : (y : Grammar.Atom × Grammar.Atom) (z : Grammar.Factors × Grammar.Terms) (us : List ℕ) → flat_expr (two_first y z) us ≡ flat_two y (flat_rest z us)
unfolding flat_expr flat_term flat_terms flat_factors flat_atom flat_rest two_first flat_two
two-text y z us = refl

atom-term : (a : Grammar.Atom) (f : Grammar.Factors) (k : ℕ) → k + wide (flat_atom a) + wide (flat_factors f) ≡ k + wide (flat_term (Grammar.product a f))
unfolding wide flat_term flat_expr flat_terms flat_factors flat_atom
atom-term a f k = omega (arith, longer (wide-atom a) (flat_factors f []))

atom-shows : (a : Grammar.Atom) (z : Grammar.Factors × Grammar.Terms) (k : ℕ) → rest_at (atom_at a k) z (k + wide (flat_atom a)) ≡ expr_at (atom_first a z) k
unfolding rest_at expr_at term_at terms_at factors_at atom_at atom_first
atom-shows a z k = rw (atom-term a z.0 k)

two-wide : (y : Grammar.Atom × Grammar.Atom) (k : ℕ) → k + wide (flat_two y) ≡ k + wide (flat_atom y.0) + 1 + wide (flat_atom y.1)
unfolding wide flat_two
two-wide y k = omega (arith, longer (wide-atom y.0) (kind.times ∷ flat_atom y.1 []))

two-term : (y : Grammar.Atom × Grammar.Atom) (f : Grammar.Factors) (k : ℕ) → k + wide (flat_atom y.0) + 1 + wide (flat_atom y.1) + wide (flat_factors f) ≡ k + wide (flat_term (Grammar.product y.0 (Grammar.times y.1 f)))
unfolding wide flat_term flat_expr flat_terms flat_factors flat_atom
two-term y f k = omega (arith, longer (wide-atom y.0) (kind.times ∷ flat_atom y.1 (flat_factors f [])), longer (wide-atom y.1) (flat_factors f []))

two-shows : (y : Grammar.Atom × Grammar.Atom) (z : Grammar.Factors × Grammar.Terms) (k : ℕ) → rest_at (two_at y k) z (k + wide (flat_two y)) ≡ expr_at (two_first y z) k
unfolding rest_at expr_at term_at terms_at factors_at atom_at two_at two_first
two-shows y z k = rw (two-wide y k, two-term y z.0 k)

-- ---- what may be a rate's or an item's

-- a number or name after the comma
module _ (ts : List ℕ) (k : ℕ) where
  pub either-name : get_or ts k 0 ≡ kind.name → Either ts k k node.scale_name node.named
  unfolding flat_scale flat_atom scale_at atom_at Table.Scale Table.Expr
  either-name e =
      let s : Span (λ us. kind.name ∷ us) ts [] [] k 0 (k + 1) 0 = span-token kind.name e (omega arith) in
      record { scale = Grammar.named; atom = Grammar.name; scales = s.text; atoms = s.text; onward = omega arith; within = omega (arith, s.within); as-scale = λ t lo i h. h; as-item = λ t lo i h. h }

  pub either-whole : get_or ts k 0 ≡ kind.whole → Either ts k k (number_kind false false) node.literal
  unfolding flat_scale flat_number flat_whole flat_atom scale_at number_at atom_at literal_at Table.Number Table.Scale Table.Expr
  either-whole e =
      let s : Span (λ us. kind.whole ∷ us) ts [] [] k 0 (k + 1) 0 = span-token kind.whole e (omega arith) in
      record { scale = Grammar.fixed (Grammar.integer Grammar.whole); atom = Grammar.number Grammar.whole; scales = s.text; atoms = s.text; onward = omega arith; within = omega (arith, s.within); as-scale = λ t lo i h. h; as-item = λ t lo i h. h }

  pub either-negative : get_or ts k 0 ≡ kind.minus → get_or ts (k + 1) 0 ≡ kind.whole → Either ts k (k + 1) (number_kind true false) node.negative
  unfolding flat_scale flat_number flat_whole flat_atom scale_at number_at atom_at literal_at Table.Number Table.Scale Table.Expr
  either-negative e d =
      let s : Span (λ us. kind.minus ∷ kind.whole ∷ us) ts [] [] k 0 (k + 1 + 1) 0 = span-token kind.minus e (omega arith) then span-token kind.whole d (omega arith) in
      record { scale = Grammar.fixed (Grammar.integer Grammar.negative); atom = Grammar.number Grammar.negative; scales = s.text; atoms = s.text; onward = omega arith; within = omega (arith, s.within); as-scale = λ t lo i h. h; as-item = λ t lo i h. h }

abbrev closing : List Sym
closing = Want kind.close_curly ∷ []

abbrev pub Undecided : List ℕ → List ℕ → List ℕ → ℕ → ℕ → ℕ → Counted → Type 0
Undecided ts t t' name used digits r = Follows ts (digits + 1) (LoneScale ∷ closing) (place_counted r) × Inside ts t t' name used r

abbrev pub Product : List ℕ → List ℕ → List ℕ → ℕ → ℕ → ℕ → Counted → Type 0
Product ts t t' name used digits r = Follows ts (digits + 1 + 1) (Atom' ∷ LoneProduct ∷ closing) (place_counted r) × Inside ts t t' name used r

-- what `second` answers
abbrev pub Second : List ℕ → List ℕ → List ℕ → ℕ → ℕ → ℕ → Counted → Type 0
Second ts t t' at first mid r = Follows ts at (ThirdItem ∷ the_deed ++ closing) (place_counted r) × Seconds ts t t' at first mid r

-- after the last of these tokens: perhaps a `*` and an atom
pub data Factored (ts t t₁ : List ℕ) (used digits n root : ℕ) : Type 0 where
  bare : (get_or ts (digits + 1) 0 ≡ kind.times → ⊥) → n ≡ digits + 1 → root ≡ used + 1 → t₁ ≡ t → Factored ts t t₁ used digits n root
  multiplied : get_or ts (digits + 1) 0 ≡ kind.times → (r : Read) (i : ℕ) → Atom ts t t₁ (digits + 1 + 1) (used + 1 + 1) r → r ≡ Ok (n, i) → root ≡ i + 1 → Factored ts t t₁ used digits n root

-- the node over the two, if there are two
pub data Over (t t' : List ℕ) (root op left : ℕ) : Type 0 where
  alone : (left < root → ⊥) → t' ≡ t → Over t t' root op left
  over : left < root → Wrote t t' root op 0 left 0 → Over t t' root op left

module _ (ts t : List ℕ) (name used digits rate item : ℕ) (o : (get_or ts name 0 ≡ kind.name) × (get_or ts (name + 1) 0 ≡ kind.comma)) (x : Either ts (name + 1 + 1) digits rate item) where
  -- the tokens up to here, as a wait's and as a channel's
  scale-span : {s : List ℕ} → Span (λ us. kind.name ∷ kind.comma ∷ flat_scale x.scale us) ts s s name used (digits + 1) used
  scale-span {s} =
      let z : Span (flat_scale x.scale) ts s s (name + 1 + 1) used (digits + 1) used = record { text = x.scales; onward = omega (arith, x.onward); within = omega (arith, x.within); more = omega arith; fewer = omega (arith, x.onward); kept = λ i l. refl; size = refl } in
      span-token kind.name o.0 (omega arith) then span-token kind.comma o.1 (omega arith) then z

  atom-span : {s : List ℕ} → Span (λ us. kind.name ∷ kind.comma ∷ flat_atom x.atom us) ts s s name used (digits + 1) used
  atom-span {s} =
      let z : Span (flat_atom x.atom) ts s s (name + 1 + 1) used (digits + 1) used = record { text = x.atoms; onward = omega (arith, x.onward); within = omega (arith, x.within); more = omega arith; fewer = omega (arith, x.onward); kept = λ i l. refl; size = refl } in
      span-token kind.name o.0 (omega arith) then span-token kind.comma o.1 (omega arith) then z

  scale-place : digits + 1 ≡ name + 1 + 1 + wide (flat_scale x.scale)
  scale-place = prepended (wide-scale x.scale) ts (name + 1 + 1) (digits + 1) (omega (arith, x.onward, x.within)) (omega (arith, x.within)) x.scales

  atom-place : digits + 1 ≡ name + 1 + 1 + wide (flat_atom x.atom)
  atom-place = prepended (wide-atom x.atom) ts (name + 1 + 1) (digits + 1) (omega (arith, x.onward, x.within)) (omega (arith, x.within)) x.atoms

  -- ---- no `*`

  undecided-wait : {t₁ t₂ : List ℕ} → get_or ts (digits + 1) 0 ≡ kind.close_curly → Wrote t t₁ used node.wait name 0 0 → Wrote t₁ t₂ (used + 1) rate digits 0 0 → Undecided ts t t₂ name used digits (Ok (digits + 1 + 1, used + 1, used))
  unfolding place_counted Inside flat_inside flat_rated flat_closed flat_action flat_rate action_at rate_at wide Table.Action Table.Rate
  undecided-wait {t₁} {t₂} q v w = (
    scale-ends ts (digits + 1) q,
    record {
      action = Grammar.wait;
      rate = Grammar.plain x.scale;
      span = span-wrote w (span-wrote v (scale-span then span-token kind.close_curly q (omega arith)) (omega (arith, x.onward))) (omega (arith, x.onward));
      spare = omega (arith, x.onward);
      below = omega arith;
      acts = seen-under (action-interval (Syntax.wait name)) w (omega arith) (seen-leaf v);
      rates = λ l. x.as-scale t₂ (used + 1) (used + 1) (seen-leaf w l);
    },
  )

  module _ {t₁ t₂ : List ℕ} (v : Wrote t t₁ used node.named name 0 0) (w : Wrote t₁ t₂ (used + 1) item digits 0 0) where
    undecided-start : Begun flat_atom atom_at ts t t₂ name used (digits + 1) (used + 1)
    unfolding Table.Expr
    undecided-start =
        record {
          item = x.atom;
          span = span-wrote w (span-wrote v atom-span (omega (arith, x.onward))) (omega (arith, x.onward));
          spare = omega (arith, x.onward);
          below = omega arith;
          first = seen-under (expr-interval (Syntax.named name)) w (omega arith) (seen-leaf v);
          second = λ l. x.as-item t₂ (used + 1) (used + 1) (seen-leaf w l);
        }

    module _ (n : get_or ts (digits + 1) 0 ≡ kind.close_curly → ⊥) (m : get_or ts (digits + 1) 0 ≡ kind.times → ⊥) (t₃ : List ℕ) {r : Read} (a : Rest ts t₂ t₃ (digits + 1) (used + 1) r) where
      undecided-fault : {k : ℕ} → r ≡ Err k → Undecided ts t t₃ name used digits (Err k)
      unfolding place_counted Inside Extended
      undecided-fault {k} e =
          let z : length t₃ ≡ length t₂ = rw e at a.1 in
          (scale-channel ts (digits + 1) n m (fails ts (digits + 1) k (Factors' ∷ Terms' ∷ []) _ (fault-at e a.0)), z ∙ wrote-size w ∙ wrote-size v)

      module _ {i mid : ℕ} (e : r ≡ Ok (i, mid)) where
        undecided-begun : Begun flat_expr expr_at ts t t₃ name used i mid
        undecided-begun = begun_more atom_first atom-text (λ y. wide-begun (wide-atom y)) atom-shows undecided-start (grown-of e a.1)

        undecided-done : (t₄ : List ℕ) (r' : Counted) → Second ts t₃ t₄ i used mid r' → Undecided ts t t₄ name used digits r'
        undecided-done t₄ r' s = (
          scale-channel ts (digits + 1) n m (join ts (digits + 1) i (Factors' ∷ Terms' ∷ []) _ (next-at e a.0) s.0),
          begun-inside ts t t₃ t₄ name used i mid r' undecided-begun s.1,
        )

  -- ---- a `*`

  module _ (q : get_or ts (digits + 1) 0 ≡ kind.times) where
    undecided-times : (t₁ : List ℕ) (r : Counted) → Product ts t t₁ name used digits r → Undecided ts t t₁ name used digits r
    undecided-times t₁ r p = (scale-times ts (digits + 1) q (λ l. p.0), p.1)

    module _ (t₁ : List ℕ) {r : Read} (a : Atom ts t t₁ (digits + 1 + 1) (used + 1 + 1) r) where
      product-fault : {k : ℕ} → r ≡ Err k → Product ts t t₁ name used digits (Err k)
      unfolding place_counted Inside
      product-fault {k} e = (fails ts (digits + 1 + 1) k (Atom' ∷ []) _ (fault-at e a.0), fault-size _ _ ts t t₁ (digits + 1 + 1) (used + 1 + 1) e a.1)

      module _ {n i : ℕ} (e : r ≡ Ok (n, i)) where
        product-wait : {t₂ t₃ t₄ : List ℕ} → get_or ts n 0 ≡ kind.close_curly → Wrote t₁ t₂ used node.wait name 0 0 → Wrote t₂ t₃ (used + 1) rate digits 0 0 → Wrote t₃ t₄ (i + 1) node.scaled 0 (used + 1) 0 → Product ts t t₄ name used digits (Ok (n + 1, i + 1, used))
        unfolding place_counted Inside flat_inside flat_rated flat_closed flat_action flat_rate action_at rate_at wide Table.Action Table.Rate
        product-wait {t₂} {t₃} {t₄} z u v w =
            let p = made_of e a.1 in
            let b = atom_at p.tree (digits + 1 + 1) in
            let before = span-paid (span-paid (scale-span then span-token kind.times q (omega arith)) (omega (arith, x.onward))) (omega (arith, x.onward)) in
            let parts = before then p.span then span-token kind.close_curly z (omega arith) in
            let j = scale-place in (
              join ts (digits + 1 + 1) n (Atom' ∷ []) _ (next-at e a.0) (product-ends ts n z),
              record {
                action = Grammar.wait;
                rate = Grammar.scaled x.scale p.tree;
                span = span-wrote w (span-over v (span-over u parts (omega arith)) (omega arith)) (omega (arith, x.onward, p.span.fewer));
                spare = omega (arith, x.onward, p.span.fewer);
                below = omega (arith, p.span.more);
                acts = seen-under (action-interval (Syntax.wait name)) w (omega (arith, p.span.more)) (seen-under (action-interval (Syntax.wait name)) v (omega arith) (seen-leaf u));
                rates = λ l. rw (← j) (seen-two (scale-interval (scale_at x.scale (name + 1 + 1))) (expr-interval b) w (λ h. x.as-scale t₃ (used + 1) (used + 1) (seen-leaf v h)) (seen-over (expr-interval b) v (omega arith) (seen-over (expr-interval b) u (omega arith) p.shown)) l);
              },
            )

        module _ {t₂ t₃ t₄ : List ℕ} (z : get_or ts n 0 ≡ kind.close_curly → ⊥) (u : Wrote t₁ t₂ used node.named name 0 0) (v : Wrote t₂ t₃ (used + 1) item digits 0 0) (w : Wrote t₃ t₄ (i + 1) (op_kind Syntax.times) 0 (used + 1) 0) where
          product-start : Begun flat_two two_at ts t t₄ name used n (i + 1)
          unfolding flat_two two_at Table.Expr
          product-start =
              let p = made_of e a.1 in
              let b = atom_at p.tree (digits + 1 + 1) in
              let before = span-paid (span-paid (atom-span then span-token kind.times q (omega arith)) (omega (arith, x.onward))) (omega (arith, x.onward)) in
              let parts = before then p.span in
              let j = atom-place in
              record {
                item = (x.atom, p.tree);
                span = span-wrote w (span-over v (span-over u parts (omega arith)) (omega arith)) (omega (arith, x.onward, p.span.fewer));
                spare = omega (arith, x.onward, p.span.fewer);
                below = omega (arith, p.span.more);
                first = seen-under (expr-interval (Syntax.named name)) w (omega (arith, p.span.more)) (seen-under (expr-interval (Syntax.named name)) v (omega arith) (seen-leaf u));
                second = λ l. rw (← j) (seen-two (expr-interval (atom_at x.atom (name + 1 + 1))) (expr-interval b) w (λ h. x.as-item t₃ (used + 1) (used + 1) (seen-leaf v h)) (seen-over (expr-interval b) v (omega arith) (seen-over (expr-interval b) u (omega arith) p.shown)) l);
              }

          module _ (t₅ : List ℕ) {r₂ : Read} (c : Rest ts t₄ t₅ n (i + 1) r₂) where
            product-stops : {k : ℕ} → r₂ ≡ Err k → Product ts t t₅ name used digits (Err k)
            unfolding place_counted Inside Extended
            product-stops {k} d =
                let y : length t₅ ≡ length t₄ = rw d at c.1 in (
                  join ts (digits + 1 + 1) n (Atom' ∷ []) _ (next-at e a.0) (product-channel ts n z (fails ts n k (Factors' ∷ Terms' ∷ []) _ (fault-at d c.0))),
                  y ∙ product-start.span.size,
                )

            module _ {m mid : ℕ} (d : r₂ ≡ Ok (m, mid)) where
              product-begun : Begun flat_expr expr_at ts t t₅ name used m mid
              unfolding flat_two
              product-begun = begun_more two_first two-text (λ y. wide-begun (wide-times y.0 y.1)) two-shows product-start (grown-of d c.1)

              product-done : (t₆ : List ℕ) (r' : Counted) → Second ts t₅ t₆ m used mid r' → Product ts t t₆ name used digits r'
              product-done t₆ r' s = (
                join ts (digits + 1 + 1) n (Atom' ∷ []) _ (next-at e a.0) (product-channel ts n z (join ts n m (Factors' ∷ Terms' ∷ []) _ (next-at d c.0) s.0)),
                begun-inside ts t t₅ t₆ name used m mid r' product-begun s.1,
              )

  -- ---- either

  pub undecided-atom : (t₁ : List ℕ) {k : ℕ} {r : Read} → get_or ts (digits + 1) 0 ≡ kind.times → Atom ts t t₁ (digits + 1 + 1) (used + 1 + 1) r → r ≡ Err k → Undecided ts t t₁ name used digits (Err k)
  undecided-atom t₁ q a e = undecided-times q t₁ _ (product-fault q t₁ a e)

  module _ {n root : ℕ} {t₁ t₂ t₃ t₄ : List ℕ} where
    pub undecided-waits : Factored ts t t₁ used digits n root → get_or ts n 0 ≡ kind.close_curly → Wrote t₁ t₂ used node.wait name 0 0 → Wrote t₂ t₃ (used + 1) rate digits 0 0 → Over t₃ t₄ root node.scaled (used + 1) → Undecided ts t t₄ name used digits (Ok (n + 1, root, used))
    undecided-waits (bare m e d k) z u v (alone l h) = rw (e, d, h) (undecided-wait (rw e at z) (rw k at u) v)
    undecided-waits (bare m e d k) z u v (over l w) = absurd (omega arith)
    undecided-waits (multiplied q r i a e d) z u v (alone l h) = absurd (omega (arith, (made_of e a.1).span.more))
    undecided-waits (multiplied q r i a e d) z u v (over l w) = rw d (undecided-times q t₄ _ (product-wait q t₁ a e z u v (rw d at w)))

    module _ (t₅ : List ℕ) {r₂ : Read} where
      pub undecided-stops : {k : ℕ} → Factored ts t t₁ used digits n root → (get_or ts n 0 ≡ kind.close_curly → ⊥) → Wrote t₁ t₂ used node.named name 0 0 → Wrote t₂ t₃ (used + 1) item digits 0 0 → Over t₃ t₄ root (op_kind Syntax.times) (used + 1) → Rest ts t₄ t₅ n root r₂ → r₂ ≡ Err k → Undecided ts t t₅ name used digits (Err k)
      undecided-stops (bare m e d k) z u v (alone l h) c y = undecided-fault (rw k at u) v (rw e at z) m t₅ (rw (h, e, d) at c) y
      undecided-stops (bare m e d k) z u v (over l w) c y = absurd (omega arith)
      undecided-stops (multiplied q r i a e d) z u v (alone l h) c y = absurd (omega (arith, (made_of e a.1).span.more))
      undecided-stops (multiplied q r i a e d) z u v (over l w) c y = undecided-times q t₅ _ (product-stops q t₁ a e z u v (rw d at w) t₅ (rw d at c) y)

      pub undecided-ends : {m mid : ℕ} (t₆ : List ℕ) (r' : Counted) → Factored ts t t₁ used digits n root → (get_or ts n 0 ≡ kind.close_curly → ⊥) → Wrote t₁ t₂ used node.named name 0 0 → Wrote t₂ t₃ (used + 1) item digits 0 0 → Over t₃ t₄ root (op_kind Syntax.times) (used + 1) → Rest ts t₄ t₅ n root r₂ → r₂ ≡ Ok (m, mid) → Second ts t₅ t₆ m used mid r' → Undecided ts t t₆ name used digits r'
      undecided-ends t₆ r' (bare m e d k) z u v (alone l h) c y s = undecided-done (rw k at u) v (rw e at z) m t₅ (rw (h, e, d) at c) y t₆ r' s
      undecided-ends t₆ r' (bare m e d k) z u v (over l w) c y s = absurd (omega arith)
      undecided-ends t₆ r' (multiplied q r i a e d) z u v (alone l h) c y s = absurd (omega (arith, (made_of e a.1).span.more))
      undecided-ends t₆ r' (multiplied q r i a e d) z u v (over l w) c y s = undecided-times q t₆ r' (product-done q t₁ a e z u v (rw d at w) t₅ (rw d at c) y t₆ r' s)

-- ---- after a name and a comma

abbrev pub Bracing : List ℕ → List ℕ → List ℕ → ℕ → ℕ → Counted → Type 0
Bracing ts t t' at used r = Follows ts at (Braced ∷ closing) (place_counted r) × Inside ts t t' at used r

module _ (ts t : List ℕ) (at used : ℕ) (o : (get_or ts at 0 ≡ kind.name) × (get_or ts (at + 1) 0 ≡ kind.comma)) where
  to-comma : {r : Answer} → Follows ts (at + 1 + 1) (LoneComma ∷ closing) r → Follows ts at (Braced ∷ closing) r
  to-comma f = lone-comma ts at closing o.0 o.1 (λ l. f)

  pub lone-undecided : (t₁ : List ℕ) (r : Counted) → (get_or ts (at + 1 + 1) 0 ≡ kind.whole) ⊎ (get_or ts (at + 1 + 1) 0 ≡ kind.name) → Undecided ts t t₁ at used (at + 1 + 1) r → Bracing ts t t₁ at used r
  lone-undecided t₁ r e u = (to-comma (comma-scale ts (at + 1 + 1) closing e (λ l. u.0)), u.1)

  pub lone-negative : (t₁ : List ℕ) (r : Counted) → get_or ts (at + 1 + 1) 0 ≡ kind.minus → get_or ts (at + 1 + 1 + 1) 0 ≡ kind.whole → Undecided ts t t₁ at used (at + 1 + 1 + 1) r → Bracing ts t t₁ at used r
  lone-negative t₁ r e d u = (to-comma (minus-scale ts (at + 1 + 1) closing e d (λ l. u.0)), u.1)

  pub lone-signless : get_or ts (at + 1 + 1) 0 ≡ kind.minus → (get_or ts (at + 1 + 1 + 1) 0 ≡ kind.decimal → ⊥) → (get_or ts (at + 1 + 1 + 1) 0 ≡ kind.whole → ⊥) → Bracing ts t t at used (Err (at + 1 + 1 + 1))
  unfolding place_counted Inside
  lone-signless e d w = (to-comma (minus-other ts (at + 1 + 1) closing e d w), refl)

  -- a wait
  module _ {t₁ : List ℕ} (w : Wrote t t₁ used node.wait at 0 0) (t₂ : List ℕ) (r : Counted) (b : Closing ts t₁ t₂ (at + 1 + 1) used r) where
    waits : Inside ts t t₂ at used r
    unfolding flat_action action_at Table.Action
    waits =
        let z : Rated ts t₁ t₂ (at + 1) used r = rated-made ts t₁ (at + 1) used t₂ r o.1 b in
        inner_made ts t t₁ t₂ at used (at + 1) used r (record { tree = Grammar.wait; span = span-wrote w (span-token kind.name o.0 (omega arith)) (omega arith); shown = seen-leaf w }) z.1.0 z.1.1

    pub lone-decimal : get_or ts (at + 1 + 1) 0 ≡ kind.decimal → Bracing ts t t₂ at used r
    lone-decimal e = (to-comma (comma-decimal ts (at + 1 + 1) closing e b.0), waits)

    pub lone-negative-decimal : get_or ts (at + 1 + 1) 0 ≡ kind.minus → get_or ts (at + 1 + 1 + 1) 0 ≡ kind.decimal → Bracing ts t t₂ at used r
    lone-negative-decimal e d = (to-comma (minus-decimal ts (at + 1 + 1) closing e d b.0), waits)

  -- a channel
  module _ (d : get_or ts (at + 1 + 1) 0 ≡ kind.decimal → ⊥) (m : get_or ts (at + 1 + 1) 0 ≡ kind.minus → ⊥) (n : get_or ts (at + 1 + 1) 0 ≡ kind.whole → ⊥) (l : get_or ts (at + 1 + 1) 0 ≡ kind.name → ⊥) {t₁ : List ℕ} (w : Wrote t t₁ used node.named at 0 0) (t₂ : List ℕ) {r : Read} (a : Expr ts t₁ t₂ (at + 1 + 1) (used + 1) r) where
    pub lone-fault : {k : ℕ} → r ≡ Err k → Bracing ts t t₂ at used (Err k)
    unfolding place_counted Inside
    lone-fault {k} e = (
      to-comma (comma-channel ts (at + 1 + 1) closing d m n l (fails ts (at + 1 + 1) k an_expr _ (fault-at e a.0))),
      fault-size _ _ ts t₁ t₂ (at + 1 + 1) (used + 1) e a.1 ∙ wrote-size w,
    )

    module _ {i mid : ℕ} (e : r ≡ Ok (i, mid)) where
      lone-begun : Begun flat_expr expr_at ts t t₂ at used i mid
      unfolding Table.Expr
      lone-begun =
          let p = made_of e a.1 in
          let before : Span (λ us. kind.name ∷ kind.comma ∷ us) ts t t₁ at used (at + 1 + 1) (used + 1) = span-wrote w (span-token kind.name o.0 (omega arith) then span-token kind.comma o.1 (omega arith)) (omega arith) in
          record {
            item = p.tree;
            span = before then p.span;
            spare = omega (arith, p.span.fewer);
            below = omega (arith, p.span.more);
            first = seen-later (expr-interval (Syntax.named at)) p.span (omega arith) (seen-leaf w);
            second = p.shown;
          }

      pub lone-done : (t₃ : List ℕ) (r' : Counted) → Second ts t₂ t₃ i used mid r' → Bracing ts t t₃ at used r'
      lone-done t₃ r' s = (
        to-comma (comma-channel ts (at + 1 + 1) closing d m n l (join ts (at + 1 + 1) i an_expr _ (next-at e a.0) s.0)),
        begun-inside ts t t₂ t₃ at used i mid r' lone-begun s.1,
      )
