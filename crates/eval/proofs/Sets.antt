-- What a node says of the set that stands there, by its kind. By cases of the set.
use mathlib.Core.Path.{◌≡◌, refl, sym, ap, ◌∙◌}
use mathlib.Core.List.{List}
use mathlib.Core.Bool.{Bool, true, false, cond, not, ◌&&◌, ◌||◌}
use mathlib.Core.Option.{Option, none, some}
use Prim.Native.Nat.{ℕ, ◌-◌, ◌≤◌, ◌<◌}
use native.Mathlib.Omega.{arith}
use borrow.Author.Tests.{eqb-true, eqb-false, leb-true, leb-false}
use lib.Dec.{eqb, leb}
use lib.IntN.{ℤ, pos, negsuc}
use lib.ListN.{get_or}
use Rattle.std.specs.Prelude.{None, Some, Option as RustOption}
use Rattle.std.specs.Option.{option_zip}
use Rattle.value.specs.Range.{Value}
use Rattle.value.specs.Arithmetic.{is_same}
use Rattle.value.proofs.Kit.{true-not-false, false-not-true}
use Rattle.grammar.specs.Syntax.{Join, without, union, inter}
use Rattle.tree.specs.Node.{kind_of, left_of, join_kind}
use Rattle.model.specs.Resolved
use Rattle.rules.specs.Offers as offers
use Rattle.rules.specs.Offers.{within}
use Rattle.tables.specs.Settled.{Set}
use Rattle.tables.proofs.Parts.{pair-above, pair-second}
use Rattle.model.specs.Good.{GoodSet}
use Rattle.machine.specs.Evaluate.{valued, given, joined, eval_expr, eval_set}
use Rattle.machine.specs.Offer.{is_none, is_value}
use Rattle.machine.proofs.Parts.{valued-is, given_is, some_is}
use Rattle.eval.specs.Held.{Held, Worth}
use Rattle.eval.specs.Skips.{settles}
use Rattle.eval.specs.Answers.{Tells, ends_known}
use Rattle.eval.proofs.Exprs.{SomeExpr, IsExpr, expr-kind}

-- ---- the operators
abbrev joins : Join → Bool → Bool → Bool
joins without p q = p && not q
joins union p q = p || q
joins inter p q = p && q

within-joined : (j : Join) (x y : offers.Set) (v : ℤ) → within (joined j x y) v ≡ joins j (within x v) (within y v)
unfolding within joined
within-joined without x y v = refl
within-joined union x y v = refl
within-joined inter x y v = refl

settled-by : (j : Join) (p q : Bool) → settles (join_kind j) p ≡ true → p ≡ joins j p q
unfolding settles join_kind
settled-by without true q h = false-not-true h
settled-by without false q h = refl
settled-by union true q h = refl
settled-by union false q h = false-not-true h
settled-by inter true q h = false-not-true h
settled-by inter false q h = refl

finished-by : (j : Join) (p q : Bool) → settles (join_kind j) p ≡ false → cond (eqb (join_kind j) 12) (not q) q ≡ joins j p q
unfolding settles join_kind
finished-by without true q h = refl
finished-by without false q h = true-not-false h
finished-by union true q h = true-not-false h
finished-by union false q h = refl
finished-by inter true q h = refl
finished-by inter false q h = true-not-false h

pub join-range : (j : Join) → (12 ≤ join_kind j) × (join_kind j ≤ 14)
unfolding join_kind
join-range without = omega arith
join-range union = omega arith
join-range inter = omega arith

-- ---- ends of a range
pub between_is : (u w : Value) (x y v : ℤ) (r : Bool) → u ≡ Some x → w ≡ Some y → r ≡ within (offers.range x y) v → (a b : ℤ) → u ≡ Some a → w ≡ Some b → r ≡ within (offers.range a b) v
between_is u w x y v r h k e a b f g =
    let i : x ≡ a = cc in
    let j : y ≡ b = cc in
    e ∙ ap (λ (z : ℤ). within (offers.range z y) v) i ∙ ap (λ (z : ℤ). within (offers.range a z) v) j

-- two ends are both there
pub zip-some : (u w : Value) (x y : ℤ) → option_zip u w ≡ Some (x, y) → (u ≡ Some x) × (w ≡ Some y)
zip-some (Some a) (Some b) x y e =
    let h : ◌≡◌ {A = ℤ × ℤ} (a, b) (x, y) = cc in
    (ap (λ (p : ℤ × ℤ). Some p.0) h, ap (λ (p : ℤ × ℤ). Some p.1) h)
zip-some (Some a) None x y e = cc
zip-some None w x y e = cc

pub zip-none : {A : Type 0} (u w : Value) (a b : ℤ) → option_zip u w ≡ None → u ≡ Some a → w ≡ Some b → A
zip-none u w a b e f g = let h : ◌≡◌ {A = RustOption (ℤ × ℤ)} None (Some (a, b)) = sym e ∙ rw (f, g) refl in cc

-- a lone value
eq-leb : (a b : ℕ) → eqb b a ≡ (leb a b && leb b a)
eq-leb a b = go (eqb b a) (leb a b) (leb b a) refl refl refl
  where
    go : (p q r : Bool) → eqb b a ≡ p → leb a b ≡ q → leb b a ≡ r → p ≡ (q && r)
    go true true true e f g = refl
    go true true false e f g = absurd (omega (arith, eqb-true b a e, leb-false b a g))
    go true false r e f g = absurd (omega (arith, eqb-true b a e, leb-false a b f))
    go false true true e f g = absurd (eqb-false b a e (omega (arith, leb-true a b f, leb-true b a g)))
    go false true false e f g = refl
    go false false r e f g = refl

pub lone-within : (x v : ℤ) → is_same v x ≡ within (offers.range x x) v
unfolding within
lone-within (pos a) (pos b) = eq-leb a b
lone-within (pos a) (negsuc b) = refl
lone-within (negsuc a) (pos b) = refl
lone-within (negsuc a) (negsuc b) = eq-leb a b ∙ go (leb a b) (leb b a)
  where
    go : (p q : Bool) → (p && q) ≡ (q && p)
    go true true = refl
    go true false = refl
    go false true = refl
    go false false = refl

-- ---- sets by their nodes

-- a set of n locals stands at k
abbrev pub SomeSet : List ℕ → ℕ → ℕ → Type 0
SomeSet t n k = Held (Set t) (GoodSet n) k

-- r is whether the ends of the set at k have values
abbrev pub Ends : List ℕ → List ℤ → ℕ → Bool → Type 0
Ends t ls k r = Worth (Set t) (ends_known ls) k r

-- every set's kind is below 15
pub set-kind : (t : List ℕ) (k : ℕ) (s : Resolved.Set) → Set t s k → kind_of (get_or t k 0) ≤ 14
unfolding Set
set-kind t k (Resolved.single e) a = omega (arith, expr-kind t k e a)
set-kind t k (Resolved.range e f) a = omega (arith, a.kind-is)
set-kind t k (Resolved.joined j s r) a = omega (arith, a.kind-is, join-range j)

module _ (t : List ℕ) (k kind : ℕ) (is : kind ≡ kind_of (get_or t k 0)) where
  -- a lone expression
  pub single-part : (n : ℕ) → kind < 11 → SomeSet t n k → SomeExpr t n k
  unfolding Set GoodSet
  single-part n l s = go s.part s.at s.fit
    where
      go : (x : Resolved.Set) → Set t x k → GoodSet n x → SomeExpr t n k
      go (Resolved.single e) a g = record { part = e; at = a; fit = g }
      go (Resolved.range e f) a g = absurd (omega (arith, a.kind-is))
      go (Resolved.joined j x y) a g = absurd (omega (arith, a.kind-is, join-range j))

  pub single-tells : (ls : List ℤ) (v : ℤ) (z : Value) (r : Bool) → kind < 11 → IsExpr t ls k z → ((a b : ℤ) → z ≡ Some a → z ≡ Some b → r ≡ within (offers.range a b) v) → Tells t ls v k r
  unfolding Set eval_set
  single-tells ls v z r l w f (Resolved.single e) x a q =
      let u = valued-is _ _ x q in
      let i = w e a ∙ u.is in
      f u.part u.part i i ∙ ap (λ (y : offers.Set). within y v) (some_is _ x u.rest)
  single-tells ls v z r l w f (Resolved.range e g) x a q = absurd (omega (arith, a.kind-is))
  single-tells ls v z r l w f (Resolved.joined j s y) x a q = absurd (omega (arith, a.kind-is, join-range j))

  pub single-ends : (ls : List ℤ) (z : Value) → kind < 11 → IsExpr t ls k z → Ends t ls k (is_value z)
  unfolding Set eval_set ends_known is_none is_value valued given
  single-ends ls z l w (Resolved.single e) a = rw (← w e a) (go z)
    where
      go : (u : Value) → is_value u ≡ not (is_none (valued u (λ x. some (offers.range x x))))
      go (Some x) = refl
      go None = refl
  single-ends ls z l w (Resolved.range e g) a = absurd (omega (arith, a.kind-is))
  single-ends ls z l w (Resolved.joined j s y) a = absurd (omega (arith, a.kind-is, join-range j))

  -- a range
  pub range-parts : (n : ℕ) → kind ≡ 11 → SomeSet t n k → (1 ≤ k) × SomeExpr t n (left_of (get_or t k 0)) × SomeExpr t n (k - 1)
  unfolding Set GoodSet
  range-parts n l s = go s.part s.at s.fit
    where
      go : (x : Resolved.Set) → Set t x k → GoodSet n x → (1 ≤ k) × SomeExpr t n (left_of (get_or t k 0)) × SomeExpr t n (k - 1)
      go (Resolved.single e) a g = absurd (omega (arith, expr-kind t k e a))
      go (Resolved.range e f) a g = (pair-above a, record { part = e; at = a.holds-first; fit = g.0 }, record { part = f; at = pair-second a; fit = g.1 })
      go (Resolved.joined j x y) a g = absurd (omega (arith, a.kind-is, join-range j))

  pub range-tells : (ls : List ℤ) (v : ℤ) (z w : Value) (r : Bool) → kind ≡ 11 → IsExpr t ls (left_of (get_or t k 0)) z → IsExpr t ls (k - 1) w → ((a b : ℤ) → z ≡ Some a → w ≡ Some b → r ≡ within (offers.range a b) v) → Tells t ls v k r
  unfolding Set eval_set
  range-tells ls v z w r l d e f (Resolved.single g) x a q = absurd (omega (arith, expr-kind t k g a))
  range-tells ls v z w r l d e f (Resolved.range g h) x a q =
      let u = valued-is _ _ x q in
      let m = valued-is _ _ x u.rest in
      f u.part m.part (d g a.holds-first ∙ u.is) (e h (pair-second a) ∙ m.is) ∙ ap (λ (y : offers.Set). within y v) (some_is _ x m.rest)
  range-tells ls v z w r l d e f (Resolved.joined j s y) x a q = absurd (omega (arith, a.kind-is, join-range j))

  pub range-ends : (ls : List ℤ) (z w : Value) → kind ≡ 11 → IsExpr t ls (left_of (get_or t k 0)) z → is_value z ≡ true → IsExpr t ls (k - 1) w → Ends t ls k (is_value w)
  unfolding Set eval_set ends_known is_none is_value valued given
  range-ends ls z w l d i e (Resolved.single g) a = absurd (omega (arith, expr-kind t k g a))
  range-ends ls z w l d i e (Resolved.range g h) a = rw (← d g a.holds-first, ← e h (pair-second a)) (go z w i)
    where
      go : (u m : Value) → is_value u ≡ true → is_value m ≡ not (is_none (valued u (λ x. valued m (λ y. some (offers.range x y)))))
      go (Some x) (Some y) i = refl
      go (Some x) None i = refl
      go None m i = false-not-true i
  range-ends ls z w l d i e (Resolved.joined j s y) a = absurd (omega (arith, a.kind-is, join-range j))

  pub range-unknown : (ls : List ℤ) (z : Value) → kind ≡ 11 → IsExpr t ls (left_of (get_or t k 0)) z → is_value z ≡ false → Ends t ls k false
  unfolding Set eval_set ends_known is_none is_value valued given
  range-unknown ls z l d i (Resolved.single g) a = absurd (omega (arith, expr-kind t k g a))
  range-unknown ls z l d i (Resolved.range g h) a = rw (← d g a.holds-first) (go z i)
    where
      go : (u : Value) → is_value u ≡ false → false ≡ not (is_none (valued u (λ x. valued (eval_expr ls h) (λ y. some (offers.range x y)))))
      go (Some x) i = true-not-false i
      go None i = refl
  range-unknown ls z l d i (Resolved.joined j s y) a = absurd (omega (arith, a.kind-is, join-range j))

  -- two sets
  module _ (l : 11 ≤ kind) (m : kind ≡ 11 → ⊥) where
    not-single : {A : Type 0} (e : Resolved.Expr) → Set t (Resolved.single e) k → A
    unfolding Set
    not-single e a = absurd (omega (arith, expr-kind t k e a))

    pub joined-parts : (n : ℕ) → SomeSet t n k → (1 ≤ k) × (left_of (get_or t k 0) < k) × SomeSet t n (left_of (get_or t k 0)) × SomeSet t n (k - 1)
    unfolding Set GoodSet
    joined-parts n s = go s.part s.at s.fit
      where
        go : (x : Resolved.Set) → Set t x k → GoodSet n x → (1 ≤ k) × (left_of (get_or t k 0) < k) × SomeSet t n (left_of (get_or t k 0)) × SomeSet t n (k - 1)
        go (Resolved.single e) a g = not-single e a
        go (Resolved.range e f) a g = absurd (m (is ∙ a.kind-is))
        go (Resolved.joined j x y) a g =
            (pair-above a, a.below, record { part = x; at = a.holds-first; fit = g.0 }, record { part = y; at = pair-second a; fit = g.1 })

    -- the left side decides
    pub settled-tells : (ls : List ℤ) (v : ℤ) (p : Bool) → Tells t ls v (left_of (get_or t k 0)) p → settles kind p ≡ true → Tells t ls v k p
    unfolding Set eval_set
    settled-tells ls v p f h (Resolved.single e) x a q = not-single e a
    settled-tells ls v p f h (Resolved.range e g) x a q = absurd (m (is ∙ a.kind-is))
    settled-tells ls v p f h (Resolved.joined j s r) x a q =
        let u = given_is _ _ x q in
        let w = given_is _ _ x u.rest in
        settled-by j p (within w.part v) (rw (is ∙ a.kind-is) at h)
        ∙ ap (λ (b : Bool). joins j b (within w.part v)) (f s u.part a.holds-first u.is)
        ∙ sym (within-joined j u.part w.part v)
        ∙ ap (λ (y : offers.Set). within y v) (some_is _ x w.rest)

    pub finished-tells : (ls : List ℤ) (v : ℤ) (p q r : Bool) → Tells t ls v (left_of (get_or t k 0)) p → settles kind p ≡ false → Tells t ls v (k - 1) q → r ≡ cond (eqb kind 12) (not q) q → Tells t ls v k r
    unfolding Set eval_set
    finished-tells ls v p q r f h g d (Resolved.single e) x a o = not-single e a
    finished-tells ls v p q r f h g d (Resolved.range e y) x a o = absurd (m (is ∙ a.kind-is))
    finished-tells ls v p q r f h g d (Resolved.joined j s y) x a o =
        let u = given_is _ _ x o in
        let w = given_is _ _ x u.rest in
        (rw (is ∙ a.kind-is) at d)
        ∙ finished-by j p q (rw (is ∙ a.kind-is) at h)
        ∙ ap (λ (b : Bool). joins j b q) (f s u.part a.holds-first u.is)
        ∙ ap (λ (b : Bool). joins j (within u.part v) b) (g y w.part (pair-second a) w.is)
        ∙ sym (within-joined j u.part w.part v)
        ∙ ap (λ (y : offers.Set). within y v) (some_is _ x w.rest)

    pub joined-ends : (ls : List ℤ) (p q : Bool) → Ends t ls (left_of (get_or t k 0)) p → p ≡ true → Ends t ls (k - 1) q → Ends t ls k q
    unfolding Set eval_set ends_known is_none is_value valued given
    joined-ends ls p q f h g (Resolved.single e) a = not-single e a
    joined-ends ls p q f h g (Resolved.range e y) a = absurd (m (is ∙ a.kind-is))
    joined-ends ls p q f h g (Resolved.joined j s y) a = g y (pair-second a) ∙ go (eval_set ls s) (eval_set ls y) (sym (f s a.holds-first) ∙ h)
      where
        go : (o u : Option offers.Set) → not (is_none o) ≡ true → not (is_none u) ≡ not (is_none (given o (λ x. given u (λ y. some (joined j x y)))))
        go (some x) (some y) i = refl
        go (some x) none i = refl
        go none u i = false-not-true i

    pub joined-unknown : (ls : List ℤ) (p : Bool) → Ends t ls (left_of (get_or t k 0)) p → p ≡ false → Ends t ls k p
    unfolding Set eval_set ends_known is_none is_value valued given
    joined-unknown ls p f h (Resolved.single e) a = not-single e a
    joined-unknown ls p f h (Resolved.range e y) a = absurd (m (is ∙ a.kind-is))
    joined-unknown ls p f h (Resolved.joined j s y) a = h ∙ go (eval_set ls s) (sym (f s a.holds-first) ∙ h)
      where
        go : (o : Option offers.Set) → not (is_none o) ≡ false → false ≡ not (is_none (given o (λ x. given (eval_set ls y) (λ z. some (joined j x z)))))
        go (some x) i = true-not-false i
        go none i = refl
