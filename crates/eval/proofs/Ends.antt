-- What a node says of a set as two numbers, and of one or two sets. By cases of the set and of the list.
use mathlib.Core.Path.{◌≡◌, refl, sym, ap, subst, ◌∙◌}
use mathlib.Core.List.{List, [], ◌∷◌}
use mathlib.Core.Bool.{Bool, true, false}
use mathlib.Core.Option.{Option, some}
use Prim.Native.Nat.{ℕ, ◌+◌, ◌-◌, ◌≤◌, ◌<◌}
use native.Mathlib.Omega.{arith}
use borrow.Author.Tests.{ltb-true, ltb-false}
use lib.Dec.{ltb, lit<}
use lib.IntN.{ℤ, pos, nat_abs}
use lib.ListN.{length, get_or, get_or-eq_default}
use Rattle.value.specs.Range.{farthest, InRange, Value}
use Rattle.value.proofs.Kit.{false-not-true, ok-fits, bits-eq}
use mir.Syntax.{w64}
use mir.Val.{SFits, of_z}
use Rattle.std.specs.Prelude.{None, Some, cond, Option as RustOption}
use Rattle.std.specs.Ordering.{int_eq}
use Rattle.std.proofs.lemmas.Bool.Decides.{Decides-int_eq}
use Rattle.eval.specs.declared.offer.OfferSet.{OfferSet}
use Rattle.eval.specs.declared.offer.OfferSet.TheVariants.{Range, Joined}
use Rattle.tree.specs.Node.{kind_of, left_of}
use Rattle.model.specs.Resolved
use Rattle.rules.specs.Offers as offers
use Rattle.tables.specs.Settled.{Set, OneOrTwo}
use Rattle.tables.proofs.Parts.{pair-second}
use Rattle.machine.specs.Evaluate.{valued, given, eval_set, eval_all}
use Rattle.std.specs.Bool.{then_some}
use Rattle.eval.specs.Held.{Sound}
use Rattle.eval.specs.Shown.{joined_mark, set_in, RootBefore, Numbered, Rooted, ShowsSet, ranged, rooted, one, two, ShowsEnds, are, missing, SetShown, ListsSets, all, SetsListed}
use Rattle.eval.specs.Shown as shown
use Rattle.eval.proofs.Exprs.{IsExpr, expr-kind, expr-some}
use Rattle.eval.proofs.Sets.{SomeSet, Ends, join-range}
use Rattle.eval.proofs.Lists.{came, lacks, set-low}

-- a set, if its ends are there
abbrev Answer : Type 0
Answer = RustOption OfferSet

-- the range, if both ends are there
unfoldable pub range_ends : Value → Value → Answer
range_ends (Some a) (Some b) = Some (Range a b)
range_ends (Some a) None = None
range_ends None y = None

-- ---- a set in two numbers
pub joined-in : (a b : ℤ) → b ≡ joined_mark → set_in a b ≡ Joined (nat_abs a)
unfolding set_in
joined-in a b e = rw ((Decides-int_eq b joined_mark).1 e)

pub ranged-in : (a b : ℤ) → (b ≡ joined_mark → ⊥) → set_in a b ≡ Range a b
unfolding set_in
ranged-in a b n = go (int_eq b joined_mark) refl
  where
    go : (p : Bool) → int_eq b joined_mark ≡ p → cond p (Joined (nat_abs a)) (Range a b) ≡ Range a b
    go true e = absurd (n ((Decides-int_eq b joined_mark).0 e))
    go false e = refl

-- no value is the mark
pub range-in : (a : ℤ) {b : ℤ} → InRange b → set_in a b ≡ Range a b
range-in a {b} h = ranged-in a b (λ e. let g : InRange joined_mark = subst InRange e h in false-not-true g.high)

pub range-plain : (a : ℤ) {b : ℤ} → InRange b → RootBefore a b
unfolding RootBefore
range-plain a h e = let g : InRange joined_mark = subst InRange e h in absurd (false-not-true g.high)

pub root-in : (k : ℕ) → set_in (pos k) joined_mark ≡ Joined k
root-in k = joined-in (pos k) joined_mark refl

pub root-plain : (k : ℕ) → RootBefore (pos k) joined_mark
unfolding RootBefore
root-plain k e = refl

module _ (t : List ℕ) (k kind : ℕ) (is : kind ≡ kind_of (get_or t k 0)) where
  -- a node of any kind lies in the table
  pub inside : 1 ≤ kind → k < length t
  unfolding kind_of
  inside h = go (ltb k (length t)) refl
    where
      go : (b : Bool) → ltb k (length t) ≡ b → k < length t
      go true e = ltb-true k (length t) e
      go false e = let d : get_or t k 0 ≡ 0 = get_or-eq_default t 0 (ltb-false k (length t) e) in absurd (omega arith)

  module _ (ls : List ℤ) where
    pub single-shown : (x : Value) → kind < 11 → IsExpr t ls k x → Sound x → SetShown t ls k (range_ends x x)
    unfolding Set eval_set valued range_ends
    single-shown x l w h (Resolved.single e) a = rw (← w e a) (go x h)
      where
        go : (v : Value) → Sound v → ShowsEnds t ls (valued v (λ z. some (offers.range z z))) (range_ends v v)
        go (Some z) h = are (ranged refl h)
        go None h = missing
    single-shown x l w h (Resolved.range e f) a = absurd (omega (arith, a.kind-is))
    single-shown x l w h (Resolved.joined j s r) a = absurd (omega (arith, a.kind-is, join-range j))

    pub range-shown : (x y : Value) → kind ≡ 11 → IsExpr t ls (left_of (get_or t k 0)) x → IsExpr t ls (k - 1) y → Sound y → SetShown t ls k (range_ends x y)
    unfolding Set eval_set valued range_ends
    range-shown x y l v w h (Resolved.single e) a = absurd (omega (arith, expr-kind t k e a))
    range-shown x y l v w h (Resolved.range e f) a = rw (← v e a.holds-first, ← w f (pair-second a)) (go x y h)
      where
        go : (p q : Value) → Sound q → ShowsEnds t ls (valued p (λ z. valued q (λ u. some (offers.range z u)))) (range_ends p q)
        go (Some z) (Some u) h = are (ranged refl h)
        go (Some z) None h = missing
        go None q h = missing
    range-shown x y l v w h (Resolved.joined j s r) a = absurd (omega (arith, a.kind-is, join-range j))

    pub range-lacks : kind ≡ 11 → IsExpr t ls (left_of (get_or t k 0)) None → SetShown t ls k None
    unfolding Set eval_set valued
    range-lacks l v (Resolved.single e) a = absurd (omega (arith, expr-kind t k e a))
    range-lacks l v (Resolved.range e f) a = rw (← v e a.holds-first) missing
    range-lacks l v (Resolved.joined j s r) a = absurd (omega (arith, a.kind-is, join-range j))

    module _ (b : Bool) (w : Ends t ls k b) where
      pub root-shown : SomeSet t (length ls) k → b ≡ true → SetShown t ls k (Some (Joined k))
      root-shown h e s a =
          let c = came t ls s k a b w e in
          rw c.is (are (rooted refl (record { held = h; set = s; at = a; worth = c.is })))

      pub root-missing : b ≡ false → SetShown t ls k None
      root-missing e s a = rw (lacks t ls s k a b w e) missing

    pub root-tried : (b : Bool) → Ends t ls k b → SomeSet t (length ls) k → SetShown t ls k (then_some b (Joined k))
    root-tried true w h = root-shown true w h refl
    root-tried false w h = root-missing false w refl

    -- ---- one or two
    pub one-listed : (u : OfferSet) (b c : ℤ) → (set_in b c ≡ u) × RootBefore b c → (kind ≡ 35 → ⊥) → SetShown t ls k (Some u)
        → SetsListed t ls k (Some (record { count = 1; first = b; first_end = c; second = pos 0; second_end = pos 0 }))
    unfolding OneOrTwo eval_all given
    one-listed u b c e h w [] a = absurd a
    one-listed u b c e h w (s ∷ []) a = go (w s a)
      where
        go : {o : Option offers.Set} → ShowsEnds t ls o (Some u)
            → ListsSets t ls (Some (record { count = 1; first = b; first_end = c; second = pos 0; second_end = pos 0 })) (given o (λ z. given (some []) (λ zs. some (z ∷ zs))))
        go (are q) = all (one refl (record { shows = rw e.0 q; root = e.1 }) refl refl)
    one-listed u b c e h w (s ∷ r ∷ []) a = absurd (h (is ∙ a.kind-is))
    one-listed u b c e h w (s ∷ r ∷ q ∷ ss) a = absurd a

    pub one-lacks : (kind ≡ 35 → ⊥) → SetShown t ls k None → SetsListed t ls k None
    unfolding OneOrTwo eval_all given
    one-lacks h w [] a = absurd a
    one-lacks h w (s ∷ []) a = go (w s a)
      where
        go : {o : Option offers.Set} → ShowsEnds t ls o None → ListsSets t ls None (given o (λ z. given (some []) (λ zs. some (z ∷ zs))))
        go missing = shown.missing
    one-lacks h w (s ∷ r ∷ []) a = absurd (h (is ∙ a.kind-is))
    one-lacks h w (s ∷ r ∷ q ∷ ss) a = absurd a

    pub two-listed : (u z : OfferSet) (b c d e : ℤ) → (set_in b c ≡ u) × RootBefore b c → (set_in d e ≡ z) × RootBefore d e → kind ≡ 35 → SetShown t ls (left_of (get_or t k 0)) (Some u) → SetShown t ls (k - 1) (Some z)
        → SetsListed t ls k (Some (record { count = 2; first = b; first_end = c; second = d; second_end = e }))
    unfolding OneOrTwo eval_all given
    two-listed u z b c d e f g h v w [] a = absurd a
    two-listed u z b c d e f g h v w (s ∷ []) a = absurd (omega (arith, set-low t k kind is s a))
    two-listed u z b c d e f g h v w (s ∷ r ∷ []) a = go (v s a.holds-first) (w r (pair-second a))
      where
        go : {o p : Option offers.Set} → ShowsEnds t ls o (Some u) → ShowsEnds t ls p (Some z)
            → ListsSets t ls (Some (record { count = 2; first = b; first_end = c; second = d; second_end = e })) (given o (λ b. given (given p (λ c. given (some []) (λ zs. some (c ∷ zs)))) (λ zs. some (b ∷ zs))))
        go (are q) (are m) = all (two refl (record { shows = rw f.0 q; root = f.1 }) (record { shows = rw g.0 m; root = g.1 }))
    two-listed u z b c d e f g h v w (s ∷ r ∷ q ∷ ss) a = absurd a

    pub two-lack : kind ≡ 35 → SetShown t ls (left_of (get_or t k 0)) None → SetsListed t ls k None
    unfolding OneOrTwo eval_all given
    two-lack h v [] a = absurd a
    two-lack h v (s ∷ []) a = absurd (omega (arith, set-low t k kind is s a))
    two-lack h v (s ∷ r ∷ []) a = go (v s a.holds-first)
      where
        go : {o : Option offers.Set} → ShowsEnds t ls o None → ListsSets t ls None (given o (λ b. given (given (eval_set ls r) (λ c. given (some []) (λ zs. some (c ∷ zs)))) (λ zs. some (b ∷ zs))))
        go missing = shown.missing
    two-lack h v (s ∷ r ∷ q ∷ ss) a = absurd a

    pub second-lacks : (u : OfferSet) → kind ≡ 35 → SetShown t ls (left_of (get_or t k 0)) (Some u) → SetShown t ls (k - 1) None → SetsListed t ls k None
    unfolding OneOrTwo eval_all given
    second-lacks u h v w [] a = absurd a
    second-lacks u h v w (s ∷ []) a = absurd (omega (arith, set-low t k kind is s a))
    second-lacks u h v w (s ∷ r ∷ []) a = go (v s a.holds-first) (w r (pair-second a))
      where
        go : {o p : Option offers.Set} → ShowsEnds t ls o (Some u) → ShowsEnds t ls p None → ListsSets t ls None (given o (λ b. given (given p (λ c. given (some []) (λ zs. some (c ∷ zs)))) (λ zs. some (b ∷ zs))))
        go (are q) missing = shown.missing
    second-lacks u h v w (s ∷ r ∷ q ∷ ss) a = absurd a

-- a set's node is of some kind
set-some : (t : List ℕ) (k : ℕ) (s : Resolved.Set) → Set t s k → 1 ≤ kind_of (get_or t k 0)
unfolding Set
set-some t k (Resolved.single e) a = expr-some t k e a
set-some t k (Resolved.range e f) a = omega (arith, a.kind-is)
set-some t k (Resolved.joined j s r) a = omega (arith, a.kind-is, join-range j)

-- a set that stands in the table has numbers
module _ (t : List ℕ) (ls : List ℤ) (u : OfferSet) (long : length t < 9223372036854775808) where
  pub shown-numbered : {x : offers.Set} → ShowsSet t ls u x → Numbered u
  unfolding Numbered
  shown-numbered (ranged {x = a} {y = b} p h) = subst Numbered (sym p) h
  shown-numbered (rooted {i = i} p r) =
      let l : i < length t = inside t i (kind_of (get_or t i 0)) refl (set-some t i r.set r.at) in
      let m : i < 9223372036854775808 = omega (arith, long) in
      subst Numbered (sym p) m

  pub set-numbered : (k : ℕ) → SomeSet t (length ls) k → SetShown t ls k (Some u) → Numbered u
  set-numbered k h w = go (w h.part h.at)
    where
      go : {o : Option offers.Set} → ShowsEnds t ls o (Some u) → Numbered u
      go (are q) = shown-numbered q

-- ---- a set that an offer shows
module _ (t : List ℕ) (ls : List ℤ) {s : OfferSet} where
  pub rooted-at : {x : offers.Set} (i : ℕ) → s ≡ Joined i → ShowsSet t ls s x → Rooted t ls x i
  rooted-at i e (ranged {x = a} {y = b} p h) = let d : Range a b ≡ Joined i = sym p ∙ e in absurd (let z : ◌≡◌ {A = ℕ} 0 1 = cc in omega arith)
  rooted-at {x = x} i e (rooted {i = j} p r) = let d : Joined j ≡ Joined i = sym p ∙ e in let n : j ≡ i = cc in subst (Rooted t ls x) n r

  pub ranged-as : {x : offers.Set} (a b : ℤ) → s ≡ Range a b → ShowsSet t ls s x → x ≡ offers.range a b
  ranged-as a b e (ranged {x = c} {y = d} p h) = let q : Range c d ≡ Range a b = sym p ∙ e in let m : c ≡ a = cc in let n : d ≡ b = cc in rw (m, n)
  ranged-as a b e (rooted {i = i} p r) = let d : Joined i ≡ Range a b = sym p ∙ e in absurd (let z : ◌≡◌ {A = ℕ} 0 1 = cc in omega arith)

  pub ranged-tells : {x : offers.Set} (a b v : ℤ) (r : Bool) → s ≡ Range a b → r ≡ offers.within (offers.range a b) v → ShowsSet t ls s x → r ≡ offers.within x v
  ranged-tells a b v r e w h = rw (ranged-as a b e h) w

-- the mark as the machine compares it
module _ (b : ℤ) (f : SFits w64 b) where
  pub mark-taken : of_z w64 b ≡ farthest + 1 → b ≡ joined_mark
  mark-taken e = bits-eq b joined_mark f (ok-fits joined_mark (lit< tt)) e

  pub mark-left : (of_z w64 b ≡ farthest + 1 → ⊥) → b ≡ joined_mark → ⊥
  mark-left h e = h (ap (of_z w64) e)
