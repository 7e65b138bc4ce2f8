-- Question 1: the test of lengths decides that all that is lent has its length. By induction on the parts that are lent.
use mathlib.Core.Path.{◌≡◌, refl, sym, ap, ap₂, ◌∙◌}
use mathlib.Core.List.{List, [], ◌∷◌}
use mathlib.Core.Bool.{Bool, true, false, cond, ◌&&◌, ◌||◌}
use mathlib.Core.Option.{Option, none, some, Option-elim}
use Prim.Native.Nat.{ℕ}
use native.Mathlib.Omega.{arith}
use lib.Dec.{eqb}
use borrow.Author.Tests.{eqb-true, eqb-false, eq-eqb}
use Rattle.value.proofs.Kit.{true-not-false, false-not-true}
use Rattle.rules.proofs.Decides.{Decides, holds, fails, both}
use Rattle.machine.specs.Machine.{Part, model, state, saves, clock, size, part_number, lent_to, output_of, is_lent, all_parts, has_lengths, Call, search}
use Rattle.machine.specs.Results.{Lent}

-- ---- parts by their number

part_at : ℕ → Part
part_at n = cond (eqb n 0) model (cond (eqb n 1) state (cond (eqb n 2) saves (cond (eqb n 3) clock search)))

number-part : (p : Part) → part_at (part_number p) ≡ p
unfolding part_at
number-part model = refl
number-part state = refl
number-part saves = refl
number-part clock = refl
number-part search = refl

same-part : (p q : Part) → eqb (part_number p) (part_number q) ≡ true → p ≡ q
same-part p q e = sym (number-part p) ∙ ap part_at (eqb-true _ _ e) ∙ number-part q

-- ---- what all lent parts pass

pub both_true : (a b : Bool) → (a && b) ≡ true → (a ≡ true) × (b ≡ true)
both_true true b e = (refl, e)
both_true false b e = false-not-true e

pub each_lent : (t : Part → Bool) (ps : List Part) → all_parts t ps ≡ true → (p : Part) → is_lent p ps ≡ true → t p ≡ true
unfolding all_parts is_lent
each_lent t [] e p l = false-not-true l
each_lent t (q ∷ qs) e p l = by (λ l. each_lent t qs (both_true (t q) _ e).1 p l) (eqb (part_number p) (part_number q)) refl l
  where
    by : (is_lent p qs ≡ true → t p ≡ true) → (b : Bool) → eqb (part_number p) (part_number q) ≡ b → (b || is_lent p qs) ≡ true → t p ≡ true
    by go true w l = ap t (same-part p q w) ∙ (both_true (t q) _ e).0
    by go false w l = go l

pub lent-all : (t : Part → Bool) (ps : List Part) → ((p : Part) → is_lent p ps ≡ true → t p ≡ true) → all_parts t ps ≡ true
unfolding all_parts is_lent
lent-all t [] h = refl
lent-all t (q ∷ qs) h =
    ap₂ (λ (a b : Bool). a && b) (h q (first (part_number q) (is_lent q qs))) (lent-all t qs (λ p l. h p (more (eqb (part_number p) (part_number q)) (is_lent p qs) l)))
  where
    first : (n : ℕ) (b : Bool) → (eqb n n || b) ≡ true
    first n b = rw (eq-eqb n n refl)

    more : (a b : Bool) → b ≡ true → (a || b) ≡ true
    more true b e = refl
    more false b e = e

-- ---- lengths

parts-so : (l : Part → ℕ) (ps : List Part) → Decides ((p : Part) → is_lent p ps ≡ true → l p ≡ size p) (all_parts (λ (p : Part). eqb (l p) (size p)) ps)
parts-so l ps = by (all_parts (λ (p : Part). eqb (l p) (size p)) ps) refl
  where
    by : (b : Bool) → all_parts (λ (p : Part). eqb (l p) (size p)) ps ≡ b → Decides ((p : Part) → is_lent p ps ≡ true → l p ≡ size p) b
    by true e = holds (λ p t. eqb-true _ _ (each_lent (λ (p : Part). eqb (l p) (size p)) ps e p t))
    by false e = fails (λ h. true-not-false (sym (lent-all (λ (p : Part). eqb (l p) (size p)) ps (λ p t. eq-eqb _ _ (h p t))) ∙ e))

output-so : (k : Option ℕ) (o : ℕ) → Decides ((n : ℕ) → k ≡ some n → o ≡ n) (Option-elim k true (eqb o))
unfolding Option-elim
output-so none o = holds (λ n e. absurd (let z : ◌≡◌ {A = ℕ} 0 1 = cc in omega arith))
output-so (some k) o = by (eqb o k) refl
  where
    by : (b : Bool) → eqb o k ≡ b → Decides ((n : ℕ) → some k ≡ some n → o ≡ n) b
    by true e = holds (λ n q. let r : k ≡ n = cc in eqb-true _ _ e ∙ r)
    by false e = fails (λ h. eqb-false _ _ e (h k refl))

pub lent-so : (c : Call) → Decides (Lent c) (has_lengths c.ask c.lengths c.output)
unfolding has_lengths
lent-so c = by (both (parts-so c.lengths (lent_to c.ask)) (output-so (output_of c.ask) c.output))
  where
    by : {b : Bool} → Decides (((p : Part) → is_lent p (lent_to c.ask) ≡ true → c.lengths p ≡ size p) × ((n : ℕ) → output_of c.ask ≡ some n → c.output ≡ n)) b → Decides (Lent c) b
    by (holds h) = holds (record { parts = h.0; output = h.1 })
    by (fails h) = fails (λ l. h (l.parts, l.output))
