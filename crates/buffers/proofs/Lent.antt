-- The lengths of what a call lends, and what is left of it: said of every part at once.
use mathlib.Core.Path.{◌≡◌, refl, ap}
use mathlib.Core.List.{List}
use mathlib.Core.Bool.{true}
use Prim.Native.Nat.{ℕ}
use lib.Dec.{eqb}
use lib.ListN.{length}
use borrow.Author.Tests.{eqb-true}
use Rattle.machine.specs.Machine.{Ask, Part, size, lent_to, is_lent, all_parts, has_lengths}
use Rattle.machine.proofs.Lent.{both_true, each_lent}
use Rattle.buffers.specs.Parts.{Cell, Engine}
use Rattle.buffers.specs.Calls.{Lending, own, other, lent_buffer, lent_length, own_buffer}

pub lent-long : {A : Type 0} {right : ℕ} (a : Lending A right) (l : List A) → length l ≡ right → length (lent_buffer a l) ≡ lent_length a
unfolding lent_buffer lent_length
lent-long own l e = e
lent-long (other k w) l e = refl

-- a buffer that is left as it was lent
pub kept : {A : Type 0} {right : ℕ} (a : Lending A right) (l : List A) → own_buffer a l (lent_buffer a l) ≡ l
unfolding own_buffer lent_buffer
kept own l = refl
kept (other k w) l = refl

is-own : {A : Type 0} {right : ℕ} (a : Lending A right) → eqb (lent_length a) right ≡ true → a ≡ own
unfolding lent_length
is-own own e = refl
is-own (other k w) e = absurd (w (eqb-true _ _ e))

-- the engine's own, which a call leaves as this
pub own-lent : {A : Type 0} {right : ℕ} (a : Lending A right) (l : List A) → a ≡ own → lent_buffer a l ≡ l
unfolding lent_buffer
own-lent a l e = ap (λ (b : Lending _ _). lent_buffer b l) e

pub own-left : {A : Type 0} {right : ℕ} (a : Lending A right) (l left : List A) → a ≡ own → own_buffer a l left ≡ left
unfolding own_buffer
own-left a l left e = ap (λ (b : Lending _ _). own_buffer b l left) e

-- where the lengths are right, what is lent is the engine's own
pub all_own : (k : Ask) (lending : (p : Part) → Lending (Cell p) (size p)) (o : ℕ) → has_lengths k (λ (p : Part). lent_length (lending p)) o ≡ true
    → (p : Part) → is_lent p (lent_to k) ≡ true → lending p ≡ own
unfolding has_lengths
all_own k lending o e p l =
    is-own (lending p) (each_lent (λ (p : Part). eqb (lent_length (lending p)) (size p)) (lent_to k) (both_true (all_parts (λ (p : Part). eqb (lent_length (lending p)) (size p)) (lent_to k)) _ e).0 p l)

-- engines that agree in every part are one
pub same-engine : {x y : Engine} → ((p : Part) → x p ≡ y p) → x ≡ y
same-engine e = λ i p. e p i
