-- What the code tests of two entries, from the numbers that it reads.
use mathlib.Core.Path.{◌≡◌, refl, sym, ◌∙◌}
use mathlib.Core.Bool.{Bool, true, false, cond, not, ◌||◌}
use mathlib.Core.List.{List, [], ◌∷◌}
use Prim.Native.Nat.{ℕ}
use native.Mathlib.Omega.{arith}
use borrow.Author.Tests.{lt-ltb, le-ltb, eq-eqb, ne_eqb}
use lib.Dec.{eqb}
use lib.ListN.{length}
use Rattle.rules.specs.Kind as kind
use Rattle.rules.specs.Listing as rules
use Rattle.rules.specs.Listing.{key_of, weight_of}
use Rattle.listing.specs.declared.Entry.{Entry}
use Rattle.listing.specs.Buffer as listed
use Rattle.listing.specs.Buffer.{entry_of}
use Rattle.rules.specs.Carried.{places}
use Rattle.rules.specs.Independent.{is_one_of, meet, is_quiet, is_movable, is_independent}
use Rattle.machine.specs.Machine.{entry_width}
use Rattle.independence.specs.Judged.{entry_in, judged}

-- ---- one entry
module _ (e : Entry) where
  pub by-launch : e.kind ≡ kind.launch → false ≡ is_quiet (key_of (entry_of e))
  unfolding entry_of key_of is_quiet
  by-launch h = simp (eq-eqb e.kind kind.launch h)

  pub by-kill : (e.kind ≡ kind.launch → ⊥) → not (eqb e.kind kind.kill) ≡ is_quiet (key_of (entry_of e))
  unfolding entry_of key_of is_quiet
  by-kill h = simp (ne_eqb e.kind kind.launch h)

  pub no-weight : e.weight ≡ 0 → false ≡ is_movable (entry_of e)
  unfolding entry_of is_movable weight_of
  no-weight h = simp (le-ltb 0 e.weight (omega arith))

  pub by-weight : (e.weight ≡ 0 → ⊥) → is_quiet (key_of (entry_of e)) ≡ is_movable (entry_of e)
  unfolding entry_of is_movable weight_of
  by-weight h = simp (lt-ltb 0 e.weight (omega (arith, h)))

-- ---- its places
or-false : (b : Bool) → b ≡ (b || false)
or-false true = refl
or-false false = refl

module _ (e : Entry) (n : ℕ) where
  pub at_place : n ≡ e.place → true ≡ is_one_of n (places (key_of (entry_of e)))
  unfolding entry_of key_of is_one_of places
  at_place h = by (eqb e.kind kind.handshake)
    where
      by : (b : Bool) → true ≡ is_one_of n (cond b (e.place ∷ e.partner ∷ []) (e.place ∷ []))
      by true = simp (eq-eqb n e.place h)
      by false = simp (eq-eqb n e.place h)

  pub at-partner : (n ≡ e.place → ⊥) → e.kind ≡ kind.handshake → eqb n e.partner ≡ is_one_of n (places (key_of (entry_of e)))
  unfolding entry_of key_of is_one_of places
  at-partner d h = rw (eq-eqb e.kind kind.handshake h, ne_eqb n e.place d) (or-false (eqb n e.partner))

  pub at_none : (n ≡ e.place → ⊥) → (e.kind ≡ kind.handshake → ⊥) → false ≡ is_one_of n (places (key_of (entry_of e)))
  unfolding entry_of key_of is_one_of places
  at_none d h = rw (ne_eqb e.kind kind.handshake h, ne_eqb n e.place d) refl

-- ---- two entries
module _ (e : Entry) (js : List ℕ) where
  pub by_place : true ≡ is_one_of e.place js → true ≡ meet (places (key_of (entry_of e))) js
  unfolding entry_of key_of meet places
  by_place h = by (eqb e.kind kind.handshake)
    where
      by : (b : Bool) → true ≡ meet (cond b (e.place ∷ e.partner ∷ []) (e.place ∷ [])) js
      by true = rw (sym h) refl
      by false = rw (sym h) refl

  pub by-partner : {b : Bool} → false ≡ is_one_of e.place js → e.kind ≡ kind.handshake → b ≡ is_one_of e.partner js → b ≡ meet (places (key_of (entry_of e))) js
  unfolding entry_of key_of meet places
  by-partner h k f = rw (eq-eqb e.kind kind.handshake k, sym h) (f ∙ or-false (is_one_of e.partner js))

  pub by-none : false ≡ is_one_of e.place js → (e.kind ≡ kind.handshake → ⊥) → false ≡ meet (places (key_of (entry_of e))) js
  unfolding entry_of key_of meet places
  by-none h k = rw (ne_eqb e.kind kind.handshake k, sym h) refl

module _ (e f : rules.Entry) where
  pub first-stays : false ≡ is_movable e → false ≡ is_independent e f
  unfolding is_independent
  first-stays h = rw (sym h) refl

  pub second-stays : true ≡ is_movable e → false ≡ is_movable f → false ≡ is_independent e f
  unfolding is_independent
  second-stays g h = rw (sym g, sym h) refl

  pub both-move : true ≡ is_movable e → true ≡ is_movable f → not (meet (places (key_of e)) (places (key_of f))) ≡ is_independent e f
  unfolding is_independent
  both-move g h = rw (sym g, sym h) refl

-- ---- two rows
pub short-first : (k l : List ℕ) → (length k ≡ entry_width → ⊥) → false ≡ judged k l
unfolding judged
short-first k l n = simp (ne_eqb (length k) entry_width n)

pub short-second : (k l : List ℕ) → length k ≡ entry_width → (length l ≡ entry_width → ⊥) → false ≡ judged k l
unfolding judged
short-second k l e n = simp (eq-eqb (length k) entry_width e, ne_eqb (length l) entry_width n)

-- of seven numbers each, by their entries
pub by-entries : (k l : List ℕ) (e f : rules.Entry) → length k ≡ entry_width → length l ≡ entry_width → e ≡ entry_in k → f ≡ entry_in l → is_independent e f ≡ judged k l
unfolding judged
by-entries k l e f m n p q = rw (eq-eqb (length k) entry_width m, eq-eqb (length l) entry_width n, p, q) refl

-- the first entry of a listing
pub first-entry : (l : List ℕ) → listed.entry_in l 0 ≡ entry_in l
unfolding listed.entry_in entry_in
first-entry l = refl
