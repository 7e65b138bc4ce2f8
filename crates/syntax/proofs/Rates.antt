-- The returns of the readers of numbers and rates, over plain variables: what each answers follows from the tokens it looked at, the nodes it wrote and what
-- its callees answered. From the laws of Answers.antt.
use mathlib.Core.Path.{◌≡◌, refl}
use mathlib.Core.List.{List, [], ◌∷◌}
use mathlib.Core.Bool.{Bool, true, false}
use Prim.Native.Nat.{ℕ, ◌+◌, ◌≤◌}
use native.Mathlib.Omega.{arith}
use borrow.Author.Tests.{ne_eqb}
use lib.ListN.{length, get_or}
use Rattle.std.specs.Prelude.{Err, Ok}
use Rattle.token.specs.Kind as kind
use Rattle.grammar.specs.Grammar
use Rattle.grammar.specs.Grammar.{Number, flat_whole, flat_number, flat_scale, flat_atom, flat_rate}
use Rattle.grammar.specs.Machine.{Sym, Unsigned, Number', Scale', RateTail, Atom', a_rate, table, rows_of, is_may, find, onto, step, ending}
use Rattle.grammar.specs.Syntax.{number_at, scale_at, atom_at, rate_at}
use Rattle.grammar.proofs.Follows.{here, like, join, takes, passes, sticks}
use Rattle.grammar.proofs.Wide.{wide-scale}
use Rattle.tree.specs.Node as node
use Rattle.tree.specs.Node.{number_kind}
use Rattle.tree.specs.Table
use Rattle.tree.specs.Reading.{place, Parsed, Read}
use Rattle.tree.proofs.Holds.{expr-interval, scale-interval}
use Rattle.tree.proofs.Spans.{span-token, ◌then◌, span-as, Wrote, span-wrote, seen-leaf, next-at, made_of, parsed-as}
use Rattle.syntax.specs.Rate.{flat_unsigned, HoldsUnsigned}
use Rattle.syntax.proofs.Answers.{Answers, first-fails, second-fails, second-made}
use Rattle.syntax.proofs.Expressions.{Atom}

-- ---- what the functions answer

abbrev pub UnsignedRead : ℕ → List ℕ → List ℕ → List ℕ → ℕ → ℕ → Read → Type 0
UnsignedRead whole ts t t' at = Answers (Unsigned ∷ []) flat_unsigned (HoldsUnsigned whole at) ts t t' at

abbrev pub NumberRead : List ℕ → List ℕ → List ℕ → ℕ → ℕ → Read → Type 0
NumberRead ts t t' at = Answers (Number' ∷ []) flat_number (λ s n. Table.Number s (number_at n at)) ts t t' at

abbrev pub Scale : List ℕ → List ℕ → List ℕ → ℕ → ℕ → Read → Type 0
Scale ts t t' at = Answers (Scale' ∷ []) flat_scale (λ s x. Table.Scale s (scale_at x at)) ts t t' at

abbrev pub Rate : List ℕ → List ℕ → List ℕ → ℕ → ℕ → Read → Type 0
Rate ts t t' at = Answers a_rate flat_rate (λ s x. Table.Rate s (rate_at x at)) ts t t' at

-- ---- a number after its `-`, or without one

module _ (base : ℕ) (ts t : List ℕ) (at used : ℕ) where
  pub unsigned-whole : {t' : List ℕ} → get_or ts at 0 ≡ kind.whole → Wrote t t' used base at 0 0 → UnsignedRead base ts t t' at used (Ok (at + 1, used))
  unfolding place Parsed table rows_of find flat_unsigned HoldsUnsigned number_kind
  unsigned-whole e w =
      let none : base + 0 ≡ base = omega arith in (
        takes ts at Unsigned kind.whole e (omega arith) refl (λ l. here ts (at + 1) l),
        record { tree = false; span = span-wrote w (span-token kind.whole e (omega arith)) (omega arith); shown = rw none (seen-leaf w) },
      )

  pub unsigned-decimal : {t' : List ℕ} → get_or ts at 0 ≡ kind.decimal → Wrote t t' used (base + 2) at 0 0 → UnsignedRead base ts t t' at used (Ok (at + 1, used))
  unfolding place Parsed table rows_of find flat_unsigned HoldsUnsigned number_kind
  unsigned-decimal e w = (
    takes ts at Unsigned kind.decimal e (omega arith) refl (λ l. here ts (at + 1) l),
    record { tree = true; span = span-wrote w (span-token kind.decimal e (omega arith)) (omega arith); shown = seen-leaf w },
  )

  pub unsigned-stray : at ≤ length ts → (get_or ts at 0 ≡ kind.whole → ⊥) → (get_or ts at 0 ≡ kind.decimal → ⊥) → UnsignedRead base ts t t at used (Err at)
  unfolding place Parsed table rows_of is_may
  unsigned-stray h n m = (sticks ts at Unsigned h refl (n, (m, tt)), refl)

-- ---- a number

-- after `-`, and without
abbrev negative : Bool → Number
negative false = Grammar.integer Grammar.negative
negative true = Grammar.negative_decimal

abbrev positive : Bool → Number
positive false = Grammar.integer Grammar.whole
positive true = Grammar.decimal

negative-text : (d : Bool) (us : List ℕ) → flat_number (negative d) us ≡ kind.minus ∷ flat_unsigned d us
unfolding flat_number flat_whole flat_unsigned
negative-text false us = refl
negative-text true us = refl

positive-text : (d : Bool) (us : List ℕ) → flat_number (positive d) us ≡ flat_unsigned d us
unfolding flat_number flat_whole flat_unsigned
positive-text false us = refl
positive-text true us = refl

negative-holds : (d : Bool) (s : List ℕ) (k lo i : ℕ) → HoldsUnsigned (number_kind true false) (k + 1) s d lo i → Table.Number s (number_at (negative d) k) lo i
unfolding HoldsUnsigned Table.Number number_at number_kind
negative-holds false s k lo i h = h
negative-holds true s k lo i h = h

positive-holds : (d : Bool) (s : List ℕ) (k lo i : ℕ) → HoldsUnsigned (number_kind false false) k s d lo i → Table.Number s (number_at (positive d) k) lo i
unfolding HoldsUnsigned Table.Number number_at number_kind
positive-holds false s k lo i h = h
positive-holds true s k lo i h = h

-- a token that is no `-` begins the rest of a number
unsigned-step : (k : ℕ) → (k ≡ kind.minus → ⊥) → (s : List Sym) → step k (Number' ∷ s) ≡ step k (Unsigned ∷ s)
unfolding step onto find table rows_of is_may
unsigned-step k n s = simp (ne_eqb k kind.minus n)

module _ (ts t t' : List ℕ) (at used : ℕ) (r : Read) where
  pub number-negative : get_or ts at 0 ≡ kind.minus → UnsignedRead (number_kind true false) ts t t' (at + 1) used r → NumberRead ts t t' at used r
  unfolding table rows_of find
  number-negative e a = (
    takes ts at Number' kind.minus e (omega arith) refl (λ l. a.0),
    parsed-as r (λ n root m. record { tree = negative m.tree; span = span-as (negative-text m.tree) (span-token kind.minus e (omega arith) then m.span); shown = λ l. negative-holds m.tree t' at used root (m.shown l) }) (λ z. z) a.1,
  )

  pub number-positive : (get_or ts at 0 ≡ kind.minus → ⊥) → UnsignedRead (number_kind false false) ts t t' at used r → NumberRead ts t t' at used r
  unfolding ending table is_may
  number-positive n a = (
    like ts at (Number' ∷ []) (Unsigned ∷ []) (unsigned-step (get_or ts at 0) n) (λ s. refl) a.0,
    parsed-as r (λ i root m. record { tree = positive m.tree; span = span-as (positive-text m.tree) m.span; shown = λ l. positive-holds m.tree t' at used root (m.shown l) }) (λ z. z) a.1,
  )

-- ---- a scale

-- one that is no name begins a number
number_step : (k : ℕ) → (k ≡ kind.name → ⊥) → (s : List Sym) → step k (Scale' ∷ s) ≡ step k (Number' ∷ s)
unfolding step onto find table rows_of is_may
number_step k n s = simp (ne_eqb k kind.name n)

module _ (ts t t' : List ℕ) (at used : ℕ) where
  pub scale-name : get_or ts at 0 ≡ kind.name → Wrote t t' used node.scale_name at 0 0 → Scale ts t t' at used (Ok (at + 1, used))
  unfolding place Parsed table rows_of find flat_scale scale_at Table.Scale
  scale-name e w = (
    takes ts at Scale' kind.name e (omega arith) refl (λ l. here ts (at + 1) l),
    record { tree = Grammar.named; span = span-wrote w (span-token kind.name e (omega arith)) (omega arith); shown = seen-leaf w },
  )

  pub scale-number : (r : Read) → (get_or ts at 0 ≡ kind.name → ⊥) → NumberRead ts t t' at used r → Scale ts t t' at used r
  unfolding ending table is_may flat_scale scale_at Table.Scale
  scale-number r n a = (
    like ts at (Scale' ∷ []) (Number' ∷ []) (number_step (get_or ts at 0) n) (λ s. refl) a.0,
    parsed-as r (λ i root m. record { tree = Grammar.fixed m.tree; span = m.span; shown = m.shown }) (λ z. z) a.1,
  )

-- ---- a rate

module _ (ts t t₁ : List ℕ) (at used : ℕ) {r : Read} where
  pub rate-fault : {k : ℕ} → r ≡ Err k → Scale ts t t₁ at used r → Rate ts t t₁ at used (Err k)
  rate-fault = first-fails (Scale' ∷ []) (RateTail ∷ []) flat_scale _ flat_rate _ ts t t₁ at used

  module _ {n left : ℕ} (e : r ≡ Ok (n, left)) (a : Scale ts t t₁ at used r) where
    pub rate-plain : (get_or ts n 0 ≡ kind.times → ⊥) → Rate ts t t₁ at used (Ok (n, left))
    unfolding place Parsed table rows_of is_may flat_rate rate_at Table.Rate
    rate-plain s =
        let m = made_of e a.1 in (
          join ts at n (Scale' ∷ []) (RateTail ∷ []) (next-at e a.0) (passes ts n RateTail m.span.within refl (s, tt)),
          record { tree = Grammar.plain m.tree; span = m.span; shown = m.shown },
        )

    module _ (t₂ : List ℕ) (s : get_or ts n 0 ≡ kind.times) {r' : Read} (b : Atom ts t₁ t₂ (n + 1) (left + 1) r') where
      pub rate-second : {k : ℕ} → r' ≡ Err k → Rate ts t t₂ at used (Err k)
      unfolding table rows_of find
      rate-second = second-fails (Scale' ∷ []) (Atom' ∷ []) (RateTail ∷ []) flat_scale flat_atom flat_rate _ _ _ ts t t₁ t₂ at used (λ q f. takes ts n RateTail kind.times s (omega arith) refl (λ l. f)) e a b

      pub rate-scaled : {i root : ℕ} {t₃ : List ℕ} → r' ≡ Ok (i, root) → Wrote t₂ t₃ (root + 1) node.scaled 0 left 0 → Rate ts t t₃ at used (Ok (i, root + 1))
      unfolding table rows_of find flat_rate rate_at Table.Rate
      rate-scaled d w = second-made (Scale' ∷ []) (Atom' ∷ []) (RateTail ∷ []) flat_scale flat_atom flat_rate _ _ _ ts t t₁ t₂ at used (λ q f. takes ts n RateTail kind.times s (omega arith) refl (λ l. f)) e a b wide-scale (λ v. scale-interval (scale_at v at)) (λ v. expr-interval (atom_at v (n + 1))) Grammar.scaled (λ v u us. refl) (λ v u x lo k q h. rw q at h) s (omega arith) d w
