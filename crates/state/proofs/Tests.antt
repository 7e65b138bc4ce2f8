-- How the tests of a state's numbers go on from one member to the next, and what each says of single numbers: from their definitions.
use Rattle.rules.proofs.Less.{less-irreflexive}
use mathlib.Core.Path.{◌≡◌, refl, sym, ap, ◌∙◌}
use mathlib.Core.Bool.{Bool, true, false, not, ◌&&◌, and_assoc, and-true, ◌||◌}
use mathlib.Core.List.{List, [], ◌∷◌}
use Prim.Native.Nat.{ℕ, zero, suc, ◌+◌, ◌*◌, ◌≤◌, ◌<◌}
use native.Mathlib.Numerals.{add-one}
use native.Mathlib.Omega.{arith}
use borrow.Author.Tests.{ltb-true, eq-eqb, ne_eqb}
use lib.Bits.{bit_or, or_zero_l, or_add_and, and_le_r}
use lib.Dec.{T, eqb}
use lib.IntN.{ℤ, pos, negsuc, nat_abs}
use lib.Signed.{lt_z, non_neg}
use lib.ListN.{length, get_or, take, drop, drop_of_length-le}
use lib.Seq.{drop-cons}
use mir.Syntax.{w64}
use mir.Val.{Fits, SFits, of_z}
use Rattle.std.specs.List.{list_all}
use Rattle.machine.specs.State.{channel_width, pair_width, process_width}
use Rattle.model.specs.Limits.{local_limit}
use Rattle.value.specs.Arithmetic.{is_less, is_same}
use Rattle.value.proofs.Kit.{true-not-false, false-not-true, same_bits, ok-fits, same-eq}
use Rattle.rules.specs.Order.{less}
use Rattle.state.specs.Test.{every, rows, is_value, is_zero, is_below, at, is_padded, is_process, is_count, is_item, is_item_of, is_channel, is_pair, ascends, are_processes, are_pairs, is_state, process_part, pair_part}
use Rattle.state.specs.Fits.{FewLocals}
use Rattle.model.specs.Good.{Every}
use Rattle.model.specs.Scope.{locals_in, definition_in}
use Rattle.model.proofs.Scope.{no-locals}
use Rattle.machine.proofs.Everys.{every_get}

-- ---- both of two tests
pub both : (a b : Bool) → a && b ≡ true → (a ≡ true) × (b ≡ true)
both true b e = (refl, e)
both false b e = (e, false-not-true e)

-- ---- a call's answer, negated
pub refused : (r : Bool) → not r ≡ true → r ≡ false
refused true e = false-not-true e
refused false e = refl

pub passed : (r : Bool) → not r ≡ false → r ≡ true
passed true e = refl
passed false e = true-not-false e

-- ---- bits of two numbers: there is none exactly where both are 0
no_bits : (n m : ℕ) → eqb (bit_or n m) 0 ≡ (eqb n 0 && eqb m 0)
no_bits zero m = ap (λ (k : ℕ). eqb k 0) (or_zero_l m)
no_bits (suc n) m =
    ne_eqb (bit_or (suc n) m) 0 (λ e. omega (arith, or_add_and (suc n) m, and_le_r (suc n) m))
    ∙ sym (ap (λ (b : Bool). b && eqb m 0) (ne_eqb (suc n) 0 (λ e. omega arith)))

pub join-bits : (n m : ℕ) (b : Bool) → (eqb n 0 && (eqb m 0 && b)) ≡ (eqb (bit_or n m) 0 && b)
join-bits n m b = sym (and_assoc (eqb n 0) (eqb m 0) b) ∙ ap (λ (a : Bool). a && b) (sym (no_bits n m))

-- ---- single numbers
pub zero_bits : (z : ℤ) → SFits w64 z → is_zero z ≡ eqb (of_z w64 z) 0
unfolding is_zero
zero_bits z f = sym (same_bits z (pos 0) f (ok-fits (pos 0) (omega arith)))

-- a word that is not negative may be cast
pub natural-fits : (z : ℤ) → SFits w64 z → lt_z z (pos 0) ≡ false → T (non_neg z) × Fits w64 (nat_abs z)
natural-fits (pos k) f e = (tt, omega (arith, f.sfits))
natural-fits (negsuc k) f e = true-not-false e

pub below-fits : (n : ℕ) (z : ℤ) → SFits w64 z → is_below n z ≡ true → T (non_neg z) × Fits w64 (nat_abs z)
unfolding is_below
below-fits n (pos k) f e = (tt, omega (arith, f.sfits))
below-fits n (negsuc k) f e = false-not-true e

pub positive-fits : (k : ℕ) (z : ℤ) → SFits w64 z → z ≡ pos k → T (non_neg z) × Fits w64 (nat_abs z)
positive-fits k (pos j) f e = (tt, omega (arith, f.sfits))
positive-fits k (negsuc j) f e = let y : ◌≡◌ {A = ℕ} 0 1 = cc in absurd (omega arith)

-- a number that passed is natural, and below the bound
pub below-natural : (n : ℕ) (z : ℤ) → is_below n z ≡ true → z ≡ pos (nat_abs z)
unfolding is_below
below-natural n (pos k) e = refl
below-natural n (negsuc k) e = false-not-true e

pub below-bound : (n : ℕ) (z : ℤ) → is_below n z ≡ true → nat_abs z < n
unfolding is_below
below-bound n (pos k) e = ltb-true k n e
below-bound n (negsuc k) e = false-not-true e

-- ---- a test of a word against a number, on bits
pub bits-same : (x : ℤ) (n : ℕ) → SFits w64 x → n < 9223372036854775808 → of_z w64 x ≡ n → is_same x (pos n) ≡ true
bits-same x n f h e = sym (same_bits x (pos n) f (ok-fits (pos n) h)) ∙ eq-eqb _ _ e

pub bits-differ : (x : ℤ) (n : ℕ) → SFits w64 x → n < 9223372036854775808 → (of_z w64 x ≡ n → ⊥) → is_same x (pos n) ≡ false
bits-differ x n f h e = sym (same_bits x (pos n) f (ok-fits (pos n) h)) ∙ ne_eqb _ _ e

-- ---- items, counts and padding, case by case
pub item-number : (channels : ℕ) (kind z : ℤ) → is_same kind (pos 0) ≡ true → is_item channels kind z ≡ is_value z
unfolding is_item
item-number channels kind z e = rw e

pub item-neither : (channels : ℕ) (kind z : ℤ) → is_same kind (pos 0) ≡ false → is_same kind (pos 1) ≡ false → is_item channels kind z ≡ false
unfolding is_item
item-neither channels kind z e f = rw (e, f)

pub item-name : (channels : ℕ) (kind z : ℤ) → is_same kind (pos 0) ≡ false → is_same kind (pos 1) ≡ true → is_item channels kind z ≡ is_below channels z
unfolding is_item
item-name channels kind z e f = rw (e, f)

pub item-there : (channels : ℕ) (items i kind z : ℤ) → is_less i items ≡ true → is_item_of channels items i kind z ≡ is_item channels kind z
unfolding is_item_of
item-there channels items i kind z e = rw e

pub item-unused : (channels : ℕ) (items i kind z : ℤ) → is_less i items ≡ false → is_item_of channels items i kind z ≡ is_zero kind && is_zero z
unfolding is_item_of
item-unused channels items i kind z e = rw e

pub zeros-fail : (kind z : ℤ) → is_zero kind ≡ false → is_zero kind && is_zero z ≡ false
zeros-fail kind z e = rw e

pub zeros-rest : (kind z : ℤ) → is_zero kind ≡ true → is_zero kind && is_zero z ≡ is_zero z
zeros-rest kind z e = rw e

pub count_none : (n : ℕ) (z : ℤ) → is_zero z ≡ true → is_count n z ≡ false
unfolding is_count
count_none n z e = rw e

pub count-some : (n : ℕ) (z : ℤ) → is_zero z ≡ false → is_count n z ≡ is_below n z
unfolding is_count
count-some n z e = rw e

pub count-below : (n : ℕ) (z : ℤ) → is_count n z ≡ true → is_below n z ≡ true
unfolding is_count
count-below n z e = (both (not (is_zero z)) _ e).1

pub padded-fails : (k : ℕ) (l : List ℤ) → every is_value (take k l) ≡ false → is_padded k l ≡ false
unfolding is_padded
padded-fails k l e = rw e

pub padded-rest : (k : ℕ) (l : List ℤ) → every is_value (take k l) ≡ true → is_padded k l ≡ every is_zero (drop k l)
unfolding is_padded
padded-rest k l e = rw e

-- ---- processes and pairs, case by case
module _ (scopes : List ℕ) (row : List ℤ) where
  pub process-fails : is_below (length scopes) (at row 0) ≡ false → is_process scopes row ≡ false
  unfolding is_process
  process-fails e = rw e

  -- a sum that exists: its locals, and its definition
  module _ (e : is_below (length scopes) (at row 0) ≡ true) where
    pub process-unpadded : is_padded (locals_in (get_or scopes (nat_abs (at row 0)) 0)) (take local_limit (drop 1 row)) ≡ false → is_process scopes row ≡ false
    unfolding is_process
    process-unpadded p = rw (e, p)

    pub process-rest : is_padded (locals_in (get_or scopes (nat_abs (at row 0)) 0)) (take local_limit (drop 1 row)) ≡ true
        → is_process scopes row ≡ is_same (at row (1 + local_limit)) (pos (definition_in (get_or scopes (nat_abs (at row 0)) 0)))
    unfolding is_process
    process-rest p = rw (e, p)

-- a sum that exists has at most 8 locals
pub few-locals : (scopes : List ℕ) (i : ℕ) → FewLocals scopes → i < length scopes → locals_in (get_or scopes i 0) ≤ local_limit
few-locals scopes i h l = every_get (λ (k : ℕ). locals_in k ≤ local_limit) 0 no-locals scopes i h

-- scopes written out
pub few-none : FewLocals []
unfolding Every
few-none = tt

pub few-more : (k : ℕ) (scopes : List ℕ) → locals_in k ≤ local_limit → FewLocals scopes → FewLocals (k ∷ scopes)
unfolding Every
few-more k scopes l h = (l, h)

module _ (channels : ℕ) (row : List ℤ) where
  pub channel-count : is_count 4 (at row 0) ≡ false → is_channel channels row ≡ false
  unfolding is_channel
  channel-count e = rw e

  module _ (c : is_count 4 (at row 0) ≡ true) where
    pub channel-first : is_item_of channels (at row 0) (pos 0) (at row 1) (at row 2) ≡ false → is_channel channels row ≡ false
    unfolding is_channel
    channel-first e = rw (c, e)

    module _ (f : is_item_of channels (at row 0) (pos 0) (at row 1) (at row 2) ≡ true) where
      pub channel-second : is_item_of channels (at row 0) (pos 1) (at row 3) (at row 4) ≡ false → is_channel channels row ≡ false
      unfolding is_channel
      channel-second e = rw (c, f, e)

      pub channel-rest : is_item_of channels (at row 0) (pos 1) (at row 3) (at row 4) ≡ true → is_channel channels row ≡ is_item_of channels (at row 0) (pos 2) (at row 5) (at row 6)
      unfolding is_channel
      channel-rest e = rw (c, f, e)

  pub pair-channel : is_channel channels row ≡ false → is_pair channels row ≡ false
  unfolding is_pair
  pair-channel e = rw e

  module _ (c : is_channel channels row ≡ true) where
    pub pair-count : is_count 3 (at row channel_width) ≡ false → is_pair channels row ≡ false
    unfolding is_pair
    pair-count e = rw (c, e)

    pub pair-rest : is_count 3 (at row channel_width) ≡ true → is_pair channels row ≡ is_padded (nat_abs (at row channel_width)) (drop (channel_width + 1) row)
    unfolding is_pair
    pair-rest e = rw (c, e)

-- ---- every member
module _ {A : Type 0} (t : A → Bool) where
  pub every_all : (s : List A) → list_all t s ≡ every t s
  unfolding every
  every_all [] = refl
  every_all (x ∷ s) = ap (λ (b : Bool). t x && b) (every_all s)

  every-next : (s : List A) (i : ℕ) (d : A) → i < length s → every t (drop i s) ≡ t (get_or s i d) && every t (drop (i + 1) s)
  unfolding every
  every-next s i d l = ap (every t) (drop-cons s i d l) ∙ ap (λ (m : ℕ). t (get_or s i d) && every t (drop m s)) (sym (add-one i))

  -- a member passes where it has no bits, and n gathers those of the members before i
  module _ (s : List A) (i n : ℕ) (e : every t s ≡ (eqb n 0 && every t (drop i s))) where
    pub bits-on : (d : A) (m : ℕ) → i < length s → t (get_or s i d) ≡ eqb m 0 → every t s ≡ (eqb (bit_or n m) 0 && every t (drop (i + 1) s))
    bits-on d m l z =
        e ∙ ap (λ (b : Bool). eqb n 0 && b) (every-next s i d l ∙ ap (λ (b : Bool). b && every t (drop (i + 1) s)) z) ∙ join-bits n m (every t (drop (i + 1) s))

    pub bits-done : length s ≤ i → eqb n 0 ≡ every t s
    unfolding every
    bits-done l = sym (e ∙ ap (λ (r : List A). eqb n 0 && every t r) (drop_of_length-le s {i = i} l) ∙ and-true (eqb n 0))

-- ---- the order of two rows, number by number
z-irreflexive : (x : ℤ) → is_less x x ≡ false
unfolding less
z-irreflexive x = or-first (is_less x x) (is_same x x && less [] []) (less-irreflexive (x ∷ []))
  where
    or-first : (a b : Bool) → a || b ≡ false → a ≡ false
    or-first true b e = e
    or-first false b e = refl

module _ (a b : List ℤ) (i : ℕ) (same : length a ≡ length b) (e : less a b ≡ less (drop i a) (drop i b)) where
  less-next : i < length a → less a b ≡ is_less (get_or a i (pos 0)) (get_or b i (pos 0)) || is_same (get_or a i (pos 0)) (get_or b i (pos 0)) && less (drop (i + 1) a) (drop (i + 1) b)
  unfolding less
  less-next l =
      e ∙ ap (λ (x : List ℤ). less x (drop i b)) (drop-cons a i (pos 0) l)
      ∙ ap (λ (y : List ℤ). less (get_or a i (pos 0) ∷ drop (suc i) a) y) (drop-cons b i (pos 0) (omega arith))
      ∙ rw (add-one i)

  pub less-apart : i < length a → is_same (get_or a i (pos 0)) (get_or b i (pos 0)) ≡ false → less a b ≡ is_less (get_or a i (pos 0)) (get_or b i (pos 0))
  less-apart l f = less-next l ∙ rw f (or-none (is_less (get_or a i (pos 0)) (get_or b i (pos 0))))
    where
      or-none : (x : Bool) → x || false ≡ x
      or-none true = refl
      or-none false = refl

  pub less-on : i < length a → is_same (get_or a i (pos 0)) (get_or b i (pos 0)) ≡ true → less a b ≡ less (drop (i + 1) a) (drop (i + 1) b)
  less-on l f =
      let n : is_less (get_or a i (pos 0)) (get_or b i (pos 0)) ≡ false =
      ap (λ (x : ℤ). is_less x (get_or b i (pos 0))) (same-eq (get_or a i (pos 0)) (get_or b i (pos 0)) f) ∙ z-irreflexive (get_or b i (pos 0)) in
      less-next l ∙ rw (f, n)

  pub less_done : length a ≤ i → less a b ≡ false
  unfolding less
  less_done l = e ∙ ap (λ (x : List ℤ). less x (drop i b)) (drop_of_length-le a {i = i} l) ∙ ap (λ (y : List ℤ). less [] y) (drop_of_length-le b {i = i} (omega arith))

-- ---- the state, case by case
module _ (scopes : List ℕ) (n : ℕ) (l : List ℤ) where
  pub processes-fail : every (is_process scopes) (rows process_width n l) ≡ false → are_processes scopes n l ≡ false
  unfolding are_processes
  processes-fail e = rw e

  pub processes-rest : every (is_process scopes) (rows process_width n l) ≡ true → are_processes scopes n l ≡ every is_zero (drop (n * process_width) l)
  unfolding are_processes
  processes-rest e = rw e

module _ (channels n : ℕ) (l : List ℤ) where
  pub pairs-fail : every (is_pair channels) (rows pair_width n l) ≡ false → are_pairs channels n l ≡ false
  unfolding are_pairs
  pairs-fail e = rw e

  module _ (e : every (is_pair channels) (rows pair_width n l) ≡ true) where
    pub pairs-unordered : ascends (rows pair_width n l) ≡ false → are_pairs channels n l ≡ false
    unfolding are_pairs
    pairs-unordered f = rw (e, f)

    pub pairs-rest : ascends (rows pair_width n l) ≡ true → are_pairs channels n l ≡ every is_zero (drop (n * pair_width) l)
    unfolding are_pairs
    pairs-rest f = rw (e, f)

module _ (scopes : List ℕ) (channels : ℕ) (zs : List ℤ) where
  pub state-processes : is_below 257 (at zs 0) ≡ false → is_state scopes channels zs ≡ false
  unfolding is_state
  state-processes e = rw e

  module _ (e : is_below 257 (at zs 0) ≡ true) where
    pub state-pairs : is_below 257 (at zs 1) ≡ false → is_state scopes channels zs ≡ false
    unfolding is_state
    state-pairs f = rw (e, f)

    module _ (f : is_below 257 (at zs 1) ≡ true) where
      pub state-fails : are_processes scopes (nat_abs (at zs 0)) (process_part zs) ≡ false → is_state scopes channels zs ≡ false
      unfolding is_state
      state-fails g = rw (e, f, g)

      pub state-rest : are_processes scopes (nat_abs (at zs 0)) (process_part zs) ≡ true → is_state scopes channels zs ≡ are_pairs channels (nat_abs (at zs 1)) (pair_part zs)
      unfolding is_state
      state-rest g = rw (e, f, g)
