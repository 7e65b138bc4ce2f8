-- Question 1: a wrong length leaves everything as it was; right ones let the call go on. One law for every request that is lent the model, the state and an output, and one for those that
-- are lent the saves.
use mathlib.Core.Path.{◌≡◌, refl, sym, ap, ◌∙◌}
use mathlib.Core.List.{List, [], ◌∷◌}
use mathlib.Core.Bool.{Bool, true, false, ◌&&◌, and-true, and_assoc}
use mathlib.Core.Option.{Option, none, some, Option-elim}
use Prim.Native.Nat.{ℕ}
use borrow.Author.Tests.{eqb-true}
use lib.Dec.{eqb}
use lib.IntN.{ℤ}
use lib.ListN.{length}
use Rattle.clock.specs.declared.Clock.{Clock}
use Rattle.clock.specs.Clock.{fresh_clock}
use Rattle.engine.specs.declared.Answer as result
use Rattle.engine.specs.declared.Timed as results
use Rattle.model.specs.Resolved
use Rattle.machine.specs.State.{state_length}
use Rattle.machine.specs.Saves.{saves_length}
use Rattle.machine.specs.Machine.{model_length, search_length, no, Request, Ask, on', Part, size, two_parts, three_parts, four_parts, uses, lent_to, output_of, all_parts, has_lengths}
use Rattle.machine.specs.Machine as machine
use Rattle.machine.proofs.Lent.{both_true}
use Rattle.buffers.specs.Held.{held_in}
use Rattle.buffers.specs.Parts.{Engine, lent_two, lent_three, lent_all, lent_whole}
use Rattle.buffers.specs.Effect.{Effect, machine_over, machine_in, untouched, requested, answered, effect}
use Rattle.simulation.specs.Comes.{are_parts_long}
use Rattle.engine.specs.Gives.{Gives, bare, are_long, are_all_long, are_whole_long}

-- 01: 1 changes nothing
pub untouched-gives : (x : Engine) (l : List ℕ) → Gives (untouched x l) (bare 1 0 0) x l
unfolding untouched no
untouched-gives x l = record { number = refl; place = refl; branch = refl; count = refl; total = refl; chosen = refl; buffers = λ p. refl; output = refl }

-- what the tests of lengths say
pub parts-long : (model state : ℕ) → are_parts_long model state ≡ true → (model ≡ model_length) × (state ≡ state_length)
unfolding are_parts_long
parts-long model state e = let b = both_true (eqb model model_length) _ e in (eqb-true _ _ b.0, eqb-true _ _ b.1)

pub all-long : (model state output right : ℕ) → are_long model state output right ≡ true → (model ≡ model_length) × (state ≡ state_length) × (output ≡ right)
unfolding are_long
all-long model state output right e =
    let b = both_true (are_parts_long model state) _ e in
    let c = parts-long model state b.0 in
    (c.0, c.1, eqb-true _ _ b.1)

module _ (bs : List ℕ) (zs : List ℤ) where
  pub parts_are : all_parts (λ (p : Part). eqb (length (lent_two bs zs p)) (size p)) two_parts ≡ are_parts_long (length bs) (length zs)
  unfolding all_parts lent_two are_parts_long
  parts_are = ap (λ (b : Bool). eqb (length bs) model_length && b) (and-true (eqb (length zs) state_length))

  -- ---- a request that is lent model and state, and an output of this right length
  module _ (r : Request) (right : ℕ) (u : uses r ≡ two_parts) (o : output_of (on' r) ≡ some right) (l : List ℕ) where
    lengths : has_lengths (on' r) (λ (p : Part). length (lent_two bs zs p)) (length l) ≡ are_long (length bs) (length zs) (length l) right
    unfolding has_lengths are_long Option-elim
    lengths =
        ap (λ (ps : List Part). all_parts (λ (p : Part). eqb (length (lent_two bs zs p)) (size p)) ps && Option-elim (output_of (on' r)) true (eqb (length l))) u
        ∙ ap (λ (k : Option ℕ). all_parts (λ (p : Part). eqb (length (lent_two bs zs p)) (size p)) two_parts && Option-elim k true (eqb (length l))) o
        ∙ ap (λ (b : Bool). b && eqb (length l) right) parts_are

    pub asked-wrong : are_long (length bs) (length zs) (length l) right ≡ false → Gives (effect (on' r) (lent_two bs zs) l) (bare 1 0 0) (lent_two bs zs) l
    unfolding effect
    asked-wrong e = rw (lengths, e) (untouched-gives (lent_two bs zs) l)

    pub asked-right : are_long (length bs) (length zs) (length l) right ≡ true → effect (on' r) (lent_two bs zs) l ≡ answered (on' r) (lent_two bs zs) l
    unfolding effect
    asked-right e = rw (lengths, e)

  -- ---- the model in the model buffer
  module _ (r : Request) (l : List ℕ) where
    pub held-answers : {o : Option Resolved.Model} → held_in bs ≡ o → answered (on' r) (lent_two bs zs) l ≡ requested r (lent_two bs zs) l o
    unfolding answered lent_two
    held-answers e = ap (requested r (lent_two bs zs) l) e

-- ---- the model, the state and the saves

pub three-long : (model state saves : ℕ) → are_all_long model state saves ≡ true → (model ≡ model_length) × (state ≡ state_length) × (saves ≡ saves_length)
unfolding are_all_long
three-long model state saves e =
    let b = both_true (are_parts_long model state) _ e in
    let c = parts-long model state b.0 in
    (c.0, c.1, eqb-true _ _ b.1)

module _ (bs : List ℕ) (zs ss : List ℤ) where
  three-are : all_parts (λ (p : Part). eqb (length (lent_three bs zs ss p)) (size p)) three_parts ≡ are_all_long (length bs) (length zs) (length ss)
  unfolding all_parts lent_three are_all_long are_parts_long
  three-are =
      ap (λ (b : Bool). eqb (length bs) model_length && (eqb (length zs) state_length && b)) (and-true (eqb (length ss) saves_length))
      ∙ sym (and_assoc (eqb (length bs) model_length) (eqb (length zs) state_length) (eqb (length ss) saves_length))

  -- what is asked by a call that is lent the three and no output
  module _ (k : Ask) (u : lent_to k ≡ three_parts) (o : output_of k ≡ none) where
    three-lengths : has_lengths k (λ (p : Part). length (lent_three bs zs ss p)) 0 ≡ are_all_long (length bs) (length zs) (length ss)
    unfolding has_lengths Option-elim
    three-lengths =
        ap (λ (ps : List Part). all_parts (λ (p : Part). eqb (length (lent_three bs zs ss p)) (size p)) ps && Option-elim (output_of k) true (eqb 0)) u
        ∙ ap (λ (n : Option ℕ). all_parts (λ (p : Part). eqb (length (lent_three bs zs ss p)) (size p)) three_parts && Option-elim n true (eqb 0)) o
        ∙ and-true _ ∙ three-are

    pub three-wrong : are_all_long (length bs) (length zs) (length ss) ≡ false → Gives (effect k (lent_three bs zs ss) []) (bare 1 0 0) (lent_three bs zs ss) []
    unfolding effect
    three-wrong e = rw (three-lengths, e) (untouched-gives (lent_three bs zs ss) [])

    pub three-right : are_all_long (length bs) (length zs) (length ss) ≡ true → effect k (lent_three bs zs ss) [] ≡ answered k (lent_three bs zs ss) []
    unfolding effect
    three-right e = rw (three-lengths, e)

  -- ---- the model in the model buffer

  pub three-held : {o : Option Resolved.Model} → held_in bs ≡ o → machine_in three_parts (lent_three bs zs ss) ≡ machine_over three_parts (lent_three bs zs ss) o
  unfolding machine_in lent_three
  three-held e = ap (machine_over three_parts (lent_three bs zs ss)) e

-- ---- the model, the state, the saves and the clock

module _ (bs : List ℕ) (zs ss : List ℤ) (c : Clock) where
  four_are : all_parts (λ (p : Part). eqb (length (lent_all bs zs ss c p)) (size p)) four_parts ≡ are_all_long (length bs) (length zs) (length ss)
  unfolding all_parts lent_all are_all_long are_parts_long
  four_are =
      ap (λ (b : Bool). eqb (length bs) model_length && (eqb (length zs) state_length && b)) (and-true (eqb (length ss) saves_length))
      ∙ sym (and_assoc (eqb (length bs) model_length) (eqb (length zs) state_length) (eqb (length ss) saves_length))

  -- what is asked by a call that is lent the four and no output
  module _ (k : Ask) (u : lent_to k ≡ four_parts) (o : output_of k ≡ none) where
    four-lengths : has_lengths k (λ (p : Part). length (lent_all bs zs ss c p)) 0 ≡ are_all_long (length bs) (length zs) (length ss)
    unfolding has_lengths Option-elim
    four-lengths =
        ap (λ (ps : List Part). all_parts (λ (p : Part). eqb (length (lent_all bs zs ss c p)) (size p)) ps && Option-elim (output_of k) true (eqb 0)) u
        ∙ ap (λ (n : Option ℕ). all_parts (λ (p : Part). eqb (length (lent_all bs zs ss c p)) (size p)) four_parts && Option-elim n true (eqb 0)) o
        ∙ and-true _ ∙ four_are

    pub four-wrong : are_all_long (length bs) (length zs) (length ss) ≡ false → Gives (effect k (lent_all bs zs ss c) []) (bare 1 0 0) (lent_all bs zs ss c) []
    unfolding effect
    four-wrong e = rw (four-lengths, e) (untouched-gives (lent_all bs zs ss c) [])

    pub four-right : are_all_long (length bs) (length zs) (length ss) ≡ true → effect k (lent_all bs zs ss c) [] ≡ answered k (lent_all bs zs ss c) []
    unfolding effect
    four-right e = rw (four-lengths, e)

-- ---- all, as an opening is lent them

abbrev pub whole_parts : List Part
whole_parts = machine.model ∷ machine.state ∷ machine.saves ∷ machine.clock ∷ machine.search ∷ []

pub whole-long : (model state saves search : ℕ) → are_whole_long model state saves search ≡ true → (model ≡ model_length) × (state ≡ state_length) × (saves ≡ saves_length) × (search ≡ search_length)
unfolding are_whole_long
whole-long model state saves search e =
    let b = both_true (are_all_long model state saves) _ e in
    let c = three-long model state saves b.0 in
    (c.0, c.1, c.2, eqb-true _ _ b.1)

module _ (bs : List ℕ) (zs ss : List ℤ) (c : Clock) (xs : List ℤ) where
  whole_are : all_parts (λ (p : Part). eqb (length (lent_whole bs zs ss c xs p)) (size p)) whole_parts ≡ are_whole_long (length bs) (length zs) (length ss) (length xs)
  unfolding all_parts lent_whole are_whole_long are_all_long are_parts_long
  whole_are =
      ap (λ (b : Bool). eqb (length bs) model_length && (eqb (length zs) state_length && (eqb (length ss) saves_length && b))) (and-true (eqb (length xs) search_length))
      ∙ regrouped (eqb (length bs) model_length) (eqb (length zs) state_length) (eqb (length ss) saves_length) (eqb (length xs) search_length)
    where
      regrouped : (a b c d : Bool) → a && (b && (c && d)) ≡ ((a && b) && c) && d
      regrouped true b c d = sym (and_assoc b c d)
      regrouped false b c d = refl

  -- what is asked by a call that is lent them all and no output
  module _ (k : Ask) (u : lent_to k ≡ whole_parts) (o : output_of k ≡ none) where
    whole-lengths : has_lengths k (λ (p : Part). length (lent_whole bs zs ss c xs p)) 0 ≡ are_whole_long (length bs) (length zs) (length ss) (length xs)
    unfolding has_lengths Option-elim
    whole-lengths =
        ap (λ (ps : List Part). all_parts (λ (p : Part). eqb (length (lent_whole bs zs ss c xs p)) (size p)) ps && Option-elim (output_of k) true (eqb 0)) u
        ∙ ap (λ (n : Option ℕ). all_parts (λ (p : Part). eqb (length (lent_whole bs zs ss c xs p)) (size p)) whole_parts && Option-elim n true (eqb 0)) o
        ∙ and-true _ ∙ whole_are

    pub whole-wrong : are_whole_long (length bs) (length zs) (length ss) (length xs) ≡ false → Gives (effect k (lent_whole bs zs ss c xs) []) (bare 1 0 0) (lent_whole bs zs ss c xs) []
    unfolding effect
    whole-wrong e = rw (whole-lengths, e) (untouched-gives (lent_whole bs zs ss c xs) [])

    pub whole-right : are_whole_long (length bs) (length zs) (length ss) (length xs) ≡ true → effect k (lent_whole bs zs ss c xs) [] ≡ answered k (lent_whole bs zs ss c xs) []
    unfolding effect
    whole-right e = rw (whole-lengths, e)

-- a result that is made of an answer and a clock
pub of-all : (E : Effect) (bs : List ℕ) (zs ss : List ℤ) (r : results.Timed) (a b : result.Answer) (c : Clock) → r ≡ record { answer = a; clock = c } → a ≡ b → Gives E b (lent_all bs zs ss c) []
    → Gives E r.answer (lent_all bs zs ss r.clock) []
of-all E bs zs ss r a b c p q g = rw (p, q) g

pub of-whole : (E : Effect) (bs : List ℕ) (zs ss xs : List ℤ) (r : results.Timed) (a b : result.Answer) (c : Clock) → r ≡ record { answer = a; clock = c } → a ≡ b → Gives E b (lent_whole bs zs ss c xs) []
    → Gives E r.answer (lent_whole bs zs ss r.clock xs) []
of-whole E bs zs ss xs r a b c p q g = rw (p, q) g

pub of-fresh : (E : Effect) (bs : List ℕ) (zs ss xs : List ℤ) (r : results.Timed) (a : result.Answer) (c : Clock) → r ≡ record { answer = a; clock = c } → c ≡ fresh_clock → Gives E a (lent_whole bs zs ss fresh_clock xs) []
    → Gives E r.answer (lent_whole bs zs ss r.clock xs) []
of-fresh E bs zs ss xs r a c p q g = rw (p, q) g
