-- A search that is begun or carried on: 1 by the lengths of the model, the state and the search, and what is past it.
use mathlib.Core.Path.{◌≡◌, refl, sym, ap, ◌∙◌}
use mathlib.Core.Bool.{Bool, true, false, ◌&&◌, and-true, and_assoc}
use mathlib.Core.List.{List, []}
use mathlib.Core.Option.{Option, none, Option-elim}
use Prim.Native.Nat.{ℕ}
use borrow.Author.Tests.{eqb-true}
use lib.Dec.{eqb}
use lib.IntN.{ℤ}
use lib.ListN.{length}
use Rattle.std.specs.Prelude.{Result}
use Rattle.model.specs.Resolved
use Rattle.machine.specs.State.{state_length}
use Rattle.machine.specs.Machine.{model_length, search_length, as_lent, no, Answer, Request, begin', carry', on', Part, size, search_parts, uses, all_parts, has_lengths, output_of}
use Rattle.machine.proofs.Lent.{both_true}
use Rattle.buffers.specs.Held.{held_in}
use Rattle.buffers.specs.Parts.{Engine, lent_search}
use Rattle.buffers.specs.Effect.{Effect, untouched, requested, answered, effect}
use Rattle.simulation.specs.Comes.{are_parts_long}
use Rattle.searching.specs.Run.{entries_of}
use Rattle.resuming.specs.Progress as resuming
use Rattle.carrying.specs.declared.Refusal.{Refusal}
use Rattle.carrying.specs.Turns.{number_of, Begins, GivesProgress}
use Rattle.engine.specs.Gives.{Gives, bare, are_search_long}
use Rattle.engine.proofs.Lengths.{parts-long, untouched-gives}

pub search-long : (model state search : ℕ) → are_search_long model state search ≡ true → (model ≡ model_length) × (state ≡ state_length) × (search ≡ search_length)
unfolding are_search_long
search-long model state search e =
    let b = both_true (are_parts_long model state) _ e in
    let c = parts-long model state b.0 in
    (c.0, c.1, eqb-true _ _ b.1)

module _ (bs : List ℕ) (zs xs : List ℤ) where
  abbrev X : Engine
  X = lent_search bs zs xs

  search-are : all_parts (λ (p : Part). eqb (length (X p)) (size p)) search_parts ≡ are_search_long (length bs) (length zs) (length xs)
  unfolding all_parts lent_search are_search_long are_parts_long
  search-are =
      ap (λ (b : Bool). eqb (length bs) model_length && (eqb (length zs) state_length && b)) (and-true (eqb (length xs) search_length))
      ∙ sym (and_assoc (eqb (length bs) model_length) (eqb (length zs) state_length) (eqb (length xs) search_length))

  module _ (r : Request) (u : uses r ≡ search_parts) (o : output_of (on' r) ≡ none) where
    lengths : has_lengths (on' r) (λ (p : Part). length (X p)) 0 ≡ are_search_long (length bs) (length zs) (length xs)
    unfolding has_lengths Option-elim
    lengths =
        ap (λ (ps : List Part). all_parts (λ (p : Part). eqb (length (X p)) (size p)) ps && Option-elim (output_of (on' r)) true (eqb 0)) u
        ∙ ap (λ (n : Option ℕ). all_parts (λ (p : Part). eqb (length (X p)) (size p)) search_parts && Option-elim n true (eqb 0)) o
        ∙ and-true _ ∙ search-are

    wrong_is : are_search_long (length bs) (length zs) (length xs) ≡ false → effect (on' r) X [] ≡ untouched X []
    unfolding effect
    wrong_is e = rw (lengths, e)

    pub search-right : are_search_long (length bs) (length zs) (length xs) ≡ true → effect (on' r) X [] ≡ answered (on' r) X []
    unfolding effect
    search-right e = rw (lengths, e)

  -- ---- 1

  pub begin-wrong : (n : List ℕ) (d : ℕ) → are_search_long (length bs) (length zs) (length xs) ≡ false → Gives (effect (on' (begin' n d)) X []) (bare 1 0 0) X []
  begin-wrong n d e = rw (wrong_is (begin' n d) refl refl e) (untouched-gives X [])

  pub carry-wrong : (n : ℕ) → are_search_long (length bs) (length zs) (length xs) ≡ false → GivesProgress (effect (on' (carry' n)) X []) (resuming.bare 1 0 0) X
  carry-wrong n e = rw (wrong_is (carry' n) refl refl e) (unfold untouched no entries_of in record { number = refl; count = refl; ended = refl; long = refl; run = refl; buffers = λ p. refl })

  -- ---- the model in the model buffer

  pub under-held : (r : Request) {o : Option Resolved.Model} → held_in bs ≡ o → answered (on' r) X [] ≡ requested r X [] o
  unfolding answered lent_search
  under-held r e = ap (requested r X []) e

-- a beginning in an answer's numbers
pub begun-gives : (W : Effect) (r : Result (Unit {0}) Refusal) (x : Engine) (k : ℕ) → k ≡ number_of r → Begins W r x → Gives W (bare k 0 0) x []
unfolding no
begun-gives W r x k q g = record {
  number = q ∙ sym (ap (λ (a : Answer). a.number) g.answer);
  place = sym (ap (λ (a : Answer). a.place) g.answer);
  branch = sym (ap (λ (a : Answer). a.branch) g.answer);
  count = sym (ap (λ (a : Answer). a.count) g.answer);
  total = sym (ap (λ (a : Answer). a.total) g.answer);
  chosen = sym (ap (λ (a : Answer). a.chosen) g.answer);
  buffers = g.buffers;
  output = sym g.output;
}
