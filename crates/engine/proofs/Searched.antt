-- Question 1 of a search: a wrong length leaves everything as it was; right ones let it go on.
use mathlib.Core.Path.{◌≡◌, refl, ◌∙◌}
use mathlib.Core.List.{List, []}
use mathlib.Core.Bool.{true, false, and-true}
use mathlib.Core.Option.{Option-elim}
use Prim.Native.Nat.{ℕ}
use lib.IntN.{ℤ}
use lib.ListN.{length}
use Rattle.machine.specs.Machine.{no, search', on', Part, has_lengths}
use Rattle.buffers.specs.Parts.{Engine, lent_two}
use Rattle.buffers.specs.Effect.{untouched, answered, effect}
use Rattle.searching.specs.Run.{entries_of, bare, GivesRun}
use Rattle.simulation.specs.Comes.{are_parts_long}
use Rattle.engine.proofs.Lengths.{parts_are}

untouched-run : (x : Engine) → GivesRun (untouched x []) (bare 1) x
unfolding untouched no entries_of
untouched-run x = record { number = refl; long = refl; run = refl; buffers = λ p. refl }

module _ (bs : List ℕ) (zs : List ℤ) (n : List ℕ) (d : ℕ) where
  lengths : has_lengths (on' (search' n d)) (λ (p : Part). length (lent_two bs zs p)) 0 ≡ are_parts_long (length bs) (length zs)
  unfolding has_lengths Option-elim
  lengths = and-true _ ∙ parts_are bs zs

  pub search-wrong : are_parts_long (length bs) (length zs) ≡ false → GivesRun (effect (on' (search' n d)) (lent_two bs zs) []) (bare 1) (lent_two bs zs)
  unfolding effect
  search-wrong e = rw (lengths, e) (untouched-run (lent_two bs zs))

  pub search-right : are_parts_long (length bs) (length zs) ≡ true → effect (on' (search' n d)) (lent_two bs zs) [] ≡ answered (on' (search' n d)) (lent_two bs zs) []
  unfolding effect
  search-right e = rw (lengths, e)
