-- The library's chunks are the places.
use mathlib.Core.Path.{ap, ◌∙◌}
use native.Mathlib.Omega.{arith}
use Prim.Native.Nat.{ℕ, ◌/◌}
use lib.ListN.{length}
use mathlib.Core.Path.{◌≡◌}
use Rattle.std.specs.Simd.{first_chunks}
use Rattle.machine.specs.Saves.{save_limit, place_width}
use Rattle.state.proofs.Chunks.{rows_all_taken}
use Rattle.saves.proofs.places_in.Goals as goal

pub returns : goal.returns
returns c =
    let n : length c.args.saves.now / 5126 ≡ 8 = omega (arith, c.requires) in
    (c.as_chunks.ensures.front ∙ ap (λ (k : ℕ). first_chunks place_width k c.args.saves.now) n ∙ rows_all_taken place_width save_limit c.args.saves.now, c.as_chunks.ensures.front_len ∙ n)
