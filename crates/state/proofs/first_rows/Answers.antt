-- The first of the chunks that the library cuts.
use mathlib.Core.Path.{ap, ◌∙◌}
use Prim.Native.Nat.{◌/◌, ◌≤◌}
use native.Mathlib.Omega.{arith}
use lib.ListN.{length, take}
use lib.Seq.{length-take-le}
use Rattle.std.proofs.lemmas.Nat.{le-div}
use Rattle.state.proofs.Chunks.{rows_taken}
use Rattle.state.proofs.first_rows.Goals as goal

pub returns : goal.returns
returns g c =
    let n = c.args.n in
    let k : n ≤ length c.args.s.now / g.row.W = le-div n (length c.args.s.now) g.row.W c.requires.0 c.requires.1 in
    (ap (take n) c.as_chunks.ensures.front ∙ rows_taken g.row.W n (length c.args.s.now / g.row.W) c.args.s.now k, length-take-le n c.as_chunks.result.0.now (omega (arith, k, c.as_chunks.ensures.front_len)))
