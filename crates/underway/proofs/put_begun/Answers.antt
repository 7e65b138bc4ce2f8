-- The buffer is zeros; then the depth, the code and the start take their places.
use mathlib.Core.Path.{ap, ◌∙◌}
use mathlib.Core.List.{List}
use Prim.Native.Nat.{ℕ}
use native.Mathlib.Omega.{arith}
use borrow.Author.Rules.{rules}
use lib.IntN.{ℤ, pos}
use lib.ListN.{replicate}
use mir.Facts.{to_z_pos}
use mir.Syntax.{w64}
use Rattle.state.proofs.Change.{tail-changed}
use Rattle.underway.proofs.Written.{begun-front, begun-is}
use Rattle.underway.proofs.put_begun.Goals as goal

pub returns : goal.returns
returns c =
    let z = c.fill.ensures.after (λ y e. e) ∙ ap (λ (n : ℕ). replicate n (pos 0)) c.requires.0 in
    rw (to_z_pos w64 {n = c.args.depth} (omega arith), to_z_pos w64 {n = c.args.code} (omega arith))
    (tail-changed (λ (l : List ℤ). c.args.state.now) 13 _ c.copy_from_slice.new.self (search rules) ∙ begun-is _ c.args.state.now c.args.depth c.args.code (begun-front c.fill.new.self c.args.depth c.args.code z))
