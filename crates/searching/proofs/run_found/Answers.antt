use borrow.Author.Rules.{rules}
use Rattle.searching.proofs.Results.{written, written-more, run-result}
use mathlib.Core.Path.{◌≡◌, ap, ◌∙◌}
use mathlib.Core.List.{List}
use Prim.Native.Nat.{ℕ}
use native.Mathlib.Omega.{arith}
use lib.ListN.{get_or, set}
use Rattle.searching.proofs.run_found.Goals as goal

pub loop-i-preserved : goal.loop-i-preserved
loop-i-preserved c =
    rw c.from.ensures (ap (λ (xs : List ℕ). set xs c.loop-i.i (get_or c.args.run.now c.loop-i.i 0)) c.loop-i.invariant ∙ written-more c.args.run.now c.loop-i.i (omega arith) (search rules))

pub returns : goal.returns
returns c =
    let e : c.loop-i.i ≡ c.args.n = omega arith in
    run-result c.args.run.now c.args.n _ c.requires (search rules) (c.loop-i.invariant ∙ ap (written c.args.run.now) e)
