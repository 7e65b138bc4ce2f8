use Rattle.token.specs.Contents.{lows_in, highs_in}
use Rattle.settle.specs.Places.{Resolvable}
use Rattle.settle.proofs.Resolving.{Progress}
use Prim.Native.Nat.{◌+◌, ◌≤◌}
use lib.ListN.{length}
use Rattle.settle.proofs.settle.Given as goal

abbrev pub invariant-loop-i : goal.invariant-loop-i
invariant-loop-i l =
    (l.i ≤ l.line + 1)
    × ((h : Resolvable (lows_in l.contents) (highs_in l.contents) l.initial.nodes (length l.initial.roots) (length l.initial.scopes) (length l.initial.met.nodes.now) l.lists) → Progress h l.i l.nodes l.roots l.scopes l.met.nodes.now l.met.count l.walk)
