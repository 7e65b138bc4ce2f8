-- The loop's invariant: the table is as it was, and the bits left lead from node i to the name k, if it was met. Kids come after their parent, so n - i falls.
use Rattle.token.specs.Contents.{lows_in, highs_in}
use Rattle.settle.proofs.Kids.{Searching}
use mathlib.Core.Path.{◌≡◌}
use Prim.Native.Nat.{◌-◌}
use Rattle.settle.proofs.Channels.place.Given as goal

abbrev pub invariant-loop-k : goal.invariant-loop-k
invariant-loop-k l = Searching (lows_in l.contents) (highs_in l.contents) l.initial.self.nodes.now l.n l.k l.self.nodes.now l.bits l.first l.second l.i × (l.self.count ≡ l.n)

abbrev pub decreases-loop-k : goal.decreases-loop-k
decreases-loop-k l = l.n - l.i
