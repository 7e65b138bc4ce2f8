-- `Listed::choose` meets its contract. The loop's invariant: the sum so far, which the draw is not below.
use Rattle.rules.proofs.Chosen.{up_to}
use Rattle.listing.specs.Buffer.{weights_in}
use mathlib.Core.Path.{◌≡◌}
use Prim.Native.Nat.{◌≤◌}
use Rattle.listing.proofs.Listed.choose.Given as goal

abbrev pub invariant-loop-i : goal.invariant-loop-i
invariant-loop-i l = (l.sum ≡ up_to (weights_in l.listing l.fn.self.count) l.i) × (l.sum ≤ l.draw)
