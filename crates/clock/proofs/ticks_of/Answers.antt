-- Two divisions are one; nothing passes 64 bits.
use Rattle.clock.proofs.Bringing.{two-divisions, few-ticks}
use Rattle.clock.proofs.ticks_of.Goals as goal

pub returns : goal.returns
returns c =
    record { value = two-divisions _ _; upper_bound = few-ticks _ _ c.requires.0 }
