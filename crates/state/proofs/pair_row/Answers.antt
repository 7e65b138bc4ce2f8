-- The part of the numbers that starts at the pair.
use Prim.Native.Nat.{◌+◌, ◌*◌}
use Rattle.state.specs.Change.{pairs_from}
use Rattle.machine.specs.State.{pair_width}
use Rattle.state.specs.Read.{pair_row}
use Rattle.state.proofs.Part.{width-part}
use Rattle.state.proofs.pair_row.Goals as goal

pub returns : goal.returns
unfolding pair_row
returns c = width-part (pairs_from + c.args.place * pair_width) pair_width c.args.state.now
