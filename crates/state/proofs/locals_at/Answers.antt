-- The part of the numbers that starts after the sum number.
use Prim.Native.Nat.{◌+◌, ◌*◌}
use Rattle.machine.specs.State.{process_width}
use Rattle.state.specs.Read.{locals_at}
use Rattle.state.proofs.Part.{width-part}
use Rattle.state.proofs.locals_at.Goals as goal

pub returns : goal.returns
unfolding locals_at
returns c = width-part (2 + c.args.place * process_width + 1) c.args.count c.args.state.now
