-- The test on bits is that of the number.
use mathlib.Core.Path.{sym}
use lib.IntN.{pos}
use lib.ListN.{get_or}
use Rattle.value.proofs.Kit.{ok-fits}
use Rattle.state.proofs.Tests.{zero_bits}
use Rattle.resuming.proofs.is_zero_at.Goals as goal

pub returns : goal.returns
returns c =
    let z = get_or c.args.search.now c.args.i (pos 0) in
    sym (zero_bits z (ok-fits z c.z-1.given))
