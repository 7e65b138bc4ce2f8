-- The first byte, and 256 times the second.
use native.Mathlib.Omega.{arith}
use Rattle.buffers.specs.Held.{length_in}
use Rattle.store.proofs.buffer.text_length.Goals as goal

pub returns : goal.returns
unfolding length_in
returns c = (omega (arith, c.from.ensures, c.from_le_bytes.ensures), omega (arith, c.from.ensures))
