-- A head that is not full takes the byte; after a full one the rest does.
use Rattle.std.proofs.Common.{arith}
use Rattle.lines.specs.Line.{rest_next, mid_next, late_next, early_next}
use Rattle.lines.specs.Two.{two_next}
use Rattle.lines.proofs.Heads.{short_on, long-on}
use Rattle.lines.proofs.line.Reading.push.Goals as goal

pub returns-then-self-lt-FULL : goal.returns-then-self-lt-FULL
unfolding early_next
returns-then-self-lt-FULL c =
    rw c.from.ensures (λ s h. short_on c.args.b c.next_rest-self.result c.next_kept-self.result h (omega arith) c.if-self-lt-FULL.true c.next_rest-self.ensures c.next_kept-self.ensures)

pub returns : goal.returns
unfolding rest_next two_next mid_next late_next early_next
returns c =
    λ s h. long-on c.args.b c.next_rest-self.result c.with_byte-self.result c.next_bytes-self.result c.next_rest-self-2.result c.next_rest-self-3.result c.next_bytes-self-2.result c.next_kept-self.result c.with_byte-self-2.result h (omega arith) c.if-self-lt-FULL.false c.next_rest-self.ensures c.with_byte-self.ensures c.next_bytes-self.ensures c.next_rest-self-2.ensures c.next_rest-self-3.ensures c.next_bytes-self-2.ensures c.next_kept-self.ensures c.with_byte-self-2.ensures
