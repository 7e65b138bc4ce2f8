-- `eval::next::continuation_of` meets its contract: that of the branch behind its gate. From what the node says.
use Rattle.eval.proofs.next.continuation_of.Goals as goal

pub prefix_next-requires : goal.prefix_next-requires
prefix_next-requires c =
    let b = c.requires.0 in
    record { action = b.action; rate = b.rate; next = b.next; at = c.past_gate.ensures b c.requires.1 }

pub returns : goal.returns
returns c b a = c.prefix_next.ensures b.action b.rate b.next (c.past_gate.ensures b a)
