-- The tables that were filled hold the tokens, so that each place and size stays within the text.
use Rattle.std.proofs.Common.{arith}
use Rattle.token.proofs.Tells.{filled-held, held_place, held-size, held-room}
use Rattle.token.proofs.Up.{token-count}
use Rattle.tokens.proofs.put_tokens.Goals as goal

pub offset_bounds-places-i : goal.offset_bounds-places-i
offset_bounds-places-i g c = omega (arith, held_place (filled-held c.fill-n.ensures) c.loop-i.i c.loop-i-test.true)

pub bounds-places-i : goal.bounds-places-i
bounds-places-i g c = omega (arith, c.loop-i-test.true, c.fill-n.ensures.count, token-count c.args.text.now, c.requires)

pub offset_bounds-sizes-i : goal.offset_bounds-sizes-i
offset_bounds-sizes-i g c = omega (arith, held-size (filled-held c.fill-n.ensures) c.loop-i.i c.loop-i-test.true)

pub bounds-sizes-i : goal.bounds-sizes-i
bounds-sizes-i g c = omega (arith, c.loop-i-test.true, c.fill-n.ensures.count, token-count c.args.text.now, c.requires)

pub overflow_add-end : goal.overflow_add-end
overflow_add-end g c = rw (c.from-at.ensures, c.from.ensures) (omega (arith, held-room (filled-held c.fill-n.ensures) c.loop-i.i c.loop-i-test.true, c.requires))

pub bounds-kinds-i : goal.bounds-kinds-i
bounds-kinds-i g c = omega (arith, c.loop-i-test.true, c.fill-n.ensures.count, token-count c.args.text.now, c.requires)

pub slice_bounds-put_token-end : goal.slice_bounds-put_token-end
slice_bounds-put_token-end g c = rw (c.from-at.ensures, c.from.ensures) (held-room (filled-held c.fill-n.ensures) c.loop-i.i c.loop-i-test.true)
