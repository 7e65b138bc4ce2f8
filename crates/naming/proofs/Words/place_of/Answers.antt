use Rattle.std.proofs.Common.{arith}
use Rattle.naming.proofs.Places.{place_found, place-on, place_end, told-same}
use Rattle.naming.proofs.Words.place_of.Goals as goal

pub returns-then-eq : goal.returns-then-eq
returns-then-eq c =
    λ w h.
    place_found w c.args.k c.args.names.now c.loop-i.i (c.loop-i.invariant w h) c.loop-i-test.true (told-same w _ _ _ _ _ _ _ (c.word-word.ensures w h) (c.word.ensures w h) c.from.ensures c.eq.ensures c.if-eq.true)

pub loop-i-preserved : goal.loop-i-preserved
loop-i-preserved c =
    λ w h.
    place-on w c.args.k c.args.names.now c.loop-i.i (c.loop-i.invariant w h) c.loop-i-test.true (told-same w _ _ _ _ _ _ _ (c.word-word.ensures w h) (c.word.ensures w h) c.from.ensures c.eq.ensures c.if-eq.false)

pub returns : goal.returns
returns c = λ w h. place_end w c.args.k c.args.names.now c.loop-i.i (c.loop-i.invariant w h) (omega arith)
