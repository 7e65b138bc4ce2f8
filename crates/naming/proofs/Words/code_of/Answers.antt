use Rattle.std.proofs.Common.{arith}
use Rattle.naming.proofs.Codes.{code-found, code-on, code-end, code-is, told-name}
use Rattle.naming.proofs.Words.code_of.Goals as goal

pub returns-then-eq-clause-code : goal.returns-then-eq-clause-code
returns-then-eq-clause-code c =
    λ m h e.
    code-is m c.args.name.now c.args.names.now _ e (code-found m.words c.args.name.now c.args.names.now c.loop-i.i (c.loop-i.invariant m.words h) c.loop-i-test.true (told-name m.words _ _ c.args.name.now _ _ _ (c.word.ensures m.words h) c.from.ensures c.eq.ensures c.if-eq.true))

pub loop-i-preserved : goal.loop-i-preserved
loop-i-preserved c =
    λ w h.
    code-on w c.args.name.now c.args.names.now c.loop-i.i (c.loop-i.invariant w h) c.loop-i-test.true (told-name w _ _ c.args.name.now _ _ _ (c.word.ensures w h) c.from.ensures c.eq.ensures c.if-eq.false)

pub returns-clause-code : goal.returns-clause-code
returns-clause-code c =
    λ m h e. code-is m c.args.name.now c.args.names.now 0 e (code-end m.words c.args.name.now c.args.names.now c.loop-i.i (c.loop-i.invariant m.words h) (omega arith))
