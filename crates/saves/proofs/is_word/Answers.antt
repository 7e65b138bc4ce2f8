use mathlib.Core.Path.{refl, sym, ◌∙◌}
use native.Mathlib.Omega.{arith}
use Rattle.saves.proofs.Laws.{alphabetic, word-ends, word-fails, word_on, word-done}
use Rattle.saves.proofs.is_word.Goals as goal

pub loop-i-init : goal.loop-i-init
loop-i-init c =
    refl

pub returns-then-w-eq0 : goal.returns-then-w-eq0
returns-then-w-eq0 c =
    sym (word-ends c.args.word c.loop-i.w c.loop-i.i c.loop-i.invariant (omega arith) c.if-w-eq0.true)

pub returns-then-not-is_ascii_alphabetic : goal.returns-then-not-is_ascii_alphabetic
returns-then-not-is_ascii_alphabetic c =
    sym (word-fails c.args.word c.loop-i.w c.loop-i.i c.loop-i.invariant (omega arith) c.if-w-eq0.false (sym (alphabetic _) ∙ sym c.is_ascii_alphabetic.ensures.value ∙ c.if-not-is_ascii_alphabetic.true))

pub loop-i-preserved : goal.loop-i-preserved
loop-i-preserved c =
    word_on c.args.word c.loop-i.w c.loop-i.i c.loop-i.invariant (omega arith) c.if-w-eq0.false (sym (alphabetic _) ∙ sym c.is_ascii_alphabetic.ensures.value ∙ c.if-not-is_ascii_alphabetic.false)

pub returns : goal.returns
returns c =
    sym (word-done c.args.word c.loop-i.w c.loop-i.i c.loop-i.invariant (omega arith))
