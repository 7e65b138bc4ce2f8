-- The sizes and the sum, from what `value` and `place` ensure of the two parts.
use native.Mathlib.Omega.{arith}
use Rattle.word.proofs.Digits.{decimal-fits, decimal-is}
use Rattle.word.proofs.decimal.Goals as goal

pub overflow_mul-result : goal.overflow_mul-result
overflow_mul-result c =
    let s = c in
    omega (arith, decimal-fits s.args.before.now s.args.after.now c.value-whole.result c.value.result c.place.result s.requires.0 s.requires.1 c.value-whole.ensures c.value.ensures c.place.ensures)

pub overflow_add-result : goal.overflow_add-result
overflow_add-result c =
    let s = c in
    omega (arith, decimal-fits s.args.before.now s.args.after.now c.value-whole.result c.value.result c.place.result s.requires.0 s.requires.1 c.value-whole.ensures c.value.ensures c.place.ensures)

pub returns : goal.returns
returns c =
    let s = c in
    decimal-is s.args.before.now s.args.after.now c.value-whole.result c.value.result c.place.result s.requires.0 s.requires.1 c.value-whole.ensures c.value.ensures c.place.ensures
