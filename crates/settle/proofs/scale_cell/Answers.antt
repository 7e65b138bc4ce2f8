use Rattle.token.proofs.Columns.{low_at, length-lows}
use Rattle.settle.proofs.Cells.{whole-scale, decimal-scale}
use mathlib.Core.Path.{sym, ◌∙◌}
use native.Mathlib.Omega.{arith}
use Rattle.settle.proofs.scale_cell.Goals as goal

pub bounds-contents-k : goal.bounds-contents-k
bounds-contents-k c =
    omega (arith, c.requires.3.inside, length-lows c.args.contents.now)

pub offset_bounds-contents-k : goal.offset_bounds-contents-k
offset_bounds-contents-k c =
    omega (arith, c.requires.3.inside, length-lows c.args.contents.now)

pub overflow_mul-value : goal.overflow_mul-value
overflow_mul-value c =
    omega (arith, (whole-scale _ c.requires.1 c.requires.2 c.requires.3 (sym (low_at c.args.contents.now c.args.k)) _ _ c.is_negative-negated.ensures c.is_whole.ensures c.if-is_whole.true).0)

pub number_cell-requires : goal.number_cell-requires
number_cell-requires c =
    (whole-scale _ c.requires.1 c.requires.2 c.requires.3 (sym (low_at c.args.contents.now c.args.k)) _ _ c.is_negative-negated.ensures c.is_whole.ensures c.if-is_whole.true).1

pub returns-then-is_whole : goal.returns-then-is_whole
returns-then-is_whole c =
    λ w b d h. c.number_cell.ensures ∙ (whole-scale _ b d h (sym (low_at c.args.contents.now c.args.k)) _ _ c.is_negative-negated.ensures c.is_whole.ensures c.if-is_whole.true).2

pub number_cell-requires-2 : goal.number_cell-requires-2
number_cell-requires-2 c =
    (decimal-scale _ c.requires.1 c.requires.2 c.requires.3 (sym (low_at c.args.contents.now c.args.k)) _ _ c.is_negative-negated.ensures c.is_whole.ensures c.if-is_whole.false).0

pub returns : goal.returns
returns c =
    λ w b d h. c.number_cell-2.ensures ∙ (decimal-scale _ b d h (sym (low_at c.args.contents.now c.args.k)) _ _ c.is_negative-negated.ensures c.is_whole.ensures c.if-is_whole.false).1
