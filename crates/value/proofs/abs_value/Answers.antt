-- Below 0 the size is the negation, which fits an i64; otherwise it is the number.
use Rattle.std.proofs.Common.{rules}
use Rattle.value.specs.Arithmetic.{negation_of, abs_of}
use Rattle.value.proofs.abs_value.Goals as goal

pub returns-then-x-lt0 : goal.returns-then-x-lt0
unfolding abs_of negation_of
returns-then-x-lt0 c = search rules

pub returns : goal.returns
unfolding abs_of
returns c = search rules
