-- The bytes below A by ranges.
use mathlib.Core.List.{[]}
use native.Mathlib.Omega.{arith}
use Rattle.token.specs.Bytes.{within, is_blank, is_letter, is_digit, is_sign, sort_of}
use Rattle.token.proofs.Ranges.{by-range}
use Rattle.token.proofs.low_sort.Goals as goal

pub returns-in-40-to-47 : goal.returns-in-40-to-47
unfolding within is_blank is_letter is_digit is_sign sort_of
returns-in-40-to-47 c = by-range 3 [] 40 8 c.args.b tt (omega arith) (omega arith) tt

pub returns-in-48-to-57 : goal.returns-in-48-to-57
unfolding within is_blank is_letter is_digit is_sign sort_of
returns-in-48-to-57 c = by-range 2 [] 48 10 c.args.b tt (omega arith) (omega arith) tt

pub returns-in-59-to-64 : goal.returns-in-59-to-64
unfolding within is_blank is_letter is_digit is_sign sort_of
returns-in-59-to-64 c = by-range 3 [] 59 6 c.args.b tt (omega arith) (omega arith) tt

pub returns-in_default : goal.returns-in_default
unfolding within is_blank is_letter is_digit is_sign sort_of
returns-in_default c = by-range 4 [] 58 1 c.args.b tt (omega arith) (omega arith) tt

pub returns-in_default-2 : goal.returns-in_default-2
returns-in_default-2 c = absurd (omega arith)
