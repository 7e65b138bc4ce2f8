-- The halves, and the bytes from a on by ranges.
use mathlib.Core.List.{[]}
use native.Mathlib.Omega.{arith}
use Rattle.token.specs.Bytes.{within, is_blank, is_letter, is_digit, is_sign, sort_of}
use Rattle.token.proofs.Ranges.{by-range}
use Rattle.token.proofs.sort.Goals as goal

pub returns-in-97-to-122 : goal.returns-in-97-to-122
unfolding within is_blank is_letter is_digit is_sign sort_of
returns-in-97-to-122 c = by-range 1 [] 97 26 c.args.b tt (omega arith) (omega arith) tt

pub returns-in-123-to-126 : goal.returns-in-123-to-126
unfolding within is_blank is_letter is_digit is_sign sort_of
returns-in-123-to-126 c = by-range 3 [] 123 4 c.args.b tt (omega arith) (omega arith) tt

pub returns-in_default : goal.returns-in_default
unfolding within is_blank is_letter is_digit is_sign sort_of
returns-in_default c = by-range 4 [] 127 129 c.args.b tt (omega arith) (omega arith) tt
