-- The bytes from A on and below a by ranges, _ by itself.
use mathlib.Core.List.{[], ◌∷◌}
use native.Mathlib.Omega.{arith}
use Rattle.token.specs.Bytes.{within, is_blank, is_letter, is_digit, is_sign, sort_of}
use Rattle.token.proofs.Ranges.{by-range}
use Rattle.token.proofs.capital_sort.Goals as goal

pub returns-in-95 : goal.returns-in-95
unfolding within is_blank is_letter is_digit is_sign sort_of
returns-in-95 c = rw c.in-95.is

pub returns-in-65-to-90 : goal.returns-in-65-to-90
unfolding within is_blank is_letter is_digit is_sign sort_of
returns-in-65-to-90 c = by-range 1 [] 65 26 c.args.b tt (omega arith) (omega arith) tt

pub returns-in-91-to-93 : goal.returns-in-91-to-93
unfolding within is_blank is_letter is_digit is_sign sort_of
returns-in-91-to-93 c = by-range 3 [] 91 3 c.args.b tt (omega arith) (omega arith) tt

pub returns-in_default : goal.returns-in_default
returns-in_default c = absurd (omega arith)

pub returns-in_default-2 : goal.returns-in_default-2
unfolding within is_blank is_letter is_digit is_sign sort_of
returns-in_default-2 c = by-range 4 (95 ∷ []) 94 3 c.args.b tt (omega arith) (omega arith) (c.in_default.in_default-own.rest.1, tt)
