-- The single bytes one by one, the rest by ranges without them.
use mathlib.Core.List.{[], ◌∷◌}
use mathlib.Core.Logic.{inl, inr, ⊎_elim}
use native.Mathlib.Omega.{arith}
use Rattle.token.specs.Bytes.{within, is_blank, is_letter, is_digit, is_sign, sort_of}
use Rattle.token.proofs.Ranges.{by-range}
use Rattle.token.proofs.blank_sort.Goals as goal

pub returns-in-13 : goal.returns-in-13
unfolding within is_blank is_letter is_digit is_sign sort_of
returns-in-13 c = ⊎_elim (λ e. rw e) (λ e. rw e) c.in-13.is

pub returns-in-33 : goal.returns-in-33
unfolding within is_blank is_letter is_digit is_sign sort_of
returns-in-33 c = ⊎_elim (λ e. rw e) (⊎_elim (λ e. rw e) (λ e. rw e)) c.in-33.is

pub returns-in-9-to-10 : goal.returns-in-9-to-10
unfolding within is_blank is_letter is_digit is_sign sort_of
returns-in-9-to-10 c = by-range 0 [] 9 2 c.args.b tt (omega arith) (omega arith) tt

pub returns-in_default : goal.returns-in_default
unfolding within is_blank is_letter is_digit is_sign sort_of
returns-in_default c = by-range 4 [] 0 9 c.args.b tt (omega arith) (omega arith) tt

pub returns-in_default-2 : goal.returns-in_default-2
unfolding within is_blank is_letter is_digit is_sign sort_of
returns-in_default-2 c =
    let r = c.in_default.in_default-own.rest in
    let blanks = r.0.1 in
    let signs = r.1 in
    by-range 4 (13 ∷ 32 ∷ 33 ∷ 35 ∷ 38 ∷ []) 11 29 c.args.b tt (omega arith) (omega arith)
    ((λ e. blanks (inl e)), ((λ e. blanks (inr e)), ((λ e. signs (inl e)), ((λ e. signs (inr (inl e))), ((λ e. signs (inr (inr e))), tt)))))
