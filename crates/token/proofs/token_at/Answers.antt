-- Each arm is one sort of first byte.
use mathlib.Core.Path.{sym, ap}
use native.Mathlib.Omega.{arith}
use borrow.Author.Tests.{eqb-true, eqb-false}
use Rattle.token.specs.Bytes.{class_number}
use Rattle.token.proofs.Runs.{belongs-on}
use Rattle.token.proofs.Classes.{not-letter, not-digit, not-sign}
use Rattle.token.proofs.Cases.{none_is, name-is, number_is, sign-is, other-is}
use Rattle.token.proofs.token_at.Goals as goal

pub returns-then-is_empty : goal.returns-then-is_empty
returns-then-is_empty c = none_is c.args.g c.args.s.now (eqb-true _ _ (sym c.if-is_empty.ensures))

pub named-requires : goal.named-requires
named-requires c =
    (omega (arith, eqb-false _ _ (sym c.if-is_empty.ensures)), belongs-on 1 _ _ c.sort.ensures (omega arith) (omega arith))

pub returns-in-Letter : goal.returns-in-Letter
returns-in-Letter c =
    name-is c.args.g c.args.s.now _ (eqb-false _ _ (sym c.if-is_empty.ensures)) c.sort.ensures c.named.result (ap class_number c.in-Letter.is) c.named.ensures

pub number-requires : goal.number-requires
number-requires c =
    (omega (arith, eqb-false _ _ (sym c.if-is_empty.ensures)), belongs-on 2 _ _ c.sort.ensures (omega arith) (omega arith))

pub returns-in-Digit : goal.returns-in-Digit
returns-in-Digit c =
    number_is c.args.g c.args.s.now _ (eqb-false _ _ (sym c.if-is_empty.ensures)) c.sort.ensures (λ z. omega (arith, ap class_number c.in-Digit.is)) c.number.result (ap class_number c.in-Digit.is) c.number.ensures

pub returns-in-Sign : goal.returns-in-Sign
returns-in-Sign c =
    sign-is c.args.g c.args.s.now _ (eqb-false _ _ (sym c.if-is_empty.ensures)) c.sort.ensures (λ z. omega (arith, ap class_number c.in-Sign.is)) (λ z. omega (arith, ap class_number c.in-Sign.is)) c.sign.result c.peek.result (ap class_number c.in-Sign.is) c.peek.ensures c.sign.ensures

pub returns-in_default : goal.returns-in_default
returns-in_default c =
    other-is c.args.g c.args.s.now _ (eqb-false _ _ (sym c.if-is_empty.ensures)) c.sort.ensures (not-letter _ c.in_default.not-Letter) (not-digit _ c.in_default.not-Digit) (not-sign _ c.in_default.not-Sign)
