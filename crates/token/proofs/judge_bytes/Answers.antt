-- The first question with the answer no, from what its two calls answer.
use Rattle.token.proofs.Asks.{stray_position, refused-length, refused-byte, refused-depth, passed}
use Rattle.token.proofs.judge_bytes.Goals as goal

pub returns-then-text-gt-TEXT : goal.returns-then-text-gt-TEXT
returns-then-text-gt-TEXT c =
    refused-length c.args.text.now c.if-text-gt-TEXT.true

pub returns-in-Some : goal.returns-in-Some
returns-in-Some c =
    refused-byte c.args.text.now c.if-text-gt-TEXT.false (stray_position c.args.text.now _ c.byte_fault.ensures) c.in-Some.is

pub returns-in-Some-too_deep : goal.returns-in-Some-too_deep
returns-in-Some-too_deep c =
    refused-depth c.args.text.now c.if-text-gt-TEXT.false (stray_position c.args.text.now _ c.byte_fault.ensures) c.in_default.is c.too_deep.ensures c.in-Some-too_deep.is

pub returns : goal.returns
returns c =
    passed c.args.text.now c.if-text-gt-TEXT.false (stray_position c.args.text.now _ c.byte_fault.ensures) c.in_default.is c.too_deep.ensures c.in_default-too_deep.is
