-- Each answer to a text, with what it leaves in both buffers.
use native.Mathlib.Omega.{arith}
use Rattle.engine.proofs.Openings.{opened-is, refused-is, short, starts, refused-gives, accepted-gives}
use Rattle.engine.proofs.texts.open_lent.Goals as goal

pub put_opened-requires : goal.put_opened-requires
put_opened-requires c =
    let X = c.args.text.now in
    let o = opened-is X _ _ _ c.args.profile c.open_under-opened.ensures c.in-Ok.is in
    let t = c.tables-tables.ensures in
    (c.put_fresh.ensures.0, c.put_fresh.ensures.1, short X _ _ _ o.plain, (o.plain.model, rw (t.0, t.2, t.3, t.4) (starts X _ _ _ o.plain)))

pub returns-in-Err : goal.returns-in-Err
returns-in-Err c =
    λ ss xs z y.
    let X = c.args.text.now in
    rw (c.from-in-Err.ensures, c.from.ensures) (refused-gives X _ _ _ _ ss xs (refused-is X _ _ _ c.args.profile c.open_under-opened.ensures c.in-Err.is) c.put_fresh.ensures.0 c.put_fresh.ensures.1 z y)

pub shape_of-model-in-Ok : goal.shape_of-model-in-Ok
shape_of-model-in-Ok c =
    omega (arith, c.model-in-Ok-1.given, c.model-1.given)

pub shape_of-state-in-Ok : goal.shape_of-state-in-Ok
shape_of-state-in-Ok c =
    omega (arith, c.state-in-Ok-1.given, c.state-1.given)

pub returns-in-Ok : goal.returns-in-Ok
returns-in-Ok c =
    λ ss xs z y.
    let X = c.args.text.now in
    let o = opened-is X _ _ _ c.args.profile c.open_under-opened.ensures c.in-Ok.is in
    let t = c.tables-tables.ensures in
    rw c.bare.ensures (accepted-gives X o.plain.model _ _ ss xs o.opens c.put_opened.ensures.bytes (c.put_opened.ensures.numbers o.plain.model (rw (t.0, t.2, t.3, t.4) (starts X _ _ _ o.plain))) z y)
