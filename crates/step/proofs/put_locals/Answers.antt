-- Own numbers first, then the values.
use mathlib.Core.Path.{sym, ap, ◌∙◌}
use mathlib.Core.List.{append-nil}
use native.Mathlib.Omega.{arith}
use Rattle.std.specs.Prelude.{Some}
use Rattle.value.proofs.Kit.{back}
use Rattle.step.specs.Enter.{values_of}
use Rattle.step.proofs.Place.{own-placed, one-placed, two-placed}
use Rattle.step.proofs.put_locals.Goals as goal

pub returns-in-None : goal.returns-in-None
unfolding values_of
returns-in-None c =
    let p = own-placed c.args.own.now c.loop-i.locals.numbers c.loop-i.i (omega arith) c.loop-i.invariant in
    rw c.in-None.is (p ∙ sym (append-nil c.args.own.now))

pub returns-in-Some-One : goal.returns-in-Some-One
unfolding values_of
returns-in-Some-One c =
    let p = own-placed c.args.own.now c.loop-i.locals.numbers c.loop-i.i (omega arith) c.loop-i.invariant in
    let x = c.in-Some-One.first in
    rw (c.in-Some-One.is ∙ ap Some (rw c.in-Some-One.is at c.in-Some-One.field-0-is), back x (omega arith))
    (one-placed c.args.own.now c.loop-i.locals.numbers p x (omega (arith, c.requires)))

pub returns-in-Some-Two : goal.returns-in-Some-Two
unfolding values_of
returns-in-Some-Two c =
    let p = own-placed c.args.own.now c.loop-i.locals.numbers c.loop-i.i (omega arith) c.loop-i.invariant in
    let x = c.in-Some-Two.first in
    let y = c.in-Some-Two.second in
    rw (c.in-Some-Two.is ∙ ap Some (rw c.in-Some-Two.is at c.in-Some-Two.field-0-is), back x (omega arith), back y (omega arith))
    (two-placed c.args.own.now c.loop-i.locals.numbers p x y (omega (arith, c.requires)))
