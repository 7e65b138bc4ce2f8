-- The count tells whether the pair is there; its row has the values.
use mathlib.Core.Path.{sym, ◌∙◌}
use native.Mathlib.Omega.{arith}
use Prim.Native.Nat.{◌+◌}
use lib.IntN.{pos}
use lib.ListN.{get_or}
use Rattle.machine.specs.State.{channel_width}
use Rattle.value.proofs.Kit.{back, ok-fits}
use Rattle.state.proofs.Tests.{below-fits}
use Rattle.step.specs.Enter.{values_of}
use Rattle.step.proofs.Tables.{passed, long, beyond, row_of}
use Rattle.step.proofs.pair_values.Goals as goal

pub pair_count-requires : goal.pair_count-requires
pair_count-requires c =
    passed c.requires.2

pub returns-then-pair_count-pair : goal.returns-then-pair_count-pair
unfolding values_of
returns-then-pair_count-pair c =
    λ m s h. sym (beyond h c.args.pair (omega (arith, c.pair_count.ensures.0, c.if-pair_count-pair.true)))

pub pair_row-row-requires : goal.pair_row-row-requires
pair_row-row-requires c =
    (long c.requires.2, omega (arith, c.pair_count.ensures.1, c.if-pair_count-pair.false))

pub bounds-row-7 : goal.bounds-row-7
bounds-row-7 c =
    let w = row_of c.requires.2 c.args.pair (omega (arith, c.pair_count.ensures.0, c.if-pair_count-pair.false)) _ c.pair_row-row.ensures in omega (arith, w.wide)

pub overflow_cast-row : goal.overflow_cast-row
overflow_cast-row c =
    let w = row_of c.requires.2 c.args.pair (omega (arith, c.pair_count.ensures.0, c.if-pair_count-pair.false)) _ c.pair_row-row.ensures in
    let z = get_or c.pair_row-row.result.now channel_width (pos 0) in
    rw (back z c.first_values-arg-1.given) (below-fits 3 z (ok-fits z c.first_values-arg-1.given) w.below)

pub bounds-row-8 : goal.bounds-row-8
bounds-row-8 c =
    let w = row_of c.requires.2 c.args.pair (omega (arith, c.pair_count.ensures.0, c.if-pair_count-pair.false)) _ c.pair_row-row.ensures in omega (arith, w.wide)

pub bounds-row : goal.bounds-row
bounds-row c =
    let w = row_of c.requires.2 c.args.pair (omega (arith, c.pair_count.ensures.0, c.if-pair_count-pair.false)) _ c.pair_row-row.ensures in omega (arith, w.wide)

pub first_values-requires : goal.first_values-requires
first_values-requires c =
    let w = row_of c.requires.2 c.args.pair (omega (arith, c.pair_count.ensures.0, c.if-pair_count-pair.false)) _ c.pair_row-row.ensures in
    rw (back (get_or c.pair_row-row.result.now channel_width (pos 0)) c.first_values-arg-1.given) w.two

pub returns : goal.returns
returns c =
    let row = c.pair_row-row.result.now in
    let a = back (get_or row channel_width (pos 0)) c.first_values-arg-1.given in
    let b = back (get_or row (channel_width + 1) (pos 0)) c.first_values-arg-2-1.given in
    let d = back (get_or row (channel_width + 2) (pos 0)) c.first_values-arg-3-1.given in
    λ m s h. c.first_values.ensures ∙ rw (a, b, d) (row_of h c.args.pair (omega (arith, c.pair_count.ensures.0, c.if-pair_count-pair.false)) _ c.pair_row-row.ensures).values
