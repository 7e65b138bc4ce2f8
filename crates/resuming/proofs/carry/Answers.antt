-- 28 where none is under way or the count would pass the limit, else what carrying on comes to is written.
use mathlib.Core.Path.{sym, ◌∙◌}
use Prim.Native.Nat.{suc}
use native.Mathlib.Omega.{arith}
use Rattle.machine.specs.Machine.{count_limit}
use Rattle.state.specs.Test.{at}
use Rattle.state.proofs.Tests.{below-bound}
use Rattle.underway.specs.Buffer.{under_in, search_in}
use Rattle.underway.proofs.Buffer.{passed}
use Rattle.resuming.proofs.Standing.{natural-so, head, search-is, none-is}
use Rattle.resuming.proofs.Told.{none-carried, far-carried, goes-on, under-count}
use Rattle.resuming.proofs.carry.Goals as goal

pub returns-then-is_zero_at : goal.returns-then-is_zero_at
returns-then-is_zero_at c =
    λ m h w e.
    let l = c.args.search.now in
    let t = none-carried m c.args.number (search_in m l) (none-is m l (sym c.is_zero_at.ensures ∙ c.if-is_zero_at.true)) in
    (sym (t.0 ∙ (passed m h.good l c.requires.1 e).numbers), rw c.bare.ensures t.1)

pub number_at-left-requires : goal.number_at-left-requires
number_at-left-requires c =
    let k = head c.requires.0.0 c.requires.0.1.good c.args.search.now c.requires.1 c.requires.0.3 (sym c.is_zero_at.ensures ∙ c.if-is_zero_at.false) in
    let o = c.requires.1 in
    (omega arith, natural-so _ (at c.args.search.now 2) k.count)

pub overflow_sub-left : goal.overflow_sub-left
overflow_sub-left c =
    let k = head c.requires.0.0 c.requires.0.1.good c.args.search.now c.requires.1 c.requires.0.3 (sym c.is_zero_at.ensures ∙ c.if-is_zero_at.false) in
    let b = below-bound (suc count_limit) (at c.args.search.now 2) k.count in
    let e = c.number_at-left.ensures in
    omega (arith, b, e)

pub returns-then-left-number : goal.returns-then-left-number
returns-then-left-number c =
    λ m h w e.
    let l = c.args.search.now in
    let f = sym c.is_zero_at.ensures ∙ c.if-is_zero_at.false in
    let q = c.number_at-left.ensures in
    let o = c.if-left-number.true in
    let i = under-count m l in
    let t = far-carried m c.args.number (search_in m l) (under_in m l) (search-is m h.good l c.requires.1 e f) (omega (arith, q, o, i)) in
    (sym (t.0 ∙ (passed m h.good l c.requires.1 e).numbers), rw c.bare-then-left-number.ensures t.1)

pub going_of-going-requires : goal.going_of-going-requires
going_of-going-requires c =
    let f = sym c.is_zero_at.ensures ∙ c.if-is_zero_at.false in
    let k = head c.requires.0.0 c.requires.0.1.good c.args.search.now c.requires.1 c.requires.0.3 f in
    let b = below-bound (suc count_limit) (at c.args.search.now 2) k.count in
    let q = c.number_at-left.ensures in
    let o = c.if-left-number.false in
    ((c.requires.0.0, c.requires.0.1, c.requires.0.2, c.requires.0.3), c.requires.1, f, omega arith)

pub put_going-requires : goal.put_going-requires
put_going-requires c =
    ((_, c.going_of-going.ensures.going c.requires.0.0 c.requires.0.1 c.requires.0.2 c.requires.0.3), c.requires.1, c.going_of-going.ensures.within)

pub returns : goal.returns
returns c =
    λ m h w e.
    let l = c.args.search.now in
    let f = sym c.is_zero_at.ensures ∙ c.if-is_zero_at.false in
    let k = head m h.good l c.requires.1 e f in
    let b = below-bound (suc count_limit) (at l 2) k.count in
    let q = c.number_at-left.ensures in
    let o = c.if-left-number.false in
    let i = under-count m l in
    let s = search-is m h.good l c.requires.1 e f in
    goes-on m c.args.number (search_in m l) (under_in m l) s (omega arith) _ _ (c.put_going.ensures m (under_in m l) _ h.good e s (c.going_of-going.ensures.going m h w e))
