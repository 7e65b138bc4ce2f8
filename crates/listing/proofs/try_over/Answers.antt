-- `listing::try_over` meets its contract: 12 by what is collected, then 13 and 14. From the laws of all rows.
use mathlib.Core.Path.{◌≡◌, refl, ap, ◌∙◌}
use native.Mathlib.Omega.{arith}
use lib.ListN.{length, drop, length-take, length-append}
use lib.Seq.{take_at}
use mathlib.Core.List.{◌++◌}
use borrow.Author.Rules.{rules}
use Rattle.std.specs.Prelude.{Err, Ok}
use Rattle.std.proofs.lemmas.List.{length-take-le}
use Rattle.std.proofs.lemmas.Result.{err_from_is_err_and}
use Rattle.rules.specs.Listing.{entries}
use Rattle.machine.specs.Offer.{branches}
use Rattle.listing.proofs.Added.{adds-all}
use Rattle.listing.proofs.Finished.{as-led, led-at}
use Rattle.listing.proofs.Partners.{rows_few}
use Rattle.listing.proofs.AllRows.{not-lacking, answered_none, answered-rows}
use Rattle.listing.proofs.try_over.Goals as goal

pub returns-in_err-count : goal.returns-in_err-count
returns-in_err-count c =
    let p = err_from_is_err_and c.from_residual.result c.from_residual.ensures.1 in
    λ m s w. rw p.1 (answered_none m s _ _ _ p.2 (rw c.in_err-count.was at (c.collect.ensures m s w)) (omega (arith, c.collect.auto.rows)))

pub slice_bounds-link-end : goal.slice_bounds-link-end
slice_bounds-link-end c =
    let q = answered-rows c.requires.0.2 (rw c.in_ok-count.was at (c.collect.ensures c.requires.0.0 c.requires.0.1 c.requires.0.2)) in
    omega (arith, q.2, c.collect.auto.rows)

pub slice_bounds-link-end-2 : goal.slice_bounds-link-end-2
slice_bounds-link-end-2 c =
    let q = answered-rows c.requires.0.2 (rw c.in_ok-count.was at (c.collect.ensures c.requires.0.0 c.requires.0.1 c.requires.0.2)) in
    simp length-take (omega (arith, q.2, c.collect.auto.rows))

pub slice_bounds-link-end-3 : goal.slice_bounds-link-end-3
slice_bounds-link-end-3 c =
    let q = answered-rows c.requires.0.2 (rw c.in_ok-count.was at (c.collect.ensures c.requires.0.0 c.requires.0.1 c.requires.0.2)) in
    omega (arith, q.2, c.collect.auto.rows, c.requires.3)

pub slice_bounds-link-end-4 : goal.slice_bounds-link-end-4
slice_bounds-link-end-4 c =
    let q = answered-rows c.requires.0.2 (rw c.in_ok-count.was at (c.collect.ensures c.requires.0.0 c.requires.0.1 c.requires.0.2)) in
    simp length-take (omega (arith, q.2, c.collect.auto.rows, c.requires.3))

pub slice_bounds-offered-end : goal.slice_bounds-offered-end
slice_bounds-offered-end c =
    let q = answered-rows c.requires.0.2 (rw c.in_ok-count.was at (c.collect.ensures c.requires.0.0 c.requires.0.1 c.requires.0.2)) in
    omega (arith, q.2, c.collect.auto.rows)

pub slice_bounds-offered-end-2 : goal.slice_bounds-offered-end-2
slice_bounds-offered-end-2 c =
    let q = answered-rows c.requires.0.2 (rw c.in_ok-count.was at (c.collect.ensures c.requires.0.0 c.requires.0.1 c.requires.0.2)) in
    simp length-take (omega (arith, q.2, c.collect.auto.rows))

pub slice_bounds-offered-end-3 : goal.slice_bounds-offered-end-3
slice_bounds-offered-end-3 c =
    let q = answered-rows c.requires.0.2 (rw c.in_ok-count.was at (c.collect.ensures c.requires.0.0 c.requires.0.1 c.requires.0.2)) in
    omega (arith, q.2, c.collect.auto.rows, c.requires.3, c.link.ensures.1, length-take c.in_ok-count.count c.args.nexts.now, length-append c.link.new.nexts (drop c.in_ok-count.count c.args.nexts.now))

pub slice_bounds-offered-end-4 : goal.slice_bounds-offered-end-4
slice_bounds-offered-end-4 c =
    let q = answered-rows c.requires.0.2 (rw c.in_ok-count.was at (c.collect.ensures c.requires.0.0 c.requires.0.1 c.requires.0.2)) in
    omega (arith, q.2, c.collect.auto.rows, c.requires.3, c.link.ensures.1, length-take c.in_ok-count.count c.args.nexts.now, length-append c.link.new.nexts (drop c.in_ok-count.count c.args.nexts.now), length-take c.in_ok-count.count (c.link.new.nexts ++ drop c.in_ok-count.count c.args.nexts.now))

pub invariant_of-offered-clause-as_many : goal.invariant_of-offered-clause-as_many
invariant_of-offered-clause-as_many c =
    let q = answered-rows c.requires.0.2 (rw c.in_ok-count.was at (c.collect.ensures c.requires.0.0 c.requires.0.1 c.requires.0.2)) in
    omega (arith, q.2, c.collect.auto.rows, c.requires.3, c.link.ensures.1, length-take c.in_ok-count.count c.args.nexts.now, length-append c.link.new.nexts (drop c.in_ok-count.count c.args.nexts.now), length-take c.in_ok-count.count c.collect.new.rows, length-take c.in_ok-count.count (c.link.new.nexts ++ drop c.in_ok-count.count c.args.nexts.now))

pub invariant_of-offered-clause-linked : goal.invariant_of-offered-clause-linked
invariant_of-offered-clause-linked c =
    let q = answered-rows c.requires.0.2 (rw c.in_ok-count.was at (c.collect.ensures c.requires.0.0 c.requires.0.1 c.requires.0.2)) in
    let e : length c.link.new.nexts ≡ c.in_ok-count.count = omega (arith, q.2, c.collect.auto.rows, c.requires.3, c.link.ensures.1, length-take c.in_ok-count.count c.args.nexts.now) in
    rw (take_at c.link.new.nexts (drop c.in_ok-count.count c.args.nexts.now) c.in_ok-count.count e) c.link.ensures.0

pub link-requires : goal.link-requires
link-requires c =
    let q = answered-rows c.requires.0.2 (rw c.in_ok-count.was at (c.collect.ensures c.requires.0.0 c.requires.0.1 c.requires.0.2)) in
    (rows_few q.0, omega (arith, q.2, c.collect.auto.rows, length-take-le c.in_ok-count.count c.collect.new.rows, length-take-le c.in_ok-count.count c.args.nexts.now))

pub list_rows-requires : goal.list_rows-requires
list_rows-requires c =
    let q = answered-rows c.requires.0.2 (rw c.in_ok-count.was at (c.collect.ensures c.requires.0.0 c.requires.0.1 c.requires.0.2)) in
    (c.args.tables.roots.now, c.requires.0.0, c.requires.0.1, q.0)

pub returns-in_err-judge : goal.returns-in_err-judge
returns-in_err-judge c =
    let p = err_from_is_err_and c.from_residual-in_err-judge.result c.from_residual-in_err-judge.ensures.1 in
    λ m s w.
    let q = answered-rows w (rw c.in_ok-count.was at (c.collect.ensures m s w)) in
    let A = adds-all c.requires.1 (c.list_rows.ensures.added c.args.tables.roots.now m s q.0) in
    as-led _ (Err c.in_err-judge.field-0.0) _ (p.1 ∙ ap Err p.2) (led-at c.list_rows.new.filling.listing.now (search rules) (rw (not-lacking m s q.1, ← c.in_err-judge.was) (c.judge.ensures c.args.listing.now (entries (branches m) s) A.0 A.1)))

pub returns : goal.returns
returns c =
    λ m s w.
    let q = answered-rows w (rw c.in_ok-count.was at (c.collect.ensures m s w)) in
    let A = adds-all c.requires.1 (c.list_rows.ensures.added c.args.tables.roots.now m s q.0) in
    as-led _ (Ok c.in_ok-judge.field-0) _ refl (led-at c.list_rows.new.filling.listing.now (search rules) (rw (not-lacking m s q.1, ← c.in_ok-judge.was) (c.judge.ensures c.args.listing.now (entries (branches m) s) A.0 A.1)))
