use mathlib.Core.Path.{ap, sym, ◌∙◌}
use Prim.Native.Nat.{ℕ, ◌<◌}
use native.Mathlib.Omega.{arith}
use lib.ListN.{length, length-set, length-replicate, replicate}
use Rattle.machine.specs.Report.{report_length}
use Rattle.shares.proofs.Turns.{passed, starts, ends, all-fit, rows-count, row-at, x-inside, x-below, turned, sum_fits}
use Rattle.shares.proofs.share.Goals as goal

pub rows_of-row-items-requires : goal.rows_of-row-items-requires
rows_of-row-items-requires c = all-fit c.requires.0.3

pub loop-row-init : goal.loop-row-init
loop-row-init c =
    let e = c.fill.ensures.after (λ y e. e) ∙ ap (λ (n : ℕ). replicate n 0) c.requires.1 in
    (ap length e ∙ length-replicate {A = ℕ} report_length 0, λ m s es h. e ∙ sym (starts h))

pub definition_at-definition-requires : goal.definition_at-definition-requires
definition_at-definition-requires c =
    let h = c.requires.0.3 in
    let k : c.loop-row.row-index < c.args.count = omega (arith, c.loop-row-test.true, rows-count _ _ _ c.rows_of-row-items.ensures) in
    let A = row-at _ _ _ c.rows_of-row-items.ensures c.loop-row.row-index k in
    (passed h, x-inside h c.loop-row.row-index k _ _ c.from-entry.ensures A)

pub offset_bounds-report-definition : goal.offset_bounds-report-definition
offset_bounds-report-definition c =
    let h = c.requires.0.3 in
    let k : c.loop-row.row-index < c.args.count = omega (arith, c.loop-row-test.true, rows-count _ _ _ c.rows_of-row-items.ensures) in
    let A = row-at _ _ _ c.rows_of-row-items.ensures c.loop-row.row-index k in
    let z = x-below h c.loop-row.row-index k _ _ c.from-entry.ensures A _ _ (c.loop-row.invariant.1 _ _ _ h) c.definition_at-definition.ensures in
    omega (arith, z, c.loop-row.invariant.0)

pub bounds-report-definition : goal.bounds-report-definition
bounds-report-definition c =
    let h = c.requires.0.3 in
    let k : c.loop-row.row-index < c.args.count = omega (arith, c.loop-row-test.true, rows-count _ _ _ c.rows_of-row-items.ensures) in
    let A = row-at _ _ _ c.rows_of-row-items.ensures c.loop-row.row-index k in
    let z = x-below h c.loop-row.row-index k _ _ c.from-entry.ensures A _ _ (c.loop-row.invariant.1 _ _ _ h) c.definition_at-definition.ensures in
    omega (arith, z, c.loop-row.invariant.0)

pub overflow_add-report : goal.overflow_add-report
overflow_add-report c =
    let h = c.requires.0.3 in
    let k : c.loop-row.row-index < c.args.count = omega (arith, c.loop-row-test.true, rows-count _ _ _ c.rows_of-row-items.ensures) in
    let A = row-at _ _ _ c.rows_of-row-items.ensures c.loop-row.row-index k in
    let z = sum_fits h c.loop-row.row-index k _ _ c.from-entry.ensures A _ _ (c.loop-row.invariant.1 _ _ _ h) c.definition_at-definition.ensures in
    omega (arith, z)

pub bounds-report-definition-in-loop-row : goal.bounds-report-definition-in-loop-row
bounds-report-definition-in-loop-row c =
    let h = c.requires.0.3 in
    let k : c.loop-row.row-index < c.args.count = omega (arith, c.loop-row-test.true, rows-count _ _ _ c.rows_of-row-items.ensures) in
    let A = row-at _ _ _ c.rows_of-row-items.ensures c.loop-row.row-index k in
    let z = x-below h c.loop-row.row-index k _ _ c.from-entry.ensures A _ _ (c.loop-row.invariant.1 _ _ _ h) c.definition_at-definition.ensures in
    omega (arith, z, c.loop-row.invariant.0)

pub loop-row-preserved : goal.loop-row-preserved
loop-row-preserved c = (
  simp length-set c.loop-row.invariant.0,
  λ m s es h.
      let k : c.loop-row.row-index < c.args.count = omega (arith, c.loop-row-test.true, rows-count _ _ _ c.rows_of-row-items.ensures) in
      let A = row-at _ _ _ c.rows_of-row-items.ensures c.loop-row.row-index k in
      turned h c.loop-row.row-index k _ _ c.from-entry.ensures A _ _ (c.loop-row.invariant.1 m s es h) c.definition_at-definition.ensures,
)

pub returns : goal.returns
returns c =
    λ m s es h. c.loop-row.invariant.1 m s es h ∙ ends h c.loop-row.row-index (omega (arith, c.loop-row-test.false, rows-count _ _ _ c.rows_of-row-items.ensures))
