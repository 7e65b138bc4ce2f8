use mathlib.Core.Path.{refl, ◌∙◌}
use native.Mathlib.Omega.{arith}
use Rattle.machine.specs.Machine.{copies}
use Rattle.eval.proofs.Rows.{rows_none}
use Rattle.store.proofs.Nodes.{copy-fits, copy-puts}
use Rattle.store.proofs.start.put_copies.Goals as goal

pub loop-i-init : goal.loop-i-init
unfolding copies
loop-i-init c =
    let r = c.args.rows.now in (refl, λ ns a. rows_none r.fresh.now r.next)

pub put_sums-requires : goal.put_sums-requires
put_sums-requires c =
    let r = c.args.rows.now in (
      copy-fits c.args.tables.nodes.now c.args.tables.scopes.now c.args.k c.args.locals.now r.fresh.now _ c.args.count r.next _ c.loop-i.i c.loop-i.invariant.1 (omega arith) c.requires,
      c.requires.few,
    )

pub loop-i-preserved : goal.loop-i-preserved
loop-i-preserved c =
    let r = c.args.rows.now in (
      c.put_sums.ensures.same ∙ c.loop-i.invariant.0,
      copy-puts c.args.tables.nodes.now c.args.tables.scopes.now c.args.k c.args.locals.now r.fresh.now _ c.args.count r.next _ c.loop-i.i c.loop-i.invariant.1 c.requires.few _ _ c.put_sums.ensures.written,
    )
