use Rattle.std.proofs.Common.{refl, sym, subst}
use Rattle.tables.specs.Settled as Settled
use Rattle.waitnames.specs.Names.{all_waits}
use Rattle.naming.proofs.Marking.{sum-needs, sums_next, sums-end}
use Rattle.naming.proofs.mark_waits.Goals as goal

pub loop-n-init : goal.loop-n-init
unfolding all_waits
loop-n-init c = λ m h. refl

pub mark_branches-requires : goal.mark_branches-requires
mark_branches-requires c =
    let t = c.args.tables in
    rw c.from.ensures (sum-needs t.nodes.now t.roots.now c.args.sums c.loop-n.n c.requires.0 c.requires.1 c.loop-n-test.true 4096 c.requires.2)

pub loop-n-preserved : goal.loop-n-preserved
loop-n-preserved c =
    λ m h.
    let t = c.args.tables in
    sums_next t.nodes.now t.roots.now c.args.sums c.loop-n.n m h c.loop-n-test.true c.args.marks.now c.loop-n.marks _ (c.loop-n.invariant m h)
    (λ bs q. c.mark_branches.ensures bs (subst (Settled.Branches t.nodes.now bs) (sym c.from.ensures) q))

pub returns : goal.returns
returns c = λ m h. let t = c.args.tables in sums-end t.nodes.now t.roots.now c.args.sums c.loop-n.n m h c.loop-n-test.false c.args.marks.now c.loop-n.marks (c.loop-n.invariant m h)
