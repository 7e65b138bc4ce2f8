use Rattle.grammar.proofs.Follows.{same, isnt}
use Rattle.syntax.proofs.Answers.{raised}
use Rattle.syntax.proofs.Offering.{offer-stray, offer-fault, offer-inner, offer-ready, offer-stop, offer-ready-cont, offer-cont-fault, offer-dot, gated-fault, gated-open, gated-stray, gated-ready, gated-offer-fault, gated-node, prefix-ungated}
use Rattle.syntax.proofs.Grouping.{cont-group, cont-call, cont-fault, cont-chain, sum-fault, sum-node, branches-fault, branches-last, branches-ready, branches-next-fault, branches-next, group-fault, group-node, items-fault, items-close, items-open, items-ready, items-next-fault, items-next, item-group, item-call, item-sum}
use native.Mathlib.Omega.{arith}
use Rattle.syntax.proofs.process.+branches_lent_cont_lent_gated_lent_group_lent_item_lent_items_lent_offer_lent_prefix_lent_sum_lent.Goals as goal

pub branches_lent-returns-then-peek-ne43 : goal.branches_lent-returns-then-peek-ne43
branches_lent-returns-then-peek-ne43 t c =
    let r = branches-last c.args.site.now.spot.toks.now c.args.nodes.now _ c.args.site.now.spot.at c.args.site.now.spot.used c.args.site.now.sums (c.prefix_lent.ensures.follows, (c.prefix_lent.ensures.tallied, c.prefix_lent.ensures.spare)) c.in_ok-n.was (isnt c.peek.ensures c.if-peek-ne43.true) in record { follows = r.0; tallied = r.1.0; spare = r.1.1 }

pub branches_lent-returns-in_err-n : goal.branches_lent-returns-in_err-n
branches_lent-returns-in_err-n t c =
    rw (raised c.from_residual.ensures.1) (let r = branches-fault c.args.site.now.spot.toks.now c.args.nodes.now _ c.args.site.now.spot.at c.args.site.now.spot.used c.args.site.now.sums (c.prefix_lent.ensures.follows, (c.prefix_lent.ensures.tallied, c.prefix_lent.ensures.spare)) c.in_err-n.was in record { follows = r.0; tallied = r.1.0; spare = r.1.1 })

pub branches_lent-returns-in_err-m : goal.branches_lent-returns-in_err-m
branches_lent-returns-in_err-m t c =
    rw (raised c.from_residual-in_err-m.ensures.1) (let r = branches-next-fault c.args.site.now.spot.toks.now c.args.nodes.now _ c.args.site.now.spot.at c.args.site.now.spot.used c.args.site.now.sums (c.prefix_lent.ensures.follows, (c.prefix_lent.ensures.tallied, c.prefix_lent.ensures.spare)) c.in_ok-n.was (same c.peek.ensures c.if-peek-ne43.false) _ (rw c.to.ensures.1 at c.branches_lent.ensures.follows, (rw c.to.ensures.1 at c.branches_lent.ensures.tallied, (rw c.to.ensures.1 at c.branches_lent.ensures.spare))) c.in_err-m.was in record { follows = r.0; tallied = r.1.0; spare = r.1.1 })

pub branches_lent-returns : goal.branches_lent-returns
branches_lent-returns t c =
    let ready = branches-ready c.args.site.now.spot.toks.now c.args.nodes.now _ c.args.site.now.spot.at c.args.site.now.spot.used c.args.site.now.sums (c.prefix_lent.ensures.follows, (c.prefix_lent.ensures.tallied, c.prefix_lent.ensures.spare)) c.in_ok-n.was (same c.peek.ensures c.if-peek-ne43.false) c.args.site.now.spot.ready in let r = branches-next c.args.site.now.spot.toks.now c.args.nodes.now _ c.args.site.now.spot.at c.args.site.now.spot.used c.args.site.now.sums (c.prefix_lent.ensures.follows, (c.prefix_lent.ensures.tallied, c.prefix_lent.ensures.spare)) c.in_ok-n.was (same c.peek.ensures c.if-peek-ne43.false) _ (rw c.to.ensures.1 at c.branches_lent.ensures.follows, (rw c.to.ensures.1 at c.branches_lent.ensures.tallied, (rw c.to.ensures.1 at c.branches_lent.ensures.spare))) c.in_ok-m.was (record { written = c.pair.ensures; token-fits = omega arith; left-fits = omega (arith, ready.inside, ready.room, ready.few); third-fits = omega arith }) in record { follows = r.0; tallied = r.1.0; spare = r.1.1 }

pub cont_lent-returns-in-40 : goal.cont_lent-returns-in-40
cont_lent-returns-in-40 t c =
    let r = cont-group c.args.site.now.spot.toks.now c.args.nodes.now _ c.args.site.now.spot.at c.args.site.now.spot.used c.args.site.now.sums _ (same c.peek.ensures c.in-40.is) (c.group_lent.ensures.follows, c.group_lent.ensures.tallied) in record { follows = r.0; tallied = r.1 }

pub cont_lent-returns-in-1 : goal.cont_lent-returns-in-1
cont_lent-returns-in-1 t c =
    let r = cont-call c.args.site.now.spot.toks.now c.args.nodes.now _ c.args.site.now.spot.at c.args.site.now.spot.used c.args.site.now.sums _ (same c.peek.ensures c.in-1.is) (c.call_lent.ensures.follows, c.call_lent.ensures.tallied) in record { follows = r.0; tallied = r.1 }

pub cont_lent-returns-in_err-n-in_default : goal.cont_lent-returns-in_err-n-in_default
cont_lent-returns-in_err-n-in_default t c =
    rw (raised c.from_residual.ensures.1) (let r = cont-fault c.args.site.now.spot.toks.now c.args.nodes.now _ c.args.site.now.spot.at c.args.site.now.spot.used c.args.site.now.sums (isnt c.peek.ensures (omega arith)) (isnt c.peek.ensures (omega arith)) (c.prefix_lent.ensures.follows, (c.prefix_lent.ensures.tallied, c.prefix_lent.ensures.spare)) c.in_err-n-in_default.was in record { follows = r.0; tallied = r.1 })

pub cont_lent-returns-in_ok-n-in_default : goal.cont_lent-returns-in_ok-n-in_default
cont_lent-returns-in_ok-n-in_default t c =
    let r = cont-chain c.args.site.now.spot.toks.now c.args.nodes.now _ c.args.site.now.spot.at c.args.site.now.spot.used c.args.site.now.sums (isnt c.peek.ensures (omega arith)) (isnt c.peek.ensures (omega arith)) (c.prefix_lent.ensures.follows, (c.prefix_lent.ensures.tallied, c.prefix_lent.ensures.spare)) c.in_ok-n-in_default.was (record { written = c.node.ensures; token-fits = omega (arith, c.args.site.now.spot.ready.inside, c.args.site.now.spot.ready.room, c.args.site.now.few); left-fits = omega arith; third-fits = omega (arith, c.args.site.now.spot.ready.inside, c.args.site.now.spot.ready.room) }) in record { follows = r.0; tallied = r.1 }

pub gated_lent-returns-then-peek-ne93 : goal.gated_lent-returns-then-peek-ne93
gated_lent-returns-then-peek-ne93 t c =
    let r = gated-open c.args.site.now.spot.toks.now c.args.nodes.now _ c.args.site.now.spot.at c.args.site.now.spot.used c.args.site.now.sums c.requires.at_value (c.condition.ensures.follows, c.condition.ensures.parsed) c.in_ok-n.was (isnt c.peek.ensures c.if-peek-ne93.true) in record { follows = r.0; tallied = r.1.0; spare = r.1.1 }

pub gated_lent-returns-then-peek : goal.gated_lent-returns-then-peek
gated_lent-returns-then-peek t c =
    let r = gated-stray c.args.site.now.spot.toks.now c.args.nodes.now _ c.args.site.now.spot.at c.args.site.now.spot.used c.args.site.now.sums c.requires.at_value (c.condition.ensures.follows, c.condition.ensures.parsed) c.in_ok-n.was (same c.peek.ensures c.if-peek-ne93.false) (isnt c.peek-2.ensures c.if-peek.true) in record { follows = r.0; tallied = r.1.0; spare = r.1.1 }

pub gated_lent-returns-in_err-n : goal.gated_lent-returns-in_err-n
gated_lent-returns-in_err-n t c =
    rw (raised c.from_residual.ensures.1) (let r = gated-fault c.args.site.now.spot.toks.now c.args.nodes.now _ c.args.site.now.spot.at c.args.site.now.spot.used c.args.site.now.sums c.requires.at_value (c.condition.ensures.follows, c.condition.ensures.parsed) c.in_err-n.was in record { follows = r.0; tallied = r.1.0; spare = r.1.1 })

pub gated_lent-returns-in_err-m : goal.gated_lent-returns-in_err-m
gated_lent-returns-in_err-m t c =
    rw (raised c.from_residual-in_err-m.ensures.1) (let r = gated-offer-fault c.args.site.now.spot.toks.now c.args.nodes.now _ c.args.site.now.spot.at c.args.site.now.spot.used c.args.site.now.sums c.requires.at_value (c.condition.ensures.follows, c.condition.ensures.parsed) c.in_ok-n.was (same c.peek.ensures c.if-peek-ne93.false) (same c.peek-2.ensures c.if-peek.false) _ (rw c.to.ensures.1 at c.offer_lent.ensures.follows, (rw c.to.ensures.1 at c.offer_lent.ensures.tallied, (rw c.to.ensures.1 at c.offer_lent.ensures.spare))) c.in_err-m.was in record { follows = r.0; tallied = r.1.0; spare = r.1.1 })

pub gated_lent-returns : goal.gated_lent-returns
gated_lent-returns t c =
    let ready = gated-ready c.args.site.now.spot.toks.now c.args.nodes.now _ c.args.site.now.spot.at c.args.site.now.spot.used c.args.site.now.sums c.requires.at_value (c.condition.ensures.follows, c.condition.ensures.parsed) c.in_ok-n.was (same c.peek.ensures c.if-peek-ne93.false) (same c.peek-2.ensures c.if-peek.false) c.args.site.now.spot.ready in let r = gated-node c.args.site.now.spot.toks.now c.args.nodes.now _ c.args.site.now.spot.at c.args.site.now.spot.used c.args.site.now.sums c.requires.at_value (c.condition.ensures.follows, c.condition.ensures.parsed) c.in_ok-n.was (same c.peek.ensures c.if-peek-ne93.false) (same c.peek-2.ensures c.if-peek.false) _ (rw c.to.ensures.1 at c.offer_lent.ensures.follows, (rw c.to.ensures.1 at c.offer_lent.ensures.tallied, (rw c.to.ensures.1 at c.offer_lent.ensures.spare))) c.in_ok-m.was (record { written = c.node.ensures; token-fits = omega (arith, c.args.site.now.spot.ready.inside, c.args.site.now.spot.ready.room); left-fits = omega (arith, ready.inside, ready.room, ready.few); third-fits = omega arith }) in record { follows = r.0; tallied = r.1.0; spare = r.1.1 }

pub group_lent-returns-in_err-n : goal.group_lent-returns-in_err-n
group_lent-returns-in_err-n t c =
    rw (raised c.from_residual.ensures.1) (let r = group-fault c.args.site.now.spot.toks.now c.args.nodes.now _ c.args.site.now.spot.at c.args.site.now.spot.used c.args.site.now.sums c.requires.at_value (rw c.next.ensures.1 at c.items_lent.ensures.follows, rw c.next.ensures.1 at c.items_lent.ensures.tallied) c.in_err-n.was in record { follows = r.0; tallied = r.1 })

pub group_lent-returns : goal.group_lent-returns
group_lent-returns t c =
    let r = group-node c.args.site.now.spot.toks.now c.args.nodes.now _ c.args.site.now.spot.at c.args.site.now.spot.used c.args.site.now.sums c.requires.at_value (rw c.next.ensures.1 at c.items_lent.ensures.follows, rw c.next.ensures.1 at c.items_lent.ensures.tallied) c.in_ok-n.was (record { written = c.node.ensures; token-fits = omega (arith, c.args.site.now.spot.ready.inside, c.args.site.now.spot.ready.room); left-fits = omega arith; third-fits = omega arith }) in record { follows = r.0; tallied = r.1 }

pub item_lent-returns-in-40 : goal.item_lent-returns-in-40
item_lent-returns-in-40 t c =
    let r = item-group c.args.site.now.spot.toks.now c.args.nodes.now _ c.args.site.now.spot.at c.args.site.now.spot.used c.args.site.now.sums _ (same c.peek.ensures c.in-40.is) (c.group_lent.ensures.follows, c.group_lent.ensures.tallied) in record { follows = r.0; tallied = r.1 }

pub item_lent-returns-in-1 : goal.item_lent-returns-in-1
item_lent-returns-in-1 t c =
    let r = item-call c.args.site.now.spot.toks.now c.args.nodes.now _ c.args.site.now.spot.at c.args.site.now.spot.used c.args.site.now.sums _ (same c.peek.ensures c.in-1.is) (c.call_lent.ensures.follows, c.call_lent.ensures.tallied) in record { follows = r.0; tallied = r.1 }

pub item_lent-returns-in_default : goal.item_lent-returns-in_default
item_lent-returns-in_default t c =
    let r = item-sum c.args.site.now.spot.toks.now c.args.nodes.now _ c.args.site.now.spot.at c.args.site.now.spot.used c.args.site.now.sums _ (isnt c.peek.ensures (omega arith)) (isnt c.peek.ensures (omega arith)) (c.sum_lent.ensures.follows, c.sum_lent.ensures.tallied) in record { follows = r.0; tallied = r.1 }

pub items_lent-returns-then-t-eq41 : goal.items_lent-returns-then-t-eq41
items_lent-returns-then-t-eq41 t c =
    let r = items-close c.args.site.now.spot.toks.now c.args.nodes.now _ c.args.site.now.spot.at c.args.site.now.spot.used c.args.site.now.sums (c.item_lent.ensures.follows, c.item_lent.ensures.tallied) c.in_ok-n.was (same c.peek-t.ensures c.if-t-eq41.true) in record { follows = r.0; tallied = r.1 }

pub items_lent-returns-then-t : goal.items_lent-returns-then-t
items_lent-returns-then-t t c =
    let r = items-open c.args.site.now.spot.toks.now c.args.nodes.now _ c.args.site.now.spot.at c.args.site.now.spot.used c.args.site.now.sums (c.item_lent.ensures.follows, c.item_lent.ensures.tallied) c.in_ok-n.was (isnt c.peek-t.ensures c.if-t-eq41.false) (isnt c.peek-t.ensures c.if-t.true) in record { follows = r.0; tallied = r.1 }

pub items_lent-returns-in_err-n : goal.items_lent-returns-in_err-n
items_lent-returns-in_err-n t c =
    rw (raised c.from_residual.ensures.1) (let r = items-fault c.args.site.now.spot.toks.now c.args.nodes.now _ c.args.site.now.spot.at c.args.site.now.spot.used c.args.site.now.sums (c.item_lent.ensures.follows, c.item_lent.ensures.tallied) c.in_err-n.was in record { follows = r.0; tallied = r.1 })

pub items_lent-returns-in_err-m : goal.items_lent-returns-in_err-m
items_lent-returns-in_err-m t c =
    rw (raised c.from_residual-in_err-m.ensures.1) (let r = items-next-fault c.args.site.now.spot.toks.now c.args.nodes.now _ c.args.site.now.spot.at c.args.site.now.spot.used c.args.site.now.sums (c.item_lent.ensures.follows, c.item_lent.ensures.tallied) c.in_ok-n.was (same c.peek-t.ensures c.if-t.false) _ (rw c.to.ensures.1 at c.items_lent.ensures.follows, rw c.to.ensures.1 at c.items_lent.ensures.tallied) c.in_err-m.was in record { follows = r.0; tallied = r.1 })

pub items_lent-returns : goal.items_lent-returns
items_lent-returns t c =
    let ready = items-ready c.args.site.now.spot.toks.now c.args.nodes.now _ c.args.site.now.spot.at c.args.site.now.spot.used c.args.site.now.sums (c.item_lent.ensures.follows, c.item_lent.ensures.tallied) c.in_ok-n.was (same c.peek-t.ensures c.if-t.false) c.args.site.now.spot.ready in let r = items-next c.args.site.now.spot.toks.now c.args.nodes.now _ c.args.site.now.spot.at c.args.site.now.spot.used c.args.site.now.sums (c.item_lent.ensures.follows, c.item_lent.ensures.tallied) c.in_ok-n.was (same c.peek-t.ensures c.if-t.false) _ (rw c.to.ensures.1 at c.items_lent.ensures.follows, rw c.to.ensures.1 at c.items_lent.ensures.tallied) c.in_ok-m.was (record { written = c.pair.ensures; token-fits = omega arith; left-fits = omega (arith, ready.inside, ready.room, ready.few); third-fits = omega arith }) in record { follows = r.0; tallied = r.1 }

pub offer_lent-returns-then-peek-ne123 : goal.offer_lent-returns-then-peek-ne123
offer_lent-returns-then-peek-ne123 t c =
    let r = offer-stray c.args.site.now.spot.toks.now c.args.nodes.now c.args.site.now.spot.at c.args.site.now.spot.used c.args.site.now.sums c.args.first c.args.site.now.spot.ready.inside (isnt c.peek.ensures c.if-peek-ne123.true) in record { follows = r.0; tallied = r.1.0; spare = r.1.1 }

pub offer_lent-returns-then-peek-ne46 : goal.offer_lent-returns-then-peek-ne46
offer_lent-returns-then-peek-ne46 t c =
    let ready = offer-ready c.args.site.now.spot.toks.now c.args.nodes.now c.args.site.now.spot.at c.args.site.now.spot.used c.args.site.now.sums c.args.first (same c.peek.ensures c.if-peek-ne123.false) _ (rw c.next.ensures.1 at c.braced_lent.ensures.follows, rw c.next.ensures.1 at c.braced_lent.ensures.inside) c.in_ok-point.was c.args.site.now.spot.ready in
    let inner = offer-inner c.args.site.now.spot.toks.now c.args.nodes.now c.args.site.now.spot.at c.args.site.now.spot.used c.args.site.now.sums c.args.first (same c.peek.ensures c.if-peek-ne123.false) _ (rw c.next.ensures.1 at c.braced_lent.ensures.follows, rw c.next.ensures.1 at c.braced_lent.ensures.inside) c.in_ok-point.was in let r = offer-stop c.args.site.now.spot.toks.now c.args.nodes.now c.args.site.now.spot.at c.args.site.now.spot.used c.args.site.now.sums c.args.first (same c.peek.ensures c.if-peek-ne123.false) _ (rw c.next.ensures.1 at c.braced_lent.ensures.follows, rw c.next.ensures.1 at c.braced_lent.ensures.inside) c.in_ok-point.was (isnt c.peek-2.ensures c.if-peek-ne46.true) (record { written = c.node.ensures; token-fits = omega (arith, c.args.site.now.spot.ready.inside, c.args.site.now.spot.ready.room, c.requires.first_le_at); left-fits = omega (arith, ready.inside, ready.room, ready.few, inner.below); third-fits = omega arith }) in record { follows = r.0; tallied = r.1.0; spare = r.1.1 }

pub offer_lent-returns-in_err-point : goal.offer_lent-returns-in_err-point
offer_lent-returns-in_err-point t c =
    rw (raised c.from_residual.ensures.1) (let r = offer-fault c.args.site.now.spot.toks.now c.args.nodes.now c.args.site.now.spot.at c.args.site.now.spot.used c.args.site.now.sums c.args.first (same c.peek.ensures c.if-peek-ne123.false) _ (rw c.next.ensures.1 at c.braced_lent.ensures.follows, rw c.next.ensures.1 at c.braced_lent.ensures.inside) c.in_err-point.was in record { follows = r.0; tallied = r.1.0; spare = r.1.1 })

pub offer_lent-returns-in_err-e : goal.offer_lent-returns-in_err-e
offer_lent-returns-in_err-e t c =
    rw (raised c.from_residual-in_err-e.ensures.1) (let r = offer-cont-fault c.args.site.now.spot.toks.now c.args.nodes.now c.args.site.now.spot.at c.args.site.now.spot.used c.args.site.now.sums c.args.first (same c.peek.ensures c.if-peek-ne123.false) _ (rw c.next.ensures.1 at c.braced_lent.ensures.follows, rw c.next.ensures.1 at c.braced_lent.ensures.inside) c.in_ok-point.was (same c.peek-2.ensures c.if-peek-ne46.false) _ (rw c.to.ensures.1 at c.cont_lent.ensures.follows, rw c.to.ensures.1 at c.cont_lent.ensures.tallied) c.in_err-e.was in record { follows = r.0; tallied = r.1.0; spare = r.1.1 })

pub offer_lent-returns : goal.offer_lent-returns
offer_lent-returns t c =
    let ready = offer-ready c.args.site.now.spot.toks.now c.args.nodes.now c.args.site.now.spot.at c.args.site.now.spot.used c.args.site.now.sums c.args.first (same c.peek.ensures c.if-peek-ne123.false) _ (rw c.next.ensures.1 at c.braced_lent.ensures.follows, rw c.next.ensures.1 at c.braced_lent.ensures.inside) c.in_ok-point.was c.args.site.now.spot.ready in
    let inner = offer-inner c.args.site.now.spot.toks.now c.args.nodes.now c.args.site.now.spot.at c.args.site.now.spot.used c.args.site.now.sums c.args.first (same c.peek.ensures c.if-peek-ne123.false) _ (rw c.next.ensures.1 at c.braced_lent.ensures.follows, rw c.next.ensures.1 at c.braced_lent.ensures.inside) c.in_ok-point.was in
    let later = offer-ready-cont c.args.site.now.spot.toks.now c.args.nodes.now c.args.site.now.spot.at c.args.site.now.spot.used c.args.site.now.sums c.args.first (same c.peek.ensures c.if-peek-ne123.false) _ (rw c.next.ensures.1 at c.braced_lent.ensures.follows, rw c.next.ensures.1 at c.braced_lent.ensures.inside) c.in_ok-point.was (same c.peek-2.ensures c.if-peek-ne46.false) c.args.site.now.spot.ready in let r = offer-dot c.args.site.now.spot.toks.now c.args.nodes.now c.args.site.now.spot.at c.args.site.now.spot.used c.args.site.now.sums c.args.first (same c.peek.ensures c.if-peek-ne123.false) _ (rw c.next.ensures.1 at c.braced_lent.ensures.follows, rw c.next.ensures.1 at c.braced_lent.ensures.inside) c.in_ok-point.was (same c.peek-2.ensures c.if-peek-ne46.false) _ (rw c.to.ensures.1 at c.cont_lent.ensures.follows, rw c.to.ensures.1 at c.cont_lent.ensures.tallied) c.in_ok-e.was (record { written = c.node-2.ensures; token-fits = omega (arith, c.args.site.now.spot.ready.inside, c.args.site.now.spot.ready.room, c.requires.first_le_at); left-fits = omega (arith, ready.inside, ready.room, ready.few, inner.below); third-fits = omega (arith, later.inside, later.room, later.few) }) in record { follows = r.0; tallied = r.1.0; spare = r.1.1 }

pub prefix_lent-returns-then-peek-eq91 : goal.prefix_lent-returns-then-peek-eq91
prefix_lent-returns-then-peek-eq91 t c =
    record { follows = c.gated_lent.ensures.follows; tallied = c.gated_lent.ensures.tallied; spare = c.gated_lent.ensures.spare }

pub prefix_lent-returns : goal.prefix_lent-returns
prefix_lent-returns t c =
    let r = prefix-ungated c.args.site.now.spot.toks.now c.args.nodes.now _ c.args.site.now.spot.at c.args.site.now.spot.used c.args.site.now.sums _ c.args.site.now.spot.ready.inside (isnt c.peek.ensures c.if-peek-eq91.false) (c.offer_lent.ensures.follows, (c.offer_lent.ensures.tallied, c.offer_lent.ensures.spare)) in record { follows = r.0; tallied = r.1.0; spare = r.1.1 }

pub sum_lent-returns-in_err-n : goal.sum_lent-returns-in_err-n
sum_lent-returns-in_err-n t c =
    rw (raised c.from_residual.ensures.1) (let r = sum-fault c.args.site.now.spot.toks.now c.args.nodes.now _ c.args.site.now.spot.at c.args.site.now.spot.used c.args.site.now.sums (c.branches_lent.ensures.follows, (c.branches_lent.ensures.tallied, c.branches_lent.ensures.spare)) c.in_err-n.was in record { follows = r.0; tallied = r.1 })

pub sum_lent-returns : goal.sum_lent-returns
sum_lent-returns t c =
    let r = sum-node c.args.site.now.spot.toks.now c.args.nodes.now _ c.args.site.now.spot.at c.args.site.now.spot.used c.args.site.now.sums (c.branches_lent.ensures.follows, (c.branches_lent.ensures.tallied, c.branches_lent.ensures.spare)) c.in_ok-n.was (record { written = c.node.ensures; token-fits = omega (arith, c.args.site.now.spot.ready.inside, c.args.site.now.spot.ready.room, c.args.site.now.few); left-fits = omega arith; third-fits = omega (arith, c.args.site.now.spot.ready.inside, c.args.site.now.spot.ready.room) }) in record { follows = r.0; tallied = r.1 }
