-- `eval::offer::action_offer` meets its contract: a wait, or the channel, then values or sets. From what the node says.
use mathlib.Core.Path.{sym, ap, ◌∙◌}
use lib.ListN.{length}
use Rattle.tree.specs.Node.{kind_of, left_of}
use Rattle.tables.proofs.Parts.{pair-second}
use Rattle.eval.proofs.Offers.{listed, assembled, wait-shown, carrier, carried-shown, seeker, sought-shown, channel-part, channel-missing}
use Rattle.eval.proofs.offer.action_offer.Goals as goal

pub returns-then-kind-eq-WAIT : goal.returns-then-kind-eq-WAIT
returns-then-kind-eq-WAIT c =
    let T = c.args.context.now.nodes.now in
    let L = c.args.context.now.locals.now in
    let k = c.args.k in
    let is = c.kind_of-kind.ensures ∙ ap kind_of c.cell_at-cell.ensures in
    rw c.wait_offer.ensures (wait-shown T k c.kind_of-kind.result is L c.args.rate c.if-kind-eq-WAIT.true)

pub channel_of_lent-requires : goal.channel_of_lent-requires
channel_of_lent-requires c =
    let T = c.args.context.now.nodes.now in
    let L = c.args.context.now.locals.now in
    let k = c.args.k in
    let is = c.kind_of-kind.ensures ∙ ap kind_of c.cell_at-cell.ensures in
    let e = c.left_of.ensures ∙ ap left_of c.cell_at-cell.ensures in
    let f = channel-part T k c.kind_of-kind.result is c.if-kind-eq-WAIT.false c.requires.0 (length L) c.requires.1 in
    rw e f.1

pub returns-in_err-channel : goal.returns-in_err-channel
returns-in_err-channel c =
    let T = c.args.context.now.nodes.now in
    let L = c.args.context.now.locals.now in
    let k = c.args.k in
    let is = c.kind_of-kind.ensures ∙ ap kind_of c.cell_at-cell.ensures in
    let e = c.left_of.ensures ∙ ap left_of c.cell_at-cell.ensures in
    rw c.from_residual.ensures (channel-missing T k c.kind_of-kind.result is c.if-kind-eq-WAIT.false L c.args.rate (rw (e, c.in_err-channel.was) at c.channel_of_lent.ensures))

pub overflow_sub-k : goal.overflow_sub-k
overflow_sub-k c =
    let T = c.args.context.now.nodes.now in
    let L = c.args.context.now.locals.now in
    let k = c.args.k in
    let is = c.kind_of-kind.ensures ∙ ap kind_of c.cell_at-cell.ensures in
    let f = channel-part T k c.kind_of-kind.result is c.if-kind-eq-WAIT.false c.requires.0 (length L) c.requires.1 in
    f.0

pub values_of_lent-requires : goal.values_of_lent-requires
values_of_lent-requires c =
    let T = c.args.context.now.nodes.now in
    let L = c.args.context.now.locals.now in
    let k = c.args.k in
    let is = c.kind_of-kind.ensures ∙ ap kind_of c.cell_at-cell.ensures in
    let h = sym c.carries.ensures ∙ c.if-carries.true in
    let p = carrier T k c.kind_of-kind.result is h c.requires.0 (length L) c.requires.1 in
    record { part = p.values; at = pair-second p.at; fit = p.fit.values }

pub returns-in_err-values_of_lent : goal.returns-in_err-values_of_lent
unfolding listed assembled
returns-in_err-values_of_lent c =
    let T = c.args.context.now.nodes.now in
    let L = c.args.context.now.locals.now in
    let k = c.args.k in
    let is = c.kind_of-kind.ensures ∙ ap kind_of c.cell_at-cell.ensures in
    let e = c.left_of.ensures ∙ ap left_of c.cell_at-cell.ensures in
    let h = sym c.carries.ensures ∙ c.if-carries.true in
    rw c.from_residual-in_err-values_of_lent.ensures (rw (c.in_ok-channel.was, c.in_err-values_of_lent.was) at (carried-shown T k c.kind_of-kind.result is h L c.args.rate c.channel_of_lent.result c.values_of_lent.result (rw e at c.channel_of_lent.ensures) c.values_of_lent.ensures))

pub returns-then-carries : goal.returns-then-carries
unfolding listed assembled
returns-then-carries c =
    let T = c.args.context.now.nodes.now in
    let L = c.args.context.now.locals.now in
    let k = c.args.k in
    let is = c.kind_of-kind.ensures ∙ ap kind_of c.cell_at-cell.ensures in
    let e = c.left_of.ensures ∙ ap left_of c.cell_at-cell.ensures in
    let h = sym c.carries.ensures ∙ c.if-carries.true in
    rw c.listed_values-list.ensures (rw (c.in_ok-channel.was, c.in_ok-values_of_lent.was) at (carried-shown T k c.kind_of-kind.result is h L c.args.rate c.channel_of_lent.result c.values_of_lent.result (rw e at c.channel_of_lent.ensures) c.values_of_lent.ensures))

pub overflow_sub-k-2 : goal.overflow_sub-k-2
overflow_sub-k-2 c =
    let T = c.args.context.now.nodes.now in
    let L = c.args.context.now.locals.now in
    let k = c.args.k in
    let is = c.kind_of-kind.ensures ∙ ap kind_of c.cell_at-cell.ensures in
    let f = channel-part T k c.kind_of-kind.result is c.if-kind-eq-WAIT.false c.requires.0 (length L) c.requires.1 in
    f.0

pub listed_sets-requires : goal.listed_sets-requires
listed_sets-requires c =
    let T = c.args.context.now.nodes.now in
    let L = c.args.context.now.locals.now in
    let k = c.args.k in
    let is = c.kind_of-kind.ensures ∙ ap kind_of c.cell_at-cell.ensures in
    let h = sym c.carries.ensures ∙ c.if-carries.false in
    let p = seeker T k c.kind_of-kind.result is c.if-kind-eq-WAIT.false h c.requires.0 (length L) c.requires.1 in
    record { part = p.sets; at = pair-second p.at; fit = p.fit.sets }

pub returns-in_err-list : goal.returns-in_err-list
unfolding assembled
returns-in_err-list c =
    let T = c.args.context.now.nodes.now in
    let L = c.args.context.now.locals.now in
    let k = c.args.k in
    let is = c.kind_of-kind.ensures ∙ ap kind_of c.cell_at-cell.ensures in
    let e = c.left_of.ensures ∙ ap left_of c.cell_at-cell.ensures in
    let h = sym c.carries.ensures ∙ c.if-carries.false in
    rw c.from_residual-in_err-list.ensures (rw (c.in_ok-channel.was, c.in_err-list.was) at (sought-shown T k c.kind_of-kind.result is c.if-kind-eq-WAIT.false h L c.args.rate c.channel_of_lent.result c.listed_sets.result (rw e at c.channel_of_lent.ensures) c.listed_sets.ensures))

pub returns : goal.returns
unfolding assembled
returns c =
    let T = c.args.context.now.nodes.now in
    let L = c.args.context.now.locals.now in
    let k = c.args.k in
    let is = c.kind_of-kind.ensures ∙ ap kind_of c.cell_at-cell.ensures in
    let e = c.left_of.ensures ∙ ap left_of c.cell_at-cell.ensures in
    let h = sym c.carries.ensures ∙ c.if-carries.false in
    rw (c.in_ok-channel.was, c.in_ok-list.was) at (sought-shown T k c.kind_of-kind.result is c.if-kind-eq-WAIT.false h L c.args.rate c.channel_of_lent.result c.listed_sets.result (rw e at c.channel_of_lent.ensures) c.listed_sets.ensures)
