-- `eval::offer::prefix_offer` meets its contract: the rate, then the action. From what the node says.
use mathlib.Core.Path.{ap, ◌∙◌}
use Prim.Native.Nat.{ℕ}
use lib.ListN.{length}
use Rattle.tree.specs.Node.{left_of}
use Rattle.eval.specs.Shown.{rate_root}
use Rattle.eval.proofs.Offers.{own-parts, own-rate, own-action, prefix-is, prefix-missing}
use Rattle.eval.proofs.offer.prefix_offer.Goals as goal

pub rate_root-requires : goal.rate_root-requires
rate_root-requires c =
    let s = c in
    let T = s.args.context.now.nodes.now in
    let L = s.args.context.now.locals.now in
    let k = s.args.k in
    (own-parts T k (length L) s.requires).above

pub rate_of_lent-requires : goal.rate_of_lent-requires
rate_of_lent-requires c =
    let s = c in
    let T = s.args.context.now.nodes.now in
    let L = s.args.context.now.locals.now in
    let k = s.args.k in
    let r = c.rate_root.ensures ∙ ap (λ (x : ℕ). rate_root x k) c.cell_at-cell.ensures in
    rw r (own-rate T k (length L) s.requires)

pub action_offer-requires : goal.action_offer-requires
action_offer-requires c =
    let s = c in
    let T = s.args.context.now.nodes.now in
    let L = s.args.context.now.locals.now in
    let k = s.args.k in
    let e = c.left_of.ensures ∙ ap left_of c.cell_at-cell.ensures in
    rw e (own-action T k (length L) s.requires)

pub returns-in_err-rate : goal.returns-in_err-rate
returns-in_err-rate c =
    let T = c.args.context.now.nodes.now in
    let L = c.args.context.now.locals.now in
    let k = c.args.k in
    let r = c.rate_root.ensures ∙ ap (λ (x : ℕ). rate_root x k) c.cell_at-cell.ensures in
    rw c.from_residual.ensures (prefix-missing T k L (rw (r, c.in_err-rate.was) at c.rate_of_lent.ensures))

pub returns : goal.returns
returns c =
    let T = c.args.context.now.nodes.now in
    let L = c.args.context.now.locals.now in
    let k = c.args.k in
    let e = c.left_of.ensures ∙ ap left_of c.cell_at-cell.ensures in
    let r = c.rate_root.ensures ∙ ap (λ (x : ℕ). rate_root x k) c.cell_at-cell.ensures in
    prefix-is T k L c.in_ok-rate.rate c.action_offer.result (rw (r, c.in_ok-rate.was) at c.rate_of_lent.ensures) (rw e at c.action_offer.ensures)
