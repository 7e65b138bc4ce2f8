-- `offers::collect_branch` meets its contract: by the kind of its offer. From the laws of offers.
use mathlib.Core.Path.{◌≡◌}
use Rattle.std.proofs.lemmas.Result.{err_from_is_err_and}
use Rattle.offers.specs.declared.Stop.TheVariants.{Missing}
use Rattle.offers.proofs.Offered.{fits_head, one-lacks, one-hidden, one-pushed}
use borrow.Author.Rules.{rules}
use Rattle.offers.proofs.collect_branch.Goals as goal

pub returns-in_err-shown-clause-collects : goal.returns-in_err-shown-clause-collects
returns-in_err-shown-clause-collects c =
    let p = err_from_is_err_and c.from_residual.result c.from_residual.ensures.1 in
    let o = rw c.in_err-shown.was at c.ok_or.ensures.ok_part in
    let v = rw (c.in_err-shown.was, o) at c.ok_or.ensures.value in
    let d : c.in_err-shown.field-0.0 ≡ Missing c.args.place c.args.branch = cc v in
    λ b at. rw (p.1, p.2, d) (one-lacks c.args.context.now.nodes.now c.args.context.now.locals.now c.args.place c.args.branch c.args.filling.now.count c.args.filling.now.rows.now _ _ _ (rw o at (c.offer_of_lent.ensures b at)))

pub returns-in_default-clause-collects : goal.returns-in_default-clause-collects
returns-in_default-clause-collects c =
    let o = rw c.in_ok-shown.was at c.ok_or.ensures.ok_part in
    λ b at. one-hidden c.args.context.now.nodes.now c.args.context.now.locals.now c.args.place c.args.branch c.args.filling.now.count c.args.filling.now.rows.now _ (rw (o, c.in_default.is) at (c.offer_of_lent.ensures b at))

pub row_of-requires : goal.row_of-requires
row_of-requires c =
    let o = rw c.in_ok-shown.was at c.ok_or.ensures.ok_part in
    (search rules, search rules, (fits_head c.requires.0.0 c.args.context.now.nodes.now c.args.context.now.locals.now c.requires.0.1.part c.in-Some.o c.args.context.now.in_range c.requires.0.1.fit (rw (o, c.in-Some.is) at (c.offer_of_lent.ensures c.requires.0.1.part c.requires.0.1.at))))

pub returns-clause-collects : goal.returns-clause-collects
returns-clause-collects c =
    let o = rw c.in_ok-shown.was at c.ok_or.ensures.ok_part in
    let small = fits_head c.requires.0.0 c.args.context.now.nodes.now c.args.context.now.locals.now c.requires.0.1.part c.in-Some.o c.args.context.now.in_range c.requires.0.1.fit (rw (o, c.in-Some.is) at (c.offer_of_lent.ensures c.requires.0.1.part c.requires.0.1.at)) in
    λ b at. one-pushed c.args.context.now.nodes.now c.args.context.now.locals.now c.args.place c.args.branch c.args.filling.now.count c.args.filling.now.rows.now c.in-Some.o small c.requires.2 c.requires.3 _ c.requires.1 (rw (o, c.in-Some.is) at (c.offer_of_lent.ensures b at)) (rw c.row_of.ensures at c.push.ensures.pushed)
