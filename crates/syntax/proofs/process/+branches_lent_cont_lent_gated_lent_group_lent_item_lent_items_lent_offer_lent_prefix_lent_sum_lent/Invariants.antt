-- Prefixes, continuations, groups and sums meet their contracts: each return is a law of Offering.antt or Grouping.antt. The measure is what is left of the
-- tokens, and where a call keeps its place, the order of the functions: items, item, sum, branches or cont, prefix, gated, offer.
use Prim.Native.Nat.{◌+◌, ◌-◌, ◌*◌}
use lib.ListN.{length}
use Rattle.syntax.proofs.process.+branches_lent_cont_lent_gated_lent_group_lent_item_lent_items_lent_offer_lent_prefix_lent_sum_lent.Given as goal

abbrev pub decreases-branches_lent : goal.decreases-branches_lent
decreases-branches_lent l = 16 * (length l.site.now.spot.toks.now - l.site.now.spot.at) + 3

abbrev pub decreases-cont_lent : goal.decreases-cont_lent
decreases-cont_lent l = 16 * (length l.site.now.spot.toks.now - l.site.now.spot.at) + 3

abbrev pub decreases-gated_lent : goal.decreases-gated_lent
decreases-gated_lent l = 16 * (length l.site.now.spot.toks.now - l.site.now.spot.at) + 1

abbrev pub decreases-group_lent : goal.decreases-group_lent
decreases-group_lent l = 16 * (length l.site.now.spot.toks.now - l.site.now.spot.at)

abbrev pub decreases-item_lent : goal.decreases-item_lent
decreases-item_lent l = 16 * (length l.site.now.spot.toks.now - l.site.now.spot.at) + 5

abbrev pub decreases-items_lent : goal.decreases-items_lent
decreases-items_lent l = 16 * (length l.site.now.spot.toks.now - l.site.now.spot.at) + 6

abbrev pub decreases-offer_lent : goal.decreases-offer_lent
decreases-offer_lent l = 16 * (length l.site.now.spot.toks.now - l.site.now.spot.at)

abbrev pub decreases-prefix_lent : goal.decreases-prefix_lent
decreases-prefix_lent l = 16 * (length l.site.now.spot.toks.now - l.site.now.spot.at) + 2

abbrev pub decreases-sum_lent : goal.decreases-sum_lent
decreases-sum_lent l = 16 * (length l.site.now.spot.toks.now - l.site.now.spot.at) + 4
