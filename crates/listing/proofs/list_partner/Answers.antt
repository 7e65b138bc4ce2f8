-- `listing::list_partner` meets its contract: by place, then by matching. From the laws of partners.
use Rattle.state.proofs.Tests.{refused, passed}
use Rattle.offers.specs.Table.{offer_in}
use Rattle.listing.specs.Buffer.{entry_of}
use Rattle.listing.proofs.Added.{adds_none}
use Rattle.listing.proofs.Partners.{some-row, taken, partner-self, partner-out, partner-in, rates-fit}
use mathlib.Core.Path.{sym, ◌∙◌}
use native.Mathlib.Omega.{arith}
use borrow.Author.Rules.{rules}
use Rattle.listing.proofs.list_partner.Goals as goal

pub returns-then-partner-sender-clause-added : goal.returns-then-partner-sender-clause-added
returns-then-partner-sender-clause-added c =
    λ roots m s y x R at sp. let sh = R.holds.shown c.args.row y at in rw (partner-self x c.args.sender.offer.rate c.args.sender.place c.args.sender.branch y (sym sh.place_is ∙ sym c.place_in-partner.ensures ∙ c.if-partner-sender.true)) (adds_none _ _ c.args.filling.now.room.1)

pub row_matches-requires : goal.row_matches-requires
row_matches-requires c =
    (c.requires.0, c.requires.1, c.requires.2)

pub returns-then-not-row_matches-clause-added : goal.returns-then-not-row_matches-clause-added
unfolding offer_in
returns-then-not-row_matches-clause-added c =
    λ roots m s y x R at sp. let sh = R.holds.shown c.args.row y at in let T = taken c.requires.1 sh.shows in let M = sym (c.row_matches.ensures roots m s y T.query x R at T.shows sp) in rw (partner-out x c.args.sender.offer.rate c.args.sender.place c.args.sender.branch y T (M ∙ refused _ c.if-not-row_matches.true-raw)) (adds_none _ _ c.args.filling.now.room.1)

pub overflow_mul-sender : goal.overflow_mul-sender
overflow_mul-sender c =
    let R = c.requires.0.3 in let y = some-row R c.args.row c.requires.2 in let sh = R.holds.shown c.args.row y.0 y.1 in
    let b = rates-fit c.args.sender.offer.rate c.rate_in-rate.result c.args.sender.small (omega (arith, c.rate_in-rate.ensures, sh.rate-is, sh.rate-fits)) in search rules

pub returns-clause-added : goal.returns-clause-added
unfolding offer_in entry_of
returns-clause-added c =
    λ roots m s y x R at sp. let sh = R.holds.shown c.args.row y at in let T = taken c.requires.1 sh.shows in let M = sym (c.row_matches.ensures roots m s y T.query x R at T.shows sp) in let P = c.place_in-partner.ensures ∙ sh.place_is in let B = c.branch_in-pbranch.ensures ∙ sh.branch-is in let Q = c.rate_in-rate.ensures ∙ sh.rate-is in rw (partner-in x c.args.sender.offer.rate c.args.sender.place c.args.sender.branch y T (λ e. c.if-partner-sender.false (P ∙ e)) (M ∙ passed _ c.if-not-row_matches.false-raw)) (rw (← P, ← B, ← Q) c.add.ensures.added)
