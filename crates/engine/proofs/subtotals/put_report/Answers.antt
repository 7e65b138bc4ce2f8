-- By what the listing answered: its entries, 12 to 14, or 11.
use mathlib.Core.Path.{◌∙◌}
use Rattle.engine.proofs.Reported.{shares_of, as-zeros, as_lent_lem}
use Rattle.engine.proofs.subtotals.put_report.Goals as goal

pub share-requires : goal.share-requires
share-requires c =
    let s = shares_of c.args.state.now c.requires.0.0 c.requires.0.2 _ _ _ (rw c.in-Ok.is at c.requires.0.3) in
    ((c.requires.0.0, s.state, s.entries, s.shared), c.requires.1)

pub returns-in-Ok : goal.returns-in-Ok
returns-in-Ok c =
    λ m bs l good f. let s = shares_of c.args.state.now m good _ _ _ (rw c.in-Ok.is at f) in c.share.ensures m s.state s.entries s.shared ∙ s.left bs _

pub returns-in-Listing : goal.returns-in-Listing
returns-in-Listing c =
    λ m bs l good f. c.fill.ensures.after (λ y e. e) ∙ as-zeros c.args.state.now m _ bs _ _ _ (rw c.in-Listing.is at (rw c.in-Err.is at f))

pub returns-in_default : goal.returns-in_default
returns-in_default c =
    λ m bs l good f. as_lent_lem c.args.state.now m _ bs _ _ _ (λ y e. c.in_default.not-Listing y e) (rw c.in-Err.is at f)
