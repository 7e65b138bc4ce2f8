-- The answer that the listing gives.
use Rattle.engine.proofs.Shows.{finds-give}
use Rattle.engine.proofs.listings.ListQuery.answer.Goals as goal

pub returns : goal.returns
returns c =
    λ m bs h. finds-give bs c.args.state.now c.args.listing.now c.requires.2 m _ _ (c.list_state.ensures m h)
