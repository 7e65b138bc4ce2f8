-- `listing::list_pair` meets its contract: one entry, or none. From the laws of runs.
use Rattle.state.proofs.Tests.{refused, passed}
use Rattle.listing.specs.Buffer.{entry_of}
use Rattle.listing.proofs.Added.{adds_none}
use Rattle.listing.proofs.Runs.{matches-on, bound-yes, bound-no}
use mathlib.Core.Path.{sym, ◌∙◌}
use Rattle.listing.proofs.list_pair.Goals as goal

pub pair_matches-requires : goal.pair_matches-requires
pair_matches-requires c =
    (c.requires.0, c.requires.1, c.requires.2)

pub returns-then-not-pair_matches-clause-added : goal.returns-then-not-pair_matches-clause-added
returns-then-not-pair_matches-clause-added c =
    λ w t roots scopes m s x sq W at ch. let M = matches-on w x (sym ch) ∙ sym (c.pair_matches.ensures w t roots scopes m s x sq W at) in rw (bound-no w c.args.asking.acting.place c.args.asking.acting.branch c.args.asking.acting.offer.rate c.args.q x (M ∙ refused _ c.if-not-pair_matches.true-raw)) (adds_none _ _ c.args.filling.now.room.1)

pub returns-clause-added : goal.returns-clause-added
unfolding entry_of
returns-clause-added c =
    λ w t roots scopes m s x sq W at ch. let M = matches-on w x (sym ch) ∙ sym (c.pair_matches.ensures w t roots scopes m s x sq W at) in rw (bound-yes w c.args.asking.acting.place c.args.asking.acting.branch c.args.asking.acting.offer.rate c.args.q x (M ∙ passed _ c.if-not-pair_matches.false-raw)) c.add.ensures.added
