-- The search says whether the pair is lit, and what follows is a case of `pair_launched`.
use mathlib.Core.Path.{ap, ◌∙◌}
use Rattle.state.specs.Test.{place_of, is_lit}
use Rattle.state.proofs.Launch.{launch-stays, launch-adds, launch-room}
use Rattle.state.proofs.Read.{pairs_below}
use Rattle.state.proofs.launch_pair.Goals as goal

pub returns-then-stands_at : goal.returns-then-stands_at
returns-then-stands_at c =
    launch-stays c.args.state.now c.requires.0 c.args.row.now c.find_pair-place.result (c.find_pair-place.ensures ∙ ap (place_of c.args.row.now) c.lit_pairs-pairs.ensures.0) c.stands_at.result (c.stands_at.ensures ∙ ap (is_lit c.args.row.now) c.lit_pairs-pairs.ensures.0) c.if-stands_at.true

pub insert_pair-requires : goal.insert_pair-requires
insert_pair-requires c =
    let r = launch-room c.args.state.now c.requires.0 c.args.row.now c.find_pair-place.result (c.find_pair-place.ensures ∙ ap (place_of c.args.row.now) c.lit_pairs-pairs.ensures.0) c.stands_at.result (c.stands_at.ensures ∙ ap (is_lit c.args.row.now) c.lit_pairs-pairs.ensures.0) c.if-stands_at.false c.requires.1 in (c.requires.0.long, r.0, pairs_below c.args.state.now c.requires.0, r.1)

pub returns : goal.returns
returns c =
    launch-adds c.args.state.now c.requires.0 c.args.row.now c.find_pair-place.result (c.find_pair-place.ensures ∙ ap (place_of c.args.row.now) c.lit_pairs-pairs.ensures.0) c.stands_at.result (c.stands_at.ensures ∙ ap (is_lit c.args.row.now) c.lit_pairs-pairs.ensures.0) c.if-stands_at.false _ c.insert_pair.ensures
