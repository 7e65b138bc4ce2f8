-- The search says whether the pair is lit, and what follows is a case of `pair_killed`.
use mathlib.Core.Path.{ap, ◌∙◌}
use Rattle.state.specs.Test.{place_of, is_lit}
use Rattle.state.proofs.Launch.{kill-stays, kill-takes, kill-room}
use Rattle.state.proofs.Read.{pairs_below}
use Rattle.state.proofs.kill_pair.Goals as goal

pub returns-then-not-stands_at : goal.returns-then-not-stands_at
returns-then-not-stands_at c =
    kill-stays c.args.state.now c.requires c.args.row.now c.find_pair-place.result (c.find_pair-place.ensures ∙ ap (place_of c.args.row.now) c.lit_pairs-pairs.ensures.0) c.stands_at.result (c.stands_at.ensures ∙ ap (is_lit c.args.row.now) c.lit_pairs-pairs.ensures.0) c.if-not-stands_at.true

pub remove_pair-requires : goal.remove_pair-requires
remove_pair-requires c =
    let r = kill-room c.args.state.now c.requires c.args.row.now c.find_pair-place.result (c.find_pair-place.ensures ∙ ap (place_of c.args.row.now) c.lit_pairs-pairs.ensures.0) c.stands_at.result (c.stands_at.ensures ∙ ap (is_lit c.args.row.now) c.lit_pairs-pairs.ensures.0) c.if-not-stands_at.false in (c.requires.long, r.0, pairs_below c.args.state.now c.requires, r.1)

pub returns : goal.returns
returns c =
    kill-takes c.args.state.now c.requires c.args.row.now c.find_pair-place.result (c.find_pair-place.ensures ∙ ap (place_of c.args.row.now) c.lit_pairs-pairs.ensures.0) c.stands_at.result (c.stands_at.ensures ∙ ap (is_lit c.args.row.now) c.lit_pairs-pairs.ensures.0) c.if-not-stands_at.false _ c.remove_pair.ensures
