-- A case for each return, from Trees.antt; the text's length has room in the tables.
use native.Mathlib.Omega.{arith}
use lib.ListN.{length-take}
use Rattle.token.proofs.Tells.{filled-held}
use Rattle.token.proofs.Up.{token-count}
use Rattle.opening.proofs.Places.{passed-short, filled-kinds, filled-places, filled-placed}
use Rattle.opening.proofs.Marked.{filled-marked}
use Rattle.opening.proofs.Trees.{fit-few, misfit-no, crowded-no, fits-yes}
use Rattle.opening.proofs.read_tokens.Goals as goal

pub fill-tokens-requires : goal.fill-tokens-requires
fill-tokens-requires c =
    let l = passed-short _ c.requires.passed in
    let r = c.requires.room in
    record { text_len_bound = l; text_in_bounds = (omega (arith, r.kinds-room), omega (arith, r.places-room), omega (arith, r.sizes-room)) }

pub judge_text-asked-requires : goal.judge_text-asked-requires
judge_text-asked-requires c =
    let l = passed-short c.args.text.now c.requires.passed in
    let t = token-count c.args.text.now in
    omega (arith, c.fill-tokens.ensures.count, length-take c.fill-tokens.result c.fill-tokens.new.kinds)

pub slice_bounds-judge_text-end : goal.slice_bounds-judge_text-end
slice_bounds-judge_text-end c =
    filled-kinds c.fill-tokens.ensures

pub slice_bounds-judge_text-end-2 : goal.slice_bounds-judge_text-end-2
slice_bounds-judge_text-end-2 c =
    simp length-take (omega (arith, filled-kinds c.fill-tokens.ensures))

pub slice_bounds-byte_place-end : goal.slice_bounds-byte_place-end
slice_bounds-byte_place-end c =
    filled-places c.fill-tokens.ensures

pub slice_bounds-byte_place-end-in-Err-Misfit : goal.slice_bounds-byte_place-end-in-Err-Misfit
slice_bounds-byte_place-end-in-Err-Misfit c =
    simp length-take (omega (arith, filled-places c.fill-tokens.ensures))

pub slice_bounds-byte_place-end-in-Err-Crowded : goal.slice_bounds-byte_place-end-in-Err-Crowded
slice_bounds-byte_place-end-in-Err-Crowded c =
    filled-places c.fill-tokens.ensures

pub slice_bounds-byte_place-end-in-Err-Crowded-2 : goal.slice_bounds-byte_place-end-in-Err-Crowded-2
slice_bounds-byte_place-end-in-Err-Crowded-2 c =
    simp length-take (omega (arith, filled-places c.fill-tokens.ensures))

pub byte_place-requires : goal.byte_place-requires
byte_place-requires c =
    filled-placed c.fill-tokens.ensures

pub byte_place-requires-in-Err-Crowded : goal.byte_place-requires-in-Err-Crowded
byte_place-requires-in-Err-Crowded c =
    filled-placed c.fill-tokens.ensures

pub contents-requires : goal.contents-requires
contents-requires c =
    let n = fit-few c.fill-tokens.ensures _ _ c.judge_text-asked.ensures c.in-Ok.is in
    record { held = filled-held c.fill-tokens.ensures; n_in_bounds = omega (arith, c.requires.room.contents-room) }

pub returns-in-Err-Misfit : goal.returns-in-Err-Misfit
returns-in-Err-Misfit c =
    record { tree_read = misfit-no c.fill-tokens.ensures _ _ c.judge_text-asked.ensures c.requires.passed _ c.in-Err-Misfit.is (rw c.in-Err-Misfit.is at c.in-Err-Misfit.field-0-is) c.byte_place.ensures; marked = filled-marked c.fill-tokens.ensures }

pub returns-in-Err-Crowded : goal.returns-in-Err-Crowded
returns-in-Err-Crowded c =
    record { tree_read = crowded-no c.fill-tokens.ensures _ _ c.judge_text-asked.ensures c.requires.passed _ c.in-Err-Crowded.is (rw c.in-Err-Crowded.is at c.in-Err-Crowded.field-0-is) c.byte_place-in-Err-Crowded.ensures; marked = filled-marked c.fill-tokens.ensures }

pub returns-in-Ok : goal.returns-in-Ok
returns-in-Ok c =
    record { tree_read = fits-yes c.fill-tokens.ensures _ _ c.judge_text-asked.ensures c.requires.passed _ (omega (arith, c.requires.room.nodes-room)) c.in-Ok.is c.contents.ensures; marked = filled-marked c.fill-tokens.ensures }
