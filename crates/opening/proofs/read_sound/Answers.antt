-- A case for each return, from Models.antt: the tree is refused, or its names are asked.
use native.Mathlib.Omega.{arith}
use lib.ListN.{length-take}
use Rattle.std.proofs.lemmas.Result.{err_from_is_err_and}
use Rattle.opening.proofs.Marked.{fits-marked, sound-unmarked, sound-marked}
use Rattle.opening.proofs.Models.{tree-no, tree-fits, count-fits, named-no, named-yes}
use Rattle.opening.proofs.read_sound.Goals as goal

pub slice_bounds-words-end : goal.slice_bounds-words-end
slice_bounds-words-end c =
    omega (arith, count-fits (tree-fits _ _ _ _ _ c.read_tree.ensures.tree_read c.in_ok-tree.was).1, c.read_tree.auto.kinds, c.requires.kinds-room)

pub slice_bounds-words-end-2 : goal.slice_bounds-words-end-2
slice_bounds-words-end-2 c =
    simp length-take (omega (arith, count-fits (tree-fits _ _ _ _ _ c.read_tree.ensures.tree_read c.in_ok-tree.was).1, c.read_tree.auto.kinds, c.requires.kinds-room))

pub slice_bounds-words-end-3 : goal.slice_bounds-words-end-3
slice_bounds-words-end-3 c =
    omega (arith, count-fits (tree-fits _ _ _ _ _ c.read_tree.ensures.tree_read c.in_ok-tree.was).1, c.read_tree.auto.places, c.requires.places-room)

pub slice_bounds-words-end-4 : goal.slice_bounds-words-end-4
slice_bounds-words-end-4 c =
    simp length-take (omega (arith, count-fits (tree-fits _ _ _ _ _ c.read_tree.ensures.tree_read c.in_ok-tree.was).1, c.read_tree.auto.places, c.requires.places-room))

pub judge_tree-requires : goal.judge_tree-requires
judge_tree-requires c =
    let f = tree-fits _ _ _ _ _ c.read_tree.ensures.tree_read c.in_ok-tree.was in
    (f.0, f.1.cut)

pub returns-in_err-tree-clause-sound_read : goal.returns-in_err-tree-clause-sound_read
returns-in_err-tree-clause-sound_read c =
    let p = err_from_is_err_and c.from_residual.result c.from_residual.ensures.1 in
    rw (p.1, p.2) (tree-no _ _ _ _ _ c.read_tree.ensures.tree_read c.in_err-tree.was)

pub returns-in_err-tree-clause-sound_marked : goal.returns-in_err-tree-clause-sound_marked
returns-in_err-tree-clause-sound_marked c =
    let p = err_from_is_err_and c.from_residual.result c.from_residual.ensures.1 in
    rw p.1 (sound-unmarked _ _ _ _ _ _)

pub returns-in_err-place-clause-sound_read : goal.returns-in_err-place-clause-sound_read
returns-in_err-place-clause-sound_read c =
    let f = tree-fits _ _ _ _ _ c.read_tree.ensures.tree_read c.in_ok-tree.was in
    let p = err_from_is_err_and c.from_residual-in_err-place.result c.from_residual-in_err-place.ensures.1 in
    rw (p.1, p.2) (named-no f.1 (c.judge_tree.ensures f.0 f.1.cut) c.in_err-place.was)

pub returns-in_err-place-clause-sound_marked : goal.returns-in_err-place-clause-sound_marked
returns-in_err-place-clause-sound_marked c =
    let p = err_from_is_err_and c.from_residual-in_err-place.result c.from_residual-in_err-place.ensures.1 in
    rw p.1 (sound-unmarked _ _ _ _ _ _)

pub returns : goal.returns
returns c =
    let f = tree-fits _ _ _ _ _ c.read_tree.ensures.tree_read c.in_ok-tree.was in
    record {
      sound_read = named-yes f.1 (c.judge_tree.ensures f.0 f.1.cut) c.in_ok-place.was;
      sound_marked = sound-marked _ (fits-marked c.read_tree.ensures.tree_marked c.in_ok-tree.was);
    }
