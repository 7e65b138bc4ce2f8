-- A case for each return: the bytes are refused, or the tokens are read.
use Rattle.std.proofs.lemmas.Result.{err_from_is_err_and}
use Rattle.opening.proofs.Trees.{bytes-no}
use Rattle.opening.proofs.Marked.{tree-unmarked, tree-marked}
use Rattle.opening.proofs.read_tree.Goals as goal

pub returns-in_err-judge_bytes-clause-tree_read : goal.returns-in_err-judge_bytes-clause-tree_read
returns-in_err-judge_bytes-clause-tree_read c =
    let p = err_from_is_err_and c.from_residual.result c.from_residual.ensures.1 in
    rw (p.1, p.2) (bytes-no _ _ _ _ _ c.judge_bytes.ensures c.in_err-judge_bytes.was)

pub returns-in_err-judge_bytes-clause-tree_marked : goal.returns-in_err-judge_bytes-clause-tree_marked
returns-in_err-judge_bytes-clause-tree_marked c =
    let p = err_from_is_err_and c.from_residual.result c.from_residual.ensures.1 in
    rw p.1 (tree-unmarked _ _ _ _ _ _)

pub returns : goal.returns
returns c =
    record { tree_read = c.read_tokens.ensures.tree_read; tree_marked = tree-marked _ c.read_tokens.ensures.marked }
