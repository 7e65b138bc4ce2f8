-- A text that passes questions 2 to 4 is short enough to be read.
use Rattle.opening.proofs.Places.{passed-short}
use Rattle.reads.proofs.judge.Goals as goal

pub judge_tokens-requires : goal.judge_tokens-requires
judge_tokens-requires c =
    passed-short _ (rw c.in_ok-judge_bytes.was at c.judge_bytes.ensures)
