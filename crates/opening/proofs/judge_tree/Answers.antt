-- A case for each return, from Judges.antt.
use Rattle.opening.proofs.Judges.{names-no, names-yes}
use Rattle.opening.proofs.judge_tree.Goals as goal

pub returns-in-Err : goal.returns-in-Err
returns-in-Err c =
    λ s f. names-no f (c.judge_names.ensures c.args.text.now s f.read) c.in-Err.is _ c.into.ensures c.byte_place.ensures

pub returns : goal.returns
returns c =
    λ s f. names-yes f (c.judge_names.ensures c.args.text.now s f.read) c.in_default.is c.byte_place-2.ensures (c.system_token-first.ensures s 0 f.read.holds)
