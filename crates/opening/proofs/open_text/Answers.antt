-- A case for each return, from Models.antt: 10 is asked of the model.
use Rattle.std.proofs.lemmas.Result.{err_from_is_err_and}
use Rattle.opening.proofs.Models.{held-no, held-model}
use Rattle.opening.proofs.open_text.Goals as goal

pub judge_start-requires : goal.judge_start-requires
judge_start-requires c =
    (_, _, _, held-model _ _ _ _ _ c.read_model.ensures.model_read c.in_ok-found.was)

pub returns-in_err-found : goal.returns-in_err-found
returns-in_err-found c =
    let p = err_from_is_err_and c.from_residual.result c.from_residual.ensures.1 in
    rw (p.1, p.2) (held-no _ _ _ _ _ c.read_model.ensures.model_read c.in_err-found.was)

pub returns : goal.returns
returns c =
    c.judge_start.ensures _ _ _ (held-model _ _ _ _ _ c.read_model.ensures.model_read c.in_ok-found.was)
