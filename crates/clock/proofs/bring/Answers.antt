-- What the draws come to, each answer a case of `waited`.
use Rattle.std.proofs.lemmas.Result.{err_from_is_err_and}
use Rattle.clock.proofs.Bringing.{e-small, came, unread}
use Rattle.clock.proofs.bring.Goals as goal

pub returns-in_err-e : goal.returns-in_err-e
returns-in_err-e c =
    let p = err_from_is_err_and c.from_residual.result c.from_residual.ensures.1 in
    rw (p.1, p.2) (unread _ _ _ _ _ c.wait_for.ensures.value c.in_err-e.was)

pub ticks_of-requires : goal.ticks_of-requires
ticks_of-requires c = (e-small _ _ _ _ c.wait_for.ensures.within c.in_ok-e.was, c.requires.1)

pub returns : goal.returns
returns c =
    came _ _ _ _ _ _ _ _ c.wait_for.ensures.value c.in_ok-e.was c.ticks_of.ensures.value c.forward.ensures
