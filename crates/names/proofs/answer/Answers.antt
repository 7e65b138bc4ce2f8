-- `answer` meets its contract: a no with its token, or none.
use Rattle.names.specs.Judged.{fault_of}
use Rattle.names.proofs.answer.Goals as goal

pub returns-in-Some : goal.returns-in-Some
unfolding fault_of
returns-in-Some c =
    rw c.in-Some.is

pub returns-in-None : goal.returns-in-None
unfolding fault_of
returns-in-None c =
    rw c.in-None.is
