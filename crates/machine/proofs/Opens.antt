-- After any list of calls the machine is closed, or holds an opened model with a state over it: from crate model's theorem that opened models are well formed.
use mathlib.Core.List.{List}
use Rattle.model.proofs.Opened.{opened-good, opened-few}
use Rattle.machine.specs.Machine.{closed, Call, after}
use Rattle.machine.proofs.Reached.{GoodMachine, reached}

-- 01, State and rule machine: after any list of calls from the fresh machine
pub always-good : (cs : List Call) → GoodMachine (after closed cs)
always-good cs = reached (λ text m e. (opened-good text m e, opened-few text m e)) cs
