use Rattle.waits.proofs.Reading.{begins, knows, over, on, ended}
use Rattle.waits.proofs.wait_for.Goals as goal

pub loop-i-init : goal.loop-i-init
loop-i-init c =
    begins _

pub take-run-requires : goal.take-run-requires
take-run-requires c =
    c.loop-i.invariant.fits

pub returns-in-Known : goal.returns-in-Known
returns-in-Known c =
    let r = knows _ _ _ c.loop-i.invariant c.loop-i-test.true _ (c.take-run.ensures.value) c.take-run.ensures.fits _ c.in-Known.is in record { value = r.0; within = r.1 }

pub returns-in-Over : goal.returns-in-Over
returns-in-Over c =
    let r = over _ _ _ c.loop-i.invariant c.loop-i-test.true _ (c.take-run.ensures.value) c.take-run.ensures.fits c.in-Over.is in record { value = r.0; within = r.1 }

pub loop-i-preserved : goal.loop-i-preserved
loop-i-preserved c =
    on _ _ _ c.loop-i.invariant c.loop-i-test.true _ (c.take-run.ensures.value) c.take-run.ensures.fits c.in-Before.is

pub returns : goal.returns
returns c =
    let r = ended _ _ _ c.loop-i.invariant c.loop-i-test.false in record { value = r.0; within = r.1 }
