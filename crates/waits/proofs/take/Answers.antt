-- Each place where a reading can stand is a case of `read`.
use native.Mathlib.Omega.{arith}
use Rattle.waits.proofs.Reading.{first-draw, in-run, next-draw, stays}
use Rattle.waits.proofs.take.Goals as goal

pub next_in_run-requires : goal.next_in_run-requires
next_in_run-requires c =
    let r = in-run _ _ _ _ _ c.in-In.is c.requires in r.0

pub returns-in-Before : goal.returns-in-Before
returns-in-Before c =
    let r = first-draw _ _ _ c.in-Before.is c.requires (omega (arith, c.ranges.draw.fits)) in record { value = r.0; fits = r.1 }

pub returns-in-In : goal.returns-in-In
returns-in-In c =
    let r = next-draw _ _ _ _ _ _ _ c.in-In.is c.next_in_run.ensures.value c.next_in_run.ensures.fits in record { value = r.0; fits = r.1 }

pub returns-in-Known : goal.returns-in-Known
returns-in-Known c =
    record { value = stays _ _ c.in-Known.is; fits = c.requires }
