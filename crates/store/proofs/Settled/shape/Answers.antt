-- Each sum of a model that tables hold has its scope there, of few locals.
use mathlib.Core.Path.{sym}
use lib.Seq.{length-take-le}
use Rattle.store.proofs.Tables.{few-taken}
use Rattle.store.proofs.Settled.shape.Goals as goal

pub slice_bounds-result-end : goal.slice_bounds-result-end
slice_bounds-result-end c =
    sym (length-take-le _ _ c.requires.1.represents.scopes-fit)

pub invariant_of-result : goal.invariant_of-result
invariant_of-result c =
    record { few = few-taken _ _ _ _ _ c.requires.0 c.requires.1 }
