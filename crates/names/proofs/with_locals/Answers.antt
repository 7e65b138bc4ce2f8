use mathlib.Core.Path.{◌≡◌}
use native.Mathlib.Omega.{arith}
use lib.ListN.{length}
use Rattle.model.specs.Limits.{local_limit}
use Rattle.model.specs.Lists.{every_other}
use Rattle.names.proofs.Scopes.{every_more, extended_none, extended-more}
use Rattle.names.proofs.with_locals.Goals as goal

pub loop-j-init : goal.loop-j-init
unfolding every_other
loop-j-init c =
    let f : length c.args.scope.names ≡ local_limit = omega arith in extended_none c.args.scope f

pub with_local-inner-requires : goal.with_local-inner-requires
with_local-inner-requires c =
    omega arith

pub loop-j-preserved : goal.loop-j-preserved
loop-j-preserved c =
    rw (every_more c.args.first c.loop-j.j) (extended-more c.loop-j.invariant c.with_local-inner.ensures)

pub returns : goal.returns
returns c =
    let e : c.loop-j.j ≡ c.args.n = omega arith in rw e at c.loop-j.invariant
