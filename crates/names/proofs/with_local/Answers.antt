-- `names::with_local` meets its contract: a full scope stays, any other gets the local behind its own.
use Rattle.std.proofs.Common.{◌≡◌, length, arith, rules}
use Rattle.model.specs.Limits.{local_limit}
use Rattle.names.proofs.Scopes.{extended-full, extended-one}
use Rattle.names.proofs.with_local.Goals as goal

pub returns-then-n-eq-LOCALS : goal.returns-then-n-eq-LOCALS
returns-then-n-eq-LOCALS c =
    let f : length c.args.scope.names ≡ local_limit = search rules in
    extended-full c.args.scope c.args.k f c.if-n-eq-LOCALS.true

pub returns : goal.returns
returns c =
    let f : length c.args.scope.names ≡ local_limit = omega arith in
    extended-one c.args.scope c.args.k f _
