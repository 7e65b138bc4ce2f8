-- `local_named` meets its contract: the search finds the first local with the name.
use mathlib.Core.Bool.{true, false}
use native.Mathlib.Omega.{arith}
use Prim.Native.Nat.{◌<◌}
use lib.ListN.{take, length-take}
use lib.Seq.{get_or-take}
use Rattle.std.proofs.Common.{rules, tests}
use Rattle.std.proofs.lemmas.Iterator.{IsFirst-from_position, YieldsList-from_slice}
use Rattle.std.proofs.lemmas.Iterator.Adapters.{serves_from_places}
use Rattle.std.proofs.lemmas.Grind.{get_or_default_zero}
use Rattle.token.proofs.Columns.{length-lows}
use Rattle.names.specs.Lists.{packed_in}
use Rattle.names.proofs.Lookups.{Same, place_positioned}
use Rattle.names.proofs.local_named.Goals as goal

pub position-requires-clause-callable : goal.position-requires-clause-callable
position-requires-clause-callable c =
    serves_from_places (YieldsList-from_slice (take c.args.scope.count c.args.scope.names) c.iter.ensures.rest) (λ x q k. search (rules, tests)) (λ x k l e a p n w b f u g m.
    let j : k < c.args.scope.count = omega (arith, l, length-take c.args.scope.count c.args.scope.names) in
    (omega (arith, c.requires.name-low, length-lows c.args.contents.now), omega (arith, e, get_or_default_zero (take c.args.scope.count c.args.scope.names) k x.now l, get_or-take c.args.scope.count c.args.scope.names k 0 j, c.requires.each-low k j, length-lows c.args.contents.now)))

pub returns : goal.returns
returns c =
    let w = packed_in c.args.contents.now in
    let xs = take c.args.scope.count c.args.scope.names in
    place_positioned w c.args.k xs c.position.result (IsFirst-from_position c.position.new.self _ _ (Same w c.args.k xs true) (Same w c.args.k xs false) c.position.ensures.ran (YieldsList-from_slice xs c.iter.ensures.rest) (λ x q k. search (rules, tests)) (λ x q k. search (rules, tests)))
