-- The run is the name; one of the words or not.
use native.Mathlib.Omega.{arith}
use lib.ListN.{length-take}
use Rattle.token.proofs.Runs.{lead-le, lead-rest}
use Rattle.token.proofs.Cases.{named-is}
use Rattle.token.proofs.named.Goals as goal

pub slice_bounds-name_kind-end : goal.slice_bounds-name_kind-end
slice_bounds-name_kind-end c =
    simp length-take (omega (arith, lead-rest 1 c.args.s.now c.run_end-n.result c.requires c.run_end-n.ensures, lead-le 1 c.args.s.now))

pub returns : goal.returns
returns c =
    named-is c.args.g c.args.s.now c.run_end-n.result c.name_kind.result (lead-rest 1 c.args.s.now c.run_end-n.result c.requires c.run_end-n.ensures) c.name_kind.ensures
