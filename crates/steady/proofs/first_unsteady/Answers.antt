-- `first_unsteady` meets its contract: the least of what the nodes give.
use mathlib.Core.Path.{refl, sym, ◌∙◌}
use native.Mathlib.Omega.{arith}
use Prim.Native.Nat.{◌+◌}
use Rattle.std.proofs.Common.{rules, tests}
use Rattle.std.proofs.lemmas.Iterator.{YieldsList-from_range}
use Rattle.std.proofs.lemmas.Iterator.Adapters.{option_map_id}
use Rattle.std.proofs.lemmas.Iterator.Consumers.{YieldsList-at, YieldsList-from_filter_map, min_from_yields_List}
use Rattle.names.proofs.Settled.{root_in}
use Rattle.model.specs.Sites.{definitions}
use Rattle.profile.specs.Unsteady.{several_sums}
use Rattle.steady.specs.Scan.{offender_at}
use Rattle.steady.proofs.Faults.{least_unsteady}
use Rattle.steady.proofs.first_unsteady.Goals as goal

pub returns : goal.returns
returns c =
    λ h. sym (option_map_id _) ∙ min_from_yields_List _ _ c.min.ensures.ran (YieldsList-from_filter_map _ (offender_at (several_sums h.word (definitions h.model)) c.args.parsed.nodes.now) (YieldsList-at c.filter_map.ensures.source (YieldsList-from_range 0 (c.args.parsed.lists.root + 1) (c.args.parsed.lists.root + 1) refl (omega arith))) c.filter_map.ensures.closure (λ x r q k. search (rules, tests))) ∙ least_unsteady h

pub overflow_add-parsed : goal.overflow_add-parsed
overflow_add-parsed c =
    omega (arith, root_in c.requires)
