-- `leaves_fault` meets its contract: the least of what the leaves give.
use mathlib.Core.Path.{refl, sym, ◌∙◌}
use Prim.Native.Nat.{◌-◌}
use Rattle.std.proofs.Common.{rules, tests}
use Rattle.std.proofs.lemmas.Iterator.{YieldsList-from_range}
use Rattle.std.proofs.lemmas.Iterator.Consumers.{YieldsList-at, YieldsList-from_filter_map, min_from_yields_List}
use Rattle.std.proofs.lemmas.Iterator.Adapters.{option_map_id}
use Rattle.model.specs.Lists.{each, least}
use Rattle.names.specs.Settings.{faults_at}
use Rattle.names.specs.Leaves.{site_at}
use Rattle.names.proofs.Judges.{leaves_picked}
use Rattle.names.proofs.leaves_fault.Goals as goal

pub returns : goal.returns
returns c =
    λ h. sym (option_map_id _) ∙ min_from_yields_List _ _ c.min.ensures.ran (YieldsList-from_filter_map _ (λ i. least (each (faults_at h) (site_at c.args.context.now.nodes.now i))) (YieldsList-at c.filter_map.ensures.source (YieldsList-from_range c.args.from c.args.to (c.args.to - c.args.from) refl refl)) c.filter_map.ensures.closure (λ x r q k. search (rules, tests))) ∙ leaves_picked c.args.context.now.nodes.now (faults_at h) c.args.from (c.args.to - c.args.from)
