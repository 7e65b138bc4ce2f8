-- `NameList::past_fault` meets its contract: the least of the names past the limit.
use mathlib.Core.Path.{refl, sym, ◌∙◌}
use Prim.Native.Nat.{◌-◌}
use Rattle.std.proofs.Common.{rules, tests}
use Rattle.std.proofs.lemmas.Iterator.{YieldsList-from_range, YieldsList-from_map}
use Rattle.std.proofs.lemmas.Iterator.Adapters.{option_map_id}
use Rattle.std.proofs.lemmas.Iterator.Consumers.{YieldsList-at, min_from_yields_List}
use Rattle.names.specs.Lists.{name_at}
use Rattle.names.proofs.Titles.{past_least}
use Rattle.names.proofs.list.NameList.past_fault.Goals as goal

pub returns : goal.returns
returns c =
    let l = c.args.self in
    sym (option_map_id _) ∙ min_from_yields_List _ _ c.min.ensures.ran (YieldsList-from_map _ (λ j. name_at l.nodes.now (l.first - j)) (YieldsList-at c.map.ensures.source (YieldsList-from_range c.args.limit l.count (l.count - c.args.limit) refl refl)) c.map.ensures.closure (λ x r q k. search (rules, tests))) ∙ past_least l.nodes.now l.first l.count c.args.limit
