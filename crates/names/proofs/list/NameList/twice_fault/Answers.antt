-- `NameList::twice_fault` meets its contract: the least of the names that stand there before.
use mathlib.Core.Path.{refl, sym, ◌∙◌}
use native.Mathlib.Omega.{arith}
use Rattle.std.proofs.Common.{rules, tests}
use Rattle.std.proofs.lemmas.Iterator.{YieldsList-from_range}
use Rattle.std.proofs.lemmas.Iterator.Adapters.{option_map_id}
use Rattle.std.proofs.lemmas.Iterator.Consumers.{YieldsList-at, YieldsList-from_filter_map, min_from_yields_List}
use Rattle.names.specs.Lists.{packed_in}
use Rattle.names.proofs.Titles.{again_at, twice_least}
use Rattle.names.proofs.list.NameList.twice_fault.Goals as goal

pub returns : goal.returns
returns c =
    let l = c.args.self in
    let w = packed_in l.contents.now in
    sym (option_map_id _) ∙ min_from_yields_List _ _ c.min.ensures.ran (YieldsList-from_filter_map _ (again_at w l.nodes.now l.first) (YieldsList-at c.filter_map.ensures.source (YieldsList-from_range 0 l.count l.count refl (omega arith))) c.filter_map.ensures.closure (λ x r q k. search (rules, tests))) ∙ twice_least l.nodes.now l.first w l.count
