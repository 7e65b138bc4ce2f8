-- `names::earlier` meets its contract: the least of what there is.
use mathlib.Core.Path.{sym, ◌∙◌}
use Rattle.std.proofs.lemmas.Iterator.Adapters.{YieldsList-from_once}
use Rattle.std.proofs.lemmas.Iterator.Consumers.{YieldsList-from_chain, min_from_yields_List}
use Rattle.std.proofs.lemmas.Iterator.Adapters.{option_map_id}
use Rattle.names.proofs.Earliest.{of_two}
use Rattle.names.proofs.earlier.Goals as goal

pub returns : goal.returns
returns c =
    sym (option_map_id _) ∙ min_from_yields_List _ _ c.min.ensures.ran (YieldsList-from_chain (YieldsList-from_once c.args.a cc) (YieldsList-from_once c.args.b cc) c.chain.ensures.first_done c.chain.ensures.second_done) ∙ of_two c.args.a c.args.b
