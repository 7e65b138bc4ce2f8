-- A text that holds no model gives 11; else its tables are searched over.
use Rattle.token.specs.Questions.{text_limit}
use Rattle.machine.specs.Machine.{search'}
use Rattle.searching.proofs.Results.{none-run}
use Rattle.opening.proofs.Models.{none-held, held-model}
use Rattle.searching.proofs.Held.{worded}
use Rattle.searching.proofs.search_text.Goals as goal

pub search_tables-requires : goal.search_tables-requires
search_tables-requires c =
    let X = c.args.text.now in
    let o = held-model X _ _ _ _ c.read_model.ensures.model_read c.in-Ok.is in
    let t = c.tables.ensures in
    ((o.model, rw (t.0, t.1, t.2, t.3, t.4) (worded X _ _ _ text_limit _ _ c.read_model.ensures.model_marked c.in-Ok.is o)), c.requires)

pub returns-in_default : goal.returns-in_default
returns-in_default c =
    λ bs.
    let X = c.args.text.now in
    rw (c.bare.ensures, none-held X _ _ _ _ c.read_model.ensures.model_read c.in_default.is) (none-run (search' _ _) _)

pub returns : goal.returns
returns c =
    λ bs.
    let X = c.args.text.now in
    let o = held-model X _ _ _ _ c.read_model.ensures.model_read c.in-Ok.is in
    let t = c.tables.ensures in
    rw o.holds (c.search_tables.ensures o.model bs (rw (t.0, t.1, t.2, t.3, t.4) (worded X _ _ _ text_limit _ _ c.read_model.ensures.model_marked c.in-Ok.is o)))
