-- A text that holds no model gives 11; else it is carried on over its tables.
use mathlib.Core.Path.{refl}
use native.Mathlib.Omega.{arith}
use lib.ListN.{length-take}
use Rattle.token.specs.Questions.{text_limit}
use Rattle.buffers.specs.Parts.{lent_search}
use Rattle.opening.proofs.Models.{none-held, held-model}
use Rattle.searching.proofs.Held.{worded}
use Rattle.carrying.proofs.Held.{waits-within}
use Rattle.carrying.proofs.Turns.{none-carries}
use Rattle.carrying.proofs.carry_text.Goals as goal

pub returns-in_default : goal.returns-in_default
returns-in_default c =
    λ bs.
    let X = c.args.text.now in
    rw (c.bare.ensures, none-held X _ _ _ _ c.read_model.ensures.model_read c.in_default.is) (none-carries (lent_search bs _ _) _)

pub find_waits-requires : goal.find_waits-requires
find_waits-requires c =
    let X = c.args.text.now in
    let o = held-model X _ _ _ _ c.read_model.ensures.model_read c.in-Ok.is in
    let t = c.tables.ensures in
    ((o.model, rw (t.0, t.1, t.2, t.3, t.4) (worded X _ _ _ text_limit _ _ c.read_model.ensures.model_marked c.in-Ok.is o), waits-within X o.model o.holds), refl)

pub carry_tables-requires : goal.carry_tables-requires
carry_tables-requires c =
    let X = c.args.text.now in
    let o = held-model X _ _ _ _ c.read_model.ensures.model_read c.in-Ok.is in
    let t = c.tables.ensures in
    ((o.model, (rw (t.0, t.1, t.2, t.3, t.4) (worded X _ _ _ text_limit _ _ c.read_model.ensures.model_marked c.in-Ok.is o)), c.find_waits.ensures.are o.model (rw (t.0, t.1, t.2, t.3, t.4) (worded X _ _ _ text_limit _ _ c.read_model.ensures.model_marked c.in-Ok.is o)) (waits-within X o.model o.holds)), c.requires.0, c.requires.1, omega (arith, c.find_waits.ensures.few, length-take c.find_waits.new.names.count c.find_waits.new.names.tokens))

pub returns : goal.returns
returns c =
    λ bs.
    let X = c.args.text.now in
    let o = held-model X _ _ _ _ c.read_model.ensures.model_read c.in-Ok.is in
    let t = c.tables.ensures in
    rw o.holds (c.carry_tables.ensures o.model bs (rw (t.0, t.1, t.2, t.3, t.4) (worded X _ _ _ text_limit _ _ c.read_model.ensures.model_marked c.in-Ok.is o)) (c.find_waits.ensures.are o.model (rw (t.0, t.1, t.2, t.3, t.4) (worded X _ _ _ text_limit _ _ c.read_model.ensures.model_marked c.in-Ok.is o)) (waits-within X o.model o.holds)))
