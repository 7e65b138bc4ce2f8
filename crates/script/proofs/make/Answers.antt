-- By the kind of the row: what the engine's call gives, in the numbers and the clock of its reply.
use lib.ListN.{length, take, drop}
use Prim.Native.Nat.{◌-◌}
use Rattle.buffers.specs.Parts.{lent_whole}
use Rattle.script.proofs.Calling.{opening-makes, steady-makes, listing-makes, reporting-makes, stepping-makes, timing-makes, saving-makes, returning-makes, forgetting-makes, searching-makes, running-makes, beginning-makes, carrying-makes, asks-open, asks-steady, asks-list, asks-report, asks-step, asks-timed, asks-save, asks-return, asks-forget, asks-search, asks-run, asks-begin, asks-carry, makes-row}
use Rattle.script.proofs.make.Goals as goal

pub returns-in-Open : goal.returns-in-Open
returns-in-Open c =
    makes-row c.args.kind c.args.row c.args.given.texts.now c.args.given.numbers.now c.args.given.words.now c.requires.kind _ (asks-open c.args.kind c.args.row c.args.given.texts.now c.args.given.numbers.now c.args.given.words.now c.requires.kind c.in-Open.is) (lent_whole c.args.model.now c.args.state.now c.args.saves.now c.args.clock c.args.search.now) c.args.outputs.now c.open.new.model c.open.new.state c.open.new.saves c.open.new.search (opening-makes c.args.model.now c.args.state.now c.args.saves.now c.args.clock c.args.search.now c.args.outputs.now c.open.result.answer (take c.args.row.size (take (length c.args.given.texts.now - c.args.row.text) (drop c.args.row.text c.args.given.texts.now))) (lent_whole c.open.new.model c.open.new.state c.open.new.saves c.open.result.clock c.open.new.search) c.open.ensures) c.from.ensures

pub returns-in-Steady : goal.returns-in-Steady
returns-in-Steady c =
    makes-row c.args.kind c.args.row c.args.given.texts.now c.args.given.numbers.now c.args.given.words.now c.requires.kind _ (asks-steady c.args.kind c.args.row c.args.given.texts.now c.args.given.numbers.now c.args.given.words.now c.requires.kind c.in-Steady.is) (lent_whole c.args.model.now c.args.state.now c.args.saves.now c.args.clock c.args.search.now) c.args.outputs.now c.open_steady.new.model c.open_steady.new.state c.open_steady.new.saves c.open_steady.new.search (steady-makes c.args.model.now c.args.state.now c.args.saves.now c.args.clock c.args.search.now c.args.outputs.now c.open_steady.result.answer (take c.args.row.size (take (length c.args.given.texts.now - c.args.row.text) (drop c.args.row.text c.args.given.texts.now))) (lent_whole c.open_steady.new.model c.open_steady.new.state c.open_steady.new.saves c.open_steady.result.clock c.open_steady.new.search) c.open_steady.ensures) c.from-in-Steady.ensures

pub returns-in-List : goal.returns-in-List
returns-in-List c =
    makes-row c.args.kind c.args.row c.args.given.texts.now c.args.given.numbers.now c.args.given.words.now c.requires.kind _ (asks-list c.args.kind c.args.row c.args.given.texts.now c.args.given.numbers.now c.args.given.words.now c.requires.kind c.in-List.is) (lent_whole c.args.model.now c.args.state.now c.args.saves.now c.args.clock c.args.search.now) c.args.outputs.now c.args.model.now c.args.state.now c.args.saves.now c.args.search.now (listing-makes c.args.model.now c.args.state.now c.args.saves.now c.args.clock c.args.search.now c.args.outputs.now c.list.result c.list.new.listing c.list.ensures) c.plain.ensures

pub returns-in-Report : goal.returns-in-Report
returns-in-Report c =
    makes-row c.args.kind c.args.row c.args.given.texts.now c.args.given.numbers.now c.args.given.words.now c.requires.kind _ (asks-report c.args.kind c.args.row c.args.given.texts.now c.args.given.numbers.now c.args.given.words.now c.requires.kind c.in-Report.is) (lent_whole c.args.model.now c.args.state.now c.args.saves.now c.args.clock c.args.search.now) c.args.outputs.now c.args.model.now c.args.state.now c.args.saves.now c.args.search.now (reporting-makes c.args.model.now c.args.state.now c.args.saves.now c.args.clock c.args.search.now c.args.outputs.now c.report.result c.report.new.report c.report.ensures) c.plain-in-Report.ensures

pub returns-in-Step : goal.returns-in-Step
returns-in-Step c =
    makes-row c.args.kind c.args.row c.args.given.texts.now c.args.given.numbers.now c.args.given.words.now c.requires.kind _ (asks-step c.args.kind c.args.row c.args.given.texts.now c.args.given.numbers.now c.args.given.words.now c.requires.kind c.in-Step.is) (lent_whole c.args.model.now c.args.state.now c.args.saves.now c.args.clock c.args.search.now) c.args.outputs.now c.args.model.now c.step.new.state c.args.saves.now c.args.search.now (stepping-makes c.args.model.now c.args.state.now c.args.saves.now c.args.clock c.args.search.now c.args.outputs.now c.step.result c.args.row.number c.step.new.state c.step.new.listing c.step.ensures) c.plain-in-Step.ensures

pub returns-in-Timed : goal.returns-in-Timed
returns-in-Timed c =
    makes-row c.args.kind c.args.row c.args.given.texts.now c.args.given.numbers.now c.args.given.words.now c.requires.kind _ (asks-timed c.args.kind c.args.row c.args.given.texts.now c.args.given.numbers.now c.args.given.words.now c.requires.kind c.in-Timed.is) (lent_whole c.args.model.now c.args.state.now c.args.saves.now c.args.clock c.args.search.now) c.args.outputs.now c.args.model.now c.step_timed.new.state c.args.saves.now c.args.search.now (timing-makes c.args.model.now c.args.state.now c.args.saves.now c.args.clock c.args.search.now c.args.outputs.now c.step_timed.result.answer (take c.args.row.count (take (length c.args.given.numbers.now - c.args.row.from) (drop c.args.row.from c.args.given.numbers.now))) c.args.row.number c.step_timed.new.state c.step_timed.result.clock c.step_timed.new.listing c.step_timed.ensures) c.from-in-Timed.ensures

pub returns-in-Save : goal.returns-in-Save
returns-in-Save c =
    makes-row c.args.kind c.args.row c.args.given.texts.now c.args.given.numbers.now c.args.given.words.now c.requires.kind _ (asks-save c.args.kind c.args.row c.args.given.texts.now c.args.given.numbers.now c.args.given.words.now c.requires.kind c.in-Save.is) (lent_whole c.args.model.now c.args.state.now c.args.saves.now c.args.clock c.args.search.now) c.args.outputs.now c.args.model.now c.args.state.now c.save.new.saves c.args.search.now (saving-makes c.args.model.now c.args.state.now c.args.saves.now c.args.clock c.args.search.now c.args.outputs.now c.save.result (take c.args.row.size (take (length c.args.given.texts.now - c.args.row.text) (drop c.args.row.text c.args.given.texts.now))) c.args.state.now c.save.new.saves c.args.clock c.save.ensures) c.plain-in-Save.ensures

pub returns-in-Return : goal.returns-in-Return
returns-in-Return c =
    makes-row c.args.kind c.args.row c.args.given.texts.now c.args.given.numbers.now c.args.given.words.now c.requires.kind _ (asks-return c.args.kind c.args.row c.args.given.texts.now c.args.given.numbers.now c.args.given.words.now c.requires.kind c.in-Return.is) (lent_whole c.args.model.now c.args.state.now c.args.saves.now c.args.clock c.args.search.now) c.args.outputs.now c.args.model.now c.return_to.new.state c.args.saves.now c.args.search.now (returning-makes c.args.model.now c.args.state.now c.args.saves.now c.args.clock c.args.search.now c.args.outputs.now c.return_to.result.answer (take c.args.row.size (take (length c.args.given.texts.now - c.args.row.text) (drop c.args.row.text c.args.given.texts.now))) c.return_to.new.state c.args.saves.now c.return_to.result.clock c.return_to.ensures) c.from-in-Return.ensures

pub returns-in-Forget : goal.returns-in-Forget
returns-in-Forget c =
    makes-row c.args.kind c.args.row c.args.given.texts.now c.args.given.numbers.now c.args.given.words.now c.requires.kind _ (asks-forget c.args.kind c.args.row c.args.given.texts.now c.args.given.numbers.now c.args.given.words.now c.requires.kind c.in-Forget.is) (lent_whole c.args.model.now c.args.state.now c.args.saves.now c.args.clock c.args.search.now) c.args.outputs.now c.args.model.now c.args.state.now c.forget.new.saves c.args.search.now (forgetting-makes c.args.model.now c.args.state.now c.args.saves.now c.args.clock c.args.search.now c.args.outputs.now c.forget.result (take c.args.row.size (take (length c.args.given.texts.now - c.args.row.text) (drop c.args.row.text c.args.given.texts.now))) c.forget.new.saves c.forget.ensures) c.plain-in-Forget.ensures

pub returns-in-Search : goal.returns-in-Search
returns-in-Search c =
    makes-row c.args.kind c.args.row c.args.given.texts.now c.args.given.numbers.now c.args.given.words.now c.requires.kind _ (asks-search c.args.kind c.args.row c.args.given.texts.now c.args.given.numbers.now c.args.given.words.now c.requires.kind c.in-Search.is) (lent_whole c.args.model.now c.args.state.now c.args.saves.now c.args.clock c.args.search.now) c.args.outputs.now c.args.model.now c.args.state.now c.args.saves.now c.args.search.now (searching-makes c.args.model.now c.args.state.now c.args.saves.now c.args.clock c.args.search.now c.args.outputs.now c.search.result (take c.args.row.size (take (length c.args.given.texts.now - c.args.row.text) (drop c.args.row.text c.args.given.texts.now))) c.args.row.number c.search.ensures) c.found_reply.ensures

pub returns-in-Run : goal.returns-in-Run
returns-in-Run c =
    makes-row c.args.kind c.args.row c.args.given.texts.now c.args.given.numbers.now c.args.given.words.now c.requires.kind _ (asks-run c.args.kind c.args.row c.args.given.texts.now c.args.given.numbers.now c.args.given.words.now c.requires.kind c.in-Run.is _ c.requires.output) (lent_whole c.args.model.now c.args.state.now c.args.saves.now c.args.clock c.args.search.now) c.args.outputs.now c.args.model.now c.run.new.state c.args.saves.now c.args.search.now (running-makes c.args.model.now c.args.state.now c.args.saves.now c.args.clock c.args.search.now c.args.outputs.now c.run.result.ran (take c.args.row.words (take (length c.args.given.words.now - c.args.row.start) (drop c.args.row.start c.args.given.words.now))) (take c.args.row.count (take (length c.args.given.numbers.now - c.args.row.from) (drop c.args.row.from c.args.given.numbers.now))) c.args.row.number c.run.new.state c.run.result.clock c.run.new.events c.run.ensures) c.from-in-Run.ensures

pub returns-in-Begin : goal.returns-in-Begin
returns-in-Begin c =
    makes-row c.args.kind c.args.row c.args.given.texts.now c.args.given.numbers.now c.args.given.words.now c.requires.kind _ (asks-begin c.args.kind c.args.row c.args.given.texts.now c.args.given.numbers.now c.args.given.words.now c.requires.kind c.in-Begin.is) (lent_whole c.args.model.now c.args.state.now c.args.saves.now c.args.clock c.args.search.now) c.args.outputs.now c.args.model.now c.args.state.now c.args.saves.now c.begin-answer.new.search (beginning-makes c.args.model.now c.args.state.now c.args.saves.now c.args.clock c.args.search.now c.args.outputs.now c.begin-answer.result (take c.args.row.size (take (length c.args.given.texts.now - c.args.row.text) (drop c.args.row.text c.args.given.texts.now))) c.args.row.number c.begin-answer.new.search c.begin-answer.ensures) c.plain-in-Begin.ensures

pub returns-in-Carry : goal.returns-in-Carry
returns-in-Carry c =
    makes-row c.args.kind c.args.row c.args.given.texts.now c.args.given.numbers.now c.args.given.words.now c.requires.kind _ (asks-carry c.args.kind c.args.row c.args.given.texts.now c.args.given.numbers.now c.args.given.words.now c.requires.kind c.in-Carry.is) (lent_whole c.args.model.now c.args.state.now c.args.saves.now c.args.clock c.args.search.now) c.args.outputs.now c.args.model.now c.args.state.now c.args.saves.now c.carry_on.new.search (carrying-makes c.args.model.now c.args.state.now c.args.saves.now c.args.clock c.args.search.now c.args.outputs.now c.carry_on.result c.args.row.number c.carry_on.new.search c.carry_on.ensures) c.progress_reply.ensures
