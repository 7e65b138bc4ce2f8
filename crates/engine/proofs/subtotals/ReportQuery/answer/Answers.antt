-- The listing's answer, and the report that is made of it.
use borrow.Author.Rules.{rules}
use Rattle.engine.proofs.Reported.{finds-report}
use Rattle.engine.proofs.subtotals.ReportQuery.answer.Goals as goal

pub list_state-listed-requires : goal.list_state-listed-requires
list_state-listed-requires c =
    (c.requires.0, c.requires.1, search rules)

pub put_report-requires : goal.put_report-requires
put_report-requires c =
    let m = c.requires.0.0 in let h = c.requires.0.1 in ((m, _, h.good, c.list_state-listed.ensures m h), c.requires.2)

pub returns : goal.returns
returns c =
    λ m bs h.
    let e = c.list_state-listed.ensures m h in
    (finds-report bs c.args.state.now c.args.report.now m c.list_state-listed.result _ _ _ e (c.put_report.ensures m bs _ h.good e))
