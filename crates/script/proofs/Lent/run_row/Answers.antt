-- By whether there is a row, room for its answer, and whether it is a call; then its call.
use mathlib.Core.Path.{refl, ap, sym, ◌∙◌}
use native.Mathlib.Omega.{arith}
use lib.ListN.{length-drop}
use Rattle.script.specs.Rows.{row_of}
use Rattle.script.specs.Run.{lent_five, held, room_of}
use Rattle.script.proofs.Calling.{there, first-row}
use Rattle.script.proofs.Fitting.{no-kind}
use Rattle.script.proofs.Running.{no_row, no_answer, no_call, made, fits-from}
use Rattle.script.proofs.Places.{not-ran, ran-at}
use Rattle.script.proofs.Lent.run_row.Goals as goal

pub returns-in_default-clause-ran : goal.returns-in_default-clause-ran
returns-in_default-clause-ran c =
    not-ran _ c.min-first.result c.min-output.result c.min-answer.result _ _ _ _ _ (omega arith) (omega arith) (omega arith)
    (no_row _ _ _ _ _ c.in_default.ensures.cases)

pub returns-then-self-answer-lt-ANSWER-clause-ran : goal.returns-then-self-answer-lt-ANSWER-clause-ran
returns-then-self-answer-lt-ANSWER-clause-ran c =
    not-ran _ c.min-first.result c.min-output.result c.min-answer.result _ _ _ _ _ (omega arith) (omega arith) (omega arith)
    (no_answer _ _ _ _ _ c.in-Some.ensures.cases.enough (omega (arith, length-drop c.min-answer.result c.args.self.now.answers.now, c.if-self-answer-lt-ANSWER.true)))

pub returns-in_default-try_from-clause-ran : goal.returns-in_default-try_from-clause-ran
returns-in_default-try_from-clause-ran c =
    not-ran _ c.min-first.result c.min-output.result c.min-answer.result _ _ _ _ _ (omega arith) (omega arith) (omega arith)
    (no_call _ _ _ _ _ c.in-Some.ensures.cases.enough (omega (arith, length-drop c.min-answer.result c.args.self.now.answers.now, c.if-self-answer-lt-ANSWER.false)) c.from-row.result
    (c.from-row.ensures ∙ ap row_of c.in-Some.ensures.cases.same ∙ first-row _) (no-kind c.from-row.result _ _ _ _ _ c.in_default-try_from.ensures))

pub returns-then-not-fits-clause-ran : goal.returns-then-not-fits-clause-ran
returns-then-not-fits-clause-ran c =
    not-ran _ c.min-first.result c.min-output.result c.min-answer.result _ _ _ _ _ (omega arith) (omega arith) (omega arith)
    (no_call _ _ _ _ _ c.in-Some.ensures.cases.enough (omega (arith, length-drop c.min-answer.result c.args.self.now.answers.now, c.if-self-answer-lt-ANSWER.false)) c.from-row.result
    (c.from-row.ensures ∙ ap row_of c.in-Some.ensures.cases.same ∙ first-row _) (fits-from (held c.args.self.now) c.min-output.result c.from-row.result _ _ _ _ (sym c.fits.ensures ∙ c.if-not-fits.true)))

pub make_row-requires-clause-named : goal.make_row-requires-clause-named
make_row-requires-clause-named c =
    let a = there c.from-row.result _ _ _ _ _ (sym c.fits.ensures ∙ c.if-not-fits.false) in (a.text, (a.list, a.supply))

pub make_row-requires-clause-lent : goal.make_row-requires-clause-lent
unfolding room_of lent_five
make_row-requires-clause-lent c =
    let a = there c.from-row.result _ _ _ _ _ (sym c.fits.ensures ∙ c.if-not-fits.false) in (a.model, (a.state, (a.saves, (a.search, (omega (arith, a.output, c.min-output.ensures), a.clock)))))

pub returns-clause-ran : goal.returns-clause-ran
returns-clause-ran c =
    ran-at _ c.min-first.result c.min-output.result c.min-answer.result _ _ _ _ _ (omega arith) (omega arith) (omega arith) (held c.make_row.new.self) _ c.make_row.ensures.made c.make_row.ensures.kept.1.1.1.1.1.0.1 c.make_row.ensures.kept.1.1.1.1.1.1.1
    (made _ _ _ _ _ c.in-Some.ensures.cases.enough (omega (arith, length-drop c.min-answer.result c.args.self.now.answers.now, c.if-self-answer-lt-ANSWER.false)) c.from-row.result
    (c.from-row.ensures ∙ ap row_of c.in-Some.ensures.cases.same ∙ first-row _) (fits-from (held c.args.self.now) c.min-output.result c.from-row.result _ _ _ _ (sym c.fits.ensures ∙ c.if-not-fits.false)) _ refl)
