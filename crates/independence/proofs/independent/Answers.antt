-- Seven numbers each, and the test of their entries.
use mathlib.Core.Path.{ap, ◌∙◌}
use Rattle.independence.specs.Judged.{entry_in}
use Rattle.independence.proofs.Tests.{short-first, short-second, by-entries, first-entry}
use Rattle.independence.proofs.independent.Goals as goal

pub returns-in_default : goal.returns-in_default
returns-in_default c = short-first c.args.entry.now c.args.other.now (rw c.in_default.is at c.try_from.ensures.1)

pub returns-in_default-try_from : goal.returns-in_default-try_from
returns-in_default-try_from c =
    let a = rw c.in-Ok.is at c.try_from.ensures.1 in
    short-second c.args.entry.now c.args.other.now a.long (rw c.in_default-try_from.is at c.try_from-2.ensures.1)

pub returns : goal.returns
returns c =
    let a = rw c.in-Ok.is at c.try_from.ensures.1 in
    let b = rw c.in-Ok-try_from.is at c.try_from-2.ensures.1 in
    c.judge.ensures ∙ by-entries _ _ _ _ a.long b.long (c.from.ensures ∙ first-entry _ ∙ ap entry_in a.same) (c.from-2.ensures ∙ first-entry _ ∙ ap entry_in b.same)
