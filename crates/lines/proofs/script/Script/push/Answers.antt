-- By the part that the script stands in: a line ends at its LF and goes on otherwise; a text goes on up to its size, and then an LF ends it.
use Rattle.std.proofs.Common.{[], ◌∷◌, ◌++◌, sym, ap, ◌∙◌, subst}
use Rattle.lines.specs.Script.{Begun, Stands, Misplaced, fresh}
use Rattle.lines.proofs.Steps.{line-goes, line-ends, text-goes, text-ends, text-wrong}
use Rattle.lines.proofs.script.Script.push.Goals as goal

pub returns-then-b-ne10-clause-pushes : goal.returns-then-b-ne10-clause-pushes
returns-then-b-ne10-clause-pushes c =
    λ s qs h.
    let x = subst (Begun s qs c.args.self.now.from) c.in-InLine.is h.begun in
    line-goes x c.args.b h.line-is c.if-b-ne10.true (c.push.ensures x.line x.reads)

pub returns-then-text-clause-pushes : goal.returns-then-text-clause-pushes
returns-then-text-clause-pushes c =
    λ s qs h.
    let x = subst (Begun s qs c.args.self.now.from) c.in-InText.is h.begun in
    text-goes x c.args.b c.if-text.true (c.line_after-self.ensures s h.line-is)

pub returns-then-b-ne10-2-clause-pushes : goal.returns-then-b-ne10-2-clause-pushes
returns-then-b-ne10-2-clause-pushes c =
    λ s qs h.
    let x = subst (Begun s qs c.args.self.now.from) c.in-InText.is h.begun in
    text-wrong x c.args.b c.if-text.false c.if-b-ne10-2.true

pub returns-in-Some-clause-pushes : goal.returns-in-Some-clause-pushes
returns-in-Some-clause-pushes c =
    λ s qs h.
    let x = subst (Begun s qs c.args.self.now.from) c.in-InLine.is h.begun in
    line-ends x c.args.b c.if-b-ne10.false (sym (c.says.ensures x.line x.reads) ∙ c.in-Some.is) c.end_line.ensures

pub returns-in-None-clause-pushes : goal.returns-in-None-clause-pushes
returns-in-None-clause-pushes c =
    λ s qs h.
    let x = subst (Begun s qs c.args.self.now.from) c.in-InLine.is h.begun in
    Misplaced.of-line x c.if-b-ne10.false (sym (c.says.ensures x.line x.reads) ∙ c.in-None.is)

pub returns-else-b-ne10-2-clause-pushes : goal.returns-else-b-ne10-2-clause-pushes
returns-else-b-ne10-2-clause-pushes c =
    λ s qs h.
    let x = subst (Begun s qs c.args.self.now.from) c.in-InText.is h.begun in
    subst (Stands (s ++ (c.args.b ∷ [])) (qs ++ (c.in-InText.text.asked ∷ []))) (sym (c.begin.ensures ∙ ap fresh c.next_line.ensures)) (text-ends x c.args.b c.if-text.false c.if-b-ne10-2.false h.line-is)
