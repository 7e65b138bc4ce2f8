-- With a run, or why there is none.
use mathlib.Core.Path.{◌∙◌, subst}
use Rattle.runs.specs.Marks as marks
use Rattle.pieces.specs.Position.{Comes}
use Rattle.pieces.specs.declared.Going.TheVariants.{Over}
use Rattle.resuming.proofs.Told.{ended-run, ended-none, over-is, ended-tells}
use Rattle.resuming.proofs.ended_as.Goals.{in-Ok, in-Err}
use Rattle.resuming.proofs.ended_as.Goals as goal

pub result_of-found-requires : goal.result_of-found-requires
result_of-found-requires c =
    let o = over-is c.requires.1 in (o.1, (ended-run c.in-Ok.is (subst (λ (g : marks.Going). Comes g (Over c.args.ended)) o.2 c.requires.1)).0)

pub result_of-found-requires-in-Err : goal.result_of-found-requires-in-Err
result_of-found-requires-in-Err c =
    let o = over-is c.requires.1 in (o.1, (ended-none _ c.in-Err.is (subst (λ (g : marks.Going). Comes g (Over c.args.ended)) o.2 c.requires.1)).0)

pub returns : goal.returns
returns c =
    λ k a h. elim c.match-ended.branch [
      | in-Ok w ↦ let e = ended-run w.in-Ok.is h in ended-tells k _ a _ e.1 (w.found-is ∙ w.result_of-found.ensures a e.0)
      | in-Err w ↦ let e = ended-none _ w.in-Err.is h in ended-tells k _ a _ e.1 (w.found-is ∙ w.result_of-found-in-Err.ensures a e.0)
    ]
