-- A case for each end of a walk.
use mathlib.Core.Path.{sym, ap, ◌∙◌}
use Rattle.searching.specs.Run.{result_of}
use Rattle.searching.proofs.Results.{found-run, found_none, found-unsure, none-result, unsure-result}
use Rattle.searching.proofs.result_of.Goals as goal

pub run_found-requires : goal.run_found-requires
run_found-requires c =
    (found-run c.in-Ok.is c.requires.1).0

pub returns-in-Ok : goal.returns-in-Ok
returns-in-Ok c =
    λ a h. c.run_found.ensures ∙ ap result_of (sym (found-run c.in-Ok.is h).1)

pub returns-in-Err-Unsure : goal.returns-in-Err-Unsure
returns-in-Err-Unsure c =
    λ a h. c.bare.ensures ∙ unsure-result (found-unsure c.in-Err-Unsure.is (rw c.in-Err-Unsure.is at c.in-Err-Unsure.field-0-is) h)

pub returns-in-Err-Nothing : goal.returns-in-Err-Nothing
returns-in-Err-Nothing c =
    λ a h. c.bare-in-Err-Nothing.ensures ∙ none-result (found_none c.in-Err-Nothing.is (rw c.in-Err-Nothing.is at c.in-Err-Nothing.field-0-is) h)
