-- A case for each profile, from Judges.antt; a sound text can be searched.
use Rattle.steady.proofs.Judges.{searched, found-so, plain-none, steady-first}
use Rattle.steady.proofs.offender.Goals as goal

pub lists_of-lists-requires : goal.lists_of-lists-requires
lists_of-lists-requires c =
    (c.requires.1, 0, c.requires.4.read.holds)

pub first_unsteady-requires : goal.first_unsteady-requires
first_unsteady-requires c =
    let f = c.requires.4 in
    searched f c.requires.5 (c.lists_of-lists.ensures c.requires.1 0 f.read.holds)

pub returns-in-Plain : goal.returns-in-Plain
returns-in-Plain c =
    λ text s kinds places f v. plain-none text s c.in-Plain.is

pub returns-in-Steady : goal.returns-in-Steady
returns-in-Steady c =
    λ text s kinds places f v. steady-first text s c.in-Steady.is (found-so f v (c.lists_of-lists.ensures s 0 f.read.holds) c.first_unsteady.ensures)
