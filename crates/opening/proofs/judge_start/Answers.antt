-- A case for each return, from Models.antt: 10 is asked of the model.
use Rattle.opening.proofs.Models.{countable, many-no, few-yes}
use native.Mathlib.Omega.{arith}
use Rattle.opening.proofs.judge_start.Goals as goal

pub first_definition-requires : goal.first_definition-requires
first_definition-requires c =
    let r = c.requires.3.rooted in omega arith

pub line-requires : goal.line-requires
line-requires c =
    c.requires.3.rooted

pub start_count-processes-requires : goal.start_count-processes-requires
start_count-processes-requires c =
    rw (c.first_definition.ensures, c.line.ensures) (c.requires.3.model, countable c.requires.3)

pub returns-then-processes-gt-PROCESSES : goal.returns-then-processes-gt-PROCESSES
returns-then-processes-gt-PROCESSES c =
    λ text roots scopes g. many-no g (c.start_count-processes.ensures g.model (rw (c.first_definition.ensures, c.line.ensures) (countable g))) c.if-processes-gt-PROCESSES.true

pub returns : goal.returns
returns c =
    λ text roots scopes g. few-yes g (c.start_count-processes.ensures g.model (rw (c.first_definition.ensures, c.line.ensures) (countable g))) c.if-processes-gt-PROCESSES.false
