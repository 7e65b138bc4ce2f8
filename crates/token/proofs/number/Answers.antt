-- A point with a digit after it and the digits there belong to the number, else the digits alone.
use mathlib.Core.Path.{sym, ◌∙◌}
use native.Mathlib.Omega.{arith}
use Rattle.token.proofs.Runs.{lead-le, lead-rest}
use Rattle.token.proofs.Marks.{pointed-in}
use Rattle.token.proofs.Cases.{decimal-is, whole_is}
use Rattle.token.proofs.number.Goals as goal

pub point_at-requires : goal.point_at-requires
point_at-requires c =
    omega (arith, lead-rest 2 c.args.s.now c.run_end-n.result c.requires c.run_end-n.ensures, lead-le 2 c.args.s.now)

pub overflow_add-n : goal.overflow_add-n
overflow_add-n c =
    omega (arith, pointed-in c.args.s.now c.run_end-n.result (sym c.point_at.ensures ∙ c.if-point_at.true))

pub run_end-requires : goal.run_end-requires
run_end-requires c =
    omega (arith, pointed-in c.args.s.now c.run_end-n.result (sym c.point_at.ensures ∙ c.if-point_at.true))

pub returns-then-point_at : goal.returns-then-point_at
returns-then-point_at c =
    decimal-is c.args.g c.args.s.now c.run_end-n.result c.run_end.result (lead-rest 2 c.args.s.now c.run_end-n.result c.requires c.run_end-n.ensures) (sym c.point_at.ensures ∙ c.if-point_at.true) c.run_end.ensures

pub returns : goal.returns
returns c =
    whole_is c.args.g c.args.s.now c.run_end-n.result (lead-rest 2 c.args.s.now c.run_end-n.result c.requires c.run_end-n.ensures) (sym c.point_at.ensures ∙ c.if-point_at.false)
