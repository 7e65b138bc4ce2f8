-- Three numbers and the run take their places, and the start stays.
use mathlib.Core.Path.{ap, ◌∙◌}
use mathlib.Core.List.{List}
use native.Mathlib.Omega.{arith}
use lib.IntN.{ℤ, pos}
use lib.ListN.{take}
use mir.Facts.{to_z_pos}
use mir.Syntax.{w64}
use Rattle.value.proofs.Kit.{back}
use Rattle.state.proofs.Change.{part-changed}
use Rattle.underway.specs.Buffer.{run_numbers, flag_code}
use Rattle.underway.proofs.Written.{carried-is, flag-byte, flag-small}
use Rattle.underway.proofs.put_carried.Goals as goal

pub returns : goal.returns
returns c =
    let d : ℤ = pos (flag_code c.args.met) in
    let f = c.from.ensures ∙ ap pos (flag-byte c.args.met) in
    rw (to_z_pos w64 {n = c.args.count} (omega arith), to_z_pos w64 {n = c.args.n} (omega arith), f, back d (flag-small c.args.met))
    (part-changed (λ (l : List ℤ). run_numbers (take c.args.n c.args.run.now)) 5 _ c.put_run.new.part 13 (omega arith) c.put_run.ensures
    ∙ carried-is c.args.search.now c.args.count c.args.n c.args.met c.args.run.now c.requires.0 (omega (arith, c.told-run)))
