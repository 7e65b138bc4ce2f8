-- `all` over the numbers answers as `every` does.
use mathlib.Core.Path.{◌∙◌}
use borrow.Author.Tests.{tests}
use mir.Facts.{to_z-of_z}
use Rattle.std.proofs.Common.{rules}
use Rattle.std.proofs.lemmas.Iterator.{YieldsList-from_slice}
use Rattle.std.proofs.lemmas.Iterator.Search.{all_from_yields_List}
use Rattle.std.proofs.lemmas.Grind.{common_steps}
use native.Mathlib.Omega.{arith}
use Rattle.state.proofs.Tests.{every_all}
use Rattle.underway.specs.Buffer.{is_natural}
use Rattle.underway.proofs.Head.{natural_so}
use Rattle.underway.proofs.all_natural.Goals as goal

pub returns : goal.returns
returns c =
    all_from_yields_List is_natural _ _ _ c.all.ensures.ran (YieldsList-from_slice c.args.s.now cc) (λ x b q k. (search (rules, tests), grind (arith, to_z-of_z, natural_so, common_steps))) ∙ every_all is_natural c.args.s.now
