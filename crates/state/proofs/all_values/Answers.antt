-- `all` over the numbers answers as `every` does.
use mathlib.Core.Path.{◌∙◌}
use borrow.Author.Tests.{tests}
use mir.Facts.{to_z-of_z}
use Rattle.std.proofs.Common.{rules}
use Rattle.std.proofs.lemmas.Iterator.{YieldsList-from_slice}
use Rattle.std.proofs.lemmas.Iterator.Search.{all_from_yields_List}
use Rattle.std.proofs.lemmas.Grind.{common_steps}
use native.Mathlib.Omega.{arith}
use Rattle.state.specs.Test.{is_value}
use Rattle.state.proofs.Tests.{every_all}
use Rattle.state.proofs.all_values.Goals as goal

pub returns : goal.returns
returns c =
    all_from_yields_List is_value _ _ _ c.all.ensures.ran (YieldsList-from_slice c.args.s.now cc) (λ x b q k. (search (rules, tests), grind (arith, to_z-of_z, common_steps))) ∙ every_all is_value c.args.s.now
