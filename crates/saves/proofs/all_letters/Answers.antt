-- `all` over the letters answers as `every` does.
use mathlib.Core.Path.{◌∙◌}
use borrow.Author.Tests.{tests}
use Rattle.std.proofs.Common.{rules}
use Rattle.std.specs.Char.{is_ascii_alphabetic}
use Rattle.std.proofs.lemmas.Iterator.{YieldsList-from_slice}
use Rattle.std.proofs.lemmas.Iterator.Search.{all_from_yields_List}
use Rattle.machine.specs.Saves.{is_letter}
use Rattle.state.proofs.Tests.{every_all}
use Rattle.saves.proofs.all_letters.Goals as goal

pub returns : goal.returns
unfolding is_letter
returns c =
    all_from_yields_List is_ascii_alphabetic _ _ _ c.all.ensures.ran (YieldsList-from_slice c.args.s.now cc) (λ x b q k. (search (rules, tests), search (rules, tests))) ∙ every_all is_ascii_alphabetic c.args.s.now
