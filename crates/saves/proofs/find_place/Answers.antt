-- The library's search finds the first place.
use mathlib.Core.Path.{ap, ◌∙◌}
use Prim.Native.Nat.{ℕ}
use borrow.Author.Tests.{tests}
use lib.ListN.{length}
use Rattle.std.proofs.Common.{rules}
use Rattle.std.proofs.lemmas.Iterator.{YieldsList-from_slice}
use Rattle.std.proofs.lemmas.Iterator.Search.{position_from_yields_List}
use Rattle.saves.specs.Places.{has_key}
use Rattle.saves.specs.Change.{below}
use Rattle.saves.proofs.Laws.{first-position}
use Rattle.saves.proofs.find_place.Goals as goal

pub returns-clause-place : goal.returns-clause-place
unfolding below
returns-clause-place c =
    let t = has_key c.args.key.now in
    position_from_yields_List t _ _ _ c.position.ensures.ran (YieldsList-from_slice c.args.places.now cc) (λ x b q k. (search (rules, tests), search (rules, tests)))
    ∙ ap (λ (n : ℕ). below (length c.args.places.now) n) (first-position t c.args.places.now)
