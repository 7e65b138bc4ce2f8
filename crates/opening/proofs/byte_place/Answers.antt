-- The table of places says where a token stands, and the text ends past the last.
use mathlib.Core.Path.{sym, ◌∙◌}
use borrow.Author.Tests.{ltb-false}
use Rattle.opening.proofs.Places.{place_here, place_end}
use Rattle.opening.proofs.byte_place.Goals as goal

pub returns-in-Some : goal.returns-in-Some
returns-in-Some c =
    let l = c.in-Some.ensures.lookup.3 in
    c.from.ensures ∙ l.1 0 ∙ place_here c.args.text.now c.requires c.args.k l.0

pub returns-in-None : goal.returns-in-None
returns-in-None c =
    place_end c.args.text.now c.requires c.args.k (ltb-false _ _ (sym c.in-None.ensures.lookup.0))
