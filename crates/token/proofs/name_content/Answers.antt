-- Both forms of a packed name.
use Rattle.std.proofs.Common.{sym, ◌∙◌, ap}
use Rattle.token.specs.Contents.{name_content, words_of}
use Rattle.token.proofs.name_content.Goals as goal

pub returns-in-Some : goal.returns-in-Some
unfolding name_content words_of
returns-in-Some c = ap words_of (sym c.in-Some.is ∙ c.packed.ensures)

pub returns-in-None : goal.returns-in-None
unfolding name_content words_of
returns-in-None c = ap words_of (sym c.in-None.is ∙ c.packed.ensures)
