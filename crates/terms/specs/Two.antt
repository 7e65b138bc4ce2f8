-- Term 2: the accepted texts are those of the grammar as 01 narrows it, each with one reading; a transition is listed exactly when the rules (8) to (18) derive it, with their rate.
-- Definitions only.
use Rattle.std.specs.Prelude.{◌≡◌, ◌↔◌, ℕ}
use mathlib.Core.List.{List, Memᴰ as In}
use Rattle.token.specs.Token.{Mark, kinds_of}
use Rattle.token.specs.Tiling.{Tiled}
use Rattle.grammar.specs.Grammar as derived
use Rattle.grammar.specs.Grammar.{Reads}
use Rattle.grammar.specs.Syntax.{syntax_of}
use Rattle.model.specs.Words.{word_of}
use Rattle.model.specs.Resolved.{Model, resolved}
use Rattle.model.specs.Opening.{opened, opening}
use Rattle.model.specs.Questions.{Yes2, Yes3, Yes4, Yes6, Yes7, Yes8, Yes9, Yes10}
use Rattle.rules.specs.Rules.{Key, Derivable}
use Rattle.rules.specs.Listing.{Entry, entry}
use Rattle.machine.specs.Offer.{branches}
use Rattle.machine.specs.State.{State}
use Rattle.machine.specs.Machine.{entries_are, listing}

-- 01, Model text: tokens that tile the text, and the tree that they are written from
pub record Reading (text : List ℕ) : Type 0 where
  pub marks : List Mark
  pub tiles : Tiled text 0 marks
  pub tree : derived.Model
  pub reads : Reads (kinds_of marks) tree

-- 01, Opening a text: questions 2 to 4 and 6 to 10 of a text that is read so have the answer yes
pub record Passes (text : List ℕ) (tree : derived.Model) : Type 0 where
  pub yes2 : Yes2 text
  pub yes3 : Yes3 text
  pub yes4 : Yes4 text
  pub yes6 : Yes6 text
  pub yes7 : Yes7 text (syntax_of tree)
  pub yes8 : Yes8 text (syntax_of tree)
  pub yes9 : Yes9 text (syntax_of tree)
  pub yes10 : Yes10 text (syntax_of tree)

-- the term
pub record TermTwo : Type 0 where
  -- any two readings of a text are equal
  pub one-reading : (text : List ℕ) (a b : Reading text) → (a.marks ≡ b.marks) × (a.tree ≡ b.tree)
  -- a text is opened exactly when it has a reading and the questions say yes, and the model is that reading's
  pub accepted : (text : List ℕ) (m : Model)
      → (opening text ≡ opened m) ↔ ((r : Reading text) × Passes text r.tree × (m ≡ resolved (word_of text) (syntax_of r.tree)))
  -- at an accepted listing an entry stands exactly when the rules derive it, with its weight
  pub listed : (m : Model) (s : State) (es : List Entry) → listing m s ≡ entries_are es → (k : Key) (w : ℕ) → In (entry k w) es ↔ Derivable (branches m) s k w
