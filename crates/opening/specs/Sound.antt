-- What questions 7 to 9 answer of a text that fits (01, Opening a text), and the tree that they let through. Assumes nothing: these are definitions.
use Rattle.std.specs.Prelude.{◌≡◌, List, ℕ, None, Err, Ok, Result}
use Rattle.token.specs.declared.Content.{Content}
use Rattle.token.specs.declared.Refusal.{Refusal}
use Rattle.token.specs.Questions.{question_number}
use Rattle.grammar.specs.Syntax
use Rattle.model.specs.Lists.{least}
use Rattle.model.specs.Sites.{system}
use Rattle.model.specs.Words.{word_of}
use Rattle.model.specs.Limits.{beyond}
use Rattle.model.specs.Fresh.{not_new}
use Rattle.model.specs.Given.{not_given}
use Rattle.model.specs.Opening.{byte_place, system_token}
use Rattle.opening.specs.Trees.{Closed, FittedIn}
use Rattle.opening.specs.declared.SoundTree.{SoundTree}

-- 01, 7 to 9: all have the answer yes
pub record Sound (text : List ℕ) (s : Syntax.Model) : Type 0 where
  pub within : least (beyond text s) ≡ None
  pub new : least (not_new (word_of text) s) ≡ None
  pub given : least (not_given (word_of text) s) ≡ None

-- the place of the system line, or the first no to 7 to 9
abbrev pub Named : Type 0
Named = Result ℕ Refusal

-- 01, 7 to 9 of a text with the syntax tree s: the first no with its place; or none, and the place of the system line
unfoldable pub NamesJudged : List ℕ → Syntax.Model → Named → Type 0
NamesJudged text s (Err r) = Closed text (question_number r.question) r.place
NamesJudged text s (Ok p) = Sound text s × (p ≡ byte_place text (system_token (system s)))

-- 01, after question 9: the text fits and is sound, the tables hold its tokens and its tree, and its system line begins at the tree's place
pub record SoundHeld (text : List ℕ) (s : Syntax.Model) (kinds places : List ℕ) (contents : List Content) (nodes : List ℕ) (t : SoundTree) : Type 0 where
  pub fitted : FittedIn text s kinds places contents nodes t.tree.root t.tree.tokens
  pub sound : Sound text s
  pub place-is : t.place ≡ byte_place text (system_token (system s))

-- the tree, or the first no to 2 to 9
abbrev pub SoundOr : Type 0
SoundOr = Result SoundTree Refusal

-- 01, Opening a text, 2 to 9: the first no with its place, or the text's tree
unfoldable pub SoundRead : (text kinds places : List ℕ) → List Content → (nodes : List ℕ) → SoundOr → Type 0
SoundRead text kinds places contents nodes (Err r) = Closed text (question_number r.question) r.place
SoundRead text kinds places contents nodes (Ok t) = (s : Syntax.Model) × SoundHeld text s kinds places contents nodes t
