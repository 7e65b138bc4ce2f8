-- What the tables of an opened text's model hold, and what questions 2 to 10 answer (01, Opening a text). Assumes nothing: these are definitions.
use Rattle.std.specs.Prelude.{◌≡◌, List, ℕ, ◌+◌, ◌≤◌, length, Err, Ok, Result}
use Rattle.std.proofs.Math.Option.{some}
use Rattle.token.specs.declared.Refusal.{Refusal}
use Rattle.token.specs.Questions.{question_number}
use Rattle.grammar.specs.Limit.{token_limit}
use Rattle.grammar.specs.Syntax
use Rattle.model.specs.Sites.{system}
use Rattle.model.specs.Words.{word_of}
use Rattle.model.specs.Resolved
use Rattle.model.specs.Questions.{Yes5}
use Rattle.model.specs.Opening.{refused, opened, byte_place, system_token, processes_at_start, crowded, asked_of_text, opening}
use Rattle.model.specs.Held.{held}
use Rattle.tables.specs.Represents.{Represents}
use Rattle.settle.specs.declared.Model.{Model}
use Rattle.settle.specs.Settles.{Settles}
use Rattle.opening.specs.declared.SoundModel.{SoundModel}
use Rattle.opening.specs.declared.Accepted.{Accepted}
use Rattle.opening.specs.Trees.{Closed}

-- 01, Opening a text: tables with room for the sums and the channel names of every text
pub record SumRoom (roots scopes names : List ℕ) : Type 0 where
  pub roots-room : token_limit ≤ length roots
  pub scopes-room : token_limit ≤ length scopes
  pub names-room : token_limit ≤ length names

-- the tables and these numbers hold a model
abbrev pub Shown : (nodes roots scopes : List ℕ) → Model → Resolved.Model → Type 0
Shown nodes roots scopes x m = Represents nodes roots scopes x.lists.root x.lists.variables x.lists.definitions x.sums x.channels m

-- the tree is the text's, and what the tables hold is told by the text's words and its tree, whatever they held before
pub record Written (text : List ℕ) (tree : Syntax.Model) (nodes roots scopes : List ℕ) (x : Model) : Type 0 where
  pub fits : Yes5 text tree
  pub settles : Settles (word_of text) tree nodes roots scopes x

-- its variables and definitions stand in the nodes from the root down, and the system line below them
abbrev pub Rooted : Model → Type 0
Rooted x = x.lists.variables + x.lists.definitions ≤ x.lists.root

-- 01, after question 9: the text holds a model, which the tables hold too, and 10 is asked of it, with the place p of the system line
pub record ModelHeld (text nodes roots scopes : List ℕ) (x : Model) (p : ℕ) : Type 0 where
  pub tree : Syntax.Model
  pub model : Resolved.Model
  pub holds : held text ≡ some model
  pub worded : model.words ≡ word_of text
  pub opens : opening text ≡ asked_of_text text 10 (crowded tree model) (opened model)
  pub shown : Shown nodes roots scopes x model
  pub written : Written text tree nodes roots scopes x
  pub rooted : Rooted x
  pub place_is : p ≡ byte_place text (system_token (system tree))

-- the model and the place of the system line, or the first no to 2 to 9
abbrev pub Held : Type 0
Held = Result SoundModel Refusal

-- 01, Opening a text, 2 to 9: the first no with its place, or the model
unfoldable pub ModelRead : (text nodes roots scopes : List ℕ) → Held → Type 0
ModelRead text nodes roots scopes (Err r) = Closed text (question_number r.question) r.place
ModelRead text nodes roots scopes (Ok f) = ModelHeld text nodes roots scopes f.model f.place

-- 01, all questions have the answer yes: the tables hold the opened model, which starts with k processes
pub record ModelOpened (text nodes roots scopes : List ℕ) (x : Model) (k : ℕ) : Type 0 where
  pub tree : Syntax.Model
  pub model : Resolved.Model
  pub opens : opening text ≡ opened model
  pub shown : Shown nodes roots scopes x model
  pub written : Written text tree nodes roots scopes x
  pub count-is : k ≡ processes_at_start model.definitions model.starts

-- the model and the number of processes at the start, or the first no
abbrev pub Opened : Type 0
Opened = Result Accepted Refusal

-- 01, Opening a text, 2 to 10: the first no with its place, or the model
unfoldable pub Opens : (text nodes roots scopes : List ℕ) → Opened → Type 0
Opens text nodes roots scopes (Err r) = opening text ≡ refused (question_number r.question) r.place
Opens text nodes roots scopes (Ok o) = ModelOpened text nodes roots scopes o.model o.processes
