-- Questions 2 to 10 in order (01, Opening a text), each with what a yes and a no mean, said by faults and not by the walk that finds them.
-- proofs/Answered.antt shows that Opening.antt answers just so. Assumes nothing: these are definitions.
use Rattle.std.specs.Prelude.{◌≡◌, List, ℕ, ◌≤◌, ◌<◌, length, Some}
use Rattle.token.specs.Token.{tokens, kinds_of}
use Rattle.token.specs.Questions.{text_limit, ByteFault, DepthFault, First}
use Rattle.grammar.specs.Grammar.{Reads}
use Rattle.grammar.specs.Grammar as derived
use Rattle.grammar.specs.Fitting.{Misfits}
use Rattle.grammar.specs.Syntax
use Rattle.grammar.specs.Syntax.{syntax_of}
use Rattle.model.specs.Sites.{system}
use Rattle.model.specs.Words.{word_of}
use Rattle.model.specs.Faults.{Beyond, NotNew, NotGiven}
use Rattle.model.specs.Resolved.{resolved}
use Rattle.grammar.specs.Limit.{token_limit}
use Rattle.model.specs.Opening.{process_limit, Opening, refused, opened, byte_place, processes_at_start, system_token}

-- ---- yes; s: the text's syntax tree

abbrev pub Yes2 : List ℕ → Type 0
Yes2 text = length text ≤ text_limit

abbrev pub Yes3 : List ℕ → Type 0
Yes3 text = (p : ℕ) → ByteFault text p → ⊥

abbrev pub Yes4 : List ℕ → Type 0
Yes4 text = (p : ℕ) → DepthFault text p → ⊥

-- the text fits the grammar, with a reading whose syntax tree is s
pub record Yes5 (text : List ℕ) (s : Syntax.Model) : Type 0 where
  pub reading : derived.Model
  pub reads : Reads (kinds_of (tokens text)) reading
  pub tree : syntax_of reading ≡ s

abbrev pub Yes6 : List ℕ → Type 0
Yes6 text = length (tokens text) ≤ token_limit

abbrev pub Yes7 : List ℕ → Syntax.Model → Type 0
Yes7 text s = (k : ℕ) → Beyond text s k → ⊥

abbrev pub Yes8 : List ℕ → Syntax.Model → Type 0
Yes8 text s = (k : ℕ) → NotNew (word_of text) s k → ⊥

abbrev pub Yes9 : List ℕ → Syntax.Model → Type 0
Yes9 text s = (k : ℕ) → NotGiven (word_of text) s k → ⊥

-- how many processes the text starts with
abbrev pub processes : List ℕ → Syntax.Model → ℕ
processes text s = processes_at_start (resolved (word_of text) s).definitions (resolved (word_of text) s).starts

abbrev pub Yes10 : List ℕ → Syntax.Model → Type 0
Yes10 text s = processes text s ≤ process_limit

-- ---- the first no, with its place, or yes to all

pub data Answers (text : List ℕ) : Opening → Type 0 where
  no2 : text_limit < length text → Answers text (refused 2 text_limit)
  no3 : {p : ℕ} → Yes2 text → First (ByteFault text) (Some p) → Answers text (refused 3 p)
  no4 : {p : ℕ} → Yes2 text → Yes3 text → First (DepthFault text) (Some p) → Answers text (refused 4 p)
  no5 : {k : ℕ} → Yes2 text → Yes3 text → Yes4 text → Misfits text k → Answers text (refused 5 (byte_place text k))
  no6 : {s : Syntax.Model} → Yes2 text → Yes3 text → Yes4 text → Yes5 text s → token_limit < length (tokens text) → Answers text (refused 6 (byte_place text token_limit))
  no7 : {s : Syntax.Model} {k : ℕ} → Yes2 text → Yes3 text → Yes4 text → Yes5 text s → Yes6 text
      → First (Beyond text s) (Some k) → Answers text (refused 7 (byte_place text k))
  no8 : {s : Syntax.Model} {k : ℕ} → Yes2 text → Yes3 text → Yes4 text → Yes5 text s → Yes6 text → Yes7 text s
      → First (NotNew (word_of text) s) (Some k) → Answers text (refused 8 (byte_place text k))
  no9 : {s : Syntax.Model} {k : ℕ} → Yes2 text → Yes3 text → Yes4 text → Yes5 text s → Yes6 text → Yes7 text s → Yes8 text s
      → First (NotGiven (word_of text) s) (Some k) → Answers text (refused 9 (byte_place text k))
  no10 : {s : Syntax.Model} → Yes2 text → Yes3 text → Yes4 text → Yes5 text s → Yes6 text → Yes7 text s → Yes8 text s → Yes9 text s
      → process_limit < processes text s → Answers text (refused 10 (byte_place text (system_token (system s))))
  yes_to_all : {s : Syntax.Model} → Yes2 text → Yes3 text → Yes4 text → Yes5 text s → Yes6 text → Yes7 text s → Yes8 text s → Yes9 text s → Yes10 text s
      → Answers text (opened (resolved (word_of text) s))
