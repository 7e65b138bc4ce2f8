-- How the opened state is written, row by row (01, Open). Definitions only.
use Rattle.std.specs.Prelude.{List, [], ◌∷◌, ℕ, ◌+◌, ◌-◌, ◌*◌, ◌≤◌, ◌<◌, ℤ, length}
use Rattle.value.specs.Range.{InRange}
use Rattle.model.specs.Limits.{local_limit}
use Rattle.model.specs.Resolved
use Rattle.model.specs.Good.{Every, GoodStart, GoodModel}
use Rattle.model.specs.Opening as opening
use Rattle.model.specs.Opening.{process_limit}
use Rattle.tables.specs.Represents.{Sums, Wholes, Start, Starts}
use Rattle.machine.specs.State.{process_width}
use Rattle.machine.specs.Machine.{copies, start_processes}
use Rattle.eval.specs.Next.{entered, Defines, Scoped}

-- 01, Open: sums stand at k, and as many rows as so many copies of them are lie from row at on
pub record CopiesFit (t known : List ℕ) (k : ℕ) (ls : List ℤ) (count size at : ℕ) : Type 0 where
  pub sums : List ℕ
  pub holds : Sums t sums k
  pub below : Every (λ (n : ℕ). n < length known) sums
  pub few : length ls ≤ local_limit
  pub fits : (at + length (copies count (entered known sums ls))) * process_width ≤ size

-- whole numbers stand at k, and as many places lie from place at on
pub record WholesFit (t : List ℕ) (k size at : ℕ) : Type 0 where
  pub values : List ℤ
  pub holds : Wholes t values k
  pub good : Every InRange values
  pub fits : at + length values ≤ size

-- the items ss of a good model's system line, of which the nodes have the definitions, and as many rows as their processes are lie from row at on
pub record Items (t known : List ℕ) (root variables : ℕ) (m : Resolved.Model) (ss : List Resolved.Start) (size at : ℕ) : Type 0 where
  pub good : GoodModel m
  pub defines : Defines t root variables m
  pub scoped : Scoped known m
  pub fit : Every (GoodStart m) ss
  pub fits : (at + length (start_processes m ss)) * process_width ≤ size

-- one item
abbrev pub only : Resolved.Start → List Resolved.Start
only s = s ∷ []

-- an item stands at k
pub record ItemFits (t known : List ℕ) (root variables k size at : ℕ) : Type 0 where
  pub model : Resolved.Model
  pub start : Resolved.Start
  pub holds : Start t start k
  pub items : Items t known root variables model (only start) size at

-- items stand at k
pub record ItemsFit (t known : List ℕ) (root variables k size at : ℕ) : Type 0 where
  pub model : Resolved.Model
  pub starts : List Resolved.Start
  pub holds : Starts t starts k
  pub items : Items t known root variables model starts size at

-- 01, Open: a good model with few enough processes at the start, of which the nodes have definitions and system line
pub record Opens (t known : List ℕ) (root variables definitions : ℕ) (m : Resolved.Model) : Type 0 where
  pub good : GoodModel m
  pub scoped : Scoped known m
  pub defines : Defines t root variables m
  pub starts : Starts t m.starts (root - variables - definitions)
  pub few : opening.processes_at_start m.definitions m.starts ≤ process_limit
