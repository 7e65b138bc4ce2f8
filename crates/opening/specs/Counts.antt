-- How many processes a model starts with, as counting in its tables finds it (01, question 10). Assumes nothing: these are definitions.
use Rattle.std.specs.Prelude.{◌≡◌, List, ℕ, ◌-◌, ◌≤◌, ◌<◌, length, get_or}
use Rattle.std.proofs.Math.Option.{some}
use Rattle.std.proofs.Math.ListN.{get_elem?}
use Rattle.tree.specs.Node.{left_of}
use Rattle.model.specs.Good.{Every}
use Rattle.model.specs.Resolved
use Rattle.model.specs.Opening.{process_limit}
use Rattle.tables.specs.Represents as tables

-- definition d stands left of node first - d, the system line at the node `line`, and every item of it starts a definition that there is
pub record Countable (t : List ℕ) (first line : ℕ) (m : Resolved.Model) : Type 0 where
  pub room : length m.definitions ≤ first
  pub definition : (d : ℕ) (e : Resolved.Defined) → get_elem? m.definitions d ≡ some e → tables.Definition t e (left_of (get_or t (first - d) 0))
  pub starts : tables.Starts t m.starts line
  pub known : Every (λ s. s.definition < length m.definitions) m.starts

-- an item of the system line in the node k
pub record ItemAt (t : List ℕ) (first : ℕ) (ds : List Resolved.Defined) (s : Resolved.Start) (k : ℕ) : Type 0 where
  pub room : length ds ≤ first
  pub definition : (d : ℕ) (e : Resolved.Defined) → get_elem? ds d ≡ some e → tables.Definition t e (left_of (get_or t (first - d) 0))
  pub item : tables.Start t s k
  pub known : s.definition < length ds

-- a number that is right up to the limit, and above the limit where the right one is
pub record Counts (r processes : ℕ) : Type 0 where
  pub few : r ≤ process_limit → r ≡ processes
  pub many : process_limit < r → process_limit < processes
