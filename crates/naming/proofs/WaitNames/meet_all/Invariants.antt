-- The loop's invariant: names and numbers of the first k tokens.
use Rattle.std.proofs.Common.{List, ℕ, ◌≤◌}
use Rattle.tables.specs.Spelled.{Spells}
use Rattle.naming.specs.Marks.{Found}
use Rattle.naming.proofs.WaitNames.meet_all.Given as goal

abbrev pub invariant-loop-k : goal.invariant-loop-k
invariant-loop-k l = record {
  found : (w : ℕ → List ℕ) → Spells w l.words.text.now l.words.places.now l.words.sizes.now → Found w l.marks l.self.tokens l.self.numbers l.self.count l.k;
  few : l.self.count ≤ l.k;
}
