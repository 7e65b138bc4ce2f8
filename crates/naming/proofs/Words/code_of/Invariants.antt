-- The loop's invariant: the first i names are others.
use Rattle.std.proofs.Common.{List, ℕ}
use Rattle.tables.specs.Spelled.{Spells}
use Rattle.naming.proofs.Codes.{Others}
use Rattle.naming.proofs.Words.code_of.Given as goal

abbrev pub invariant-loop-i : goal.invariant-loop-i
invariant-loop-i l = (w : ℕ → List ℕ) → Spells w l.self.text.now l.self.places.now l.self.sizes.now → Others w l.name l.names l.i
