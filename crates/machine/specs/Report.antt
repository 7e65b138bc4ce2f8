-- The report (02, note 6): the shares of a listing's total by definition. Assumes nothing: these are definitions.
use Rattle.std.specs.Prelude.{List, ◌++◌, ℕ, ◌-◌, length, replicate}
use Rattle.std.proofs.Math.Option.{Option-elim}
use Rattle.std.proofs.Math.ListN.{get_elem?}
use Rattle.model.specs.Limits.{definition_limit}
use Rattle.model.specs.Resolved
use Rattle.rules.specs.Listing.{Entry, key_of}
use Rattle.rules.specs.Subtotals.{actor, subtotals}
use Rattle.machine.specs.State.{State}

-- 02, note 6: a number for each of the definitions that a text may have, 64
abbrev pub report_length : ℕ
report_length = definition_limit

-- 02, note 6: the definition of the process that an entry counts for; of a handshake the sender
unfoldable pub definition_at : State → Entry → ℕ
definition_at s e = Option-elim (get_elem? s.processes (actor (key_of e))) 0 (λ p. p.definition)

-- 02, note 6: one weight sum for each definition, then zeros
unfoldable pub report_of : Resolved.Model → State → List Entry → List ℕ
report_of m s es = subtotals (definition_at s) es 0 (length m.definitions) ++ replicate (report_length - length m.definitions) 0
