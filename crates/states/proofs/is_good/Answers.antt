-- Numbers that pass the test over the sample have passed.
use mathlib.Core.Path.{sym, ◌∙◌}
use borrow.Author.Rules.{rules}
use Rattle.states.proofs.Scopes.{sample_scopes, sample-few}
use Rattle.states.proofs.is_good.Goals as goal

pub invariant_of-shape : goal.invariant_of-shape
invariant_of-shape c =
    record { few = sample-few }

pub returns : goal.returns
returns c =
    λ e. record { scopes = sample_scopes; channels = 2; few = sample-few; long = search rules; passes = sym c.is_state.ensures ∙ e }
