-- A name stands for a channel exactly where it is neither a local nor a whole variable. By cases of its meaning.
use mathlib.Core.Path.{◌≡◌, refl, sym, ◌∙◌}
use mathlib.Core.List.{List}
use mathlib.Core.Bool.{Bool, true, false, not}
use mathlib.Core.Logic.{◌↔◌}
use Prim.Native.Nat.{ℕ}
use Rattle.grammar.specs.Syntax
use Rattle.model.specs.Sites.{Scope, variables}
use Rattle.model.specs.Given.{Meaning, local, variable, nothing, is_value, meaning}
use Rattle.model.specs.Resolved.{is_channel_name}
use Rattle.model.specs.Faults.{NotNew, Among, WholeVariableIn}
use Rattle.model.proofs.Members.{not-both}
use Rattle.model.proofs.Meanings.{means}
use Rattle.model.proofs.Ungiven.{not-value, no_value_lem}

opposite : (o : Meaning) → is_channel_name o ≡ not (is_value o)
unfolding is_channel_name is_value
opposite (local i) = refl
opposite (variable (Syntax.number b true k)) = refl
opposite (variable (Syntax.number b false k)) = refl
opposite nothing = refl

flip : (b : Bool) → not b ≡ true → b ≡ false
flip true e = not-both refl (sym e)
flip false e = refl

flop : (b : Bool) → b ≡ false → not b ≡ true
flop true e = sym e
flop false e = refl

module _ (w : ℕ → List ℕ) (m : Syntax.Model) (new : (k : ℕ) → NotNew w m k → ⊥) where
  pub channel-name : (sc : Scope) (k : ℕ) → (is_channel_name (meaning w (variables m) sc k) ≡ true) ↔ ((Among w sc k → ⊥) × (WholeVariableIn w m k → ⊥))
  channel-name sc k = (
    λ e. not-value w m new sc k _ (means w k (variables m) sc) (flip _ (sym (opposite _) ∙ e)),
    λ h. opposite _ ∙ flop _ (no_value_lem w m new sc k _ (means w k (variables m) sc) h.0 h.1),
  )
