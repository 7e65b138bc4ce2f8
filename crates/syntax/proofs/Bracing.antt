-- The returns of the reader of action and rate in their braces, over plain variables: what it answers follows from the tokens it looked at and what its callees
-- answered. From the laws of the machine.
use mathlib.Core.Path.{◌≡◌}
use mathlib.Core.List.{List, [], ◌∷◌, ◌++◌}
use mathlib.Core.Logic.{◌⊎◌, inl, inr}
use Prim.Native.Nat.{ℕ, ◌+◌}
use lib.ListN.{get_or}
use Rattle.token.specs.Kind as kind
use Rattle.grammar.specs.Machine.{Want, ChannelEnd, a_channel}
use Rattle.grammar.proofs.Alike.{checking, shaking, channel, named-channel}
use Rattle.tree.specs.Reading.{Read, Counted}
use Rattle.syntax.proofs.Deeds.{Acts, checked, shaken}
use Rattle.syntax.proofs.Braces.{Ended, bracing}
use Rattle.syntax.proofs.Lone.{Bracing}

module _ (ts t t₁ : List ℕ) (at used : ℕ) where
  module _ (t₂ : List ℕ) (read : Read) (r : Counted) where
    pub braced-check : Acts checked ts t t₁ at used read → Ended ts t₁ t₂ read r → get_or ts at 0 ≡ kind.tilde → Bracing ts t t₂ at used r
    braced-check a b e = let z = bracing checked ts t t₁ t₂ at used read r a b in (checking ts at (Want kind.close_curly ∷ []) e z.0, z.1)

    pub braced-hand : Acts shaken ts t t₁ at used read → Ended ts t₁ t₂ read r → get_or ts at 0 ≡ kind.at → Bracing ts t t₂ at used r
    braced-hand a b e = let z = bracing shaken ts t t₁ t₂ at used read r a b in (shaking ts at (Want kind.close_curly ∷ []) e z.0, z.1)

    -- one that begins with its channel: with no name, or with one that no comma follows
    pub braced-channel : Acts (a_channel ++ ChannelEnd ∷ []) ts t t₁ at used read → Ended ts t₁ t₂ read r → (get_or ts at 0 ≡ kind.tilde → ⊥) → (get_or ts at 0 ≡ kind.at → ⊥) → ((get_or ts at 0 ≡ kind.name) × (get_or ts (at + 1) 0 ≡ kind.comma → ⊥)) ⊎ (get_or ts at 0 ≡ kind.name → ⊥) → Bracing ts t t₂ at used r
    braced-channel a b x y (inl n) = let z = bracing (a_channel ++ ChannelEnd ∷ []) ts t t₁ t₂ at used read r a b in (named-channel ts at (Want kind.close_curly ∷ []) n.0 n.1 z.0, z.1)
    braced-channel a b x y (inr n) = let z = bracing (a_channel ++ ChannelEnd ∷ []) ts t t₁ t₂ at used read r a b in (channel ts at (Want kind.close_curly ∷ []) x y n z.0, z.1)
