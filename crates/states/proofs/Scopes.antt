-- The sums of the sample have few locals.
use mathlib.Core.List.{List, [], ◌∷◌}
use Prim.Native.Nat.{ℕ}
use native.Mathlib.Omega.{arith}
use Rattle.model.specs.Scope.{locals_in}
use Rattle.state.specs.Fits.{FewLocals}
use Rattle.state.proofs.Tests.{few-none, few-more}

abbrev pub sample_scopes : List ℕ
sample_scopes = 2 ∷ 16 ∷ 8 ∷ []

pub sample-few : FewLocals sample_scopes
unfolding locals_in
sample-few = few-more 2 _ (omega arith) (few-more 16 _ (omega arith) (few-more 8 [] (omega arith) few-none))
