-- The parts of a sum's number are its locals and its definition (Scope): by arithmetic.
use mathlib.Core.Path.{◌≡◌}
use Prim.Native.Nat.{ℕ, ◌≤◌, ◌<◌}
use native.Mathlib.Omega.{arith}
use Rattle.model.specs.Limits.{local_limit, definition_limit}
use Rattle.model.specs.Resolved.{Sum}
use Rattle.model.specs.Scope.{scope_of, locals_in, definition_in}

pub locals-in : (s : Sum) → s.locals ≤ local_limit → locals_in (scope_of s) ≡ s.locals
unfolding locals_in scope_of
locals-in s h = omega arith

pub definition-in : (s : Sum) → s.locals ≤ local_limit → definition_in (scope_of s) ≡ s.definition
unfolding definition_in scope_of
definition-in s h = omega arith

pub no-locals : locals_in 0 ≤ local_limit
unfolding locals_in
no-locals = omega arith

-- it fits 16 bits, as do its parts
pub scope-small : (s : Sum) → s.locals ≤ local_limit → s.definition < definition_limit → scope_of s < 1024
unfolding scope_of
scope-small s h d = omega arith

pub definition-small : (k : ℕ) → definition_in k ≤ k
unfolding definition_in
definition-small k = omega arith
