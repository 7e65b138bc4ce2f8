use Rattle.tree.specs.Node.{token_of, third_of, left_of}
use Rattle.settle.proofs.Parameters.{no-parameters, parameters-inside, parameters-room, with-parameters}
use mathlib.Core.Path.{refl, ap}
use Prim.Native.Nat.{ℕ, ◌-◌}
use native.Mathlib.Omega.{arith}
use lib.ListN.{get_or}
use Rattle.settle.proofs.parameters_of.Goals as goal

pub returns-then-lists-d : goal.returns-then-lists-d
returns-then-lists-d c =
    λ h. no-parameters h c.args.d _ (omega arith) c.no_locals-none.ensures.0 c.no_locals-none.ensures.1

pub overflow_sub-at : goal.overflow_sub-at
overflow_sub-at c =
    omega (arith, (parameters-inside c.requires c.args.d (omega arith)).0)

pub overflow_sub-at-2 : goal.overflow_sub-at-2
overflow_sub-at-2 c =
    omega (arith, (parameters-inside c.requires c.args.d (omega arith)).1)

pub bounds-parsed-at : goal.bounds-parsed-at
bounds-parsed-at c =
    (parameters-inside c.requires c.args.d (omega arith)).2

pub offset_bounds-parsed-left_of : goal.offset_bounds-parsed-left_of
offset_bounds-parsed-left_of c =
    omega (arith, c.left_of.ensures, (parameters-inside c.requires c.args.d (omega arith)).3)

pub bounds-parsed-left_of : goal.bounds-parsed-left_of
bounds-parsed-left_of c =
    rw c.left_of.ensures (parameters-inside c.requires c.args.d (omega arith)).3

pub overflow_add-token_of : goal.overflow_add-token_of
overflow_add-token_of c =
    omega (arith, c.token_of.ensures, ap (λ (i : ℕ). token_of (get_or c.args.parsed.nodes.now i 0)) c.left_of.ensures, parameters-room c.requires c.args.d (omega arith) (get_or c.args.parsed.nodes.now (left_of (get_or c.args.parsed.nodes.now (c.args.parsed.lists.root - c.args.parsed.lists.variables - c.args.d) 0)) 0) refl)

pub with_locals-requires : goal.with_locals-requires
with_locals-requires c =
    omega (arith, c.token_of.ensures, c.third_of.ensures, ap (λ (i : ℕ). token_of (get_or c.args.parsed.nodes.now i 0)) c.left_of.ensures, ap (λ (i : ℕ). third_of (get_or c.args.parsed.nodes.now i 0)) c.left_of.ensures, parameters-room c.requires c.args.d (omega arith) (get_or c.args.parsed.nodes.now (left_of (get_or c.args.parsed.nodes.now (c.args.parsed.lists.root - c.args.parsed.lists.variables - c.args.d) 0)) 0) refl)

pub returns : goal.returns
returns c =
    λ h. with-parameters h c.args.d (omega arith) (get_or c.args.parsed.nodes.now (left_of (get_or c.args.parsed.nodes.now (c.args.parsed.lists.root - c.args.parsed.lists.variables - c.args.d) 0)) 0) refl _ _ c.no_locals-none.ensures.1 (rw (c.token_of.ensures, c.third_of.ensures, c.left_of.ensures) at c.with_locals.ensures)
