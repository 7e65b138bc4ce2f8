use Rattle.tree.specs.Node.{third_of}
use Rattle.settle.proofs.Turns.{action-room, after-action, ending-inside, ending-few, after-ending, after-sum, after-definition, after_none}
use mathlib.Core.Path.{refl, ap, sym, ◌∙◌}
use Prim.Native.Nat.{ℕ}
use native.Mathlib.Omega.{arith}
use lib.ListN.{get_or}
use Rattle.settle.proofs.walk_after.Goals as goal

pub with_locals-scope-requires : goal.with_locals-scope-requires
with_locals-scope-requires c =
    rw (c.token_of.ensures, c.third_of.ensures) (action-room c.requires.2 (omega (arith, c.kind_of.ensures)) (omega (arith, c.kind_of.ensures)))

pub returns-in-36-to-44 : goal.returns-in-36-to-44
returns-in-36-to-44 c =
    λ x m h n. after-action h (omega (arith, c.kind_of.ensures)) (omega (arith, c.kind_of.ensures)) c.with_locals-scope.result _ (rw (c.token_of.ensures, c.third_of.ensures) at c.with_locals-scope.ensures) refl refl refl

pub offset_bounds-parsed-left_of : goal.offset_bounds-parsed-left_of
offset_bounds-parsed-left_of c =
    omega (arith, c.left_of.ensures, ending-inside c.requires.2 (omega (arith, c.kind_of.ensures)) (omega (arith, c.kind_of.ensures)))

pub bounds-parsed-left_of : goal.bounds-parsed-left_of
bounds-parsed-left_of c =
    rw c.left_of.ensures (ending-inside c.requires.2 (omega (arith, c.kind_of.ensures)) (omega (arith, c.kind_of.ensures)))

pub overflow_sub-scope : goal.overflow_sub-scope
overflow_sub-scope c =
    ending-few c.requires.2 (omega (arith, c.kind_of.ensures)) (omega (arith, c.kind_of.ensures)) c.third_of-n.result (c.third_of-n.ensures ∙ ap (λ (i : ℕ). third_of (get_or c.args.parsed.nodes.now i 0)) c.left_of.ensures)

pub returns-in-45 : goal.returns-in-45
returns-in-45 c =
    λ x m h n. after-ending h (omega (arith, c.kind_of.ensures)) (omega (arith, c.kind_of.ensures)) c.third_of-n.result (c.third_of-n.ensures ∙ ap (λ (i : ℕ). third_of (get_or c.args.parsed.nodes.now i 0)) c.left_of.ensures) _ _ refl refl refl refl refl

pub returns-in-49 : goal.returns-in-49
returns-in-49 c =
    λ x m h n. after-sum h _ (sym c.kind_of.ensures ∙ c.in-49.is) refl refl refl

pub returns-in-56 : goal.returns-in-56
returns-in-56 c =
    λ x m h n. after-definition h _ (sym c.kind_of.ensures ∙ c.in-56.is) (c.parameters_of-scope.ensures h.at) refl refl

pub returns-in_default : goal.returns-in_default
returns-in_default c =
    λ x m h n. after_none h n (λ l u. omega (arith, c.kind_of.ensures)) (λ l u. omega (arith, c.kind_of.ensures)) (λ e. omega (arith, c.kind_of.ensures)) (λ e. omega (arith, c.kind_of.ensures))

pub returns-in_default-2 : goal.returns-in_default-2
returns-in_default-2 c =
    λ x m h n. after_none h n (λ l u. omega (arith, c.kind_of.ensures)) (λ l u. omega (arith, c.kind_of.ensures)) (λ e. omega (arith, c.kind_of.ensures)) (λ e. omega (arith, c.kind_of.ensures))
