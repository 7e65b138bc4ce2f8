-- Each return is a case of `is_process`, from what the calls ensure.
use mathlib.Core.Path.{◌≡◌, sym, ap, ap₂, ◌∙◌}
use Prim.Native.Nat.{ℕ, ◌+◌}
use native.Mathlib.Omega.{arith}
use lib.IntN.{ℤ, pos, nat_abs}
use lib.ListN.{length, get_or, take, drop, length-take, length-drop}
use Rattle.model.specs.Scope.{locals_in, definition_in}
use Rattle.model.specs.Limits.{local_limit}
use Rattle.value.proofs.Kit.{back, ok-fits}
use Rattle.value.specs.Arithmetic.{is_same}
use Rattle.state.specs.Test.{is_padded}
use Rattle.state.proofs.Tests.{refused, passed, below-fits, below-bound, process-fails, process-unpadded, process-rest, few-locals}
use Rattle.state.proofs.is_process.Goals as goal

pub returns-then-not-is_below : goal.returns-then-not-is_below
returns-then-not-is_below c =
    sym (process-fails c.args.shape.scopes.now c.args.row.now (rw (back (get_or c.args.row.now 0 (pos 0)) c.z-1.given) at (sym c.is_below.ensures) ∙ refused c.is_below.result c.if-not-is_below.true-raw))

pub overflow_cast-sum : goal.overflow_cast-sum
overflow_cast-sum c =
    rw (back (get_or c.args.row.now 0 (pos 0)) c.z-1.given) (below-fits (length c.args.shape.scopes.now) (get_or c.args.row.now 0 (pos 0)) (ok-fits (get_or c.args.row.now 0 (pos 0)) c.z-1.given) (rw (back (get_or c.args.row.now 0 (pos 0)) c.z-1.given) at (sym c.is_below.ensures) ∙ passed c.is_below.result c.if-not-is_below.false-raw))

pub offset_bounds-shape-sum : goal.offset_bounds-shape-sum
offset_bounds-shape-sum c =
    rw (back (get_or c.args.row.now 0 (pos 0)) c.z-1.given) (omega (arith, below-bound (length c.args.shape.scopes.now) (get_or c.args.row.now 0 (pos 0)) (rw (back (get_or c.args.row.now 0 (pos 0)) c.z-1.given) at (sym c.is_below.ensures) ∙ passed c.is_below.result c.if-not-is_below.false-raw)))

pub bounds-shape-sum : goal.bounds-shape-sum
bounds-shape-sum c =
    rw (back (get_or c.args.row.now 0 (pos 0)) c.z-1.given) (omega (arith, below-bound (length c.args.shape.scopes.now) (get_or c.args.row.now 0 (pos 0)) (rw (back (get_or c.args.row.now 0 (pos 0)) c.z-1.given) at (sym c.is_below.ensures) ∙ passed c.is_below.result c.if-not-is_below.false-raw)))

pub is_padded-requires : goal.is_padded-requires
is_padded-requires c =
    let w : c.locals_in.result ≡ locals_in (get_or c.args.shape.scopes.now (nat_abs (get_or c.args.row.now 0 (pos 0))) 0) = rw (back (get_or c.args.row.now 0 (pos 0)) c.z-1.given) at c.locals_in.ensures in
    simp (length-take, length-drop) (omega (arith, w, few-locals c.args.shape.scopes.now (nat_abs (get_or c.args.row.now 0 (pos 0))) c.args.shape.few (below-bound (length c.args.shape.scopes.now) (get_or c.args.row.now 0 (pos 0)) (rw (back (get_or c.args.row.now 0 (pos 0)) c.z-1.given) at (sym c.is_below.ensures) ∙ passed c.is_below.result c.if-not-is_below.false-raw))))

pub returns-then-not-is_padded : goal.returns-then-not-is_padded
returns-then-not-is_padded c =
    let w : c.locals_in.result ≡ locals_in (get_or c.args.shape.scopes.now (nat_abs (get_or c.args.row.now 0 (pos 0))) 0) = rw (back (get_or c.args.row.now 0 (pos 0)) c.z-1.given) at c.locals_in.ensures in
    sym (process-unpadded c.args.shape.scopes.now c.args.row.now (rw (back (get_or c.args.row.now 0 (pos 0)) c.z-1.given) at (sym c.is_below.ensures) ∙ passed c.is_below.result c.if-not-is_below.false-raw) (sym (ap (λ (k : ℕ). is_padded k (take local_limit (drop 1 c.args.row.now))) w) ∙ sym c.is_padded.ensures ∙ refused c.is_padded.result c.if-not-is_padded.true-raw))

pub returns : goal.returns
returns c =
    let w : c.locals_in.result ≡ locals_in (get_or c.args.shape.scopes.now (nat_abs (get_or c.args.row.now 0 (pos 0))) 0) = rw (back (get_or c.args.row.now 0 (pos 0)) c.z-1.given) at c.locals_in.ensures in
    let v : c.definition_in.result ≡ definition_in (get_or c.args.shape.scopes.now (nat_abs (get_or c.args.row.now 0 (pos 0))) 0) = rw (back (get_or c.args.row.now 0 (pos 0)) c.z-1.given) at c.definition_in.ensures.0 in
    c.is_number.ensures ∙ ap₂ (λ (y : ℤ) (k : ℕ). is_same y (pos k)) (back (get_or c.args.row.now (1 + local_limit) (pos 0)) c.is_number-arg-1.given) v ∙ sym (process-rest c.args.shape.scopes.now c.args.row.now (rw (back (get_or c.args.row.now 0 (pos 0)) c.z-1.given) at (sym c.is_below.ensures) ∙ passed c.is_below.result c.if-not-is_below.false-raw) (sym (ap (λ (k : ℕ). is_padded k (take local_limit (drop 1 c.args.row.now))) w) ∙ sym c.is_padded.ensures ∙ passed c.is_padded.result c.if-not-is_padded.false-raw))
