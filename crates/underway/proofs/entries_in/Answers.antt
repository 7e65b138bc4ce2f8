-- One number after the other: far out, or the next entry.
use mathlib.Core.Path.{refl, sym, ap, ◌∙◌}
use mathlib.Core.List.{List}
use Prim.Native.Nat.{ℕ, ◌+◌}
use native.Mathlib.Omega.{arith}
use lib.IntN.{pos, nat_abs}
use lib.ListN.{get_or, set}
use Rattle.std.specs.Prelude.{Some}
use Rattle.value.proofs.Kit.{back}
use Rattle.state.proofs.Tests.{refused, passed}
use Rattle.underway.proofs.Entries.{entry-fits, read-more, left-more, far-out, read-whole}
use Rattle.underway.proofs.entries_in.Goals as goal

pub loop-i-init : goal.loop-i-init
loop-i-init c = (refl, refl)

pub returns-then-not-is_below : goal.returns-then-not-is_below
returns-then-not-is_below c =
    far-out c.args.search.now c.requires c.loop-i.i c.loop-i-test.true (rw (back (get_or c.args.search.now (5 + c.loop-i.i) (pos 0)) c.entry-1.given) at (sym c.is_below.ensures) ∙ refused c.is_below.result c.if-not-is_below.true-raw) c.loop-i.invariant.1

pub overflow_cast-run : goal.overflow_cast-run
overflow_cast-run c = rw (back (get_or c.args.search.now (5 + c.loop-i.i) (pos 0)) c.entry-1.given) (entry-fits (get_or c.args.search.now (5 + c.loop-i.i) (pos 0)) (rw (back (get_or c.args.search.now (5 + c.loop-i.i) (pos 0)) c.entry-1.given) at (sym c.is_below.ensures) ∙ passed c.is_below.result c.if-not-is_below.false-raw))

pub loop-i-preserved : goal.loop-i-preserved
loop-i-preserved c =
    let i = c.loop-i.i in (
      rw (back (get_or c.args.search.now (5 + c.loop-i.i) (pos 0)) c.entry-1.given) (ap (λ (xs : List ℕ). set xs i (nat_abs (get_or c.args.search.now (5 + c.loop-i.i) (pos 0)))) c.loop-i.invariant.0 ∙ read-more c.args.search.now c.requires i c.loop-i-test.true),
      left-more c.args.search.now c.requires i c.loop-i-test.true (rw (back (get_or c.args.search.now (5 + c.loop-i.i) (pos 0)) c.entry-1.given) at (sym c.is_below.ensures) ∙ passed c.is_below.result c.if-not-is_below.false-raw) c.loop-i.invariant.1,
    )

pub returns : goal.returns
returns c =
    ap Some c.loop-i.invariant.0 ∙ read-whole c.args.search.now c.requires c.loop-i.i (omega arith) c.loop-i.invariant.1
