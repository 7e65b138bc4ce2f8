-- Each return is a case of `is_head`, from what the calls ensure of each number.
use mathlib.Core.Path.{sym, ◌∙◌}
use Prim.Native.Nat.{◌+◌}
use lib.IntN.{pos, nat_abs}
use lib.ListN.{get_or}
use Rattle.value.proofs.Kit.{back, ok-fits}
use Rattle.state.proofs.Tests.{refused, passed, below-fits}
use Rattle.underway.proofs.Head.{no_depth, no_wait, no_count, no_flag, too_long, head-rest, head-may, head-not, run-there}
use Rattle.underway.proofs.is_head.Goals as goal

pub returns-then-not-is_below : goal.returns-then-not-is_below
returns-then-not-is_below c =
    sym (no_depth c.args.waits c.args.search.now (rw (back (get_or c.args.search.now 0 (pos 0)) c.depth-1.given) at (sym c.is_below.ensures) ∙ refused c.is_below.result c.if-not-is_below.true-raw))

pub returns-then-not-is_below-2 : goal.returns-then-not-is_below-2
returns-then-not-is_below-2 c =
    sym (no_wait c.args.waits c.args.search.now (rw (back (get_or c.args.search.now 0 (pos 0)) c.depth-1.given) at (sym c.is_below.ensures) ∙ passed c.is_below.result c.if-not-is_below.false-raw) (rw (back (get_or c.args.search.now 1 (pos 0)) c.wait-1.given) at (sym c.is_below-2.ensures) ∙ refused c.is_below-2.result c.if-not-is_below-2.true-raw))

pub returns-then-not-is_below-3 : goal.returns-then-not-is_below-3
returns-then-not-is_below-3 c =
    sym (no_count c.args.waits c.args.search.now (rw (back (get_or c.args.search.now 0 (pos 0)) c.depth-1.given) at (sym c.is_below.ensures) ∙ passed c.is_below.result c.if-not-is_below.false-raw) (rw (back (get_or c.args.search.now 1 (pos 0)) c.wait-1.given) at (sym c.is_below-2.ensures) ∙ passed c.is_below-2.result c.if-not-is_below-2.false-raw) (rw (back (get_or c.args.search.now 2 (pos 0)) c.count-1.given) at (sym c.is_below-3.ensures) ∙ refused c.is_below-3.result c.if-not-is_below-3.true-raw))

pub returns-then-not-is_below-4 : goal.returns-then-not-is_below-4
returns-then-not-is_below-4 c =
    sym (no_flag c.args.waits c.args.search.now (rw (back (get_or c.args.search.now 0 (pos 0)) c.depth-1.given) at (sym c.is_below.ensures) ∙ passed c.is_below.result c.if-not-is_below.false-raw) (rw (back (get_or c.args.search.now 1 (pos 0)) c.wait-1.given) at (sym c.is_below-2.ensures) ∙ passed c.is_below-2.result c.if-not-is_below-2.false-raw) (rw (back (get_or c.args.search.now 2 (pos 0)) c.count-1.given) at (sym c.is_below-3.ensures) ∙ passed c.is_below-3.result c.if-not-is_below-3.false-raw) (rw (back (get_or c.args.search.now 3 (pos 0)) c.met-1.given) at (sym c.is_below-4.ensures) ∙ refused c.is_below-4.result c.if-not-is_below-4.true-raw))

pub overflow_cast-depth : goal.overflow_cast-depth
overflow_cast-depth c =
    rw (back (get_or c.args.search.now 0 (pos 0)) c.depth-1.given) (below-fits 9 (get_or c.args.search.now 0 (pos 0)) (ok-fits (get_or c.args.search.now 0 (pos 0)) c.depth-1.given) (rw (back (get_or c.args.search.now 0 (pos 0)) c.depth-1.given) at (sym c.is_below.ensures) ∙ passed c.is_below.result c.if-not-is_below.false-raw))

pub returns-then-not-is_below-5 : goal.returns-then-not-is_below-5
returns-then-not-is_below-5 c =
    sym (too_long c.args.waits c.args.search.now (rw (back (get_or c.args.search.now 0 (pos 0)) c.depth-1.given) at (sym c.is_below.ensures) ∙ passed c.is_below.result c.if-not-is_below.false-raw) (rw (back (get_or c.args.search.now 1 (pos 0)) c.wait-1.given) at (sym c.is_below-2.ensures) ∙ passed c.is_below-2.result c.if-not-is_below-2.false-raw) (rw (back (get_or c.args.search.now 2 (pos 0)) c.count-1.given) at (sym c.is_below-3.ensures) ∙ passed c.is_below-3.result c.if-not-is_below-3.false-raw) (rw (back (get_or c.args.search.now 3 (pos 0)) c.met-1.given) at (sym c.is_below-4.ensures) ∙ passed c.is_below-4.result c.if-not-is_below-4.false-raw) (rw (back (get_or c.args.search.now 4 (pos 0)) c.entries-1.given, back (get_or c.args.search.now 0 (pos 0)) c.depth-1.given) at (sym c.is_below-5.ensures) ∙ refused c.is_below-5.result c.if-not-is_below-5.true-raw))

pub overflow_cast-entries : goal.overflow_cast-entries
overflow_cast-entries c =
    rw (back (get_or c.args.search.now 4 (pos 0)) c.entries-1.given) (below-fits (nat_abs (get_or c.args.search.now 0 (pos 0)) + 1) (get_or c.args.search.now 4 (pos 0)) (ok-fits (get_or c.args.search.now 4 (pos 0)) c.entries-1.given) (rw (back (get_or c.args.search.now 4 (pos 0)) c.entries-1.given, back (get_or c.args.search.now 0 (pos 0)) c.depth-1.given) at (sym c.is_below-5.ensures) ∙ passed c.is_below-5.result c.if-not-is_below-5.false-raw))

pub is_entries-requires : goal.is_entries-requires
is_entries-requires c =
    rw (back (get_or c.args.search.now 4 (pos 0)) c.entries-1.given) (run-there c.args.waits c.args.search.now (rw (back (get_or c.args.search.now 0 (pos 0)) c.depth-1.given) at (sym c.is_below.ensures) ∙ passed c.is_below.result c.if-not-is_below.false-raw) (rw (back (get_or c.args.search.now 4 (pos 0)) c.entries-1.given, back (get_or c.args.search.now 0 (pos 0)) c.depth-1.given) at (sym c.is_below-5.ensures) ∙ passed c.is_below-5.result c.if-not-is_below-5.false-raw) c.requires.0)

pub returns-then-may_have : goal.returns-then-may_have
returns-then-may_have c =
    rw (back (get_or c.args.search.now 4 (pos 0)) c.entries-1.given) at c.is_entries.ensures ∙ sym (head-rest c.args.waits c.args.search.now (rw (back (get_or c.args.search.now 0 (pos 0)) c.depth-1.given) at (sym c.is_below.ensures) ∙ passed c.is_below.result c.if-not-is_below.false-raw) (rw (back (get_or c.args.search.now 1 (pos 0)) c.wait-1.given) at (sym c.is_below-2.ensures) ∙ passed c.is_below-2.result c.if-not-is_below-2.false-raw) (rw (back (get_or c.args.search.now 2 (pos 0)) c.count-1.given) at (sym c.is_below-3.ensures) ∙ passed c.is_below-3.result c.if-not-is_below-3.false-raw) (rw (back (get_or c.args.search.now 3 (pos 0)) c.met-1.given) at (sym c.is_below-4.ensures) ∙ passed c.is_below-4.result c.if-not-is_below-4.false-raw) (rw (back (get_or c.args.search.now 4 (pos 0)) c.entries-1.given, back (get_or c.args.search.now 0 (pos 0)) c.depth-1.given) at (sym c.is_below-5.ensures) ∙ passed c.is_below-5.result c.if-not-is_below-5.false-raw) ∙ head-may c.args.search.now (rw (back (get_or c.args.search.now 2 (pos 0)) c.count-1.given, back (get_or c.args.search.now 4 (pos 0)) c.entries-1.given) at (sym c.may_have.ensures) ∙ c.if-may_have.true))

pub returns-else-may_have : goal.returns-else-may_have
returns-else-may_have c =
    c.if-may_have.false ∙ sym (head-rest c.args.waits c.args.search.now (rw (back (get_or c.args.search.now 0 (pos 0)) c.depth-1.given) at (sym c.is_below.ensures) ∙ passed c.is_below.result c.if-not-is_below.false-raw) (rw (back (get_or c.args.search.now 1 (pos 0)) c.wait-1.given) at (sym c.is_below-2.ensures) ∙ passed c.is_below-2.result c.if-not-is_below-2.false-raw) (rw (back (get_or c.args.search.now 2 (pos 0)) c.count-1.given) at (sym c.is_below-3.ensures) ∙ passed c.is_below-3.result c.if-not-is_below-3.false-raw) (rw (back (get_or c.args.search.now 3 (pos 0)) c.met-1.given) at (sym c.is_below-4.ensures) ∙ passed c.is_below-4.result c.if-not-is_below-4.false-raw) (rw (back (get_or c.args.search.now 4 (pos 0)) c.entries-1.given, back (get_or c.args.search.now 0 (pos 0)) c.depth-1.given) at (sym c.is_below-5.ensures) ∙ passed c.is_below-5.result c.if-not-is_below-5.false-raw) ∙ head-not c.args.search.now (rw (back (get_or c.args.search.now 2 (pos 0)) c.count-1.given, back (get_or c.args.search.now 4 (pos 0)) c.entries-1.given) at (sym c.may_have.ensures) ∙ c.if-may_have.false))
