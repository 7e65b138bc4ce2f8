-- Each return is a case of `is_pair`, from what the calls ensure.
use mathlib.Core.Path.{sym, ap, ◌∙◌}
use native.Mathlib.Omega.{arith}
use Prim.Native.Nat.{◌+◌}
use lib.IntN.{pos, nat_abs}
use lib.ListN.{get_or, drop, length-take, length-drop}
use lib.Seq.{take_all}
use Rattle.machine.specs.State.{channel_width}
use Rattle.value.proofs.Kit.{back, ok-fits}
use Rattle.state.specs.Test.{is_padded}
use Rattle.state.proofs.Tests.{refused, passed, below-fits, below-bound, count-below, pair-channel, pair-count, pair-rest}
use Rattle.state.proofs.is_pair.Goals as goal

pub returns-then-not-is_channel : goal.returns-then-not-is_channel
returns-then-not-is_channel c =
    sym (pair-channel c.args.channels c.args.row.now (sym c.is_channel.ensures ∙ refused c.is_channel.result c.if-not-is_channel.true-raw))

pub returns-then-not-is_count : goal.returns-then-not-is_count
returns-then-not-is_count c =
    sym (pair-count c.args.channels c.args.row.now (sym c.is_channel.ensures ∙ passed c.is_channel.result c.if-not-is_channel.false-raw) (rw (back (get_or c.args.row.now channel_width (pos 0)) c.count-1.given) at (sym c.is_count.ensures) ∙ refused c.is_count.result c.if-not-is_count.true-raw))

pub overflow_cast-count : goal.overflow_cast-count
overflow_cast-count c =
    rw (back (get_or c.args.row.now channel_width (pos 0)) c.count-1.given) (below-fits 3 (get_or c.args.row.now channel_width (pos 0)) (ok-fits (get_or c.args.row.now channel_width (pos 0)) c.count-1.given) (count-below 3 (get_or c.args.row.now channel_width (pos 0)) (rw (back (get_or c.args.row.now channel_width (pos 0)) c.count-1.given) at (sym c.is_count.ensures) ∙ passed c.is_count.result c.if-not-is_count.false-raw)))

pub is_padded-requires : goal.is_padded-requires
is_padded-requires c =
    rw (back (get_or c.args.row.now channel_width (pos 0)) c.count-1.given) (simp (length-take, length-drop) (omega (arith, below-bound 3 (get_or c.args.row.now channel_width (pos 0)) (count-below 3 (get_or c.args.row.now channel_width (pos 0)) (rw (back (get_or c.args.row.now channel_width (pos 0)) c.count-1.given) at (sym c.is_count.ensures) ∙ passed c.is_count.result c.if-not-is_count.false-raw)))))

pub returns : goal.returns
returns c =
    rw (back (get_or c.args.row.now channel_width (pos 0)) c.count-1.given) at c.is_padded.ensures ∙ ap (is_padded (nat_abs (get_or c.args.row.now channel_width (pos 0)))) (take_all 2 (drop (channel_width + 1) c.args.row.now) (simp length-drop (omega arith))) ∙ sym (pair-rest c.args.channels c.args.row.now (sym c.is_channel.ensures ∙ passed c.is_channel.result c.if-not-is_channel.false-raw) (rw (back (get_or c.args.row.now channel_width (pos 0)) c.count-1.given) at (sym c.is_count.ensures) ∙ passed c.is_count.result c.if-not-is_count.false-raw))
