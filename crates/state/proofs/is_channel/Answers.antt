-- Each return is a case of `is_channel`, from what the calls ensure.
use mathlib.Core.Path.{sym, ◌∙◌}
use lib.IntN.{pos}
use lib.ListN.{get_or}
use Rattle.value.proofs.Kit.{back}
use Rattle.state.proofs.Tests.{refused, passed, channel-count, channel-first, channel-second, channel-rest}
use Rattle.state.proofs.is_channel.Goals as goal

pub returns-then-not-is_count : goal.returns-then-not-is_count
returns-then-not-is_count c =
    sym (channel-count c.args.channels c.args.row.now (rw (back (get_or c.args.row.now 0 (pos 0)) c.items-1.given) at (sym c.is_count.ensures) ∙ refused c.is_count.result c.if-not-is_count.true-raw))

pub returns-then-not-is_item_of : goal.returns-then-not-is_item_of
returns-then-not-is_item_of c =
    sym (channel-first c.args.channels c.args.row.now (rw (back (get_or c.args.row.now 0 (pos 0)) c.items-1.given) at (sym c.is_count.ensures) ∙ passed c.is_count.result c.if-not-is_count.false-raw) (rw (back (get_or c.args.row.now 0 (pos 0)) c.items-1.given, back (get_or c.args.row.now 1 (pos 0)) c.is_item_of-arg-1.given, back (get_or c.args.row.now 2 (pos 0)) c.is_item_of-arg-2-1.given) at (sym c.is_item_of.ensures) ∙ refused c.is_item_of.result c.if-not-is_item_of.true-raw))

pub returns-then-not-is_item_of-2 : goal.returns-then-not-is_item_of-2
returns-then-not-is_item_of-2 c =
    sym (channel-second c.args.channels c.args.row.now (rw (back (get_or c.args.row.now 0 (pos 0)) c.items-1.given) at (sym c.is_count.ensures) ∙ passed c.is_count.result c.if-not-is_count.false-raw) (rw (back (get_or c.args.row.now 0 (pos 0)) c.items-1.given, back (get_or c.args.row.now 1 (pos 0)) c.is_item_of-arg-1.given, back (get_or c.args.row.now 2 (pos 0)) c.is_item_of-arg-2-1.given) at (sym c.is_item_of.ensures) ∙ passed c.is_item_of.result c.if-not-is_item_of.false-raw) (rw (back (get_or c.args.row.now 0 (pos 0)) c.items-1.given, back (get_or c.args.row.now 3 (pos 0)) c.is_item_of-arg-3-1.given, back (get_or c.args.row.now 4 (pos 0)) c.is_item_of-arg-4-1.given) at (sym c.is_item_of-2.ensures) ∙ refused c.is_item_of-2.result c.if-not-is_item_of-2.true-raw))

pub returns : goal.returns
returns c =
    rw (back (get_or c.args.row.now 0 (pos 0)) c.items-1.given, back (get_or c.args.row.now 5 (pos 0)) c.is_item_of-arg-5-1.given, back (get_or c.args.row.now 6 (pos 0)) c.is_item_of-arg-6-1.given) at c.is_item_of-3.ensures ∙ sym (channel-rest c.args.channels c.args.row.now (rw (back (get_or c.args.row.now 0 (pos 0)) c.items-1.given) at (sym c.is_count.ensures) ∙ passed c.is_count.result c.if-not-is_count.false-raw) (rw (back (get_or c.args.row.now 0 (pos 0)) c.items-1.given, back (get_or c.args.row.now 1 (pos 0)) c.is_item_of-arg-1.given, back (get_or c.args.row.now 2 (pos 0)) c.is_item_of-arg-2-1.given) at (sym c.is_item_of.ensures) ∙ passed c.is_item_of.result c.if-not-is_item_of.false-raw) (rw (back (get_or c.args.row.now 0 (pos 0)) c.items-1.given, back (get_or c.args.row.now 3 (pos 0)) c.is_item_of-arg-3-1.given, back (get_or c.args.row.now 4 (pos 0)) c.is_item_of-arg-4-1.given) at (sym c.is_item_of-2.ensures) ∙ passed c.is_item_of-2.result c.if-not-is_item_of-2.false-raw))
