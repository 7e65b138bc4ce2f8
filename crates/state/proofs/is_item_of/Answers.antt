-- Each return is a case of `is_item_of`, from what the calls ensure.
use mathlib.Core.Path.{sym, ◌∙◌}
use mir.Facts.{to_z-of_z}
use Rattle.state.proofs.Tests.{item-there, item-unused, zeros-fail, zeros-rest}
use Rattle.state.proofs.is_item_of.Goals as goal

pub returns-then-i-items : goal.returns-then-i-items
returns-then-i-items c =
    rw (to_z-of_z c.ranges.kind, to_z-of_z c.ranges.z) at c.is_item.ensures ∙ sym (item-there c.args.channels c.args.items c.args.i c.args.kind c.args.z (rw (to_z-of_z c.ranges.items, to_z-of_z c.ranges.i) at c.if-i-items.true))

pub returns-else-is_zero : goal.returns-else-is_zero
returns-else-is_zero c =
    c.if-is_zero.false ∙ sym (item-unused c.args.channels c.args.items c.args.i c.args.kind c.args.z (rw (to_z-of_z c.ranges.items, to_z-of_z c.ranges.i) at c.if-i-items.false) ∙ zeros-fail c.args.kind c.args.z (rw (to_z-of_z c.ranges.kind) at (sym c.is_zero.ensures) ∙ c.if-is_zero.false))

pub returns-then-is_zero : goal.returns-then-is_zero
returns-then-is_zero c =
    rw (to_z-of_z c.ranges.z) at c.is_zero-then-is_zero.ensures ∙ sym (item-unused c.args.channels c.args.items c.args.i c.args.kind c.args.z (rw (to_z-of_z c.ranges.items, to_z-of_z c.ranges.i) at c.if-i-items.false) ∙ zeros-rest c.args.kind c.args.z (rw (to_z-of_z c.ranges.kind) at (sym c.is_zero.ensures) ∙ c.if-is_zero.true))
