-- Each kind is a case of `is_item`; a kind is compared by its bits.
use mathlib.Core.Path.{sym, ◌∙◌}
use native.Mathlib.Omega.{arith}
use mir.Facts.{to_z-of_z}
use Rattle.state.proofs.Tests.{bits-same, bits-differ, item-number, item-neither, item-name}
use Rattle.state.proofs.is_item.Goals as goal

pub returns-in-0 : goal.returns-in-0
returns-in-0 c =
    rw (to_z-of_z c.ranges.z) at c.is_value.ensures ∙ sym (item-number c.args.channels c.args.kind c.args.z (bits-same c.args.kind 0 c.ranges.kind (omega arith) (omega arith)))

pub returns-in_default : goal.returns-in_default
returns-in_default c =
    sym (item-neither c.args.channels c.args.kind c.args.z (bits-differ c.args.kind 0 c.ranges.kind (omega arith) (λ e. omega arith)) (bits-differ c.args.kind 1 c.ranges.kind (omega arith) (λ e. omega arith)))

pub returns-in-1 : goal.returns-in-1
returns-in-1 c =
    rw (to_z-of_z c.ranges.z) at c.is_below.ensures ∙ sym (item-name c.args.channels c.args.kind c.args.z (bits-differ c.args.kind 0 c.ranges.kind (omega arith) (λ e. omega arith)) (bits-same c.args.kind 1 c.ranges.kind (omega arith) (omega arith)))
