-- The state is written first into the table of states.
use Rattle.walk.proofs.Walking.{start-length, start-stands, room-kept}
use mathlib.Core.Path.{refl, sym, ◌∙◌}
use native.Mathlib.Omega.{arith}
use borrow.Author.Rules.{rules}
use Rattle.pieces.proofs.carry_from.Goals as goal

pub copy_from_slice-requires : goal.copy_from_slice-requires
copy_from_slice-requires c =
    let p = c.requires.1.states in c.told-states 0 (omega arith) ∙ sym (start-length c.requires.0.3)

pub carry_in-requires : goal.carry_in-requires
carry_in-requires c =
    let p = c.requires.1.states in
    ((c.requires.0.0, c.requires.0.1, c.requires.0.2, rw c.copy_from_slice.ensures.after (start-stands c.args.states.now (omega arith) c.requires.0.3), c.requires.0.4), room-kept (search rules) refl refl c.requires.1, c.requires.2, c.requires.3, c.requires.4)

pub returns : goal.returns
returns c =
    λ m s h st e. c.carry_in.ensures m s h (rw c.copy_from_slice.ensures.after (start-stands c.args.states.now (let p = c.requires.1.states in omega arith) st)) e
