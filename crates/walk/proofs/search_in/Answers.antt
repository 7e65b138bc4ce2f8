-- The state is written first into the table of states.
use mathlib.Core.Path.{refl, sym, ◌∙◌}
use native.Mathlib.Omega.{arith}
use borrow.Author.Rules.{rules}
use Rattle.walk.proofs.Walking.{start-length, start-stands, room-kept}
use Rattle.walk.proofs.search_in.Goals as goal

pub copy_from_slice-requires : goal.copy_from_slice-requires
copy_from_slice-requires c =
    let p = c.requires.1.states in c.told-states 0 (omega arith) ∙ sym (start-length c.requires.0.3)

pub search_from-requires : goal.search_from-requires
search_from-requires c =
    let p = c.requires.1.states in
    ((c.requires.0.0, c.requires.0.1, c.requires.0.2, rw c.copy_from_slice.ensures.after (start-stands c.args.states.now (omega arith) c.requires.0.3)), room-kept (search rules) refl refl c.requires.1)

pub returns : goal.returns
returns c =
    λ m s h st. c.search_from.ensures m s h (rw c.copy_from_slice.ensures.after (start-stands c.args.states.now (let p = c.requires.1.states in omega arith) st))
