-- The tables have room for runs of eight entries.
use Rattle.walk.proofs.Walking.{start-room}
use mathlib.Core.Path.{refl}
use native.Mathlib.Omega.{arith}
use Rattle.walk.proofs.search_model.Goals as goal

pub search_in-requires : goal.search_in-requires
search_in-requires c =
    (c.requires.0, start-room c.args.depth _ _ _ c.requires.1 refl refl (omega arith))

pub returns : goal.returns
returns c =
    c.search_in.ensures
