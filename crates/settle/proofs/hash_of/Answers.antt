-- The products and their sum fit a word.
use Rattle.settle.specs.Kids.{hash_of}
use mathlib.Core.Path.{refl}
use Rattle.settle.proofs.hash_of.Goals as goal

pub returns : goal.returns
unfolding hash_of
returns c = refl
