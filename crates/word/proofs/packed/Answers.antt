-- Each return is a case of `name_of` by the length, from what `word` ensures of each part.
use native.Mathlib.Omega.{arith}
use lib.ListN.{length-take, length-drop}
use Rattle.word.proofs.Packs.{long-name, one_word, two-words}
use Rattle.word.proofs.packed.Goals as goal

pub returns-then-n-gt-NAME : goal.returns-then-n-gt-NAME
returns-then-n-gt-NAME c = long-name c.args.s.now (omega arith)

pub returns-then-n-le-WORD : goal.returns-then-n-le-WORD
returns-then-n-le-WORD c =
    one_word c.args.s.now c.word.result (omega arith) c.word.ensures

pub slice_bounds-word-end : goal.slice_bounds-word-end
slice_bounds-word-end c = simp length-take (omega arith)

pub word-first-requires : goal.word-first-requires
word-first-requires c = simp length-take (omega arith)

pub word-requires-2 : goal.word-requires-2
word-requires-2 c = simp (length-take, length-drop) (omega arith)

pub returns : goal.returns
returns c =
    two-words c.args.s.now c.word-first.result c.word-2.result (omega arith) c.word-first.ensures c.word-2.ensures
