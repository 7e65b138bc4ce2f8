-- The tables hold the model, and its words are those of the text.
use Rattle.carrying.proofs.Held.{shown}
use Rattle.carrying.proofs.find_waits.Goals as goal

pub find-requires : goal.find-requires
find-requires c =
    let m = c.requires.0.0 in
    let h = c.requires.0.1 in
    let v = c.words_of.ensures in
    ((m, shown c.args.settled c.args.written m h, rw (v.0, v.1.0, v.1.1) h.spells, c.requires.0.2), c.requires.1)

pub returns-clause-are : goal.returns-clause-are
returns-clause-are c =
    λ m h f.
    let v = c.words_of.ensures in
    (c.find.ensures.numbers m (shown c.args.settled c.args.written m h) (rw (v.0, v.1.0, v.1.1) h.spells) f).names-are
