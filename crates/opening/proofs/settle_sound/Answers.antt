-- A sound text can be settled, and its model is the text's.
use Rattle.opening.proofs.Resolves.{can-settle, settled-so, settles-so}
use Rattle.opening.proofs.Models.{sound-model}
use Rattle.opening.proofs.settle_sound.Goals as goal

pub settle-requires : goal.settle-requires
settle-requires c =
    let h = c.requires.sound.4 in
    can-settle h.fitted.cut h.sound c.requires.sum_room

pub returns : goal.returns
returns c =
    λ text s kinds places h.
    let f = h.fitted.cut in
    let v = h.sound in
    let r = c.requires.sum_room in
    let e = c.settle.ensures in
    sound-model h (settled-so f v r e.represents) e.definitions_bound (settles-so f v r e.settles)
