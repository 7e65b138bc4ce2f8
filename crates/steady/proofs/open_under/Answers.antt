-- A case for each return, from Judges.antt.
use native.Mathlib.Omega.{arith}
use lib.ListN.{length-take}
use Rattle.std.proofs.lemmas.Result.{err_from_is_err_and}
use Rattle.opening.proofs.Models.{sound-tree, count-fits}
use Rattle.opening.proofs.Resolves.{yes5}
use Rattle.steady.proofs.Judges.{sound-no, start-no, offends, passes}
use Rattle.steady.proofs.open_under.Goals as goal

pub offender-found-requires : goal.offender-found-requires
offender-found-requires c =
    let h = sound-tree _ _ _ _ _ c.read_sound.ensures.sound_read c.in_ok-sound.was in
    (_, h.0, _, _, h.1.fitted.cut, h.1.sound)

pub settle_sound-model-requires : goal.settle_sound-model-requires
settle_sound-model-requires c =
    let h = sound-tree _ _ _ _ _ c.read_sound.ensures.sound_read c.in_ok-sound.was in
    record { sound = (_, h.0, _, _, h.1); sum_room = c.requires.sum_room }

pub judge_start-requires : goal.judge_start-requires
judge_start-requires c =
    let h = sound-tree _ _ _ _ _ c.read_sound.ensures.sound_read c.in_ok-sound.was in
    (_, _, _, c.settle_sound-model.ensures _ h.0 _ _ h.1)

pub slice_bounds-byte_place-end : goal.slice_bounds-byte_place-end
slice_bounds-byte_place-end c =
    let h = sound-tree _ _ _ _ _ c.read_sound.ensures.sound_read c.in_ok-sound.was in
    omega (arith, count-fits h.1.fitted, c.read_sound.auto.places, c.requires.room.places-room)

pub slice_bounds-byte_place-end-in-Some : goal.slice_bounds-byte_place-end-in-Some
slice_bounds-byte_place-end-in-Some c =
    let h = sound-tree _ _ _ _ _ c.read_sound.ensures.sound_read c.in_ok-sound.was in
    simp length-take (omega (arith, count-fits h.1.fitted, c.read_sound.auto.places, c.requires.room.places-room))

pub byte_place-requires : goal.byte_place-requires
byte_place-requires c =
    (sound-tree _ _ _ _ _ c.read_sound.ensures.sound_read c.in_ok-sound.was).1.fitted.cut.placed

pub returns-in_err-sound : goal.returns-in_err-sound
returns-in_err-sound c =
    let p = err_from_is_err_and c.from_residual.result c.from_residual.ensures.1 in
    rw (p.1, p.2) (sound-no _ _ _ _ _ _ _ _ _ c.read_sound.ensures.sound_read c.in_err-sound.was)

pub returns-in_err-opened : goal.returns-in_err-opened
returns-in_err-opened c =
    let h = sound-tree _ _ _ _ _ c.read_sound.ensures.sound_read c.in_ok-sound.was in
    let p = err_from_is_err_and c.from_residual-in_err-opened.result c.from_residual-in_err-opened.ensures.1 in
    rw (p.1, p.2) (start-no _ _ _ _ _ (c.judge_start.ensures _ _ _ (c.settle_sound-model.ensures _ h.0 _ _ h.1)) c.in_err-opened.was)

pub returns-in-Some : goal.returns-in-Some
returns-in-Some c =
    let h = sound-tree _ _ _ _ _ c.read_sound.ensures.sound_read c.in_ok-sound.was in
    let d = c.judge_start.ensures _ _ _ (c.settle_sound-model.ensures _ h.0 _ _ h.1) in
    offends _ _ _ _ _ d (yes5 h.1.fitted.cut h.1.sound) (c.offender-found.ensures _ h.0 _ _ h.1.fitted.cut h.1.sound) c.in_ok-opened.was c.in-Some.is c.byte_place.ensures

pub returns-in-None : goal.returns-in-None
returns-in-None c =
    let h = sound-tree _ _ _ _ _ c.read_sound.ensures.sound_read c.in_ok-sound.was in
    let d = c.judge_start.ensures _ _ _ (c.settle_sound-model.ensures _ h.0 _ _ h.1) in
    passes _ _ _ _ _ d (yes5 h.1.fitted.cut h.1.sound) (c.offender-found.ensures _ h.0 _ _ h.1.fitted.cut h.1.sound) c.in_ok-opened.was c.in-None.is
