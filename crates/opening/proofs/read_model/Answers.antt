-- A case for each return, from Models.antt: a no to 2 to 9, or the text's model.
use Rattle.std.proofs.lemmas.Result.{err_from_is_err_and}
use Rattle.opening.proofs.Marked.{names-marked, model-unmarked, model-marked}
use Rattle.opening.proofs.Models.{sound-no, sound-tree, model-read}
use Rattle.opening.proofs.read_model.Goals as goal

pub settle_sound-requires : goal.settle_sound-requires
settle_sound-requires c =
    let h = sound-tree _ _ _ _ _ c.read_sound.ensures.sound_read c.in_ok-sound.was in
    record { sound = (_, h.0, _, _, h.1); sum_room = c.requires.sum_room }

pub returns-in_err-sound-clause-model_read : goal.returns-in_err-sound-clause-model_read
returns-in_err-sound-clause-model_read c =
    let p = err_from_is_err_and c.from_residual.result c.from_residual.ensures.1 in
    rw (p.1, p.2) (sound-no _ _ _ _ _ c.read_sound.ensures.sound_read _ _ _ c.in_err-sound.was)

pub returns-in_err-sound-clause-model_marked : goal.returns-in_err-sound-clause-model_marked
returns-in_err-sound-clause-model_marked c =
    let p = err_from_is_err_and c.from_residual.result c.from_residual.ensures.1 in
    rw p.1 (model-unmarked _ _ _ _ _ _)

pub returns : goal.returns
returns c =
    let h = sound-tree _ _ _ _ _ c.read_sound.ensures.sound_read c.in_ok-sound.was in
    record {
      model_read = model-read (c.settle_sound.ensures _ h.0 _ _ h.1);
      model_marked = model-marked _ (names-marked c.read_sound.ensures.sound_marked c.in_ok-sound.was);
    }
