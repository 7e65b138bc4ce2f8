-- The header and the text over zeros are the bytes of the text; the header before the rows of the start is the opened state.
use mathlib.Core.Path.{refl}
use mathlib.Core.List.{[]}
use native.Mathlib.Omega.{arith}
use lib.IntN.{pos}
use Rattle.machine.specs.State.{process_room, state_length}
use Rattle.machine.specs.Machine.{model_length}
use Rattle.store.proofs.Bytes.{text-put, header-room}
use Rattle.store.proofs.Opened.{opens-few, opens-state}
use Rattle.store.proofs.buffer.put_opened.Goals as goal

pub put_header-requires : goal.put_header-requires
put_header-requires c =
    let o = c.requires.3 in (
      c.requires.2,
      opens-few _ _ _ _ _ o.0 o.1 _ _ _ (c.put_start-processes.ensures o.0 o.1),
      omega arith,
      (header-room model_length 0 c.args.model.now [] 0 (omega arith) c.requires.0).0,
      (header-room state_length process_room c.args.state.now _ (pos 0) (omega arith) c.requires.1).1,
    )

pub returns-clause-bytes : goal.returns-clause-bytes
returns-clause-bytes c =
    rw c.put_header.ensures.0 (text-put c.args.text.now c.args.model.now _ _ c.requires.0 refl c.copy_from_slice.ensures.after)

pub returns-clause-numbers : goal.returns-clause-numbers
returns-clause-numbers c m o =
    opens-state _ _ _ _ _ m o c.args.state.now _ _ _ c.requires.1 (c.put_start-processes.ensures m o) c.put_header.ensures.1
