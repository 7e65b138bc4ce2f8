-- Term 3: for every list of calls on one engine from a fresh one, refused calls included, each call answers as the rule machine does, and the state afterwards is that machine's, number
-- for number. Definition only.
use Rattle.std.specs.Prelude.{List, map}
use Rattle.machine.specs.Machine.{closed, answers, after}
use Rattle.buffers.specs.Parts.{fresh}
use Rattle.buffers.specs.Calls.{BufferCall, fed, effects, engine_after, Holds, Answered}

-- one claim about the whole list; the machine is fed texts, draws and the lengths of all that is lent, and reads no buffer
pub record TermThree : Type 0 where
  pub answered : (cs : List BufferCall) → Answered cs (effects fresh cs) (answers closed (map fed cs))
  pub held : (cs : List BufferCall) → Holds (engine_after fresh cs) (after closed (map fed cs))
