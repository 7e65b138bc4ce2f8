-- What the byte does of a copy.
use Rattle.lines.proofs.script.Script.take.Goals as goal

pub returns-in-Ok-Goes : goal.returns-in-Ok-Goes
returns-in-Ok-Goes c = rw c.in-Ok-Goes.field-0-is at c.in-Ok-Goes.ensures.pushes

pub returns-in-Ok-Asks : goal.returns-in-Ok-Asks
returns-in-Ok-Asks c = rw c.in-Ok-Asks.field-0-is at c.in-Ok-Asks.ensures.pushes
