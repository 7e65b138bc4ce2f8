-- The marks are those of the waits, and so the names met are the model's.
use Rattle.naming.proofs.Places.{waits-numbered}
use Rattle.naming.proofs.WaitNames.find.Goals as goal

pub returns : goal.returns
returns c = record {
  numbers = λ m h s w. waits-numbered m w _ _ _ _ (c.mark_waits.ensures m h) (c.meet_all.ensures.found m.words s);
  few = c.meet_all.ensures.few;
}
