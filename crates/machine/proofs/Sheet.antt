-- The bench sheet's model is a good one, so that being good asks for nothing impossible: it is the model that the sheet opens to.
use Rattle.model.specs.Texts as texts
use Rattle.model.specs.Good.{GoodModel}
use Rattle.model.proofs.Opened.{opened-good}
use Rattle.model.proofs.Examples.{sheet-opens}
use Rattle.machine.specs.Specimens.{sheet}

pub sheet-good : GoodModel sheet
sheet-good = opened-good texts.sheet sheet sheet-opens
