-- Saves over a model fit the locals of its sums and its number of channel names, and the other way round: place by place.
use mathlib.Core.List.{[], ◌∷◌}
use mathlib.Core.Option.{Option, none, some}
use Rattle.model.specs.Resolved
use Rattle.model.specs.Good.{Every, GoodModel}
use Rattle.machine.specs.Timed.{Timed, GoodTimed}
use Rattle.machine.specs.Saves.{Save, Saves, PlaceOf, SavesOf, GoodSaves}
use Rattle.state.specs.Fits.{scopes_of}
use Rattle.saves.specs.Kept.{FitsKept}
use Rattle.state.proofs.Over.{good-fits, fits-good}

module _ (P Q : Timed → Type 0) (h : (s : Timed) → P s → Q s) where
  place-from : (x : Option Save) → PlaceOf P x → PlaceOf Q x
  unfolding PlaceOf
  place-from none k = tt
  place-from (some x) k = record { name = k.name; kept = h x.kept k.kept }

  places-from : (ss : Saves) → Every (PlaceOf P) ss → Every (PlaceOf Q) ss
  unfolding Every
  places-from [] k = tt
  places-from (x ∷ xs) k = (place-from x k.0, places-from xs k.1)

  pub saves-from : (ss : Saves) → SavesOf P ss → SavesOf Q ss
  saves-from ss k = record { long = k.long; places = places-from ss k.places; apart = k.apart }

module _ (m : Resolved.Model) (good : GoodModel m) (ss : Saves) where
  pub saves-fit : GoodSaves m ss → SavesOf (FitsKept (scopes_of m) m.channels) ss
  saves-fit = saves-from (GoodTimed m) (FitsKept (scopes_of m) m.channels) (λ t g. record { state = good-fits m t.state good g.state; clock = g.clock }) ss

  pub fit-saves : SavesOf (FitsKept (scopes_of m) m.channels) ss → GoodSaves m ss
  fit-saves = saves-from (FitsKept (scopes_of m) m.channels) (GoodTimed m) (λ t g. record { state = fits-good m t.state good g.state; clock = g.clock }) ss
