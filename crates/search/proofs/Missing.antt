-- What two parts of a walk miss together. By cases.
use mathlib.Core.Path.{◌≡◌, refl}
use mathlib.Core.Bool.{◌||◌}
use Rattle.search.specs.declared.Missed.{Missed}
use Rattle.search.specs.declared.Missed.TheVariants.{Nothing, Unsure}
use Rattle.search.specs.Walks.{met_in, joined}

pub met-joined : (a b : Missed) → met_in (joined a b) ≡ (met_in a || met_in b)
met-joined Nothing b = refl
met-joined Unsure b = refl
