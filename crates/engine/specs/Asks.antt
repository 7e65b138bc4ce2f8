-- What an opening under a profile asks (02, note 11). Assumes nothing: this is a definition.
use Rattle.std.specs.Prelude.{List, ℕ}
use Rattle.machine.specs.Machine.{Ask, open', open_steady'}
use Rattle.steady.specs.declared.Profile.{Profile}
use Rattle.steady.specs.declared.Profile.TheVariants.{Plain, Steady}

abbrev pub ask_under : Profile → List ℕ → Ask
ask_under Plain text = open' text
ask_under Steady text = open_steady' text
