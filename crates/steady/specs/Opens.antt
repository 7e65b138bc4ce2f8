-- What opening a text under the steady profile answers, and what the tables of an accepted one hold (02, note 11). Assumes nothing: these are definitions.
use Rattle.std.specs.Prelude.{◌≡◌, List, ℕ, None, Err, Ok}
use Rattle.token.specs.Questions.{Found, question_number}
use Rattle.grammar.specs.Syntax
use Rattle.model.specs.Lists.{least}
use Rattle.model.specs.Words.{word_of}
use Rattle.model.specs.Opening.{Opening, refused, opened, opening}
use Rattle.profile.specs.Unsteady.{unsteady}
use Rattle.profile.specs.Opening.{opening_steady}
use Rattle.settle.specs.declared.Model.{Model}
use Rattle.opening.specs.Models.{ModelOpened, Opened}
use Rattle.steady.specs.declared.Profile.{Profile}
use Rattle.steady.specs.declared.Profile.TheVariants.{Plain, Steady}

-- the first token of a syntax tree that the profile refuses: none, or by question 29
unfoldable pub offender_under : Profile → List ℕ → Syntax.Model → Found
offender_under Plain text s = None
offender_under Steady text s = least (unsteady (word_of text) s)

-- what opening under a profile answers
unfoldable pub opening_under : Profile → List ℕ → Opening
opening_under Plain text = opening text
opening_under Steady text = opening_steady text

-- the first no with its place, or the model, in the tables of a plain opening
pub record OpenedUnder (profile : Profile) (text nodes roots scopes : List ℕ) (x : Model) (k : ℕ) : Type 0 where
  pub plain : ModelOpened text nodes roots scopes x k
  pub opens : opening_under profile text ≡ opened plain.model

unfoldable pub OpensUnder : Profile → (text nodes roots scopes : List ℕ) → Opened → Type 0
OpensUnder profile text nodes roots scopes (Err r) = opening_under profile text ≡ refused (question_number r.question) r.place
OpensUnder profile text nodes roots scopes (Ok o) = OpenedUnder profile text nodes roots scopes o.model o.processes
