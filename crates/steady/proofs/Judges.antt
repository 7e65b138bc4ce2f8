-- The returns of `offender` and `open_under`, over plain variables: 29 of a sound text, after 10. From what opening under a profile comes to.
use mathlib.Core.Path.{◌≡◌, refl, sym, ap, ◌∙◌}
use mathlib.Core.List.{List}
use Prim.Native.Nat.{ℕ}
use Rattle.std.specs.Prelude.{None, Some, Err, Ok}
use Rattle.token.specs.declared.Content.{Content}
use Rattle.token.specs.declared.Refusal.{Refusal}
use Rattle.token.specs.declared.Question.TheVariants as question
use Rattle.token.specs.Questions.{Found, question_number}
use Rattle.token.specs.Contents.{lows_in, highs_in}
use Rattle.token.specs.Token.{tokens}
use Rattle.grammar.specs.Syntax
use Rattle.model.specs.Lists.{least}
use Rattle.model.specs.Resolved
use Rattle.model.specs.Words.{word_of}
use Rattle.model.specs.Limits.{words_beyond, tree_beyond, beyond}
use Rattle.model.specs.Opening.{refused, opened, byte_place, asked_of_text, opening}
use Rattle.model.specs.Questions.{Yes5}
use Rattle.profile.specs.Unsteady.{unsteady}
use Rattle.profile.proofs.Asks.{refused-so, opened-asks}
use Rattle.names.specs.declared.Question.TheVariants.{Given}
use Rattle.names.specs.declared.Lists.{Lists}
use Rattle.names.specs.Lists.{Gathered}
use Rattle.names.specs.Settings.{World}
use Rattle.names.proofs.Earliest.{least-append, nothing-first}
use Rattle.names.proofs.Grounds.{world}
use Rattle.opening.specs.declared.Accepted.{Accepted}
use Rattle.opening.specs.Trees.{Closed, Fitted}
use Rattle.opening.specs.Sound.{Sound, SoundOr, SoundRead}
use Rattle.opening.specs.Models.{ModelOpened, Opens, Opened}
use Rattle.steady.specs.declared.Profile.{Profile}
use Rattle.steady.specs.declared.Profile.TheVariants.{Plain, Steady}
use Rattle.steady.specs.Opens.{offender_under, opening_under, OpensUnder}

-- what 2 to 10 refuse, each profile refuses
refused-under : (p : Profile) (text : List ℕ) {n q : ℕ} → opening text ≡ refused n q → opening_under p text ≡ refused n q
unfolding opening_under
refused-under Plain text e = e
refused-under Steady text e = refused-so text e

module _ (p : Profile) (text : List ℕ) where
  -- ---- 2 to 9
  pub sound-no : (nodes roots scopes kinds places : List ℕ) (contents : List Content) (tree : List ℕ) {r : SoundOr} {q : Refusal} → SoundRead text kinds places contents tree r → r ≡ Err q → OpensUnder p text nodes roots scopes (Err q)
  unfolding SoundRead OpensUnder
  sound-no nodes roots scopes kinds places contents tree {q = q} d e = let c : Closed text (question_number q.question) q.place = rw e at d in refused-under p text c.opens

  -- ---- 10, then 29
  module _ (nodes roots scopes : List ℕ) {o : Opened} (d : Opens text nodes roots scopes o) where
    pub start-no : {q : Refusal} → o ≡ Err q → OpensUnder p text nodes roots scopes (Err q)
    unfolding Opens OpensUnder
    start-no {q} e = let c : opening text ≡ refused (question_number q.question) q.place = rw e at d in refused-under p text c

    module _ {s : Syntax.Model} {f : Found} (y : Yes5 text s) (is : f ≡ offender_under p text s) {x : Accepted} (e : o ≡ Ok x) where
      model-opened : ModelOpened text nodes roots scopes x.model x.processes
      unfolding Opens
      model-opened = rw e at d

      asks-under : (q : Profile) (m : Resolved.Model) → opening text ≡ opened m → opening_under q text ≡ asked_of_text text 29 (offender_under q text s) (opened m)
      unfolding opening_under offender_under asked_of_text
      asks-under Plain m i = i
      asks-under Steady m i = opened-asks text y i

      asks : opening_under p text ≡ asked_of_text text 29 f (opened model-opened.model)
      asks = asks-under p model-opened.model model-opened.opens ∙ ap (λ (g : Found). asked_of_text text 29 g (opened model-opened.model)) (sym is)

      pub offends : {k b : ℕ} → f ≡ Some k → b ≡ byte_place text k → OpensUnder p text nodes roots scopes (Err (record { question = question.Steady; place = b }))
      unfolding OpensUnder asked_of_text
      offends q r = asks ∙ ap (λ (g : Found). asked_of_text text 29 g (opened model-opened.model)) q ∙ ap (refused 29) (sym r)

      pub passes : f ≡ None → OpensUnder p text nodes roots scopes (Ok x)
      unfolding OpensUnder asked_of_text
      passes q = record { plain = model-opened; opens = asks ∙ ap (λ (g : Found). asked_of_text text 29 g (opened model-opened.model)) q }

-- ---- the tables of a text that fits and is sound can be searched
module _ {text : List ℕ} {s : Syntax.Model} {kinds places : List ℕ} {contents : List Content} {nodes : List ℕ} {root : ℕ} (f : Fitted text s kinds places contents nodes root) (v : Sound text s) {lists : Lists} (g : Gathered s root lists) where
  -- 7 has passed every name
  short : least (words_beyond text 0 (tokens text)) ≡ None
  unfolding beyond
  short = nothing-first _ _ (sym (least-append (words_beyond text 0 (tokens text)) (tree_beyond (word_of text) s)) ∙ v.within)

  pub searched : World Given (lows_in contents) (highs_in contents) nodes lists
  searched = world f.read Given (λ a. short) lists g _ refl

  -- and what is found is told by the text
  pub found-so : {r : Found} → ((h : World Given (lows_in contents) (highs_in contents) nodes lists) → r ≡ least (unsteady h.word h.model)) → r ≡ least (unsteady (word_of text) s)
  unfolding world
  found-so h = h (world f.read Given (λ a. short) lists g _ refl)

-- ---- the cases of `offender`
module _ {p : Profile} (text : List ℕ) (s : Syntax.Model) where
  pub plain-none : p ≡ Plain → None ≡ offender_under p text s
  unfolding offender_under
  plain-none e = rw e refl

  pub steady-first : {r : Found} → p ≡ Steady → r ≡ least (unsteady (word_of text) s) → r ≡ offender_under p text s
  unfolding offender_under
  steady-first e i = rw e i
