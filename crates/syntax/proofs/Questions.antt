-- The returns of `judge_text`, over plain variables: question 6 is asked of a text that fits.
use mathlib.Core.Path.{◌≡◌, refl}
use mathlib.Core.List.{List}
use Prim.Native.Nat.{ℕ, ◌<◌, ◌≤◌}
use lib.ListN.{length}
use Rattle.std.specs.Prelude.{Ok, Err, MatchResult, IsErrAnd}
use Rattle.grammar.specs.Limit.{token_limit}
use Rattle.syntax.specs.declared.question.Unfit.{Unfit}
use Rattle.syntax.specs.declared.question.Unfit.TheVariants.{Crowded, Misfit}
use Rattle.syntax.specs.Judged.{Fitting, TextJudged, Text}
use Rattle.syntax.specs.Asked.{no5, no6, TextAsks, TreeOrUnfit}

-- a text's answer as that to question 5
abbrev pub Asked5 : Text → TreeOrUnfit → Type 0
Asked5 r s = MatchResult r (λ x. s ≡ Ok x) (λ k. IsErrAnd s (λ u. u ≡ Misfit k))

broken : (r : Text) {s : TreeOrUnfit} → Asked5 r s → {u : Unfit} → s ≡ Err u → (k : ℕ) × (r ≡ Err k) × (u ≡ Misfit k)
broken (Ok x) m e = absurd (cc)
broken (Err k) m e = (k, refl, rw e at m)

fits : (r : Text) {s : TreeOrUnfit} → Asked5 r s → {root : ℕ} → s ≡ Ok root → r ≡ Ok root
fits (Ok x) m e = cc
fits (Err k) m e = absurd (rw e at m)

module _ (ts t : List ℕ) (r : Text) (j : TextJudged ts t r) (s : TreeOrUnfit) (m : Asked5 r s) where
  pub misfits : {u : Unfit} → s ≡ Err u → TextAsks ts t (Err u)
  unfolding TextJudged TextAsks
  misfits e =
      let q = broken r m e in rw q.2 (no5 refl (rw q.1 at j))

  pub crowds : {root : ℕ} → s ≡ Ok root → token_limit < length ts → TextAsks ts t (Err (Crowded token_limit))
  unfolding TextJudged TextAsks
  crowds {root} e h =
      let f : Fitting ts t root = rw (fits r m e) at j in no6 refl f.tree f.reads h refl

  pub passed : {root : ℕ} → s ≡ Ok root → length ts ≤ token_limit → TextAsks ts t (Ok root)
  unfolding TextJudged TextAsks
  passed e h = (rw (fits r m e) at j, h)
