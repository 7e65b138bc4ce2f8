-- A model that is opened under the steady profile is the one that a plain opening opens, and is steady. From the answers to the questions.
use mathlib.Core.Path.{◌≡◌, refl, sym, subst, ◌∙◌}
use mathlib.Core.List.{List}
use Prim.Native.Nat.{ℕ}
use Rattle.grammar.specs.Syntax
use Rattle.grammar.specs.Syntax.{syntax_of}
use Rattle.model.specs.Words.{word_of}
use Rattle.model.specs.Resolved.{Model, resolved}
use Rattle.model.specs.Opening.{Opening, opened, opening}
use Rattle.model.specs.Questions.{Yes9}
use Rattle.model.proofs.Answered.{answers-only}
use Rattle.profile.specs.Opening.{opening_steady, Yes29, AnswersSteady, no2to10, no29, yes_to_all}
use Rattle.profile.specs.Steady.{Steady}
use Rattle.profile.proofs.Asks.{never-opened, one-tree, OpenedBy, opened-by}
use Rattle.profile.proofs.InOrder.{steady-answers}
use Rattle.profile.proofs.Resolves.{resolved-steady}

module _ (text : List ℕ) where
  -- a model without offenders
  tree-steady : {m : Model} (h : OpenedBy text m) → Yes29 text h.tree → Steady m
  tree-steady h y =
      let r = h.fits.reading in
      let e = h.fits.tree in
      let t = resolved-steady (word_of text) r (subst (λ (s : Syntax.Model). Yes29 text s) (sym e) y) (subst (λ (s : Syntax.Model). Yes9 text s) (sym e) h.given) in
      subst (λ (m : Model). Steady m) (sym h.model) (subst (λ (s : Syntax.Model). Steady (resolved (word_of text) s)) e t)

  opened-from : (o : Opening) (m : Model) → AnswersSteady text o → o ≡ opened m → (opening text ≡ opened m) × Steady m
  opened-from o m (no2to10 a) e = never-opened e
  opened-from o m (no29 a y h) e = never-opened e
  opened-from o m (yes_to_all {m = n} a y h) e =
      let f = answers-only text a in
      let b = opened-by text n f in
      let d : n ≡ m = cc in
      (f ∙ e, subst (λ (x : Model). Steady x) d (tree-steady b (subst (λ (s : Syntax.Model). Yes29 text s) (one-tree text y b.fits) h)))

  -- 02, note 11: the model of a plain opening
  pub opened-plain : (m : Model) → opening_steady text ≡ opened m → opening text ≡ opened m
  opened-plain m e = (opened-from (opening_steady text) m ((steady-answers text (opening_steady text)).0 refl) e).0

  -- 02, note 11: every continuation leaves at most one process
  pub opened-steady : (m : Model) → opening_steady text ≡ opened m → Steady m
  opened-steady m e = (opened-from (opening_steady text) m ((steady-answers text (opening_steady text)).0 refl) e).1
