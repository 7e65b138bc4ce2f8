-- Opening a text under the steady profile answers the first of questions 2 to 10 and 29 that has the answer no, with its place, or opens the model where all have the
-- answer yes; and gives no other answer. From what opening answers, and the law of the first offender.
use mathlib.Core.Path.{◌≡◌, refl, sym, ap, subst, ◌∙◌}
use mathlib.Core.List.{List}
use mathlib.Core.Logic.{◌↔◌, ◌⊎◌, inl, inr}
use Prim.Native.Nat.{ℕ, ◌≤◌}
use Rattle.std.specs.Prelude.{None, Some}
use Rattle.token.specs.Questions.{First, Found}
use Rattle.grammar.specs.Syntax
use Rattle.model.specs.Lists.{least}
use Rattle.model.specs.Words.{word_of}
use Rattle.model.specs.Resolved.{Model}
use Rattle.model.specs.Opening.{Opening, refused, opened, asked_of_text, opening}
use Rattle.model.specs.Questions.{Yes5, Yes8, Answers}
use Rattle.model.proofs.Answered.{answered, answers-only, first-only}
use Rattle.profile.specs.Unsteady.{Offends, unsteady}
use Rattle.profile.specs.Opening.{opening_steady, AnswersSteady, no2to10, no29, yes_to_all}
use Rattle.profile.proofs.Asks.{never-opened, plain-numbers, one-tree, opened-by, refused-so, opened-asks}
use Rattle.profile.proofs.Offending.{offends-first}

module _ (text : List ℕ) where
  -- ---- what is answered

  by_first : {s : Syntax.Model} {m : Model} (f : Found) → opening text ≡ opened m → Yes5 text s → First (Offends (word_of text) s) f → AnswersSteady text (asked_of_text text 29 f (opened m))
  unfolding asked_of_text
  by_first {s} {m} (Some k) e y h = no29 (subst (λ (o : Opening). Answers text o) e (answered text)) y h
  by_first {s} {m} None e y h = yes_to_all (subst (λ (o : Opening). Answers text o) e (answered text)) y h

  pub answered-steady : AnswersSteady text (opening_steady text)
  answered-steady = by (opening text) refl
    where
      by : (o : Opening) → opening text ≡ o → AnswersSteady text (opening_steady text)
      by (refused n p) e = rw (refused-so text e) (no2to10 (subst (λ (o : Opening). Answers text o) e (answered text)))
      by (opened m) e =
          let h = opened-by text m e in
          rw (opened-asks text h.fits e) (by_first (least (unsteady (word_of text) h.tree)) e h.fits (offends-first (word_of text) h.tree h.new))

  -- ---- the one answer

  new_in : {s : Syntax.Model} {m : Model} → opening text ≡ opened m → Yes5 text s → Yes8 text s
  new_in {s} {m} e y = let h = opened-by text m e in subst (λ (t : Syntax.Model). Yes8 text t) (one-tree text h.fits y) h.new

  first_so : {s : Syntax.Model} {m : Model} (f : Found) → opening text ≡ opened m → Yes5 text s → First (Offends (word_of text) s) f → opening_steady text ≡ asked_of_text text 29 f (opened m)
  first_so {s} {m} f e y h =
      opened-asks text y e ∙ ap (λ (g : Found). asked_of_text text 29 g (opened m)) (first-only (Offends (word_of text) s) _ f (offends-first (word_of text) s (new_in e y)) h)

  only-steady : {o : Opening} → AnswersSteady text o → opening_steady text ≡ o
  unfolding asked_of_text
  only-steady (no2to10 a) = refused-so text (answers-only text a)
  only-steady (no29 {k = k} a y h) = first_so (Some k) (answers-only text a) y h
  only-steady (yes_to_all a y h) = first_so None (answers-only text a) y h

  -- 02, note 11: opening a text under the profile is asking the questions in order, 29 after 10
  pub steady-answers : (o : Opening) → (opening_steady text ≡ o) ↔ AnswersSteady text o
  steady-answers o = (λ e. subst (λ (x : Opening). AnswersSteady text x) e answered-steady, λ a. only-steady a)

  -- 2 to 10 and 29 are the numbers under which it refuses a text
  pub steady-numbers : {n p : ℕ} (o : Opening) → AnswersSteady text o → o ≡ refused n p → ((2 ≤ n) × (n ≤ 10)) ⊎ (n ≡ 29)
  steady-numbers o (no2to10 a) e = inl (plain-numbers text o a e)
  steady-numbers {n} o (no29 a y h) e = let r : 29 ≡ n = cc in inr (sym r)
  steady-numbers o (yes_to_all a y h) e = never-opened (sym e)
