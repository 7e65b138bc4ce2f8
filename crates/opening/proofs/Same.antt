-- Equal texts give equal tables: any two answers to one text are the same, and so are their tables as far as they are used. From the text's one tree, and from what settling leaves of it.
use mathlib.Core.Path.{◌≡◌, refl, sym, ap, ◌∙◌, subst}
use mathlib.Core.List.{List}
use Prim.Native.Nat.{ℕ}
use native.Mathlib.Omega.{arith}
use Rattle.std.specs.Prelude.{cond, eqb, Err, Ok}
use Rattle.token.specs.declared.Question.{Question}
use Rattle.token.specs.declared.Question.TheVariants.{Length, Bytes, Brackets, Grammar, Tokens, Limits, Fresh, Given, Processes, Steady}
use Rattle.token.specs.Questions.{question_number}
use Rattle.token.specs.Token.{tokens, kinds_of}
use Rattle.grammar.specs.Syntax
use Rattle.grammar.specs.Syntax.{syntax_of}
use Rattle.grammar.proofs.Unique.{unique}
use Rattle.model.specs.Words.{word_of}
use Rattle.model.specs.Questions.{Yes5}
use Rattle.settle.specs.declared.Model.{Model}
use Rattle.settle.specs.Settles.{Settles, SameTables}
use Rattle.settle.proofs.Same.{same_numbers, settled-once}
use Rattle.opening.specs.Models.{Written, ModelRead, Opens, Held, Opened}
use Rattle.opening.specs.Same.{SameHeld, SameOpened}

-- a question by its number
asked_by : ℕ → Question
asked_by n = cond (eqb n 2) Length (cond (eqb n 3) Bytes (cond (eqb n 4) Brackets (cond (eqb n 5) Grammar (cond (eqb n 6) Tokens (cond (eqb n 7) Limits (cond (eqb n 8) Fresh (cond (eqb n 9) Given (cond (eqb n 10) Processes Steady))))))))

asked-back : (q : Question) → asked_by (question_number q) ≡ q
unfolding asked_by
asked-back Length = refl
asked-back Bytes = refl
asked-back Brackets = refl
asked-back Grammar = refl
asked-back Tokens = refl
asked-back Limits = refl
asked-back Fresh = refl
asked-back Given = refl
asked-back Processes = refl
asked-back Steady = refl

one-question : {q q' : Question} → question_number q ≡ question_number q' → q ≡ q'
one-question {q} {q'} e = sym (asked-back q) ∙ ap asked_by e ∙ asked-back q'

-- 01, question 5: a text has one tree
one-tree : {text : List ℕ} {s s' : Syntax.Model} → Yes5 text s → Yes5 text s' → s ≡ s'
one-tree {text} a b = sym a.tree ∙ ap syntax_of (unique (kinds_of (tokens text)) a.reading b.reading a.reads b.reads) ∙ b.tree

module _ (text nodes roots scopes nodes' roots' scopes' : List ℕ) where
  -- ---- the tables of one text
  module _ {s s' : Syntax.Model} {x y : Model} (a : Written text s nodes roots scopes x) (b : Written text s' nodes' roots' scopes' y) where
    settled-alike : Settles (word_of text) s nodes' roots' scopes' y
    settled-alike = subst (λ (z : Syntax.Model). Settles (word_of text) z nodes' roots' scopes' y) (sym (one-tree a.fits b.fits)) b.settles

    written-numbers : x ≡ y
    written-numbers = same_numbers a.settles settled-alike

    written_once : SameTables nodes roots scopes nodes' roots' scopes' x
    written_once = settled-once a.settles settled-alike

  -- ---- the answers

  pub same-held : (r r' : Held) → ModelRead text nodes roots scopes r → ModelRead text nodes' roots' scopes' r' → SameHeld nodes roots scopes nodes' roots' scopes' r r'
  unfolding ModelRead
  same-held (Err r) (Err r') h g =
      let e = sym h.opens ∙ g.opens in
      let n : question_number r.question ≡ question_number r'.question = cc in
      let a = one-question n in
      let b : r.place ≡ r'.place = cc in
      record { answers = rw (a, b); tables = λ x q. absurd (let z : ◌≡◌ {A = ℕ} 0 1 = cc in omega arith) }
  same-held (Err r) (Ok f) h g = absurd (let e = sym h.holds ∙ g.holds in let z : ◌≡◌ {A = ℕ} 0 1 = cc in omega arith)
  same-held (Ok f) (Err r) h g = absurd (let e = sym h.holds ∙ g.holds in let z : ◌≡◌ {A = ℕ} 0 1 = cc in omega arith)
  same-held (Ok f) (Ok f') h g =
      let a = written-numbers h.written g.written in
      let t = one-tree h.written.fits g.written.fits in
      let b : f.place ≡ f'.place = h.place_is ∙ rw t (sym g.place_is) in
      record { answers = rw (a, b); tables = λ z e. let i : f ≡ z = cc in rw (← i) (written_once h.written g.written) }

  -- open_text: whatever was lent, equal texts give equal tables
  pub same_tables : (r r' : Opened) → Opens text nodes roots scopes r → Opens text nodes' roots' scopes' r' → SameOpened nodes roots scopes nodes' roots' scopes' r r'
  unfolding Opens
  same_tables (Err r) (Err r') h g =
      let e = sym h ∙ g in
      let n : question_number r.question ≡ question_number r'.question = cc in
      let a = one-question n in
      let b : r.place ≡ r'.place = cc in
      record { answers = rw (a, b); tables = λ x q. absurd (let z : ◌≡◌ {A = ℕ} 0 1 = cc in omega arith) }
  same_tables (Err r) (Ok f) h g = absurd (let e = sym h ∙ g.opens in let z : ◌≡◌ {A = ℕ} 0 1 = cc in omega arith)
  same_tables (Ok f) (Err r) h g = absurd (let e = sym h.opens ∙ g in let z : ◌≡◌ {A = ℕ} 0 1 = cc in omega arith)
  same_tables (Ok f) (Ok f') h g =
      let a = written-numbers h.written g.written in
      let e = sym h.opens ∙ g.opens in
      let m : h.model ≡ g.model = cc in
      let b : f.processes ≡ f'.processes = h.count-is ∙ rw m (sym g.count-is) in
      record { answers = rw (a, b); tables = λ z q. let i : f ≡ z = cc in rw (← i) (written_once h.written g.written) }
