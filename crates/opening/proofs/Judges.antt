-- The returns of `judge_tree`, over plain variables: 7 to 9 of a text that fits, and its model where all have the answer yes.
use mathlib.Core.Path.{◌≡◌, refl, sym, ap, ◌∙◌}
use mathlib.Core.List.{List}
use mathlib.Core.Option.{some}
use Prim.Native.Nat.{ℕ, ◌≤◌}
use native.Mathlib.Omega.{arith}
use borrow.Author.Tests.{le-leb}
use lib.ListN.{length}
use Rattle.std.specs.Prelude.{Result, None, Some, Err, Ok}
use Rattle.token.specs.declared.Content.{Content}
use Rattle.token.specs.declared.Refusal.{Refusal}
use Rattle.token.specs.Questions.{Found, No, Judged, question_number}
use Rattle.token.specs.Questions as bytes
use Rattle.token.specs.Token.{tokens}
use Rattle.grammar.specs.Limit.{token_limit}
use Rattle.grammar.specs.Syntax
use Rattle.model.specs.Lists.{least}
use Rattle.model.specs.Sites.{system}
use Rattle.model.specs.Words.{word_of}
use Rattle.model.specs.Limits.{beyond}
use Rattle.model.specs.Fresh.{not_new}
use Rattle.model.specs.Given.{not_given}
use Rattle.model.specs.Resolved.{resolved}
use Rattle.model.specs.Opening.{Opening, refused, opened, byte_place, too_many, system_token, crowded, asked_of_text, tree_judged, opening}
use Rattle.model.specs.Held.{tree_held, model_in, held}
use Rattle.names.specs.Judged.{among_all, no_of, answer_of, judged_names}
use Rattle.names.specs.declared.Fault.{Fault}
use Rattle.opening.specs.Trees.{Fitted}
use Rattle.opening.specs.Sound.{Sound, NamesJudged}

-- ---- which no the three questions come to
number_of : Judged → ℕ
number_of (Ok u) = 0
number_of (Err r) = r.number

place_of : Judged → ℕ
place_of (Ok u) = 0
place_of (Err r) = r.place

-- a no of the tokens is the no of the text, whatever is asked later
same-no : (text : List ℕ) (f g h : Found) (more : Opening) {r : No} → bytes.asked 7 f (bytes.asked 8 g (bytes.asked 9 h (Ok tt))) ≡ Err r → asked_of_text text 7 f (asked_of_text text 8 g (asked_of_text text 9 h more)) ≡ refused r.number (byte_place text r.place)
unfolding bytes.asked asked_of_text number_of place_of
same-no text (Some i) g h more e = rw (← ap number_of e, ← ap place_of e)
same-no text None (Some i) h more e = rw (← ap number_of e, ← ap place_of e)
same-no text None None (Some i) more e = rw (← ap number_of e, ← ap place_of e)
same-no text None None None more e = cc

at_none : (f g h : Found) → bytes.asked 7 f (bytes.asked 8 g (bytes.asked 9 h (Ok tt))) ≡ Ok tt → (f ≡ None) × (g ≡ None) × (h ≡ None)
unfolding bytes.asked
at_none (Some i) g h e = cc
at_none None (Some i) h e = cc
at_none None None (Some i) e = cc
at_none None None None e = (refl, refl, refl)

-- ---- 7 to 9 of a text that fits
module _ {text : List ℕ} {s : Syntax.Model} {kinds places : List ℕ} {contents : List Content} {nodes : List ℕ} {root : ℕ} (f : Fitted text s kinds places contents nodes root) where
  abbrev f7 : Found
  f7 = least (beyond text s)

  abbrev f8 : Found
  f8 = least (not_new (word_of text) s)

  abbrev f9 : Found
  f9 = least (not_given (word_of text) s)

  few : too_many text ≡ None
  unfolding too_many
  few = let l : length (tokens text) ≤ token_limit = omega (arith, f.read.few, f.read.tabled.count) in simp (le-leb (length (tokens text)) token_limit l)

  module _ {j : Result (Unit {0}) Fault} (e : answer_of j ≡ judged_names text s) where
    pub names-no : {x : Fault} → j ≡ Err x → (r : Refusal) → r.question ≡ among_all x.question → r.place ≡ byte_place text x.token → NamesJudged text s (Err r)
    unfolding NamesJudged answer_of no_of judged_names tree_judged tree_held asked_of_text model_in
    names-no {x} i r a b =
        let q : judged_names text s ≡ Err (no_of x) = sym e ∙ ap answer_of i in
        let opens = same-no text f7 f8 f9 (asked_of_text text 10 (crowded s (resolved (word_of text) s)) (opened (resolved (word_of text) s))) q in
        let holds = same-no text f7 f8 f9 (opened (resolved (word_of text) s)) q in
        record { opens = f.opens ∙ simp few (opens ∙ rw (a, b)); holds = f.holds ∙ simp few (ap model_in holds) }

    pub names-yes : {u : Unit {0}} → j ≡ Ok u → {k p : ℕ} → p ≡ byte_place text k → k ≡ system_token (system s) → NamesJudged text s (Ok p)
    unfolding NamesJudged answer_of judged_names
    names-yes i q t =
        let a = at_none f7 f8 f9 (sym e ∙ ap answer_of i) in
        (record { within = a.0; new = a.1; given = a.2 }, q ∙ ap (byte_place text) t)

  -- ---- the model of a text that is sound
  module _ (v : Sound text s) where
    pub asks-ten : opening text ≡ asked_of_text text 10 (crowded s (resolved (word_of text) s)) (opened (resolved (word_of text) s))
    unfolding tree_judged asked_of_text
    asks-ten = f.opens ∙ simp (few, v.within, v.new, v.given)

    pub holds-model : held text ≡ some (resolved (word_of text) s)
    unfolding tree_held asked_of_text model_in
    holds-model = f.holds ∙ simp (few, v.within, v.new, v.given)
