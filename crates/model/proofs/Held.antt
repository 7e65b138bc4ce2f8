-- What a text holds and what opening it answers go together: both refuse under 2 to 9, or both have the text's model, of which opening still asks 10; and models that texts hold are
-- well formed. From the laws of first faults, question by question.
use mathlib.Core.Path.{◌≡◌, refl, ap, subst}
use mathlib.Core.List.{List, []}
use mathlib.Core.Bool.{Bool, true, false, cond}
use mathlib.Core.Option.{Option, none, some}
use Prim.Native.Nat.{ℕ, ◌≤◌, ◌<◌}
use native.Mathlib.Omega.{arith}
use lib.Dec.{leb}
use lib.ListN.{length}
use borrow.Author.Tests.{leb-true, le-leb, lt-leb}
use Rattle.std.specs.Prelude.{None, Some, Ok}
use Rattle.token.specs.Token.{tokens, kinds_of}
use Rattle.token.specs.Questions.{text_limit, too_long, stray_byte, too_deep, First, bytes_judged, Found, Judged}
use Rattle.token.specs.Questions as bytes
use Rattle.grammar.specs.Syntax
use Rattle.grammar.specs.Syntax.{syntax_of}
use Rattle.grammar.specs.Limit.{token_limit}
use Rattle.grammar.specs.Verdict.{Verdict, fitting, failing, verdict}
use Rattle.grammar.proofs.Verdict.{Says, says}
use Rattle.model.specs.Lists.{least}
use Rattle.model.specs.Sites.{system}
use Rattle.model.specs.Words.{word_of}
use Rattle.model.specs.Limits.{beyond}
use Rattle.model.specs.Fresh.{not_new}
use Rattle.model.specs.Given.{not_given}
use Rattle.model.specs.Faults.{Beyond, NotNew, NotGiven}
use Rattle.model.specs.Good.{GoodModel}
use Rattle.model.specs.Resolved.{Model, resolved}
use Rattle.model.specs.Opening.{process_limit, Opening, refused, opened, too_many, processes_at_start, system_token, crowded, asked_of_text, tree_judged, read_judged, after_bytes, opening, byte_place}
use Rattle.model.specs.Held.{tree_held, model_in, read_held, bytes_held, held}
use Rattle.model.specs.Questions.{Yes2, Yes5, Yes7, Yes8, Yes9}
use Rattle.model.proofs.Faulty.{beyond-first, new-first, given-first}
use Rattle.model.proofs.Opened as opened
use Rattle.model.proofs.Computes.{judged_bytes, kinds_in, ran, placed, stops_so}

module _ (text : List ℕ) where
  abbrev w : ℕ → List ℕ
  w = word_of text

  -- 10: what opening a text with this syntax tree answers after a yes to 9
  abbrev tenth : Syntax.Model → Opening
  tenth s = asked_of_text text 10 (crowded s (resolved w s)) (opened (resolved w s))

  -- what a text holds, and what opening it answers
  pub data Agree : Option Model → Opening → Type 0 where
    refuses : (n : ℕ) {p : ℕ} → n ≤ 9 → Agree none (refused n p)
    holds : {s : Syntax.Model} → Yes2 text → Yes5 text s → Yes7 text s → Yes8 text s → Yes9 text s → Agree (some (resolved w s)) (tenth s)

  module _ (s : Syntax.Model) (y2 : Yes2 text) (y5 : Yes5 text s) where
    module _ (y7 : Yes7 text s) where
      nine : (f : Found) → Yes8 text s → First (NotGiven w s) f → Agree (model_in (asked_of_text text 9 f (opened (resolved w s)))) (asked_of_text text 9 f (tenth s))
      unfolding asked_of_text model_in
      nine (Some k) y8 h = refuses 9 (omega arith)
      nine None y8 h = holds y2 y5 y7 y8 h

      eight : (f : Found) → First (NotNew w s) f
          → Agree (model_in (asked_of_text text 8 f (asked_of_text text 9 (least (not_given w s)) (opened (resolved w s))))) (asked_of_text text 8 f (asked_of_text text 9 (least (not_given w s)) (tenth s)))
      unfolding asked_of_text model_in
      eight (Some k) h = refuses 8 (omega arith)
      eight None h = nine (least (not_given w s)) h (given-first w s h)

    -- questions 8 and 9 before an answer
    abbrev after7 : Opening → Opening
    after7 o = asked_of_text text 8 (least (not_new w s)) (asked_of_text text 9 (least (not_given w s)) o)

    seven : (f : Found) → First (Beyond text s) f → Agree (model_in (asked_of_text text 7 f (after7 (opened (resolved w s))))) (asked_of_text text 7 f (after7 (tenth s)))
    unfolding asked_of_text model_in
    seven (Some k) h = refuses 7 (omega arith)
    seven None h = eight h (least (not_new w s)) (new-first w s)

    six : Agree (model_in (tree_held text s)) (tree_judged text s)
    unfolding tree_held tree_judged asked_of_text model_in too_many
    six = by (leb (length (tokens text)) token_limit)
      where
        by : (b : Bool)
            → Agree (model_in (asked_of_text text 6 (cond b None (Some token_limit)) (asked_of_text text 7 (least (beyond text s)) (after7 (opened (resolved w s))))))
            (asked_of_text text 6 (cond b None (Some token_limit)) (asked_of_text text 7 (least (beyond text s)) (after7 (tenth s))))
        by true = seven (least (beyond text s)) (beyond-first text s)
        by false = refuses 6 (omega arith)

  abbrev kinds : List ℕ
  kinds = kinds_of (tokens text)

  five : Yes2 text → (v : Verdict) → Says kinds v → Agree (read_held text v) (read_judged text v)
  unfolding read_held read_judged
  five y2 (fitting d) r = six (syntax_of d) y2 (record { reading = d; reads = r; tree = refl })
  five y2 (failing k) w = refuses 5 (omega arith)

  four : (f : Found) → Yes2 text → Agree (bytes_held text (bytes.asked 4 f (Ok tt))) (after_bytes text (bytes.asked 4 f (Ok tt)))
  unfolding bytes_held after_bytes bytes.asked
  four (Some p) y2 = refuses 4 (omega arith)
  four None y2 = five y2 (verdict kinds) (says kinds)

  abbrev after3 : Judged
  after3 = bytes.asked 4 (too_deep 0 false 0 text) (Ok tt)

  abbrev after2 : Judged
  after2 = bytes.asked 3 (stray_byte 0 text) after3

  three : (f : Found) → Yes2 text → Agree (bytes_held text (bytes.asked 3 f after3)) (after_bytes text (bytes.asked 3 f after3))
  unfolding bytes_held after_bytes bytes.asked
  three (Some p) y2 = refuses 3 (omega arith)
  three None y2 = four (too_deep 0 false 0 text) y2

  pub agree : Agree (held text) (opening text)
  unfolding held opening bytes_held after_bytes bytes_judged bytes.asked too_long
  agree = by (leb (length text) text_limit) refl
    where
      by : (b : Bool) → leb (length text) text_limit ≡ b
          → Agree (bytes_held text (bytes.asked 2 (cond b None (Some text_limit)) after2)) (after_bytes text (bytes.asked 2 (cond b None (Some text_limit)) after2))
      by true e = three (stray_byte 0 text) (leb-true _ _ e)
      by false e = refuses 2 (omega arith)

  -- ---- what follows

  -- a model that a text holds is well formed, and the text has a text's length
  by-held : {o : Option Model} {a : Opening} (m : Model) → Agree o a → o ≡ some m → GoodModel m × (length text ≤ text_limit)
  by-held m (refuses n l) e = absurd (let z : ◌≡◌ {A = ℕ} 0 1 = cc in omega arith)
  by-held m (holds {s = s} y2 y5 y7 y8 y9) e =
      let d : resolved w s ≡ m = cc in
      (subst (λ (x : Model). GoodModel x) d (opened.closed text s y5 y7 y8 y9), y2)

  pub held-good : (m : Model) → held text ≡ some m → GoodModel m
  held-good m e = (by-held m agree e).0

  pub held-short : (m : Model) → held text ≡ some m → length text ≤ text_limit
  held-short m e = (by-held m agree e).1

  -- an opened text holds the model that it opened
  by-opened : {o : Option Model} {a : Opening} (m : Model) → Agree o a → a ≡ opened m → o ≡ some m
  unfolding asked_of_text
  by-opened m (refuses n l) e = absurd (let z : ◌≡◌ {A = ℕ} 0 1 = cc in omega arith)
  by-opened m (holds {s = s} y2 y5 y7 y8 y9) e = by (crowded s (resolved w s)) e
    where
      by : (f : Found) → asked_of_text text 10 f (opened (resolved w s)) ≡ opened m → some (resolved w s) ≡ some m
      by (Some k) e = absurd (let z : ◌≡◌ {A = ℕ} 0 1 = cc in omega arith)
      by None e = cc

  pub opened-held : (m : Model) → opening text ≡ opened m → held text ≡ some m
  opened-held m e = by-opened m agree e

  pub opened-short : (m : Model) → opening text ≡ opened m → length text ≤ text_limit
  opened-short m e = held-short m (opened-held m e)

  -- of a text that holds a model, 10 alone is left
  by-few : {o : Option Model} {a : Opening} (m : Model) → Agree o a → o ≡ some m → processes_at_start m.definitions m.starts ≤ process_limit → a ≡ opened m
  unfolding asked_of_text crowded
  by-few m (refuses n l) e h = absurd (let z : ◌≡◌ {A = ℕ} 0 1 = cc in omega arith)
  by-few m (holds {s = s} y2 y5 y7 y8 y9) e h =
      let d : resolved w s ≡ m = cc in
      rw d (ap (λ (b : Bool). asked_of_text text 10 (cond b None (Some (system_token (system s)))) (opened m)) (le-leb (processes_at_start m.definitions m.starts) process_limit h))

  -- and where that has the answer no, opening refuses
  by-many : {o : Option Model} {a : Opening} (m : Model) → Agree o a → o ≡ some m → process_limit < processes_at_start m.definitions m.starts → (p : ℕ) × (a ≡ refused 10 p)
  unfolding asked_of_text crowded
  by-many m (refuses n l) e h = absurd (let z : ◌≡◌ {A = ℕ} 0 1 = cc in omega arith)
  by-many m (holds {s = s} y2 y5 y7 y8 y9) e h =
      let d : resolved w s ≡ m = cc in (
        byte_place text (system_token (system s)),
        rw d (ap (λ (b : Bool). asked_of_text text 10 (cond b None (Some (system_token (system s)))) (opened m)) (lt-leb (processes_at_start m.definitions m.starts) process_limit h)),
      )

  pub held-opened : (m : Model) → held text ≡ some m → processes_at_start m.definitions m.starts ≤ process_limit → opening text ≡ opened m
  held-opened m e h = by-few m agree e h

  pub held-refused : (m : Model) → held text ≡ some m → process_limit < processes_at_start m.definitions m.starts → (p : ℕ) × (opening text ≡ refused 10 p)
  held-refused m e h = by-many m agree e h

  -- a text refused under 2 to 9 holds none
  by-refused : {o : Option Model} {a : Opening} (n p : ℕ) → Agree o a → a ≡ refused n p → n ≤ 9 → o ≡ none
  unfolding asked_of_text
  by-refused n p (refuses k l) e h = refl
  by-refused n p (holds {s = s} y2 y5 y7 y8 y9) e h = by (crowded s (resolved w s)) e
    where
      by : (f : Found) → asked_of_text text 10 f (opened (resolved w s)) ≡ refused n p → some (resolved w s) ≡ none
      by (Some k) e = absurd (let z : 10 ≡ n = cc in omega arith)
      by None e = absurd (let z : ◌≡◌ {A = ℕ} 0 1 = cc in omega arith)

  pub refused-held : (n p : ℕ) → opening text ≡ refused n p → n ≤ 9 → held text ≡ none
  refused-held n p e h = by-refused n p agree e h

-- the empty text fits no grammar
pub empty-held : held [] ≡ none
unfolding judged_bytes kinds_in ran placed
empty-held = refused-held [] 5 0 (stops_so [] 0 0 refl refl refl) (omega arith)
