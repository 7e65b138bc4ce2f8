-- Opening a text answers the first of questions 2 to 10 that has the answer no, with its place, or opens the model where all have the answer yes;
-- and gives no other answer. From the laws of the single questions and of first faults.
use mathlib.Core.Path.{◌≡◌, refl, ap, subst, ◌∙◌}
use mathlib.Core.List.{List}
use mathlib.Core.Bool.{Bool, true, false, cond}
use mathlib.Core.Logic.{◌↔◌}
use Prim.Native.Nat.{ℕ, ◌<◌}
use native.Mathlib.Decide.{dec_lt}
use native.Mathlib.Omega.{arith}
use lib.Dec.{leb}
use lib.ListN.{length}
use borrow.Author.Tests.{leb-true, leb-false, le-leb, lt-leb}
use Rattle.std.specs.Prelude.{None, Some, Ok}
use Rattle.token.specs.Token.{tokens, kinds_of}
use Rattle.token.specs.Questions.{text_limit, too_long, stray_byte, too_deep, ByteFault, DepthFault, First, bytes_judged, Found, Judged}
use Rattle.token.specs.Questions as bytes
use Rattle.token.proofs.Faults.{stray-first, deep-first}
use Rattle.grammar.specs.Syntax
use Rattle.grammar.specs.Syntax.{syntax_of}
use Rattle.grammar.specs.Verdict.{Verdict, fitting, failing, verdict}
use Rattle.grammar.proofs.Verdict.{Says, says}
use Rattle.grammar.proofs.Fitting.{place-of-texts}
use Rattle.model.specs.Lists.{least}
use Rattle.model.specs.Sites.{system}
use Rattle.model.specs.Words.{word_of}
use Rattle.model.specs.Limits.{beyond}
use Rattle.model.specs.Fresh.{not_new}
use Rattle.model.specs.Given.{not_given}
use Rattle.model.specs.Faults.{Beyond, NotNew, NotGiven}
use Rattle.model.specs.Resolved.{Model, resolved}
use Rattle.grammar.specs.Limit.{token_limit}
use Rattle.model.specs.Opening.{process_limit, Opening, opened, too_many, system_token, crowded, asked_of_text, tree_judged, read_judged, after_bytes, opening}
use Rattle.model.specs.Questions.{Yes2, Yes3, Yes4, Yes5, Yes6, Yes7, Yes8, Yes9, processes, Answers, no2, no3, no4, no5, no6, no7, no8, no9, no10, yes_to_all}
use Rattle.model.proofs.Opens.{bytes-refused, goes-wrong, fits}
use Rattle.model.proofs.Faulty.{beyond-first, new-first, given-first}

-- ---- first faults

-- there is one
pub first-only : (F : ℕ → Type 0) (f g : Found) → First F f → First F g → f ≡ g
first-only F (Some p) (Some q) a b = by (dec_lt p q) (dec_lt q p)
  where
    by : Dec (p < q) → Dec (q < p) → Some p ≡ Some q
    by (yes h) d = absurd (b.1 p h a.0)
    by (no h) (yes g) = absurd (a.1 q g b.0)
    by (no h) (no g) = let e : p ≡ q = omega arith in ap (λ (n : ℕ). Some n) e
first-only F (Some p) None a b = absurd (b p a.0)
first-only F None (Some q) a b = absurd (a q b.0)
first-only F None None a b = refl

module _ (text : List ℕ) where
  -- ---- 2 to 4

  length-yes : Yes2 text → too_long text ≡ None
  unfolding too_long
  length-yes h = simp (le-leb (length text) text_limit h)

  length-no : text_limit < length text → too_long text ≡ Some text_limit
  unfolding too_long
  length-no h = simp (lt-leb (length text) text_limit h)

  -- ---- 6 to 10, of a text with this syntax tree
  module _ (s : Syntax.Model) where
    abbrev w : ℕ → List ℕ
    w = word_of text

    abbrev m : Model
    m = resolved w s

    abbrev after9 : Opening
    after9 = asked_of_text text 10 (crowded s m) (opened m)

    abbrev after8 : Opening
    after8 = asked_of_text text 9 (least (not_given w s)) after9

    abbrev after7 : Opening
    after7 = asked_of_text text 8 (least (not_new w s)) after8

    abbrev after6 : Opening
    after6 = asked_of_text text 7 (least (beyond text s)) after7

    few-yes : Yes6 text → too_many text ≡ None
    unfolding too_many
    few-yes h = simp (le-leb (length (tokens text)) token_limit h)

    few-no : token_limit < length (tokens text) → too_many text ≡ Some token_limit
    unfolding too_many
    few-no h = simp (lt-leb (length (tokens text)) token_limit h)

    -- what each question answers
    module _ (y2 : Yes2 text) (y3 : Yes3 text) (y4 : Yes4 text) (y5 : Yes5 text s) where
      module _ (y6 : Yes6 text) where
        module _ (y7 : Yes7 text s) where
          module _ (y8 : Yes8 text s) where
            ten : Yes9 text s → Answers text after9
            unfolding crowded asked_of_text
            ten y9 = by (leb (processes text s) process_limit) refl
              where
                by : (b : Bool) → leb (processes text s) process_limit ≡ b → Answers text (asked_of_text text 10 (cond b None (Some (system_token (system s)))) (opened m))
                by true e = yes_to_all y2 y3 y4 y5 y6 y7 y8 y9 (leb-true _ _ e)
                by false e = no10 y2 y3 y4 y5 y6 y7 y8 y9 (leb-false _ _ e)

            nine : (f : Found) → First (NotGiven w s) f → Answers text (asked_of_text text 9 f after9)
            unfolding asked_of_text
            nine (Some k) h = no9 y2 y3 y4 y5 y6 y7 y8 h
            nine None h = ten h

          eight : (f : Found) → First (NotNew w s) f → Answers text (asked_of_text text 8 f after8)
          unfolding asked_of_text
          eight (Some k) h = no8 y2 y3 y4 y5 y6 y7 h
          eight None h = nine h (least (not_given w s)) (given-first w s h)

        seven : (f : Found) → First (Beyond text s) f → Answers text (asked_of_text text 7 f after7)
        unfolding asked_of_text
        seven (Some k) h = no7 y2 y3 y4 y5 y6 h
        seven None h = eight h (least (not_new w s)) (new-first w s)

      six : Answers text (tree_judged text s)
      unfolding tree_judged asked_of_text too_many
      six = by (leb (length (tokens text)) token_limit) refl
        where
          by : (b : Bool) → leb (length (tokens text)) token_limit ≡ b → Answers text (asked_of_text text 6 (cond b None (Some token_limit)) after6)
          by true e = seven (leb-true _ _ e) (least (beyond text s)) (beyond-first text s)
          by false e = no6 y2 y3 y4 y5 (leb-false _ _ e)

    -- and that it answers so
    to7 : Yes6 text → tree_judged text s ≡ after6
    unfolding tree_judged asked_of_text
    to7 y6 = ap (λ (f : Found). asked_of_text text 6 f after6) (few-yes y6)

    after-seven : (f : Found) → First (Beyond text s) f → after6 ≡ asked_of_text text 7 f after7
    after-seven f h = ap (λ (f : Found). asked_of_text text 7 f after7) (first-only (Beyond text s) _ f (beyond-first text s) h)

    after-eight : (f : Found) → First (NotNew w s) f → after7 ≡ asked_of_text text 8 f after8
    after-eight f h = ap (λ (f : Found). asked_of_text text 8 f after8) (first-only (NotNew w s) _ f (new-first w s) h)

    after-nine : (f : Found) → Yes8 text s → First (NotGiven w s) f → after8 ≡ asked_of_text text 9 f after9
    after-nine f y8 h = ap (λ (f : Found). asked_of_text text 9 f after9) (first-only (NotGiven w s) _ f (given-first w s y8) h)

    to8 : Yes6 text → Yes7 text s → tree_judged text s ≡ after7
    unfolding asked_of_text
    to8 y6 y7 = to7 y6 ∙ after-seven None y7

    to9 : Yes6 text → Yes7 text s → Yes8 text s → tree_judged text s ≡ after8
    unfolding asked_of_text
    to9 y6 y7 y8 = to8 y6 y7 ∙ after-eight None y8

    to10 : Yes6 text → Yes7 text s → Yes8 text s → Yes9 text s → tree_judged text s ≡ after9
    unfolding asked_of_text
    to10 y6 y7 y8 y9 = to9 y6 y7 y8 ∙ after-nine None y8 y9

  -- ---- 2 to 5

  abbrev after3 : Judged
  after3 = bytes.asked 4 (too_deep 0 false 0 text) (Ok tt)

  abbrev after2 : Judged
  after2 = bytes.asked 3 (stray_byte 0 text) after3

  abbrev kinds : List ℕ
  kinds = kinds_of (tokens text)

  five : Yes2 text → Yes3 text → Yes4 text → (v : Verdict) → Says kinds v → Answers text (read_judged text v)
  unfolding read_judged
  five y2 y3 y4 (fitting d) r = six (syntax_of d) y2 y3 y4 (record { reading = d; reads = r; tree = refl })
  five y2 y3 y4 (failing k) w = no5 y2 y3 y4 ((place-of-texts text k).0 w)

  four : (f : Found) → Yes2 text → Yes3 text → First (DepthFault text) f → Answers text (after_bytes text (bytes.asked 4 f (Ok tt)))
  unfolding after_bytes bytes.asked
  four (Some p) y2 y3 h = no4 y2 y3 h
  four None y2 y3 h = five y2 y3 h (verdict kinds) (says kinds)

  three : (f : Found) → Yes2 text → First (ByteFault text) f → Answers text (after_bytes text (bytes.asked 3 f after3))
  unfolding after_bytes bytes.asked
  three (Some p) y2 h = no3 y2 h
  three None y2 h = four (too_deep 0 false 0 text) y2 h (deep-first text)

  -- what opening answers is the first no, or yes to all
  pub answered : Answers text (opening text)
  unfolding opening bytes_judged too_long bytes.asked after_bytes
  answered = by (leb (length text) text_limit) refl
    where
      by : (b : Bool) → leb (length text) text_limit ≡ b → Answers text (after_bytes text (bytes.asked 2 (cond b None (Some text_limit)) after2))
      by true e = three (stray_byte 0 text) (leb-true _ _ e) (stray-first text)
      by false e = no2 (leb-false _ _ e)

  -- ---- the one answer

  to3 : Yes2 text → bytes_judged text ≡ after2
  unfolding bytes_judged bytes.asked
  to3 y2 = ap (λ (f : Found). bytes.asked 2 f after2) (length-yes y2)

  after-three : (f : Found) → First (ByteFault text) f → after2 ≡ bytes.asked 3 f after3
  after-three f h = ap (λ (f : Found). bytes.asked 3 f after3) (first-only (ByteFault text) (stray_byte 0 text) f (stray-first text) h)

  after-four : (f : Found) → First (DepthFault text) f → after3 ≡ bytes.asked 4 f (Ok tt)
  after-four f h = ap (λ (f : Found). bytes.asked 4 f (Ok tt)) (first-only (DepthFault text) (too_deep 0 false 0 text) f (deep-first text) h)

  to4 : Yes2 text → Yes3 text → bytes_judged text ≡ after3
  unfolding bytes.asked
  to4 y2 y3 = to3 y2 ∙ after-three None y3

  passed : Yes2 text → Yes3 text → Yes4 text → bytes_judged text ≡ Ok tt
  unfolding bytes.asked
  passed y2 y3 y4 = to4 y2 y3 ∙ after-four None y4

  reading : {s : Syntax.Model} → Yes2 text → Yes3 text → Yes4 text → Yes5 text s → opening text ≡ tree_judged text s
  reading y2 y3 y4 y5 = fits text y5.reading (passed y2 y3 y4) y5.reads ∙ ap (tree_judged text) y5.tree

  -- opening gives whatever the questions answer
  pub answers-only : {o : Opening} → Answers text o → opening text ≡ o
  unfolding asked_of_text crowded too_many bytes_judged bytes.asked tree_judged
  answers-only (no2 h) = bytes-refused text 2 text_limit (ap (λ (f : Found). bytes.asked 2 f after2) (length-no h))
  answers-only (no3 {p = p} y2 h) = bytes-refused text 3 p (to3 y2 ∙ after-three (Some p) h)
  answers-only (no4 {p = p} y2 y3 h) = bytes-refused text 4 p (to4 y2 y3 ∙ after-four (Some p) h)
  answers-only (no5 {k = k} y2 y3 y4 h) = goes-wrong text k (passed y2 y3 y4) ((place-of-texts text k).1 h)
  answers-only (no6 {s = s} y2 y3 y4 y5 h) = reading y2 y3 y4 y5 ∙ ap (λ (f : Found). asked_of_text text 6 f (after6 s)) (few-no s h)
  answers-only (no7 {s = s} {k = k} y2 y3 y4 y5 y6 h) = reading y2 y3 y4 y5 ∙ to7 s y6 ∙ after-seven s (Some k) h
  answers-only (no8 {s = s} {k = k} y2 y3 y4 y5 y6 y7 h) = reading y2 y3 y4 y5 ∙ to8 s y6 y7 ∙ after-eight s (Some k) h
  answers-only (no9 {s = s} {k = k} y2 y3 y4 y5 y6 y7 y8 h) = reading y2 y3 y4 y5 ∙ to9 s y6 y7 y8 ∙ after-nine s (Some k) y8 h
  answers-only (no10 {s = s} y2 y3 y4 y5 y6 y7 y8 y9 h) =
      reading y2 y3 y4 y5 ∙ to10 s y6 y7 y8 y9
      ∙ ap (λ (b : Bool). asked_of_text text 10 (cond b None (Some (system_token (system s)))) (opened (resolved (word_of text) s))) (lt-leb (processes text s) process_limit h)
  answers-only (yes_to_all {s = s} y2 y3 y4 y5 y6 y7 y8 y9 h) =
      reading y2 y3 y4 y5 ∙ to10 s y6 y7 y8 y9
      ∙ ap (λ (b : Bool). asked_of_text text 10 (cond b None (Some (system_token (system s)))) (opened (resolved (word_of text) s))) (le-leb (processes text s) process_limit h)

  -- 01, Opening a text: opening a text is asking the questions in order
  pub opening-answers : (o : Opening) → (opening text ≡ o) ↔ Answers text o
  opening-answers o = (λ e. subst (λ (x : Opening). Answers text x) e answered, λ a. answers-only a)
