-- Of a text that is opened: each wait's token is one of its first 4,096 and has at most 16 bytes, and so has each wait name. From questions 6 and 7, and from the kind of a wait's token.
use mathlib.Core.Path.{◌≡◌, refl, ap, sym, subst, ◌∙◌}
use mathlib.Core.Bool.{Bool, true, false}
use mathlib.Core.List.Memᴰ.{head}
use mathlib.Core.List.Memᴰ.{tail}
use mathlib.Core.List.{List, [], ◌∷◌, Memᴰ as In}
use mathlib.Core.Option.{some}
use Prim.Native.Nat.{ℕ, zero, suc, ◌≤◌, ◌<◌}
use native.Mathlib.Omega.{arith}
use borrow.Author.Tests.{leb-true, leb-false}
use lib.Dec.{leb}
use lib.ListN.{length, get_or, get_elem?}
use Rattle.word.specs.Name.{longest}
use Rattle.token.specs.Kind as kind
use Rattle.token.specs.Token.{Mark, tokens, kinds_of, column}
use Rattle.token.specs.Contents.{bytes_of}
use Rattle.grammar.specs.Limit.{token_limit}
use Rattle.grammar.specs.Grammar.{Reads}
use Rattle.grammar.specs.Syntax
use Rattle.grammar.specs.Syntax.{syntax_of}
use Rattle.model.specs.Lists.{each}
use Rattle.model.specs.Words.{nth, word_of}
use Rattle.model.specs.Faults.{long-name}
use Rattle.model.specs.Resolved.{Model, resolved}
use Rattle.model.specs.Opening.{Opening, refused, opened, opening}
use Rattle.model.specs.Questions.{Yes5, Yes6, Yes7, Answers, no2, no3, no4, no5, no6, no7, no8, no9, no10, yes_to_all}
use Rattle.model.proofs.Answered.{answered}
use Rattle.waitnames.specs.Names.{all_waits, name_tokens, wait_names}
use Rattle.waitnames.proofs.Numbered.{numbered}
use Rattle.waitnames.proofs.Named.{waits-named}

-- ---- a token by its kind

record MarkAt (ms : List Mark) (k : ℕ) : Type 0 where
  mark : Mark
  at : get_elem? ms k ≡ some mark
  first : nth ms k ≡ mark
  name : mark.kind ≡ kind.name
  within : k < length ms

mark-at : (ms : List Mark) (k : ℕ) → get_or (kinds_of ms) k 0 ≡ kind.name → MarkAt ms k
unfolding column nth
mark-at [] zero e = absurd (omega (arith, e))
mark-at [] (suc k) e = absurd (omega (arith, e))
mark-at (m ∷ ms) zero e = record { mark = m; at = refl; first = refl; name = e; within = omega arith }
mark-at (m ∷ ms) (suc k) e =
    let r = mark-at ms k e in
    record { mark = r.mark; at = r.at; first = r.first; name = r.name; within = omega (arith, r.within) }

-- ---- the waits of a text

-- what is known of a wait's token
pub record Fits (m : Model) (k : ℕ) : Type 0 where
  pub few : k < token_limit
  pub short : length (m.words k) ≤ longest

module _ (text : List ℕ) where
  wait-fits : (s : Syntax.Model) → Yes5 text s → Yes6 text → Yes7 text s → (k : ℕ) → In k (all_waits (resolved (word_of text) s)) → Fits (resolved (word_of text) s) k
  unfolding resolved word_of Reads
  wait-fits s y5 y6 y7 k i = by (leb (length (bytes_of text r.mark)) longest) refl
    where
      j : In k (all_waits (resolved (word_of text) (syntax_of y5.reading)))
      j = subst (λ (x : Syntax.Model). In k (all_waits (resolved (word_of text) x))) (sym y5.tree) i

      r : MarkAt (tokens text) k
      r = mark-at (tokens text) k (ap (λ (ts : List ℕ). get_or ts k 0) (sym y5.reads) ∙ waits-named (word_of text) y5.reading k j)

      by : (b : Bool) → leb (length (bytes_of text r.mark)) longest ≡ b → Fits (resolved (word_of text) s) k
      by true e = record { few = omega (arith, r.within, y6); short = subst (λ (t : Mark). length (bytes_of text t) ≤ longest) (sym r.first) (leb-true _ _ e) }
      by false e = absurd (y7 k (long-name r.at r.name (leb-false _ _ e)))

  never-opened : {A : Type 0} {n p : ℕ} {m : Model} → refused n p ≡ opened m → A
  never-opened e = absurd (let z : ◌≡◌ {A = ℕ} 0 1 = cc in omega arith)

  by_answer : (o : Opening) (m : Model) → Answers text o → o ≡ opened m → (k : ℕ) → In k (all_waits m) → Fits m k
  by_answer o m (no2 h) e = never-opened e
  by_answer o m (no3 y2 h) e = never-opened e
  by_answer o m (no4 y2 y3 h) e = never-opened e
  by_answer o m (no5 y2 y3 y4 h) e = never-opened e
  by_answer o m (no6 y2 y3 y4 y5 h) e = never-opened e
  by_answer o m (no7 y2 y3 y4 y5 y6 h) e = never-opened e
  by_answer o m (no8 y2 y3 y4 y5 y6 y7 h) e = never-opened e
  by_answer o m (no9 y2 y3 y4 y5 y6 y7 y8 h) e = never-opened e
  by_answer o m (no10 y2 y3 y4 y5 y6 y7 y8 y9 h) e = never-opened e
  by_answer o m (yes_to_all {s = s} y2 y3 y4 y5 y6 y7 y8 y9 y10) e =
      let d : resolved (word_of text) s ≡ m = cc in
      subst (λ (x : Model). (k : ℕ) → In k (all_waits x) → Fits x k) d (wait-fits s y5 y6 y7)

  -- 02, note 13: every wait's token stands among the first, and its name is short
  pub opened-waits : (m : Model) → opening text ≡ opened m → (k : ℕ) → In k (all_waits m) → Fits m k
  opened-waits m e = by_answer (opening text) m (answered text) e

-- ---- names

short-each : (w : ℕ → List ℕ) (ts : List ℕ) → ((k : ℕ) → In k ts → length (w k) ≤ longest) → (n : ℕ) → n < length (each (λ (k : ℕ). w k ∷ []) ts) → length (get_or (each (λ (k : ℕ). w k ∷ []) ts) n []) ≤ longest
unfolding each
short-each w [] h n l = absurd (omega arith)
short-each w (t ∷ ts) h zero l = h t (head refl)
short-each w (t ∷ ts) h (suc n) l = short-each w ts (λ k i. h k (tail i)) n (omega arith)

pub opened-short : (text : List ℕ) (m : Model) → opening text ≡ opened m → (n : ℕ) → n < length (wait_names m) → length (get_or (wait_names m) n []) ≤ longest
unfolding wait_names
opened-short text m e = short-each m.words (name_tokens m) (λ k i. (opened-waits text m e k ((numbered m).firsts k i).wait).short)
