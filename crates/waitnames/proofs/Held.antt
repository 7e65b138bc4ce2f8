-- Of a text that holds a model, each wait's token is one of its first 4,096: from question 6, and from the kind of a wait's token.
use mathlib.Core.Path.{◌≡◌, refl, ap, sym, ◌∙◌}
use mathlib.Core.Bool.{Bool, true, false, cond}
use mathlib.Core.List.{List, [], ◌∷◌, Memᴰ as In}
use mathlib.Core.Option.{some}
use Prim.Native.Nat.{ℕ, zero, suc, ◌<◌}
use native.Mathlib.Omega.{arith}
use borrow.Author.Tests.{leb-true}
use lib.Dec.{leb}
use lib.ListN.{length, get_or}
use Rattle.std.specs.Prelude.{None, Some, Err, Ok}
use Rattle.token.specs.Kind as kind
use Rattle.token.specs.Token.{Mark, tokens, kinds_of, column}
use Rattle.token.specs.Questions.{bytes_judged, Judged, Found}
use Rattle.grammar.specs.Limit.{token_limit}
use Rattle.grammar.specs.Grammar as derived
use Rattle.grammar.specs.Grammar.{Reads, flat_model}
use Rattle.grammar.specs.Syntax
use Rattle.grammar.specs.Syntax.{syntax_of}
use Rattle.grammar.specs.Verdict.{Verdict, fitting, failing, verdict}
use Rattle.grammar.proofs.Verdict.{Says, says}
use Rattle.model.specs.Words.{word_of}
use Rattle.model.specs.Resolved.{Model, resolved}
use Rattle.model.specs.Lists.{least}
use Rattle.model.specs.Limits.{beyond}
use Rattle.model.specs.Fresh.{not_new}
use Rattle.model.specs.Given.{not_given}
use Rattle.model.specs.Opening.{Opening, opened, too_many, asked_of_text}
use Rattle.model.specs.Held.{tree_held, model_in, read_held, bytes_held, held}
use Rattle.waitnames.specs.Names.{all_waits}
use Rattle.waitnames.proofs.Named.{waits-named}

column_long : (f : Mark → ℕ) (ms : List Mark) → length (column f ms) ≡ length ms
unfolding column
column_long f [] = refl
column_long f (m ∷ ms) = ap suc (column_long f ms)

-- a number that stands in a list
below : (l : List ℕ) (k n : ℕ) → get_or l k 0 ≡ suc n → k < length l
below [] k n e = absurd (omega (arith, e))
below (x ∷ l) zero n e = omega arith
below (x ∷ l) (suc k) n e = let r = below l k n e in omega arith

-- a token of a list that a derivation reads
read_at : (ts : List ℕ) (d : derived.Model) → Reads ts d → (k : ℕ) → get_or ts k 0 ≡ get_or (flat_model d []) k 0
unfolding Reads
read_at ts d r k = ap (λ (l : List ℕ). get_or l k 0) (sym r)

module _ (text : List ℕ) (m : Model) where
  abbrev Waits : Type 0
  Waits = (k : ℕ) → In k (all_waits m) → k < token_limit

  -- what a no refuses holds nothing
  passes : (n : ℕ) (f : Found) (o : Opening) → model_in (asked_of_text text n f o) ≡ some m → model_in o ≡ some m
  unfolding model_in asked_of_text
  passes n (Some k) o e = absurd (let z : ◌≡◌ {A = ℕ} 0 1 = cc in omega arith)
  passes n None o e = e

  refuses : (n k : ℕ) (o : Opening) → model_in (asked_of_text text n (Some k) o) ≡ some m → ⊥
  unfolding model_in asked_of_text
  refuses n k o e = let z : ◌≡◌ {A = ℕ} 0 1 = cc in omega arith

  holds : (x : Model) → model_in (opened x) ≡ some m → x ≡ m
  unfolding model_in
  holds x e = cc

  of-tree : (d : derived.Model) → Reads (kinds_of (tokens text)) d → model_in (tree_held text (syntax_of d)) ≡ some m → Waits
  unfolding tree_held too_many
  of-tree d r e = by (leb (length (tokens text)) token_limit) refl e
    where
      t : Syntax.Model
      t = syntax_of d

      rest : Opening
      rest =
          asked_of_text text 7 (least (beyond text t))
          (asked_of_text text 8 (least (not_new (word_of text) t))
          (asked_of_text text 9 (least (not_given (word_of text) t)) (opened (resolved (word_of text) t))))

      by : (b : Bool) → leb (length (tokens text)) token_limit ≡ b → model_in (asked_of_text text 6 (cond b None (Some token_limit)) rest) ≡ some m → Waits
      by false f e = absurd (refuses 6 token_limit rest e)
      by true f e =
          let a = passes 9 (least (not_given (word_of text) t)) _ (passes 8 (least (not_new (word_of text) t)) _ (passes 7 (least (beyond text t)) _ (passes 6 None rest e))) in
          let q : resolved (word_of text) t ≡ m = holds (resolved (word_of text) t) a in
          λ k i.
          let n : get_or (kinds_of (tokens text)) k 0 ≡ kind.name = read_at (kinds_of (tokens text)) d r k ∙ waits-named (word_of text) d k (rw q i) in
          let l : length (kinds_of (tokens text)) ≡ length (tokens text) = column_long (λ m. m.kind) (tokens text) in
          omega (arith, below (kinds_of (tokens text)) k _ n, leb-true _ _ f)

  of-verdict : (v : Verdict) → Says (kinds_of (tokens text)) v → read_held text v ≡ some m → Waits
  unfolding read_held
  of-verdict (fitting d) r e = of-tree d r e
  of-verdict (failing k) r e = absurd (let z : ◌≡◌ {A = ℕ} 0 1 = cc in omega arith)

  of-bytes : (j : Judged) → bytes_held text j ≡ some m → Waits
  unfolding bytes_held
  of-bytes (Err r) e = absurd (let z : ◌≡◌ {A = ℕ} 0 1 = cc in omega arith)
  of-bytes (Ok u) e = of-verdict (verdict (kinds_of (tokens text))) (says (kinds_of (tokens text))) e

  pub held-waits : held text ≡ some m → Waits
  unfolding held
  held-waits e = of-bytes (bytes_judged text) e
