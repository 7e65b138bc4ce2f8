-- What opening under the steady profile comes to: a refusal of a plain opening, or 29 of the text's syntax tree, of which there is one. From what opening answers.
use mathlib.Core.Path.{◌≡◌, sym, ap, ◌∙◌}
use mathlib.Core.List.{List}
use Prim.Native.Nat.{ℕ, ◌≤◌}
use native.Mathlib.Omega.{arith}
use Rattle.token.specs.Token.{tokens, kinds_of}
use Rattle.grammar.specs.Syntax
use Rattle.grammar.specs.Syntax.{syntax_of}
use Rattle.grammar.specs.Verdict.{Verdict, fitting, failing, verdict}
use Rattle.grammar.proofs.Verdict.{verdict-fits}
use Rattle.grammar.proofs.Unique.{unique}
use Rattle.model.specs.Lists.{least}
use Rattle.model.specs.Words.{word_of}
use Rattle.model.specs.Resolved.{Model, resolved}
use Rattle.model.specs.Opening.{Opening, refused, opened, asked_of_text, opening}
use Rattle.model.specs.Questions.{Yes5, Yes8, Yes9, Answers, no2, no3, no4, no5, no6, no7, no8, no9, no10, yes_to_all}
use Rattle.model.proofs.Answered.{answered}
use Rattle.profile.specs.Unsteady.{unsteady}
use Rattle.profile.specs.Opening.{also_steady, read_steady, opening_steady}

pub never-opened : {A : Type 0} {n p : ℕ} {m : Model} → refused n p ≡ opened m → A
never-opened e = absurd (let z : ◌≡◌ {A = ℕ} 0 1 = cc in omega arith)

-- 2 to 10 are the numbers under which a plain opening refuses a text
pub plain-numbers : (text : List ℕ) {n p : ℕ} (o : Opening) → Answers text o → o ≡ refused n p → (2 ≤ n) × (n ≤ 10)
plain-numbers text {n} {p} o a e = by o a e
  where
    is : (k q : ℕ) → refused k q ≡ refused n p → 2 ≤ k → k ≤ 10 → (2 ≤ n) × (n ≤ 10)
    is k q e l h = let r : k ≡ n = cc in (omega arith, omega arith)

    by : (o : Opening) → Answers text o → o ≡ refused n p → (2 ≤ n) × (n ≤ 10)
    by o (no2 h) e = is 2 _ e (omega arith) (omega arith)
    by o (no3 y2 h) e = is 3 _ e (omega arith) (omega arith)
    by o (no4 y2 y3 h) e = is 4 _ e (omega arith) (omega arith)
    by o (no5 y2 y3 y4 h) e = is 5 _ e (omega arith) (omega arith)
    by o (no6 y2 y3 y4 y5 h) e = is 6 _ e (omega arith) (omega arith)
    by o (no7 y2 y3 y4 y5 y6 h) e = is 7 _ e (omega arith) (omega arith)
    by o (no8 y2 y3 y4 y5 y6 y7 h) e = is 8 _ e (omega arith) (omega arith)
    by o (no9 y2 y3 y4 y5 y6 y7 y8 h) e = is 9 _ e (omega arith) (omega arith)
    by o (no10 y2 y3 y4 y5 y6 y7 y8 y9 h) e = is 10 _ e (omega arith) (omega arith)
    by o (yes_to_all y2 y3 y4 y5 y6 y7 y8 y9 y10) e = absurd (let z : ◌≡◌ {A = ℕ} 0 1 = cc in omega arith)

module _ (text : List ℕ) where
  abbrev ts : List ℕ
  ts = kinds_of (tokens text)

  -- ---- the text's syntax tree

  -- there is one
  pub one-tree : {s t : Syntax.Model} → Yes5 text s → Yes5 text t → s ≡ t
  one-tree a b = sym a.tree ∙ ap syntax_of (unique ts a.reading b.reading a.reads b.reads) ∙ b.tree

  -- what is known of an opened model
  pub record OpenedBy (m : Model) : Type 0 where
    pub tree : Syntax.Model
    pub fits : Yes5 text tree
    pub new : Yes8 text tree
    pub given : Yes9 text tree
    pub model : m ≡ resolved (word_of text) tree

  opened-from : (o : Opening) (m : Model) → Answers text o → o ≡ opened m → OpenedBy m
  opened-from o m (no2 h) e = never-opened e
  opened-from o m (no3 y2 h) e = never-opened e
  opened-from o m (no4 y2 y3 h) e = never-opened e
  opened-from o m (no5 y2 y3 y4 h) e = never-opened e
  opened-from o m (no6 y2 y3 y4 y5 h) e = never-opened e
  opened-from o m (no7 y2 y3 y4 y5 y6 h) e = never-opened e
  opened-from o m (no8 y2 y3 y4 y5 y6 y7 h) e = never-opened e
  opened-from o m (no9 y2 y3 y4 y5 y6 y7 y8 h) e = never-opened e
  opened-from o m (no10 y2 y3 y4 y5 y6 y7 y8 y9 h) e = never-opened e
  opened-from o m (yes_to_all {s = s} y2 y3 y4 y5 y6 y7 y8 y9 y10) e = record { tree = s; fits = y5; new = y8; given = y9; model = cc }

  pub opened-by : (m : Model) → opening text ≡ opened m → OpenedBy m
  opened-by m e = opened-from (opening text) m (answered text) e

  -- ---- 29 of a text that is refused, and of one that is opened

  by-refusal : {n p : ℕ} (v : Verdict) → opening text ≡ refused n p → read_steady text v (opening text) ≡ refused n p
  unfolding read_steady also_steady
  by-refusal (fitting d) e = rw e
  by-refusal (failing k) e = e

  pub refused-so : {n p : ℕ} → opening text ≡ refused n p → opening_steady text ≡ refused n p
  unfolding opening_steady
  refused-so e = by-refusal (verdict ts) e

  by-tree : {s : Syntax.Model} (o : Opening) → Yes5 text s → read_steady text (verdict ts) o ≡ also_steady text s o
  unfolding read_steady
  by-tree o y = ap (λ (v : Verdict). read_steady text v o) (verdict-fits ts y.reading y.reads) ∙ ap (λ (x : Syntax.Model). also_steady text x o) y.tree

  pub opened-asks : {s : Syntax.Model} {m : Model} → Yes5 text s → opening text ≡ opened m → opening_steady text ≡ asked_of_text text 29 (least (unsteady (word_of text) s)) (opened m)
  unfolding opening_steady also_steady
  opened-asks {s} y e = by-tree (opening text) y ∙ ap (also_steady text s) e
