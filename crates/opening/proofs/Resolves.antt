-- The tables of a text that fits and is sound can be resolved: what a caller of `settle::settle` needs. From the answers to questions 5 to 9, and the table of contents.
use mathlib.Core.Path.{◌≡◌, refl, sym, ap, ◌∙◌, subst}
use mathlib.Core.List.{List, [], ◌∷◌, Memᴰ as In}
use mathlib.Core.Bool.{Bool, true, false}
use mathlib.Core.Option.{some}
use mathlib.Core.Logic.{inl, inr}
use Prim.Native.Nat.{ℕ, zero, suc, ◌≤◌, ◌<◌}
use native.Mathlib.Decide.{dec_le}
use native.Mathlib.Omega.{arith}
use borrow.Author.Tests.{le-leb}
use lib.ListN.{length, get_elem?}
use Rattle.std.specs.Prelude.{None}
use Rattle.word.specs.Number.{whole_digits, fraction_digits, ten_thousandths}
use Rattle.token.specs.declared.Content.{Content}
use Rattle.token.specs.Kind as kind
use Rattle.token.specs.Bytes.{within}
use Rattle.token.specs.Token.{Mark, tokens, kinds_of}
use Rattle.token.specs.Contents.{before_point, after_point, bytes_of, few_digits, decimal_content, low_of, lows_in, highs_in}
use Rattle.token.specs.Questions.{First, Found}
use Rattle.grammar.specs.Syntax
use Rattle.model.specs.Lists.{least}
use Rattle.model.specs.Sites.{Variable, variables, definitions}
use Rattle.model.specs.Stands.{BranchIn}
use Rattle.model.specs.Words.{word_of}
use Rattle.model.specs.Limits.{words_beyond, tree_beyond, beyond}
use Rattle.model.specs.Faults.{Beyond, NotNew, NotGiven, long-decimal}
use Rattle.model.specs.Questions.{Yes5, Yes7, Yes8, Yes9}
use Rattle.model.specs.Resolved.{channel_names, resolved}
use Rattle.model.proofs.Tokens.{nth-got, lexeme-at, word_at, some-fraction}
use Rattle.model.proofs.Faulty.{beyond-first, new-first, given-first}
use Rattle.model.proofs.Origins.{NumberWritten, written, number-written}
use Rattle.model.proofs.Decimals.{decimal-rate, decimal-variable, kind-mark}
use Rattle.model.specs.Faultless.{FineNumber, scale_of, Faultless}
use Rattle.model.proofs.Opened.{faultless}
use Rattle.tables.specs.Represents.{Represents}
use Rattle.names.specs.declared.Question.TheVariants.{Given}
use Rattle.names.specs.declared.Lists.{Lists}
use Rattle.names.specs.Lists.{Gathered}
use Rattle.names.proofs.Earliest.{least-append, nothing-first}
use Rattle.names.proofs.Contents.{of-decimal, tabled-at}
use Rattle.names.proofs.Grounds.{world}
use Rattle.settle.specs.Walks.{NumberSafe}
use Rattle.settle.specs.Places.{Told, Base, Resolvable}
use Rattle.settle.specs.declared.Model.{Model}
use Rattle.settle.specs.Settles.{Settles}
use Rattle.opening.specs.Trees.{Fitted}
use Rattle.opening.specs.Sound.{Sound}
use Rattle.opening.specs.Models.{SumRoom}

at_most : (a b : ℕ) → (b < a → ⊥) → a ≤ b
at_most a b h = by (dec_le a b)
  where
    by : Dec (a ≤ b) → a ≤ b
    by (yes l) = l
    by (no l) = absurd (h (omega arith))

pub got-below : {A : Type 0} {y : A} (xs : List A) (i : ℕ) → get_elem? xs i ≡ some y → i < length xs
got-below [] i e = absurd (let z : ◌≡◌ {A = ℕ} 0 1 = cc in omega arith)
got-below (x ∷ xs) zero e = omega arith
got-below (x ∷ xs) (suc i) e = let l = got-below xs i e in omega arith

few-content : (s : List ℕ) → length (before_point s) ≤ whole_digits → 1 ≤ length (after_point s) → length (after_point s) ≤ fraction_digits → (decimal_content s).low ≡ ten_thousandths (before_point s) (after_point s)
unfolding decimal_content few_digits within
few-content s a b c = simp (le-leb (length (before_point s)) whole_digits a, le-leb 1 (length (after_point s)) b, le-leb (length (after_point s)) fraction_digits c)

module _ {text : List ℕ} {s : Syntax.Model} {kinds places : List ℕ} {contents : List Content} {nodes : List ℕ} {root : ℕ} (f : Fitted text s kinds places contents nodes root) (v : Sound text s) where
  abbrev low : List ℕ
  low = lows_in contents

  abbrev high : List ℕ
  high = highs_in contents

  abbrev w : ℕ → List ℕ
  w = word_of text

  abbrev ts : List ℕ
  ts = kinds_of (tokens text)

  -- ---- 5 and 7 to 9 have the answer yes
  pub yes5 : Yes5 text s
  yes5 = record { reading = f.read.reading; reads = f.read.reads; tree = sym f.read.tree }

  yes7 : Yes7 text s
  yes7 = subst (λ (x : Found). First (Beyond text s) x) v.within (beyond-first text s)

  yes8 : Yes8 text s
  yes8 = subst (λ (x : Found). First (NotNew w s) x) v.new (new-first w s)

  yes9 : Yes9 text s
  yes9 = subst (λ (x : Found). First (NotGiven w s) x) v.given (given-first w s yes8)

  sound : Faultless w s
  sound = faultless text s yes5 yes7 yes8 yes9

  short-words : least (words_beyond text 0 (tokens text)) ≡ None
  unfolding beyond
  short-words = nothing-first (least (words_beyond text 0 (tokens text))) (least (tree_beyond w s)) (sym (least-append (words_beyond text 0 (tokens text)) (tree_beyond w s)) ∙ v.within)

  -- ---- decimals
  module _ (k : ℕ) (e : get_elem? ts k ≡ some kind.decimal) where
    decimal-content : (t : Mark) → get_elem? (tokens text) k ≡ some t → t.kind ≡ kind.decimal → low_of text t ≡ ten_thousandths (before_point (bytes_of text t)) (after_point (bytes_of text t))
    decimal-content t g q =
        let x = lexeme-at text k t g in
        ap (λ (c : Content). c.low) (of-decimal t.kind (bytes_of text t) q)
        ∙ few-content (bytes_of text t) (at_most _ whole_digits (λ l. yes7 k (long-decimal g q (inl l)))) (some-fraction (rw q at x)) (at_most _ fraction_digits (λ l. yes7 k (long-decimal g q (inr l))))

    decimal-told : Told low w k
    decimal-told =
        let m = kind-mark (tokens text) k e in
        let i = got-below (tokens text) k m.1 in
        let a = tabled-at low (tokens text) (low_of text) f.read.tabled.count f.read.tabled.lows-are k (omega (arith, f.read.tabled.count)) in
        let z = ap (low_of text) (nth-got (tokens text) k m.0 m.1) in
        let q = ap (λ (b : List ℕ). ten_thousandths (before_point b) (after_point b)) (sym (word_at text k m.0 m.1)) in
        (a.0, a.1 ∙ z ∙ decimal-content m.0 m.1 m.2 ∙ q)

  number-safe : (x : Syntax.Number) → FineNumber w (variables s) (definitions s) (channel_names w (variables s) (definitions s)) x → ((b : Bool) (k : ℕ) → x ≡ Syntax.number b true k → get_elem? ts k ≡ some kind.decimal) → NumberSafe w (Told low w) x
  number-safe (Syntax.number b false k) h g = h
  number-safe (Syntax.number b true k) h g = (h, decimal-told k (g b k refl))

  variable-written : (x : Variable) → In x (variables s) → NumberWritten ts x.number
  variable-written x i = number-written ts f.read.reading f.read.reads (rw f.read.tree at i)

  variable-fine : (x : Variable) → In x (variables s) → NumberSafe w (Told low w) x.number
  variable-fine x i = number-safe x.number (sound.variables x i) (λ b k e. decimal-variable ts b k (variable-written x i) e)

  rate-told : (sc : List ℕ) (i k : ℕ) (g : Syntax.Gate) (x : Syntax.Action) (r : Syntax.Rate) (m : Syntax.Next) → BranchIn s sc i (Syntax.branch k g x r m) → (b : Bool) (j : ℕ) → scale_of r ≡ Syntax.fixed (Syntax.number b true j) → Told low w j
  rate-told sc i k g x r m h b j e = decimal-told j (decimal-rate ts b j (written ts f.read.reading f.read.reads (rw f.read.tree at h)) e)

  -- ---- the tables
  abbrev lists_of : Lists
  lists_of = record { root = root; variables = length (variables s); definitions = length (definitions s) }

  gathered : Gathered s root lists_of
  gathered = record { root_is = refl; variables-are = refl; definitions-are = refl }

  unfoldable base : Base low high nodes lists_of
  unfolding world
  base =
      record {
        world = world f.read Given (λ a. short-words) lists_of gathered _ refl;
        numbers = variable-fine;
        few = sound.definitions;
        short = sound.parameters;
        room = omega (arith, f.fewer, f.read.few);
      }

  -- roots, scopes and names: tables with room for any model's
  module _ {roots scopes names : List ℕ} (room : SumRoom roots scopes names) where
    abbrev Settling : Lists → Type 0
    Settling lists = Resolvable low high nodes (length roots) (length scopes) (length names) lists

    unfoldable resolvable : Settling lists_of
    unfolding base world
    resolvable =
        record {
          base = base;
          faultless = sound;
          new = yes8;
          decimals = rate-told;
          roots-room = omega (arith, f.fewer, f.read.few, room.roots-room);
          scopes-room = omega (arith, f.fewer, f.read.few, room.scopes-room);
          names-room = omega (arith, f.fewer, f.read.few, room.names-room);
        }

    pub can-settle : (lists : Lists) × (lists.root ≡ root) × Settling lists
    can-settle = (lists_of, refl, resolvable)

    -- the model that the tables hold then is the text's
    pub settled-so : {nodes' roots' scopes' : List ℕ} {r vars defs sums channels : ℕ}
        → ((lists : Lists) (h : Settling lists) → lists.root ≡ root → Represents nodes' roots' scopes' r vars defs sums channels (resolved h.base.world.word h.base.world.model))
        → Represents nodes' roots' scopes' r vars defs sums channels (resolved w s)
    unfolding resolvable base world
    settled-so h = h lists_of resolvable refl

    -- and the tables are told by the text
    pub settles-so : {nodes' roots' scopes' : List ℕ} {x : Model} → ((lists : Lists) (h : Settling lists) → lists.root ≡ root → Settles h.base.world.word h.base.world.model nodes' roots' scopes' x) → Settles w s nodes' roots' scopes' x
    unfolding resolvable base world
    settles-so h = h lists_of resolvable refl
