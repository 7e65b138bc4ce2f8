-- What opening a text gives is a well-formed model that starts with at most 256 processes. From the answers to questions 5 to 10.
use mathlib.Core.Path.{◌≡◌, refl, sym, ◌∙◌, ap, subst}
use mathlib.Core.List.Memᴰ.{head}
use mathlib.Core.List.{List, ◌++◌, Memᴰ as In}
use mathlib.Core.Bool.{Bool, true, false}
use mathlib.Core.Option.{some}
use mathlib.Core.Logic.{inl, inr}
use Prim.Native.Nat.{ℕ, suc, ◌-◌, ◌≤◌, ◌<◌}
use native.Mathlib.Decide.{dec_le, ℕ_discrete}
use native.Mathlib.Omega.{arith}
use lib.IntN.{ℤ, nat_abs}
use lib.ListN.{length, get_elem?}
use Rattle.std.specs.Prelude.{None, Some}
use Rattle.value.specs.Range.{InRange, value_of, Value}
use Rattle.value.proofs.Bounds.{in-value}
use Rattle.value.proofs.Results.{value-is, value-good}
use Rattle.word.specs.Number.{whole_digits, fraction_digits}
use Rattle.token.specs.Kind as kind
use Rattle.token.specs.Token.{tokens, kinds_of}
use Rattle.grammar.specs.Syntax
use Rattle.model.specs.Sites.{Scope, Site, whole, value, scale, bound, branch, call, expr_sites, number_sites, scale_sites, rate_sites, Variable, variables, Definition, definitions, titles}
use Rattle.model.specs.Words.{word_of, whole_of, decimal_of}
use Rattle.model.specs.Limits.{count_limit, definition_limit, parameter_limit, local_limit, branch_limit}
use Rattle.model.specs.Resolved.{Model, channel_names, resolved}
use Rattle.model.specs.Good.{scale_limit, GoodModel}
use Rattle.model.specs.Opening.{process_limit, Opening, refused, opened, opening, processes_at_start}
use Rattle.model.specs.Stands.{BranchIn, SiteIn, in_rate}
use Rattle.model.specs.Faults.{WholeIn, in_definition, in_variable, in_system, long-decimal, large, count, definition, parameter, local, branching, no_value, no_scale, no_call, no_start, uneven}
use Rattle.model.specs.Questions.{Yes5, Yes7, Yes8, Yes9, Answers, no2, no3, no4, no5, no6, no7, no8, no9, no10, yes_to_all}
use Rattle.model.proofs.Members.{got-some}
use Rattle.model.proofs.Tokens.{word_at}
use Rattle.model.proofs.Meanings.{means}
use Rattle.model.proofs.Ungiven.{not-value, not-scale, callable-wrong}
use Rattle.model.specs.Numbering.{DefinitionsFrom}
use Rattle.model.specs.Faultless.{Fine, FineNumber, scale_of, Faultless}
use Rattle.model.proofs.Numbered.{numbered}
use Rattle.model.proofs.Origins.{written, number-written}
use Rattle.model.proofs.Decimals.{decimal-rate, decimal-variable, kind-mark, decimal-large}
use Rattle.model.proofs.Closes.{length-each, closes}
use Rattle.model.proofs.Answered.{answered}

-- ---- what is not refuted holds

so : (b : Bool) → (b ≡ false → ⊥) → b ≡ true
so true h = refl
so false h = absurd (h refl)

in-range : (z : ℤ) → ((InRange z → ⊥) → ⊥) → InRange z
in-range z h = by (value_of z) refl
  where
    by : (v : Value) → value_of z ≡ v → InRange z
    by (Some x) e = subst (λ (y : ℤ). InRange y) (sym (value-is z x e)) (value-good z x e)
    by None e = absurd (h (λ r. let z : ◌≡◌ {A = ℕ} 0 1 = cc (in-value z r, e) in omega arith))

at_most : (a b : ℕ) → (b < a → ⊥) → a ≤ b
at_most a b h = by (dec_le a b)
  where
    by : Dec (a ≤ b) → a ≤ b
    by (yes l) = l
    by (no l) = absurd (h (omega arith))

equal : (a b : ℕ) → ((a ≡ b → ⊥) → ⊥) → a ≡ b
equal a b h = by (ℕ_discrete a b)
  where
    by : Dec (a ≡ b) → a ≡ b
    by (yes e) = e
    by (no n) = absurd (h n)

-- a list is no longer than a place past which it has nothing
no_longer : {A : Type 0} (xs : List A) (n : ℕ) → ((i : ℕ) (x : A) → get_elem? xs i ≡ some x → n ≤ i → ⊥) → length xs ≤ n
no_longer xs n h = at_most (length xs) n (λ l. let g = got-some xs n l in h n g.0 g.1 (omega arith))

module _ (text : List ℕ) (s : Syntax.Model) (y5 : Yes5 text s) (y7 : Yes7 text s) (y8 : Yes8 text s) (y9 : Yes9 text s) where
  abbrev w : ℕ → List ℕ
  w = word_of text

  abbrev vs : List Variable
  vs = variables s

  abbrev ds : List Definition
  ds = definitions s

  abbrev cs : List ℕ
  cs = channel_names w vs ds

  whole-fine : (b : Bool) (k : ℕ) → WholeIn w s b k → InRange (whole_of w b k)
  whole-fine b k h = in-range _ (λ n. y7 k (large h n))

  site-fine : (sc : Scope) (x : Site) → SiteIn w s sc x → Fine w vs ds cs sc x
  site-fine sc (whole b k) h = whole-fine b k (in_definition h)
  site-fine sc (value k) h = so _ (λ e. let n = not-value w s y8 sc k _ (means w k vs sc) e in y9 k (no_value h n.0 n.1))
  site-fine sc (scale k) h = so _ (λ e. let n = not-scale w s y8 sc k _ (means w k vs sc) e in y9 k (no_scale h n.0 n.1))
  site-fine sc (bound ks n) h = (equal (length ks) n (λ e. y9 _ (uneven h e)), no_longer ks (local_limit - length sc) (λ i k g l. y7 k (local i h g (omega arith))))
  site-fine sc (branch i k) h = at_most (suc i) branch_limit (λ l. y7 k (branching h (omega arith)))
  site-fine sc (call k n) h = so _ (λ e. y9 k (no_call h (callable-wrong w s y8 k n e)))

  -- ---- decimals

  decimal-fine : (b : Bool) (k : ℕ) → get_elem? (kinds_of (tokens text)) k ≡ some kind.decimal → nat_abs (decimal_of w b k) ≤ scale_limit
  decimal-fine b k e =
      let t = kind-mark (tokens text) k e in
      let q = word_at text k t.0 t.1 in
      decimal-large w b k
      (rw q (at_most _ whole_digits (λ l. y7 k (long-decimal t.1 t.2 (inl l)))))
      (rw q (at_most _ fraction_digits (λ l. y7 k (long-decimal t.1 t.2 (inr l)))))

  number-fine : (v : Syntax.Number) → ((b : Bool) (k : ℕ) → v ≡ Syntax.number b false k → WholeIn w s b k) → ((b : Bool) (k : ℕ) → v ≡ Syntax.number b true k → get_elem? (kinds_of (tokens text)) k ≡ some kind.decimal) → FineNumber w vs ds cs v
  number-fine (Syntax.number b false k) f g = whole-fine b k (f b k refl)
  number-fine (Syntax.number b true k) f g = decimal-fine b k (g b k refl)

  variable-fine : (v : Variable) → In v vs → FineNumber w vs ds cs v.number
  variable-fine v i =
      number-fine v.number (λ b k e. in_variable i e)
      (λ b k e. decimal-variable (kinds_of (tokens text)) b k (number-written (kinds_of (tokens text)) y5.reading y5.reads (subst (λ (m : Syntax.Model). In v (variables m)) (sym y5.tree) i)) e)

  whole-rate : (r : Syntax.Rate) (b : Bool) (k : ℕ) → scale_of r ≡ Syntax.fixed (Syntax.number b false k) → In (whole b k) (rate_sites r)
  unfolding rate_sites scale_sites number_sites
  whole-rate (Syntax.plain n) b k e = subst (λ (x : Syntax.Scale). In (whole b k) (scale_sites x)) (sym e) (head refl)
  whole-rate (Syntax.scaled n a) b k e = subst (λ (x : Syntax.Scale). In (whole b k) (scale_sites x ++ expr_sites a)) (sym e) (head refl)

  rate-fine : (sc : Scope) (i k : ℕ) (g : Syntax.Gate) (a : Syntax.Action) (r : Syntax.Rate) (n : Syntax.Next) → BranchIn s sc i (Syntax.branch k g a r n) → (v : Syntax.Number) → scale_of r ≡ Syntax.fixed v → FineNumber w vs ds cs v
  rate-fine sc i k g a r n h v q =
      number-fine v (λ b j e. in_definition (in_rate h (whole-rate r b j (q ∙ ap Syntax.fixed e))))
      (λ b j e. decimal-rate (kinds_of (tokens text)) b j (written (kinds_of (tokens text)) y5.reading y5.reads (subst (λ (m : Syntax.Model). BranchIn m sc i (Syntax.branch k g a r n)) (sym y5.tree) h)) (q ∙ ap Syntax.fixed e))

  pub faultless : Faultless w s
  unfolding titles expr_sites
  faultless =
      record {
        numbering = subst (λ (m : Syntax.Model). DefinitionsFrom (definitions m) 0) y5.tree (numbered y5.reading);
        sites = site-fine;
        variables = variable-fine;
        rates = rate-fine;
        parameters = λ d i. no_longer d.params parameter_limit (λ j k g l. y7 k (parameter i g l));
        definitions = let l = no_longer (titles ds) definition_limit (λ i k g l. y7 k (definition g l)) in omega (arith, length-each (λ d. d.name) ds);
        counts = λ c k r i. at_most _ count_limit (λ l. y7 c (count i l));
        values = λ r b k i j. whole-fine b k (in_system i j);
        items = λ r i. so _ (λ e. y9 _ (no_start i (callable-wrong w s y8 _ _ e)));
      }

  -- 7, 8 and 9 answered yes: the text's model is well formed
  pub closed : GoodModel (resolved w s)
  closed = closes w s faultless

module _ (text : List ℕ) where
  never-opened : {A : Type 0} {n p : ℕ} {m : Model} → refused n p ≡ opened m → A
  never-opened e = absurd (let z : ◌≡◌ {A = ℕ} 0 1 = cc in omega arith)

  -- what all questions say of a model that was opened
  opened-by : (o : Opening) (m : Model) → Answers text o → o ≡ opened m → GoodModel m × (processes_at_start m.definitions m.starts ≤ process_limit)
  opened-by o m (no2 h) e = never-opened e
  opened-by o m (no3 y2 h) e = never-opened e
  opened-by o m (no4 y2 y3 h) e = never-opened e
  opened-by o m (no5 y2 y3 y4 h) e = never-opened e
  opened-by o m (no6 y2 y3 y4 y5 h) e = never-opened e
  opened-by o m (no7 y2 y3 y4 y5 y6 h) e = never-opened e
  opened-by o m (no8 y2 y3 y4 y5 y6 y7 h) e = never-opened e
  opened-by o m (no9 y2 y3 y4 y5 y6 y7 y8 h) e = never-opened e
  opened-by o m (no10 y2 y3 y4 y5 y6 y7 y8 y9 h) e = never-opened e
  opened-by o m (yes_to_all {s = s} y2 y3 y4 y5 y6 y7 y8 y9 y10) e =
      let d : resolved (word_of text) s ≡ m = cc in
      subst (λ (x : Model). GoodModel x × (processes_at_start x.definitions x.starts ≤ process_limit)) d (closed text s y5 y7 y8 y9, y10)

  -- an opened model is well formed
  pub opened-good : (m : Model) → opening text ≡ opened m → GoodModel m
  opened-good m e = (opened-by (opening text) m (answered text) e).0

  -- and starts with at most 256 processes
  pub opened-few : (m : Model) → opening text ≡ opened m → processes_at_start m.definitions m.starts ≤ process_limit
  opened-few m e = (opened-by (opening text) m (answered text) e).1
