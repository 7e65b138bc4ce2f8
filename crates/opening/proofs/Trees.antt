-- The returns of `read_tokens` and `read_tree`, over plain variables: 2 to 4 of the bytes, 5 and 6 of the tokens, and the tables of a text that fits.
use mathlib.Core.Path.{◌≡◌, refl, sym, ap, ◌∙◌}
use mathlib.Core.List.{List, ◌++◌}
use Prim.Native.Nat.{ℕ, ◌≤◌, ◌<◌}
use native.Mathlib.Omega.{arith}
use borrow.Author.Tests.{lt-leb}
use lib.ListN.{length, take, drop}
use lib.Seq.{take_at, take_all}
use Rattle.std.specs.Prelude.{Result, Err, Ok}
use Rattle.token.specs.declared.Question.TheVariants.{Grammar, Tokens}
use Rattle.token.specs.declared.Content.{Content}
use Rattle.token.specs.declared.Refusal.{Refusal}
use Rattle.token.specs.Questions.{told, bytes_judged}
use Rattle.token.specs.Token.{Mark, tokens, column, kinds_of, Filled}
use Rattle.token.specs.Contents.{low_of, high_of, lows_in, highs_in, Told}
use Rattle.token.proofs.Marks.{column-length}
use Rattle.grammar.specs.Grammar.{Model, Reads, Wrong}
use Rattle.grammar.specs.Limit.{token_limit}
use Rattle.grammar.specs.Syntax.{syntax_of}
use Rattle.syntax.specs.Judged.{Fitting}
use Rattle.syntax.specs.Asked.{No as NoTo, no5, no6, TextAsks, TreeOrUnfit}
use Rattle.syntax.specs.declared.question.Unfit.{Unfit}
use Rattle.syntax.specs.declared.question.Unfit.TheVariants.{Misfit, Crowded}
use Rattle.model.specs.Opening.{refused, too_many, asked_of_text, byte_place, tree_judged}
use Rattle.model.specs.Held.{tree_held, model_in}
use Rattle.model.proofs.Opens.{bytes-refused, goes-wrong, fits}
use Rattle.names.specs.Tables.{Read}
use Rattle.names.proofs.Judging.{cut-to}
use Rattle.opening.specs.Trees.{TreeRead}
use Rattle.opening.proofs.Holds.{bytes-none, wrong-none, fits-held}
use Rattle.opening.proofs.Places.{filled-tokens, filled-placed}

-- ---- 2 to 4
module _ (text kinds places : List ℕ) (contents : List Content) (nodes : List ℕ) where
  pub bytes-no : {j : Result (Unit {0}) Refusal} {r : Refusal} → told j ≡ bytes_judged text → j ≡ Err r → TreeRead text kinds places contents nodes (Err r)
  unfolding TreeRead
  bytes-no {j} {r} e q =
      let d = sym e ∙ ap told q in
      record { opens = bytes-refused text _ _ d; holds = bytes-none text _ _ d }

-- ---- 5 and 6
module _ {text kinds₀ places₀ sizes₀ : List ℕ} {n : ℕ} {kinds places sizes : List ℕ} (f : Filled text kinds₀ places₀ sizes₀ n kinds places sizes) where
  abbrev ts : List ℕ
  ts = kinds_of (tokens text)

  few : length ts ≡ length (tokens text)
  few = column-length (λ m. m.kind) (tokens text)

  -- the contents of all tokens
  told-all : (low : List ℕ) {low' : List ℕ} (g : Mark → ℕ) → low' ≡ column g (take n (tokens text)) ++ drop n low → take n low' ≡ column g (tokens text)
  told-all low g e =
      let all = take_all n (tokens text) (omega (arith, f.count)) in
      ap (take n) (e ∙ ap (λ (ms : List Mark). column g ms ++ drop n low) all) ∙ take_at (column g (tokens text)) (drop n low) n (column-length g (tokens text) ∙ sym f.count)

  module _ (nodes : List ℕ) (r : TreeOrUnfit) (a : TextAsks (take n kinds) nodes r) where
    asks : TextAsks ts nodes r
    asks = rw (filled-tokens f) at a

    fitting : {root : ℕ} → r ≡ Ok root → Fitting ts nodes root × (length ts ≤ token_limit)
    unfolding TextAsks
    fitting q = rw q at asks

    crowding : {k : ℕ} → r ≡ Err (Crowded k) → ((m : Model) × Reads ts m) × (token_limit < length ts) × (k ≡ token_limit)
    unfolding TextAsks
    crowding {k} q = by (rw q at asks)
      where
        by : NoTo ts 6 k → ((m : Model) × Reads ts m) × (token_limit < length ts) × (k ≡ token_limit)
        by (no5 e w) = absurd (omega arith)
        by (no6 e m h l i) = ((m, h), l, i)

    goes : {k : ℕ} → r ≡ Err (Misfit k) → Wrong ts k
    unfolding TextAsks
    goes {k} q = by (rw q at asks)
      where
        by : NoTo ts 5 k → Wrong ts k
        by (no5 e w) = w
        by (no6 e m h l i) = absurd (omega arith)

    pub fit-few : {root : ℕ} → r ≡ Ok root → n ≤ token_limit
    fit-few q = omega (arith, few, f.count, (fitting q).1)

    module _ (passed : Ok tt ≡ bytes_judged text) (contents : List Content) where
      -- 5
      pub misfit-no : {u : Unfit} {k p : ℕ} → r ≡ Err u → u ≡ Misfit k → p ≡ byte_place text k → TreeRead text kinds places contents nodes (Err (record { question = Grammar; place = p }))
      unfolding TreeRead
      misfit-no {k = k} q d e =
          let w = goes (q ∙ ap Err d) in
          record { opens = goes-wrong text k (sym passed) w ∙ ap (refused 5) (sym e); holds = wrong-none text k (sym passed) w }

      -- 6
      pub crowded-no : {u : Unfit} {k p : ℕ} → r ≡ Err u → u ≡ Crowded k → p ≡ byte_place text k → TreeRead text kinds places contents nodes (Err (record { question = Tokens; place = p }))
      unfolding TreeRead tree_judged tree_held too_many asked_of_text model_in
      crowded-no {k = k} q d e =
          let b = crowding (q ∙ ap Err d) in
          let l : token_limit < length (tokens text) = omega (arith, few, b.1) in
          record {
            opens = fits text b.0.0 (sym passed) b.0.1 ∙ simp (lt-leb (length (tokens text)) token_limit l) (ap (refused 6) (ap (byte_place text) (sym b.2) ∙ sym e));
            holds = fits-held text b.0.0 (sym passed) b.0.1 ∙ simp (lt-leb (length (tokens text)) token_limit l);
          }

      pub fits-yes : {low high : List ℕ} {root : ℕ} → token_limit ≤ length nodes → r ≡ Ok root → Told text low high n (lows_in contents) (highs_in contents) → TreeRead text kinds places contents nodes (Ok (record { root = root; tokens = n }))
      unfolding TreeRead
      fits-yes {low} {high} room q o =
          let g = (fitting q).0 in
          let x : Read text (syntax_of g.tree) kinds (lows_in contents) (highs_in contents) nodes _ n = record {
            tabled = record { count = f.count; kinds-are = filled-tokens f; lows-are = told-all low (low_of text) o.lows-are; highs-are = told-all high (high_of text) o.highs-are };
            few = fit-few q;
            reading = g.tree;
            reads = g.reads;
            tree = refl;
            holds = g.shown (omega (arith, g.few, (fitting q).1));
          } in (
            syntax_of g.tree,
            record {
              count = f.count;
              cut = record {
                read = cut-to x;
                placed = filled-placed f;
                fewer = omega (arith, g.few, few, f.count, ap length (filled-tokens f));
                opens = fits text g.tree (sym passed) g.reads;
                holds = fits-held text g.tree (sym passed) g.reads;
              };
            },
          )
