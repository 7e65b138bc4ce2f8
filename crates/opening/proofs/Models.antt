-- The returns of `read_sound`, `settle_sound`, `read_model` and `open_text`, over plain variables: the model of a text, and question 10.
use mathlib.Core.Path.{◌≡◌, refl, sym, ap, ◌∙◌}
use mathlib.Core.List.{List, [], ◌∷◌}
use mathlib.Core.Option.{none}
use Prim.Native.Nat.{ℕ, ◌-◌, ◌≤◌, ◌<◌}
use native.Mathlib.Omega.{arith}
use borrow.Author.Tests.{le-leb, lt-leb}
use lib.ListN.{length}
use Rattle.std.specs.Prelude.{Err, Ok}
use Rattle.token.specs.declared.Content.{Content}
use Rattle.token.specs.declared.Refusal.{Refusal}
use Rattle.token.specs.declared.Question.TheVariants.{Processes}
use Rattle.token.specs.Questions.{question_number}
use Rattle.grammar.specs.Limit.{token_limit}
use Rattle.grammar.specs.Syntax
use Rattle.model.specs.Words.{word_of}
use Rattle.model.specs.Good.{Every, GoodStart}
use Rattle.model.specs.Resolved
use Rattle.model.specs.Resolved.{resolved}
use Rattle.model.specs.Held.{held}
use Rattle.model.specs.Opening.{process_limit, refused, processes_at_start, crowded, asked_of_text}
use Rattle.model.proofs.Held.{held-good}
use Rattle.opening.specs.Counts.{Countable, Counts}
use Rattle.opening.specs.Trees.{Closed, FittedIn, TreeRead, Tree}
use Rattle.opening.specs.declared.SyntaxTree.{SyntaxTree}
use Rattle.opening.specs.declared.SoundTree.{SoundTree}
use Rattle.opening.specs.declared.SoundModel.{SoundModel}
use Rattle.opening.specs.Sound.{NamesJudged, Named, SoundHeld, SoundOr, SoundRead}
use Rattle.opening.specs.Models.{Shown, Rooted, ModelHeld, ModelRead, Opens, Held}
use Rattle.opening.proofs.Judges.{asks-ten, holds-model}
use Rattle.opening.proofs.Resolves.{got-below, yes5}
use Rattle.settle.specs.declared.Model.{Model}
use Rattle.settle.specs.Settles.{Settles}

-- ---- 2 to 6
module _ (text kinds places : List ℕ) (contents : List Content) (nodes : List ℕ) {r : Tree} (d : TreeRead text kinds places contents nodes r) where
  pub tree-no : {q : Refusal} → r ≡ Err q → SoundRead text kinds places contents nodes (Err q)
  unfolding TreeRead SoundRead
  tree-no e = rw e at d

  pub tree-fits : {t : SyntaxTree} → r ≡ Ok t → (s : Syntax.Model) × FittedIn text s kinds places contents nodes t.root t.tokens
  unfolding TreeRead
  tree-fits e = rw e at d

-- the tokens have room in their tables
pub count-fits : {text : List ℕ} {s : Syntax.Model} {kinds places : List ℕ} {contents : List Content} {nodes : List ℕ} {root n : ℕ} → FittedIn text s kinds places contents nodes root n → n ≤ token_limit
count-fits f = omega (arith, f.count, f.cut.read.tabled.count, f.cut.read.few)

-- ---- 7 to 9
module _ {text : List ℕ} {s : Syntax.Model} {kinds places : List ℕ} {contents : List Content} {nodes : List ℕ} {t : SyntaxTree} (f : FittedIn text s kinds places contents nodes t.root t.tokens) {j : Named} (d : NamesJudged text s j) where
  pub named-no : {r : Refusal} → j ≡ Err r → SoundRead text kinds places contents nodes (Err r)
  unfolding NamesJudged SoundRead
  named-no e = rw e at d

  pub named-yes : {p : ℕ} → j ≡ Ok p → SoundRead text kinds places contents nodes (Ok (record { tree = t; place = p }))
  unfolding NamesJudged SoundRead
  named-yes e = let b = rw e at d in (s, record { fitted = f; sound = b.0; place-is = b.1 })

-- ---- 2 to 9
module _ (text kinds places : List ℕ) (contents : List Content) (nodes : List ℕ) {r : SoundOr} (d : SoundRead text kinds places contents nodes r) where
  pub sound-no : (nodes' roots scopes : List ℕ) {q : Refusal} → r ≡ Err q → ModelRead text nodes' roots scopes (Err q)
  unfolding SoundRead ModelRead
  sound-no nodes' roots scopes e = rw e at d

  pub sound-tree : {t : SoundTree} → r ≡ Ok t → (s : Syntax.Model) × SoundHeld text s kinds places contents nodes t
  unfolding SoundRead
  sound-tree e = rw e at d

-- the model of a sound text
pub sound-model : {text : List ℕ} {s : Syntax.Model} {kinds places : List ℕ} {contents : List Content} {nodes : List ℕ} {t : SoundTree} → SoundHeld text s kinds places contents nodes t → {nodes' roots scopes : List ℕ} {x : Model} → Shown nodes' roots scopes x (resolved (word_of text) s) → Rooted x → Settles (word_of text) s nodes' roots scopes x → ModelHeld text nodes' roots scopes x t.place
unfolding resolved
sound-model {text} {s} h i r t =
    let f = h.fitted.cut in
    let v = h.sound in
    record { tree = s; model = resolved (word_of text) s; holds = holds-model f v; worded = refl; opens = asks-ten f v; shown = i; written = record { fits = yes5 f v; settles = t }; rooted = r; place_is = h.place-is }

pub model-read : {text nodes roots scopes : List ℕ} {f : SoundModel} → ModelHeld text nodes roots scopes f.model f.place → ModelRead text nodes roots scopes (Ok f)
unfolding ModelRead
model-read h = h

-- ---- 10, and what a text holds
module _ (text nodes roots scopes : List ℕ) (r : Held) (d : ModelRead text nodes roots scopes r) where
  pub held-no : {q : Refusal} → r ≡ Err q → Opens text nodes roots scopes (Err q)
  unfolding ModelRead Opens
  held-no {q} e = let c : Closed text (question_number q.question) q.place = rw e at d in c.opens

  pub none-held : {q : Refusal} → r ≡ Err q → held text ≡ none
  unfolding ModelRead
  none-held {q} e = let c : Closed text (question_number q.question) q.place = rw e at d in c.holds

  pub held-model : {f : SoundModel} → r ≡ Ok f → ModelHeld text nodes roots scopes f.model f.place
  unfolding ModelRead
  held-model e = rw e at d

known-starts : (m : Resolved.Model) (ss : List Resolved.Start) → Every (GoodStart m) ss → Every (λ s. s.definition < length m.definitions) ss
unfolding Every
known-starts m [] h = tt
known-starts m (s ∷ ss) h = (got-below m.definitions s.definition h.0.callable.exists, known-starts m ss h.1)

module _ {text nodes roots scopes : List ℕ} {x : Model} {p : ℕ} (g : ModelHeld text nodes roots scopes x p) where
  -- the model's processes can be counted
  pub countable : Countable nodes (x.lists.root - x.lists.variables) (x.lists.root - x.lists.variables - x.lists.definitions) g.model
  countable =
      let e = g.shown.definitions-are in
      record {
        room = omega (arith, g.rooted, e);
        definition = g.shown.definition;
        starts = g.shown.starts;
        known = known-starts g.model g.model.starts (held-good text g.model g.holds).starts;
      }

  module _ {k : ℕ} (c : Counts k (processes_at_start g.model.definitions g.model.starts)) where
    abbrev processes : ℕ
    processes = processes_at_start g.model.definitions g.model.starts

    pub many-no : process_limit < k → Opens text nodes roots scopes (Err (record { question = Processes; place = p }))
    unfolding Opens asked_of_text crowded
    many-no l =
        let h : process_limit < processes = c.many l in
        g.opens ∙ simp (lt-leb processes process_limit h) (ap (refused 10) (sym g.place_is))

    pub few-yes : k ≤ process_limit → Opens text nodes roots scopes (Ok (record { model = x; processes = k }))
    unfolding Opens asked_of_text crowded
    few-yes l =
        let e : k ≡ processes = c.few l in
        let h : processes ≤ process_limit = omega arith in
        record { tree = g.tree; model = g.model; opens = g.opens ∙ simp (le-leb processes process_limit h); shown = g.shown; written = g.written; count-is = e }
