-- The returns of `judge_names`: a question is asked where those before it have passed. From the ground that the walks stand on.
use mathlib.Core.Path.{◌≡◌, refl, sym, ap, ◌∙◌}
use mathlib.Core.List.{List}
use mathlib.Core.Bool.{true}
use Prim.Native.Nat.{ℕ}
use native.Mathlib.Omega.{arith}
use lib.ListN.{length, take, length-take}
use lib.Seq.{take_all, take-length}
use Rattle.std.specs.Prelude.{Result, None, Some, Err, Ok, IsErrAnd}
use Rattle.std.proofs.lemmas.Result.{err_from_is_err_and}
use Rattle.token.specs.Token.{tokens}
use Rattle.token.specs.Contents.{lows_in, highs_in}
use Rattle.token.specs.Questions.{asked, Found}
use Rattle.grammar.specs.Syntax
use Rattle.model.specs.Lists.{least}
use Rattle.model.specs.Words.{word_of}
use Rattle.model.specs.Limits.{words_beyond, tree_beyond, beyond}
use Rattle.model.specs.Fresh.{not_new}
use Rattle.model.specs.Given.{not_given}
use Rattle.names.specs.declared.Question.{Question}
use Rattle.names.specs.declared.Question.TheVariants.{Limits, Fresh, Given}
use Rattle.names.specs.declared.Fault.{Fault}
use Rattle.names.specs.declared.Parsed.{Parsed}
use Rattle.names.specs.Faults.{earlier_of, asks_names, tree_faults}
use Rattle.names.specs.Walks.{Ground, TreeRoom}
use Rattle.names.specs.Lists.{Gathered}
use Rattle.names.specs.Tables.{Read}
use Rattle.names.specs.Judged.{no_of, fault_of, answer_of, judged_names}
use Rattle.names.proofs.Earliest.{least-append, nothing-first, nothing-second}
use Rattle.names.proofs.Grounds.{kinds-there, world, ground}

-- 7 compares no names
pub no_names : {A : Type 0} → asks_names Limits ≡ true → A
unfolding asks_names
no_names e = absurd (let z : ◌≡◌ {A = ℕ} 0 1 = cc in omega arith)

-- what a `?` returns of a question that says no
pub raised : {r : Result (Unit {0}) Fault} {f : Fault} → IsErrAnd r (λ e. e ≡ f) → r ≡ Err f
raised {r} e = let p = err_from_is_err_and r e in p.1 ∙ ap Err p.2

-- what a fault, or none, comes to
no_fault : (q : Question) (e : Found) {u : Unit {0}} → fault_of q e ≡ Ok u → e ≡ None
unfolding fault_of
no_fault q None x = refl
no_fault q (Some k) x = cc

fault_is : (q : Question) (e : Found) {f : Fault} → fault_of q e ≡ Err f → (k : ℕ) × (e ≡ Some k) × (f ≡ record { question = q; token = k })
unfolding fault_of
fault_is q None x = cc
fault_is q (Some k) x = (k, refl, cc)

last_asked : (g : Found) → answer_of (fault_of Given g) ≡ asked 9 g (Ok tt)
unfolding fault_of answer_of no_of asked
last_asked None = refl
last_asked (Some k) = refl

-- what is judged: the tables of a text with the syntax tree s, and where its lists stand
pub record Judgeable (text : List ℕ) (s : Syntax.Model) (kinds : List ℕ) (p : Parsed) : Type 0 where
  pub read : Read text s kinds (lows_in p.contents.now) (highs_in p.contents.now) p.nodes.now p.lists.root (length kinds)
  pub gathered : Gathered s p.lists.root p.lists

-- a text's tables, with the lists that were found in them
pub with-lists : {text : List ℕ} {s : Syntax.Model} {kinds : List ℕ} {root : ℕ} (p : Parsed) → Read text s kinds (lows_in p.contents.now) (highs_in p.contents.now) p.nodes.now root (length kinds) → Gathered s root p.lists → Judgeable text s kinds p
with-lists p h g = record { read = rw g.root_is h; gathered = record { root_is = refl; variables-are = g.variables-are; definitions-are = g.definitions-are } }

module _ {text : List ℕ} {s : Syntax.Model} {kinds : List ℕ} {p : Parsed} (h : Judgeable text s kinds p) where
  abbrev Stands : Question → Type 0
  Stands q = Ground q kinds (lows_in p.contents.now) (highs_in p.contents.now) p.nodes.now p.lists

  stands : (q : Question) → (asks_names q ≡ true → least (words_beyond text 0 (tokens text)) ≡ None) → Stands q
  stands q short = ground h.read q short p.lists h.gathered kinds (sym (take-length kinds))

  -- what `tree_fault` answers
  abbrev Answers : Question → Found → Type 0
  Answers q f = (x : Stands q) → TreeRoom x → f ≡ least (tree_faults q x.world.word x.world.model)

  pub limits-ready : (x : Stands Limits) × TreeRoom x
  limits-ready = (stands Limits no_names, no_names)

  module _ {words tree e : Found} (words-is : words ≡ least (words_beyond text 0 (tokens text))) (tree_is : Answers Limits tree) (e-is : e ≡ earlier_of words tree) where
    tree-answer : tree ≡ least (tree_beyond (word_of text) s)
    unfolding ground world tree_faults stands
    tree-answer = tree_is (stands Limits no_names) no_names

    limits-judged : e ≡ least (beyond text s)
    unfolding beyond
    limits-judged = e-is ∙ rw (words-is, tree-answer) (sym (least-append (words_beyond text 0 (tokens text)) (tree_beyond (word_of text) s)))

    pub judged-beyond : {f : Fault} → fault_of Limits e ≡ Err f → answer_of (Err f) ≡ judged_names text s
    unfolding judged_names answer_of no_of asked
    judged-beyond q = let z = fault_is Limits e q in rw (z.2, sym limits-judged ∙ z.1)

    module _ {u : Unit {0}} (passed-ok : fault_of Limits e ≡ Ok u) where
      passed : e ≡ None
      passed = no_fault Limits e passed-ok

      words-pass : least (words_beyond text 0 (tokens text)) ≡ None
      words-pass = sym words-is ∙ nothing-first words tree (sym e-is ∙ passed)

      tree-passes : least (tree_beyond (word_of text) s) ≡ None
      tree-passes = sym tree-answer ∙ nothing-second words tree (sym e-is ∙ passed)

      -- 8 and 9 stand on names of at most 16 bytes, and find room for all locals
      pub names-ready : (q : Question) → (x : Stands q) × TreeRoom x
      unfolding ground world tree_faults stands
      names-ready q = (stands q (λ a. words-pass), λ a. tree-passes)

      names-answer : (q : Question) (f : Found) → Answers q f → f ≡ least (tree_faults q (word_of text) s)
      unfolding names-ready ground world stands
      names-answer q f f-is = f-is (stands q (λ a. words-pass)) (names-ready q).1

      module _ {f : Found} (f-is : Answers Fresh f) where
        fresh-answer : f ≡ least (not_new (word_of text) s)
        unfolding tree_faults
        fresh-answer = names-answer Fresh f f-is

        pub judged-new : {x : Fault} → fault_of Fresh f ≡ Err x → answer_of (Err x) ≡ judged_names text s
        unfolding judged_names answer_of no_of asked
        judged-new q = let z = fault_is Fresh f q in rw (z.2, sym limits-judged ∙ passed, sym fresh-answer ∙ z.1)

        module _ {v : Unit {0}} (new : fault_of Fresh f ≡ Ok v) {g : Found} (g-is : Answers Given g) where
          given-answer : g ≡ least (not_given (word_of text) s)
          unfolding tree_faults
          given-answer = names-answer Given g g-is

          pub judged-given : answer_of (fault_of Given g) ≡ judged_names text s
          unfolding judged_names asked
          judged-given = rw (sym limits-judged ∙ passed, sym fresh-answer ∙ no_fault Fresh f new, sym given-answer) (last_asked g)

-- the tables of a text as its caller holds them, with the kinds cut to its tokens
pub cut-to : {text : List ℕ} {s : Syntax.Model} {kinds low high nodes : List ℕ} {root n : ℕ} → Read text s kinds low high nodes root n → Read text s (take n kinds) low high nodes root (length (take n kinds))
cut-to {kinds = kinds} {n = n} h =
    let e : length (take n kinds) ≡ n = omega (arith, length-take n kinds, kinds-there h) in
    rw e (record {
      tabled = record { count = h.tabled.count; kinds-are = take_all n (take n kinds) (omega arith) ∙ h.tabled.kinds-are; lows-are = h.tabled.lows-are; highs-are = h.tabled.highs-are };
      few = h.few;
      reading = h.reading;
      reads = h.reads;
      tree = h.tree;
      holds = h.holds;
    })
