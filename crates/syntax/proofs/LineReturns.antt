-- The returns of the readers of lines, over plain variables: what each answers follows from the tokens it looked at, the nodes it wrote and what its callees
-- answered. From what the machine does (Lines.antt) and the trees that are made (LineTrees.antt).
use mathlib.Core.Path.{◌≡◌, refl, ◌∙◌}
use mathlib.Core.List.{List, [], ◌∷◌, ◌++◌}
use mathlib.Core.Bool.{true, false}
use Prim.Native.Nat.{ℕ, ◌+◌, ◌≤◌, ◌<◌}
use native.Mathlib.Omega.{arith}
use lib.ListN.{length, get_or}
use Rattle.std.specs.Prelude.{Err, Ok}
use Rattle.token.specs.Kind as kind
use Rattle.grammar.specs.Grammar.{flat_number, flat_starts, flat_start, flat_system, flat_body, flat_definitions, flat_model}
use Rattle.grammar.specs.Machine.{Want, Whole', MoreWholes, Number', Params', Start', SystemEnd, Line, NextLine, the_names, the_starts, a_body}
use Rattle.grammar.specs.Follows.{Answer, Follows}
use Rattle.grammar.specs.Syntax.{number_at, wholes_at, starts_at, start_at, system_at, body_at, sums_body, definitions_at, model_at}
use Rattle.grammar.proofs.Alike.{params-filled}
use Rattle.grammar.proofs.Follows.{inside, join, fails, wanted, unwanted, bounds}
use Rattle.grammar.proofs.Judged.{failed, longer}
use Rattle.tree.specs.Node as node
use Rattle.tree.specs.Table
use Rattle.tree.specs.Reading.{place, place_counted, Ready, Parsed, Tallied, Read, Counted}
use Rattle.tree.proofs.Spans.{Wrote, next-at, fault-at, counted-next-at, counted-fault-at, made_of, tally-of, parsed-as, fault-size, counted-fault-size}
use Rattle.syntax.specs.Judged.{TextJudged}
use Rattle.syntax.specs.Line.{defining, in_definition, Given, Parameters, written_definition, count_definition, Definition, written_wholes, Started}
use Rattle.syntax.specs.Names.{Listing}
use Rattle.syntax.proofs.Answers.{Answers, Counts, first-fails}
use Rattle.syntax.proofs.Lines as machine
use Rattle.syntax.proofs.LineTrees as trees

-- ---- system items

abbrev TheWholes : List ℕ → List ℕ → List ℕ → ℕ → ℕ → Counted → Type 0
TheWholes ts t t' at used = Counts (Whole' ∷ MoreWholes ∷ Want kind.close_square ∷ []) written_wholes (λ w. Table.count_wholes (wholes_at w at)) (λ x w. Table.Wholes x (wholes_at w at)) ts t t' at used 0

abbrev TheStarts : List ℕ → List ℕ → List ℕ → ℕ → ℕ → ℕ → ℕ → Read → Type 0
TheStarts ts t t' k at used kd = Answers the_starts flat_starts (λ x s. Started x kd k (starts_at s at)) ts t t' at used

abbrev AStart : List ℕ → List ℕ → List ℕ → ℕ → ℕ → Read → Type 0
AStart ts t t' at = Answers (Start' ∷ []) flat_start (λ x s. Table.Start x (start_at s at)) ts t t' at

module _ (ts t : List ℕ) (k at used kd : ℕ) where
  pub starts-closed : at ≤ length ts → (get_or ts at 0 ≡ kind.open_square → ⊥) → TheStarts ts t t k at used kd (Err at)
  unfolding place Parsed
  starts-closed l n = (machine.starts_none ts at l n, refl)

  module _ (t₁ : List ℕ) (e : get_or ts at 0 ≡ kind.open_square) where
    pub starts-empty : get_or ts (at + 1) 0 ≡ kind.close_square → Wrote t t₁ used kd k 0 0 → TheStarts ts t t₁ k at used kd (Ok (at + 1 + 1, used))
    unfolding place Parsed
    starts-empty d w = (machine.starts-empty ts at e d, trees.starts_none kd e d w)

    module _ (d : get_or ts (at + 1) 0 ≡ kind.close_square → ⊥) {r : Counted} (a : TheWholes ts t t₁ (at + 1) used r) where
      pub starts-fault : {i : ℕ} → r ≡ Err i → TheStarts ts t t₁ k at used kd (Err i)
      unfolding place Parsed
      starts-fault f = (machine.starts-some ts at e d (counted-fault-at f a.0), counted-fault-size _ _ _ ts t t₁ (at + 1) used 0 f a.1)

      pub starts-made : {t₂ : List ℕ} {m root c : ℕ} → r ≡ Ok (m, root, c) → Wrote t₁ t₂ (root + 1) (kd + 1) k 0 c → TheStarts ts t t₂ k at used kd (Ok (m, root + 1))
      unfolding place Parsed
      starts-made f w = (machine.starts-some ts at e d (counted-next-at f a.0), trees.starts-some kd e (tally-of f a.1) w)

module _ (ts t : List ℕ) (at used : ℕ) where
  pub start-once : (t₁ : List ℕ) (r : Read) → get_or ts at 0 ≡ kind.name → TheStarts ts t t₁ at (at + 1) used node.start r → AStart ts t t₁ at used r
  start-once t₁ r e a = (machine.start-once ts at e a.0, parsed-as r (λ n root m. trees.start-once e m) (λ z. z) a.1)

  pub start-neither : at ≤ length ts → (get_or ts at 0 ≡ kind.name → ⊥) → (get_or ts at 0 ≡ kind.whole → ⊥) → AStart ts t t at used (Err at)
  unfolding place Parsed
  start-neither l n m = (machine.start-neither ts at l n m, refl)

  module _ (e : get_or ts at 0 ≡ kind.whole) where
    pub start-no-times : (get_or ts (at + 1) 0 ≡ kind.times → ⊥) → AStart ts t t at used (Err (at + 1))
    unfolding place Parsed
    start-no-times n = (machine.start-no-times ts at e n, refl)

    module _ (d : get_or ts (at + 1) 0 ≡ kind.times) where
      pub start-no-name : (get_or ts (at + 1 + 1) 0 ≡ kind.name → ⊥) → AStart ts t t at used (Err (at + 1 + 1))
      unfolding place Parsed
      start-no-name n = (machine.start-no-name ts at e d n, refl)

      pub start-counted : (t₁ : List ℕ) (r : Read) → get_or ts (at + 1 + 1) 0 ≡ kind.name → TheStarts ts t t₁ (at + 1 + 1) (at + 1 + 1 + 1) used node.counted r → AStart ts t t₁ at used r
      start-counted t₁ r f a = (machine.start-counted ts at e d f a.0, parsed-as r (λ n root m. trees.start-counted e d f m) (λ z. z) a.1)

-- ---- the system line

abbrev TheSystem : List ℕ → List ℕ → List ℕ → ℕ → ℕ → Read → Type 0
TheSystem ts t t' at = Answers (Start' ∷ SystemEnd ∷ []) flat_system (λ x s. Table.System x (system_at s at)) ts t t' at

module _ (ts t t₁ : List ℕ) (at used : ℕ) {r : Read} (a : AStart ts t t₁ at used r) where
  pub system-first : {k : ℕ} → r ≡ Err k → TheSystem ts t t₁ at used (Err k)
  system-first e = first-fails (Start' ∷ []) (SystemEnd ∷ []) flat_start _ flat_system _ ts t t₁ at used e a

  module _ {n left : ℕ} (e : r ≡ Ok (n, left)) where
    pub system-last : get_or ts n 0 ≡ kind.semicolon → TheSystem ts t t₁ at used (Ok (n + 1, left))
    unfolding place Parsed
    system-last d = (join ts at n (Start' ∷ []) (SystemEnd ∷ []) (next-at e a.0) (machine.system-end ts n d), trees.system-last (made_of e a.1) d)

    pub system-neither : (get_or ts n 0 ≡ kind.semicolon → ⊥) → (get_or ts n 0 ≡ kind.bars → ⊥) → TheSystem ts t t₁ at used (Err n)
    unfolding place Parsed
    system-neither f g =
        let m = made_of e a.1 in
        (join ts at n (Start' ∷ []) (SystemEnd ∷ []) (next-at e a.0) (machine.system-neither ts n m.span.within f g), m.span.size)

    module _ (t₂ : List ℕ) (d : get_or ts n 0 ≡ kind.bars) {r' : Read} (b : TheSystem ts t₁ t₂ (n + 1) (left + 1) r') where
      pub system-rest : {k : ℕ} → r' ≡ Err k → TheSystem ts t t₂ at used (Err k)
      unfolding place Parsed
      system-rest f = (
        join ts at n (Start' ∷ []) (SystemEnd ∷ []) (next-at e a.0) (machine.system-more ts n d (fault-at f b.0)),
        fault-size _ _ ts t₁ t₂ (n + 1) (left + 1) f b.1 ∙ (made_of e a.1).span.size,
      )

      pub system-next : {t₃ : List ℕ} {m root : ℕ} → r' ≡ Ok (m, root) → Wrote t₂ t₃ (root + 1) node.system 0 left 0 → TheSystem ts t t₃ at used (Ok (m, root + 1))
      unfolding place Parsed
      system-next f w = (join ts at n (Start' ∷ []) (SystemEnd ∷ []) (next-at e a.0) (machine.system-more ts n d (next-at f b.0)), trees.system-next (made_of e a.1) d (made_of f b.1) w)

-- ---- after a name and a token

pub ready-third : {ts : List ℕ} {k used : ℕ} → Ready ts k used → 0 < get_or ts (k + 1) 0 → Ready ts (k + 2) used
ready-third {ts} {k} r h =
    let l = inside ts (k + 1) h in
    record { inside = omega arith; room = r.room; few = omega (arith, r.few) }

-- ---- definitions

abbrev TheParams : List ℕ → ℕ → Read → Type 0
TheParams ts at r = Follows ts at (Params' ∷ Want kind.close_square ∷ []) (place r) × Parameters ts at r

module _ (ts : List ℕ) (at : ℕ) where
  pub params_none : get_or ts at 0 ≡ kind.close_square → TheParams ts at (Ok (at + 1, 0))
  unfolding place Parameters
  params_none e = (machine.no-params ts at e, trees.no-params e)

  pub params-some : (r : Read) → (get_or ts at 0 ≡ kind.close_square → ⊥) → Follows ts at (the_names ++ Want kind.close_square ∷ []) (place r) → Listing ts at kind.close_square r → TheParams ts at r
  unfolding Parameters Listing
  params-some (Ok (n, count)) e f l = (params-filled ts at e f, trees.some-params l)
  params-some (Err k) e f l = (params-filled ts at e f, tt)

pub given-of : {ts : List ℕ} {at n count : ℕ} {r : Read} → r ≡ Ok (n, count) → Parameters ts at r → Given ts at n count
unfolding Parameters
given-of e p = rw e at p

abbrev ABody : List ℕ → List ℕ → List ℕ → ℕ → ℕ → ℕ → Counted → Type 0
ABody ts t t' at used c = Counts a_body flat_body sums_body (λ x b. Table.Sums x (body_at b at c)) ts t t' at used c

-- the definition named at k
abbrev ADefinition : List ℕ → List ℕ → List ℕ → ℕ → ℕ → ℕ → Counted → Type 0
ADefinition ts t t' k used c r = Follows ts (k + 2) in_definition (place_counted r) × Tallied written_definition count_definition (λ x d. Definition x d k c) ts t t' (k + 1) used c r

module _ (ts t : List ℕ) (k used c : ℕ) {r : Read} (a : TheParams ts (k + 2) r) where
  pub definition-params : {i : ℕ} → r ≡ Err i → ADefinition ts t t k used c (Err i)
  unfolding place_counted Tallied
  definition-params {i} e = (fails ts (k + 2) i (Params' ∷ Want kind.close_square ∷ []) (Want kind.equals ∷ a_body ++ Want kind.semicolon ∷ []) (fault-at e a.0), refl)

  module _ {n count : ℕ} (e : r ≡ Ok (n, count)) where
    -- after the parameters
    headed : {x : Answer} → Follows ts n (Want kind.equals ∷ a_body ++ Want kind.semicolon ∷ []) x → Follows ts (k + 2) in_definition x
    headed f = join ts (k + 2) n (Params' ∷ Want kind.close_square ∷ []) (Want kind.equals ∷ a_body ++ Want kind.semicolon ∷ []) (next-at e a.0) f

    pub definition-bare : (get_or ts n 0 ≡ kind.equals → ⊥) → ADefinition ts t t k used c (Err n)
    unfolding place_counted Tallied
    definition-bare f = (headed (fails ts n n (Want kind.equals ∷ []) (a_body ++ Want kind.semicolon ∷ []) (unwanted ts n kind.equals (bounds (next-at e a.0)).1 f)), refl)

    -- and the `=`
    bodied : {x : Answer} → get_or ts n 0 ≡ kind.equals → Follows ts (n + 1) (a_body ++ Want kind.semicolon ∷ []) x → Follows ts (k + 2) in_definition x
    bodied d f = headed (join ts n (n + 1) (Want kind.equals ∷ []) (a_body ++ Want kind.semicolon ∷ []) (wanted ts n kind.equals d (omega arith)) f)

    module _ (t₁ : List ℕ) (d : get_or ts n 0 ≡ kind.equals) {r' : Counted} (b : ABody ts t t₁ (n + 1) used c r') where
      pub definition-body : {i : ℕ} → r' ≡ Err i → ADefinition ts t t₁ k used c (Err i)
      unfolding place_counted Tallied
      definition-body {i} f = (bodied d (fails ts (n + 1) i a_body (Want kind.semicolon ∷ []) (counted-fault-at f b.0)), counted-fault-size _ _ _ ts t t₁ (n + 1) used c f b.1)

      module _ {m root s : ℕ} (f : r' ≡ Ok (m, root, s)) where
        pub definition-open : (get_or ts m 0 ≡ kind.semicolon → ⊥) → ADefinition ts t t₁ k used c (Err m)
        unfolding place_counted Tallied
        definition-open g =
            let x = (tally-of f b.1).made.span in
            (bodied d (join ts (n + 1) m a_body (Want kind.semicolon ∷ []) (counted-next-at f b.0) (unwanted ts m kind.semicolon x.within g)), x.size)

        pub definition-made : {t₂ : List ℕ} → get_or ts (k + 1) 0 ≡ kind.open_square → get_or ts m 0 ≡ kind.semicolon → Wrote t₁ t₂ (root + 1) node.definition k 0 count → ADefinition ts t t₂ k used c (Ok (m + 1, root + 1, s))
        unfolding place_counted Tallied
        definition-made g h w = (
          bodied d (join ts (n + 1) m a_body (Want kind.semicolon ∷ []) (counted-next-at f b.0) (wanted ts m kind.semicolon h (omega arith))),
          trees.definition-made g (given-of e a.1) d (tally-of f b.1) h w,
        )

-- the definitions, the first of them named at k
abbrev TheDefinitions : List ℕ → List ℕ → List ℕ → ℕ → ℕ → ℕ → Read → Type 0
TheDefinitions ts t t' k used c r = Follows ts (k + 2) (in_definition ++ NextLine ∷ []) (place r) × Parsed flat_definitions (λ x d. Table.Definitions x (definitions_at d k c)) ts t t' k used r

module _ (ts t t₁ : List ℕ) (k used c : ℕ) {r : Counted} (a : ADefinition ts t t₁ k used c r) where
  pub definitions-first : {i : ℕ} → r ≡ Err i → TheDefinitions ts t t₁ k used c (Err i)
  unfolding place Parsed
  definitions-first {i} e = (fails ts (k + 2) i in_definition (NextLine ∷ []) (counted-fault-at e a.0), counted-fault-size _ _ _ ts t t₁ (k + 1) used c e a.1)

  module _ {n left s : ℕ} (e : r ≡ Ok (n, left, s)) where
    followed : {x : Answer} → Follows ts n (NextLine ∷ []) x → Follows ts (k + 2) (in_definition ++ NextLine ∷ []) x
    followed f = join ts (k + 2) n in_definition (NextLine ∷ []) (counted-next-at e a.0) f

    module _ (t₂ : List ℕ) {r' : Read} (d : defining ts n ≡ true) (b : TheDefinitions ts t₁ t₂ n (left + 1) s r') where
      pub definitions-rest : {i : ℕ} → r' ≡ Err i → TheDefinitions ts t t₂ k used c (Err i)
      unfolding place Parsed
      definitions-rest f = (followed (machine.next-definition ts n d (fault-at f b.0)), fault-size _ _ ts t₁ t₂ n (left + 1) f b.1 ∙ (tally-of e a.1).made.span.size)

      pub definitions-next : {t₃ : List ℕ} {m root : ℕ} → get_or ts k 0 ≡ kind.name → r' ≡ Ok (m, root) → Wrote t₂ t₃ (root + 1) node.next 0 left 0 → TheDefinitions ts t t₃ k used c (Ok (m, root + 1))
      unfolding place Parsed
      definitions-next g f w = (followed (machine.next-definition ts n d (next-at f b.0)), trees.definitions-next k g (tally-of e a.1) (made_of f b.1) w)

    module _ (t₂ : List ℕ) {r' : Read} (d : defining ts n ≡ false) (b : TheSystem ts t₁ t₂ n (left + 1) r') where
      pub definitions-system : {i : ℕ} → r' ≡ Err i → TheDefinitions ts t t₂ k used c (Err i)
      unfolding place Parsed
      definitions-system f = (followed (machine.next-system ts n d (fault-at f b.0)), fault-size _ _ ts t₁ t₂ n (left + 1) f b.1 ∙ (tally-of e a.1).made.span.size)

      pub definitions-last : {t₃ : List ℕ} {m root : ℕ} → get_or ts k 0 ≡ kind.name → r' ≡ Ok (m, root) → Wrote t₂ t₃ (root + 1) node.last 0 left 0 → TheDefinitions ts t t₃ k used c (Ok (m, root + 1))
      unfolding place Parsed
      definitions-last g f w = (followed (machine.next-system ts n d (next-at f b.0)), trees.definitions-last k g (tally-of e a.1) (made_of f b.1) w)

-- ---- models

abbrev ANumber : List ℕ → List ℕ → List ℕ → ℕ → ℕ → Read → Type 0
ANumber ts t t' at = Answers (Number' ∷ []) flat_number (λ x v. Table.Number x (number_at v at)) ts t t' at

abbrev AModel : List ℕ → List ℕ → List ℕ → ℕ → ℕ → Read → Type 0
AModel ts t t' at = Answers (Line ∷ []) flat_model (λ x m. Table.Model x (model_at m at)) ts t t' at

-- the variable named at k, and what follows
abbrev AVariable : List ℕ → List ℕ → List ℕ → ℕ → ℕ → Read → Type 0
AVariable ts t t' k used r = Follows ts (k + 2) (Number' ∷ Want kind.semicolon ∷ Line ∷ []) (place r) × Parsed flat_model (λ x m. Table.Model x (model_at m k)) ts t t' k used r

module _ (ts t : List ℕ) (at used : ℕ) where
  pub model-nameless : at ≤ length ts → (get_or ts at 0 ≡ kind.name → ⊥) → AModel ts t t at used (Err at)
  unfolding place Parsed
  model-nameless l n = (machine.line-nameless ts at l n, refl)

  module _ (e : get_or ts at 0 ≡ kind.name) where
    pub model-neither : (get_or ts (at + 1) 0 ≡ kind.open_square → ⊥) → (get_or ts (at + 1) 0 ≡ kind.equals → ⊥) → AModel ts t t at used (Err (at + 1))
    unfolding place Parsed
    model-neither n m = (machine.line-neither ts at e n m, refl)

    pub model-definitions : (t₁ : List ℕ) (r : Read) → get_or ts (at + 1) 0 ≡ kind.open_square → TheDefinitions ts t t₁ at used 0 r → AModel ts t t₁ at used r
    model-definitions t₁ r d a = (machine.line-definition ts at e d a.0, parsed-as r (λ n root m. trees.model-definitions m) (λ z. z) a.1)

    pub model-variable : (t₁ : List ℕ) (r : Read) → get_or ts (at + 1) 0 ≡ kind.equals → AVariable ts t t₁ at used r → AModel ts t t₁ at used r
    model-variable t₁ r d a = (machine.line-variable ts at e d a.0, a.1)

module _ (ts t t₁ : List ℕ) (k used : ℕ) {r : Read} (a : ANumber ts t t₁ (k + 2) used r) where
  pub variable-number : {i : ℕ} → r ≡ Err i → AVariable ts t t₁ k used (Err i)
  unfolding place Parsed
  variable-number {i} e = (fails ts (k + 2) i (Number' ∷ []) (Want kind.semicolon ∷ Line ∷ []) (fault-at e a.0), fault-size _ _ ts t t₁ (k + 2) used e a.1)

  module _ {n left : ℕ} (e : r ≡ Ok (n, left)) where
    valued : {x : Answer} → Follows ts n (Want kind.semicolon ∷ Line ∷ []) x → Follows ts (k + 2) (Number' ∷ Want kind.semicolon ∷ Line ∷ []) x
    valued f = join ts (k + 2) n (Number' ∷ []) (Want kind.semicolon ∷ Line ∷ []) (next-at e a.0) f

    pub variable-open : (get_or ts n 0 ≡ kind.semicolon → ⊥) → AVariable ts t t₁ k used (Err n)
    unfolding place Parsed
    variable-open f =
        let m = made_of e a.1 in
        (valued (fails ts n n (Want kind.semicolon ∷ []) (Line ∷ []) (unwanted ts n kind.semicolon m.span.within f)), m.span.size)

    module _ (t₂ : List ℕ) (d : get_or ts n 0 ≡ kind.semicolon) {r' : Read} (b : AModel ts t₁ t₂ (n + 1) (left + 1) r') where
      pub variable-rest : {i : ℕ} → r' ≡ Err i → AVariable ts t t₂ k used (Err i)
      unfolding place Parsed
      variable-rest f = (
        valued (join ts n (n + 1) (Want kind.semicolon ∷ []) (Line ∷ []) (wanted ts n kind.semicolon d (omega arith)) (fault-at f b.0)),
        fault-size _ _ ts t₁ t₂ (n + 1) (left + 1) f b.1 ∙ (made_of e a.1).span.size,
      )

      pub variable-made : {t₃ : List ℕ} {m root : ℕ} → get_or ts k 0 ≡ kind.name → get_or ts (k + 1) 0 ≡ kind.equals → r' ≡ Ok (m, root) → Wrote t₂ t₃ (root + 1) node.variable k left 0 → AVariable ts t t₃ k used (Ok (m, root + 1))
      unfolding place Parsed
      variable-made g h f w = (
        valued (join ts n (n + 1) (Want kind.semicolon ∷ []) (Line ∷ []) (wanted ts n kind.semicolon d (omega arith)) (next-at f b.0)),
        trees.model-variable k g h (made_of e a.1) d (made_of f b.1) w,
      )

-- ---- the whole text

module _ (ts t t₁ : List ℕ) {r : Read} (a : AModel ts t t₁ 0 0 r) where
  pub text-fault : {k : ℕ} → r ≡ Err k → TextJudged ts t₁ (Err k)
  unfolding TextJudged
  text-fault {k} e = failed ts k (fault-at e a.0)

  module _ {n root : ℕ} (e : r ≡ Ok (n, root)) where
    pub text-longer : n < length ts → TextJudged ts t₁ (Err n)
    unfolding TextJudged
    text-longer h = longer ts n (next-at e a.0) h

    pub text-fits : length ts ≤ n → TextJudged ts t₁ (Ok root)
    unfolding TextJudged
    text-fits h = trees.fitting (made_of e a.1) h
