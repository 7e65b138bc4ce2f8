-- The trees that the readers of lines make: a node that is written over the parts that were read makes the part's syntax tree. From the laws of spans
-- (tree: Spans.antt) and of how many tokens a tree has (grammar: Wide.antt).
use mathlib.Core.Path.{◌≡◌, refl, sym, ap, ◌∙◌}
use mathlib.Core.List.{List, [], ◌∷◌}
use Prim.Native.Nat.{ℕ, ◌+◌, ◌≤◌, ◌<◌}
use native.Mathlib.Omega.{arith}
use lib.ListN.{length, get_or, drop_of_length-le}
use Rattle.token.specs.Kind as kind
use Rattle.grammar.specs.Grammar
use Rattle.grammar.specs.Grammar.{Reads, flat_number, flat_starts, flat_start, flat_system, flat_params, flat_body, flat_definition, flat_definitions, flat_model}
use Rattle.grammar.specs.Syntax
use Rattle.grammar.specs.Syntax.{wide, number_at, count_names, names_at, params_at, body_at, sums_body, wholes_at, starts_at, start_at, system_at, definitions_at, model_at, syntax_of}
use Rattle.grammar.proofs.Wide.{wide-number, wide-start, wide-params, wide-definition}
use Rattle.tree.specs.Node as node
use Rattle.tree.specs.Table
use Rattle.tree.specs.Reading.{Span, Made, Tally}
use Rattle.tree.proofs.Interval.{Interval}
use Rattle.tree.proofs.Holds.{number-interval, sums-interval, definition-interval, wholes-interval, start-interval, system-interval, definitions-interval, model-interval}
use Rattle.tree.proofs.Spans.{span-token, ◌then◌, Wrote, span-wrote, span-place, seen-later, seen-leaf, seen_one, seen-two}
use Rattle.syntax.specs.Judged.{Fitting}
use Rattle.syntax.specs.Line.{count_params, Given, written_definition, count_definition, Definition, written_wholes, Started}
use Rattle.syntax.specs.Names.{Listed}

-- ---- what was read

-- whole numbers and the `]` after them, c of them
abbrev TheWholes : List ℕ → List ℕ → List ℕ → ℕ → ℕ → ℕ → ℕ → ℕ → Type 0
TheWholes ts t t' at used = Tally written_wholes (λ w. Table.count_wholes (wholes_at w at)) (λ x w. Table.Wholes x (wholes_at w at)) ts t t' at used 0

-- the values, from `at` on, of the system item named at k; a system item; the system line
abbrev TheStarts : List ℕ → List ℕ → List ℕ → ℕ → ℕ → ℕ → ℕ → ℕ → ℕ → Type 0
TheStarts ts t t' kind k at = Made flat_starts (λ x s. Started x kind k (starts_at s at)) ts t t' at

abbrev AStart : List ℕ → List ℕ → List ℕ → ℕ → ℕ → ℕ → ℕ → Type 0
AStart ts t t' at = Made flat_start (λ x s. Table.Start x (start_at s at)) ts t t' at

abbrev TheSystem : List ℕ → List ℕ → List ℕ → ℕ → ℕ → ℕ → ℕ → Type 0
TheSystem ts t t' at = Made flat_system (λ x s. Table.System x (system_at s at)) ts t t' at

-- a body; a definition; definitions and system line: the sums numbered from c on
abbrev ABody : List ℕ → List ℕ → List ℕ → ℕ → ℕ → ℕ → ℕ → ℕ → ℕ → Type 0
ABody ts t t' at used c = Tally flat_body sums_body (λ x b. Table.Sums x (body_at b at c)) ts t t' at used c

abbrev ADefinition : List ℕ → List ℕ → List ℕ → ℕ → ℕ → ℕ → ℕ → ℕ → ℕ → Type 0
ADefinition ts t t' k used c = Tally written_definition count_definition (λ x d. Definition x d k c) ts t t' (k + 1) used c

abbrev TheDefinitions : List ℕ → List ℕ → List ℕ → ℕ → ℕ → ℕ → ℕ → ℕ → Type 0
TheDefinitions ts t t' k c = Made flat_definitions (λ x d. Table.Definitions x (definitions_at d k c)) ts t t' k

-- a number; a model
abbrev ANumber : List ℕ → List ℕ → List ℕ → ℕ → ℕ → ℕ → ℕ → Type 0
ANumber ts t t' at = Made flat_number (λ x v. Table.Number x (number_at v at)) ts t t' at

abbrev AModel : List ℕ → List ℕ → List ℕ → ℕ → ℕ → ℕ → ℕ → Type 0
AModel ts t t' at = Made flat_model (λ x m. Table.Model x (model_at m at)) ts t t' at

-- ---- the system line

module _ {ts t t₁ : List ℕ} {k at used : ℕ} (kd : ℕ) (e : get_or ts at 0 ≡ kind.open_square) where
  pub starts_none : get_or ts (at + 1) 0 ≡ kind.close_square → Wrote t t₁ used kd k 0 0 → TheStarts ts t t₁ kd k at used (at + 1 + 1) used
  unfolding flat_starts starts_at Started
  starts_none d w =
      record { tree = Grammar.no_starts; span = span-wrote w (span-token kind.open_square e (omega arith) then span-token kind.close_square d (omega arith)) (omega arith); shown = seen-leaf w }

  pub starts-some : {t₂ : List ℕ} {m r c : ℕ} → TheWholes ts t t₁ (at + 1) used m r c → Wrote t₁ t₂ (r + 1) (kd + 1) k 0 c → TheStarts ts t t₂ kd k at used m (r + 1)
  unfolding flat_starts written_wholes starts_at Started
  starts-some {c = c} b w =
      let s = b.made.span in
      let values = wholes_at b.made.tree (at + 1) in
      let all : c ≡ Table.count_wholes values = omega (arith, b.counted) in
      record {
        tree = Grammar.starts b.made.tree;
        span = span-wrote w (span-token kind.open_square e (omega arith) then s) (omega (arith, s.fewer));
        shown = rw (← all) (seen_one (wholes-interval values) w b.made.shown);
      }

-- without a count, and with one
once-holds : (t : List ℕ) (n lo k : ℕ) (s : Syntax.Starts) → Started t node.start n s lo k → Table.Start t (Syntax.once n s) lo k
unfolding Started Table.Start
once-holds t n lo k Syntax.no_starts h = h
once-holds t n lo k (Syntax.starts w) h = h

counted-holds : (t : List ℕ) (c n lo k : ℕ) (s : Syntax.Starts) → n ≡ c + 2 → Started t node.counted n s lo k → Table.Start t (Syntax.counted c n s) lo k
unfolding Started Table.Start
counted-holds t c n lo k Syntax.no_starts e h = (e, h)
counted-holds t c n lo k (Syntax.starts w) e h = (e, h)

module _ {ts t t₁ : List ℕ} {at used n root : ℕ} where
  pub start-once : get_or ts at 0 ≡ kind.name → TheStarts ts t t₁ node.start at (at + 1) used n root → AStart ts t t₁ at used n root
  unfolding flat_start start_at
  start-once e a = record { tree = Grammar.once a.tree; span = span-token kind.name e (omega arith) then a.span; shown = λ l. once-holds t₁ at used root (starts_at a.tree (at + 1)) (a.shown l) }

  pub start-counted : get_or ts at 0 ≡ kind.whole → get_or ts (at + 1) 0 ≡ kind.times → get_or ts (at + 1 + 1) 0 ≡ kind.name → TheStarts ts t t₁ node.counted (at + 1 + 1) (at + 1 + 1 + 1) used n root → AStart ts t t₁ at used n root
  unfolding flat_start start_at
  start-counted e d f a =
      let two : at + 1 + 1 ≡ at + 2 = omega arith in
      let three : at + 1 + 1 + 1 ≡ at + 3 = omega arith in
      record {
        tree = Grammar.counted a.tree;
        span = span-token kind.whole e (omega arith) then span-token kind.times d (omega arith) then span-token kind.name f (omega arith) then a.span;
        shown = λ l. rw (← two, ← three) (counted-holds t₁ at (at + 1 + 1) used root (starts_at a.tree (at + 1 + 1 + 1)) two (a.shown l));
      }

pub system-last : {ts t t₁ : List ℕ} {at used n left : ℕ} → AStart ts t t₁ at used n left → get_or ts n 0 ≡ kind.semicolon → TheSystem ts t t₁ at used (n + 1) left
unfolding flat_system system_at Table.System
system-last a e = record { tree = Grammar.last_start a.tree; span = a.span then span-token kind.semicolon e (omega arith); shown = a.shown }

pub system-next : {ts t t₁ t₂ t₃ : List ℕ} {at used n left m r : ℕ} → AStart ts t t₁ at used n left → get_or ts n 0 ≡ kind.bars → TheSystem ts t₁ t₂ (n + 1) (left + 1) m r → Wrote t₂ t₃ (r + 1) node.system 0 left 0 → TheSystem ts t t₃ at used m (r + 1)
unfolding flat_system system_at Table.System
system-next {at = at} {n = n} a e b w =
    let p = span-place (wide-start a.tree) a.span in
    let s = b.span in
    let first = start-interval (start_at a.tree at) in
    record {
      tree = Grammar.next_start a.tree b.tree;
      span = span-wrote w (a.span then span-token kind.bars e (omega arith) then s) (omega (arith, a.span.fewer, s.fewer));
      shown = rw (← p) (seen-two first (system-interval (system_at b.tree (n + 1))) w (seen-later first s (omega arith) a.shown) b.shown);
    }

-- ---- definitions

-- parameters: none, or names
pub no-params : {ts : List ℕ} {at : ℕ} → get_or ts at 0 ≡ kind.close_square → Given ts at (at + 1) 0
unfolding flat_params count_params
no-params {ts} e =
    let s : Span (λ us. kind.close_square ∷ us) ts [] [] _ 0 _ 0 = span-token kind.close_square e (omega arith) in
    record { tree = Grammar.no_params; text = ap (λ (us : List ℕ). kind.open_square ∷ us) s.text; counted = refl; fewer = omega arith; within = s.within }

pub some-params : {ts : List ℕ} {at n count : ℕ} → Listed ts at kind.close_square n count → Given ts at n count
unfolding flat_params count_params
some-params l = record { tree = Grammar.params l.tree; text = ap (λ (us : List ℕ). kind.open_square ∷ us) l.text; counted = l.counted; fewer = l.fewer; within = l.within }

some-names : (n : Grammar.Names) → 0 < count_names n
unfolding count_names
some-names Grammar.last_name = omega arith
some-names (Grammar.next_name r) = omega arith

-- the node over a body makes a definition of it
definition-holds : (t : List ℕ) (k lo root : ℕ) (p : Grammar.Params) (b : Syntax.Sums) → Table.One t node.definition k (count_params p) (Table.Sums t b) lo root → Table.Definition t k (params_at p (k + 1)) b lo root
unfolding params_at names_at count_params Table.Definition
definition-holds t k lo root Grammar.no_params b h = h
definition-holds t k lo root (Grammar.params n) b h = (omega arith, some-names n, h)

-- the `[` and the parameters after it
heading : (k : ℕ) {ts t : List ℕ} {used n count : ℕ} → get_or ts (k + 1) 0 ≡ kind.open_square → (g : Given ts (k + 2) n count) → Span (flat_params g.tree) ts t t (k + 1) used n used
heading k {ts} {t} {used} d g =
    let s : Span (λ us. kind.open_square ∷ us) ts t t (k + 1) used (k + 1 + 1) used = span-token kind.open_square d (omega arith) in
    let two : k + 1 + 1 ≡ k + 2 = omega arith in
    record {
      text = s.text ∙ rw two g.text;
      onward = omega (arith, g.fewer);
      within = g.within;
      more = omega arith;
      fewer = omega (arith, g.fewer);
      kept = λ i l. refl;
      size = refl;
    }

pub definition-made : {ts t t₁ t₂ : List ℕ} {k used c n count m r s : ℕ} → get_or ts (k + 1) 0 ≡ kind.open_square → Given ts (k + 2) n count → get_or ts n 0 ≡ kind.equals → ABody ts t t₁ (n + 1) used c m r s → get_or ts m 0 ≡ kind.semicolon → Wrote t₁ t₂ (r + 1) node.definition k 0 count → ADefinition ts t t₂ k used c (m + 1) (r + 1) s
unfolding written_definition count_definition Definition
definition-made {t = t} {k = k} {used = used} {c = c} {n = n} {r = r} d g q b f w =
    let h = heading k {t = t} {used = used} d g in
    let p = span-place (wide-params g.tree) h in
    let x = b.made.span in
    let sums = body_at b.made.tree (n + 1) c in
    record {
      made =
          record {
            tree = (g.tree, b.made.tree);
            span = span-wrote w (h then span-token kind.equals q (omega arith) then x then span-token kind.semicolon f (omega arith)) (omega (arith, h.onward, x.fewer));
            shown = λ l. rw (← p) (definition-holds _ k used (r + 1) g.tree sums (rw (← g.counted) (seen_one (sums-interval sums) w b.made.shown l)));
          };
      counted = b.counted;
      rarer = omega (arith, h.onward, b.rarer);
    }

-- a definition, and what follows it
module _ (k : ℕ) {ts t t₁ : List ℕ} {used c n left s : ℕ} (e : get_or ts k 0 ≡ kind.name) (a : ADefinition ts t t₁ k used c n left s) where
  abbrev the_params : Grammar.Params
  the_params = a.made.tree.0

  abbrev the_body : Grammar.Body
  the_body = a.made.tree.1

  named : Span (flat_definition the_params the_body) ts t t₁ k used n (left + 1)
  unfolding written_definition
  named = span-token kind.name e (omega arith) then a.made.span

  ends : n ≡ k + 1 + wide (flat_params the_params) + 1 + wide (flat_body the_body) + 1
  ends = let p = wide-definition the_params the_body in omega (arith, span-place p named, p.width)

  part : Interval 56 56 (λ x. Definition x a.made.tree k c)
  unfolding Definition
  part = definition-interval k _ _

  module _ {t₂ t₃ : List ℕ} {m r : ℕ} where
    pub definitions-last : TheSystem ts t₁ t₂ n (left + 1) m r → Wrote t₂ t₃ (r + 1) node.last 0 left 0 → TheDefinitions ts t t₃ k c used m (r + 1)
    unfolding flat_definitions definitions_at Definition Table.Definitions
    definitions-last b w =
        record {
          tree = Grammar.last_definition the_params the_body b.tree;
          span = span-wrote w (named then b.span) (omega (arith, a.made.span.fewer, b.span.fewer));
          shown = rw (← ends) (seen-two part (system-interval (system_at b.tree n)) w (seen-later part b.span (omega arith) a.made.shown) b.shown);
        }

    pub definitions-next : TheDefinitions ts t₁ t₂ n s (left + 1) m r → Wrote t₂ t₃ (r + 1) node.next 0 left 0 → TheDefinitions ts t t₃ k c used m (r + 1)
    unfolding count_definition flat_definitions definitions_at Definition Table.Definitions
    definitions-next b w =
        record {
          tree = Grammar.next_definition the_params the_body b.tree;
          span = span-wrote w (named then b.span) (omega (arith, a.made.span.fewer, b.span.fewer));
          shown = rw (← ends, ← a.counted) (seen-two part (definitions-interval (definitions_at b.tree n s)) w (seen-later part b.span (omega arith) a.made.shown) b.shown);
        }

-- ---- models

pub model-definitions : {ts t t₁ : List ℕ} {at used n root : ℕ} → TheDefinitions ts t t₁ at 0 used n root → AModel ts t t₁ at used n root
unfolding flat_model model_at Table.Model
model-definitions a = record { tree = Grammar.definitions a.tree; span = a.span; shown = a.shown }

pub model-variable : (k : ℕ) {ts t t₁ t₂ t₃ : List ℕ} {used n left m r : ℕ} → get_or ts k 0 ≡ kind.name → get_or ts (k + 1) 0 ≡ kind.equals → ANumber ts t t₁ (k + 2) used n left → get_or ts n 0 ≡ kind.semicolon → AModel ts t₁ t₂ (n + 1) (left + 1) m r → Wrote t₂ t₃ (r + 1) node.variable k left 0 → AModel ts t t₃ k used m (r + 1)
unfolding flat_model model_at Table.Model
model-variable k {ts} {t} {t₁} {used = used} {n = n} {left = left} e d a f b w =
    let two : k + 1 + 1 ≡ k + 2 = omega arith in
    let value : Span (flat_number a.tree) ts t t₁ (k + 1 + 1) used n (left + 1) = rw two a.span in
    let p = span-place (wide-number a.tree) a.span in
    let first = number-interval (number_at a.tree (k + 2)) in
    let s = b.span in
    record {
      tree = Grammar.variable a.tree b.tree;
      span = span-wrote w (span-token kind.name e (omega arith) then span-token kind.equals d (omega arith) then value then span-token kind.semicolon f (omega arith) then s) (omega (arith, a.span.fewer, s.fewer));
      shown = rw (← p) (seen-two first (model-interval (model_at b.tree (n + 1))) w (seen-later first s (omega arith) a.shown) b.shown);
    }

-- a model that ends where the text does
pub fitting : {ts t t₁ : List ℕ} {n root : ℕ} → AModel ts t t₁ 0 0 n root → length ts ≤ n → Fitting ts t₁ root
unfolding Reads syntax_of
fitting {ts} a h = record { tree = a.tree; reads = sym (a.span.text ∙ ap (flat_model a.tree) (drop_of_length-le ts h)); few = omega (arith, a.span.fewer, a.span.within); shown = a.shown }
