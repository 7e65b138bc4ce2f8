-- What continuations become over settled nodes. Assumes nothing: these are definitions.
use Rattle.std.specs.Prelude.{◌≡◌, List, [], ◌∷◌, map, cond, ℕ, ◌+◌, ◌-◌, ◌*◌, ◌≤◌, ◌<◌, ltb, ℤ, length, get_or, Some, None, Option}
use Rattle.std.proofs.Math.Option.{some}
use Rattle.std.proofs.Math.ListN.{get_elem?}
use Rattle.std.proofs.lemmas.List.Edits.{sets}
use Rattle.tree.specs.Node.{left_of}
use Rattle.model.specs.Limits.{local_limit}
use Rattle.model.specs.Resolved
use Rattle.model.specs.Scope.{scope_of, definition_in}
use Rattle.tables.specs.Settled as Settled
use Rattle.tables.specs.Represents.{Sums, Definition}
use Rattle.model.specs.Good.{Every, GoodExpr, GoodPart, GoodModel}
use Rattle.machine.specs.Evaluate.{eval_expr}
use Rattle.machine.specs.Offer.{Process, or_zero, next_processes}
use Rattle.machine.specs.State.{process_width, process_numbers, flatten}

-- the root of a continuation, or none
abbrev pub Next : Type 0
Next = Option ℕ

-- 01, Model text: a guarded prefix has a continuation or none; one is given by its root
pub data ShowsNext (t : List ℕ) : List Resolved.Part → Next → Type 0 where
  at : {p : Resolved.Part} {ps : List Resolved.Part} {i : ℕ} → Settled.Parts t (p ∷ ps) i → ShowsNext t (p ∷ ps) (Some i)
  nothing : ShowsNext t [] None

-- 01, Model text: some prefix without its gate stands at k
pub record SomePrefix (t : List ℕ) (k : ℕ) : Type 0 where
  pub action : Resolved.Action
  pub rate : Resolved.Rate
  pub next : List Resolved.Part
  pub at : Settled.Offer t action rate next k

-- 01, Model text: where the nodes have the definitions of m (tables: Represents)
abbrev pub Defines : List ℕ → ℕ → ℕ → Resolved.Model → Type 0
Defines t root variables m = (d : ℕ) (e : Resolved.Defined) → get_elem? m.definitions d ≡ some e → Definition t e (left_of (get_or t (root - variables - d) 0))

-- 01, Model text, continuations: the continuation ps of a good model, over n locals, stands at k
pub record Continues (t : List ℕ) (root variables n : ℕ) (m : Resolved.Model) (ps : List Resolved.Part) (k : ℕ) : Type 0 where
  pub good : GoodModel m
  pub defines : Defines t root variables m
  pub at : Settled.Parts t ps k
  pub fit : Every (GoodPart m n) ps

-- 01, Model text, continuations: some continuation does
pub record Continuation (t : List ℕ) (root variables k : ℕ) : Type 0 where
  pub locals : ℕ
  pub model : Resolved.Model
  pub parts : List Resolved.Part
  pub holds : Continues t root variables locals model parts k

-- 01, 18: where counting stops: four times as many processes as a state holds
abbrev pub most : ℕ
most = 1024

-- 01, 18: a count, up to there
unfoldable pub cut : ℕ → ℕ
cut n = cond (ltb most n) most n

-- ---- rows

-- 01, Step: the values of a call's arguments
unfoldable pub arguments : List ℤ → List Resolved.Expr → List ℤ
arguments ls es = map (λ e. or_zero (eval_expr ls e)) es

-- 01, Step: arguments stand at k, and as many numbers as they are lie from place at on
pub record Room (t : List ℕ) (n k size at : ℕ) : Type 0 where
  pub arguments : List Resolved.Expr
  pub holds : Settled.Arguments t arguments k
  pub fit : Every (GoodExpr n) arguments
  pub fits : at + length arguments ≤ size

-- 02, note 6: what is known of the sums of m, by their numbers
pub record Scoped (scopes : List ℕ) (m : Resolved.Model) : Type 0 where
  pub fit : length m.sums ≤ length scopes
  pub are : (n : ℕ) (s : Resolved.Sum) → get_elem? m.sums n ≡ some s → get_or scopes n 0 ≡ scope_of s

-- 01, State: a process of sum n with these locals; 02, note 6: with the definition that is known of the sum
unfoldable pub known : List ℕ → ℕ → List ℤ → Process
known scopes n ls = record { sum = n; locals = ls; definition = definition_in (get_or scopes n 0) }

-- 01, Step: a definition's sums with these locals
unfoldable pub entered : List ℕ → List ℕ → List ℤ → List Process
entered scopes ns ls = map (λ n. known scopes n ls) ns

-- 01, Step: sums stand at k, whose numbers are below a count, and as many rows as they are lie from row at on
pub record SumsFit (t : List ℕ) (count k size at : ℕ) : Type 0 where
  pub sums : List ℕ
  pub holds : Sums t sums k
  pub below : Every (λ (n : ℕ). n < count) sums
  pub fits : (at + length sums) * process_width ≤ size

-- 01, Step: a call stands at k with sums at body, and as many rows as they are lie from row at on
pub record CallFits (t : List ℕ) (count n k body size at : ℕ) : Type 0 where
  pub definition : ℕ
  pub values : List Resolved.Expr
  pub call : Settled.Called t definition values k
  pub fit : Every (GoodExpr n) values
  pub few : length values ≤ local_limit
  pub sums : SumsFit t count body size at

-- 01, State: the numbers of these processes, written into f from row at on, make g, and the next row is r
pub record Rows (f : List ℤ) (at : ℕ) (ps : List Process) (g : List ℤ) (r : ℕ) : Type 0 where
  pub numbers : g ≡ sets f (at * process_width) (flatten process_numbers ps)
  pub next : r ≡ at + length ps

-- 01, Step: a continuation over the locals ls stands at k, and as many rows as its processes are lie from row at on
pub record Spaced (t scopes : List ℕ) (root variables : ℕ) (ls : List ℤ) (k size at : ℕ) : Type 0 where
  pub model : Resolved.Model
  pub scoped : Scoped scopes model
  pub parts : List Resolved.Part
  pub holds : Continues t root variables (length ls) model parts k
  pub fits : (at + length (next_processes model ls parts)) * process_width ≤ size
