-- What a reading function answers, beside what the machine does (grammar: Follows): the tokens it took are those of a tree, and the table holds
-- that tree's syntax tree. Assumes nothing: these are definitions.
use Rattle.std.specs.Prelude.{◌≡◌, List, ℕ, ◌+◌, ◌≤◌, ◌<◌, length, get_or, drop, Result, Ok, Err}
use Rattle.token.specs.Questions.{text_limit}
use Rattle.grammar.specs.Follows.{Answer, next, fault}

-- the token after what was read, and the root of its tree; or the token that doesn't fit
abbrev pub Read : Type 0
Read = Result (ℕ × ℕ) ℕ

-- the same with a count
abbrev pub Counted : Type 0
Counted = Result (ℕ × ℕ × ℕ) ℕ

-- 01, Opening a text, 5: where an answer leaves the reader, at the token after what it read, or at the token that no fitting text could have there
unfoldable pub place : Read → Answer
place (Ok (n, root)) = next n
place (Err k) = fault k

unfoldable pub place_counted : Counted → Answer
place_counted (Ok (n, root, m)) = next n
place_counted (Err k) = fault k

-- how many tokens a text may have: no more than its bytes
abbrev pub token_room : ℕ
token_room = text_limit

-- where a reading function may start: at a token or the end, with fewer nodes than tokens before it
pub record Ready (ts : List ℕ) (at used : ℕ) : Type 0 where
  pub inside : at ≤ length ts
  pub room : length ts ≤ token_room
  pub few : used ≤ at

-- the tokens from `at` to n are those that f writes; the nodes below `used` are as they were, and from there to u there is at most one a token
pub record Span (f : List ℕ → List ℕ) (ts t t' : List ℕ) (at used n u : ℕ) : Type 0 where
  pub text : drop at ts ≡ f (drop n ts)
  pub onward : at ≤ n
  pub within : n ≤ length ts
  pub more : used ≤ u
  pub fewer : u + at ≤ used + n
  pub kept : (i : ℕ) → i < used → get_or t' i 0 ≡ get_or t i 0
  pub size : length t' ≡ length t

-- a tree was read; the table, where it has room, holds it from `used` to its root
pub record Made {T : Type 0} (flat : T → List ℕ → List ℕ) (holds : List ℕ → T → ℕ → ℕ → Type 0) (ts t t' : List ℕ) (at used n root : ℕ) : Type 0 where
  pub tree : T
  pub span : Span (flat tree) ts t t' at used n (root + 1)
  pub shown : root < length t' → holds t' tree used root

-- more was read, after an X with its root at `left`; together they are a Y
pub record Grown {T X Y : Type 0} (flat : T → List ℕ → List ℕ) (grow : X → T → Y) (before : List ℕ → X → ℕ → ℕ → Type 0) (holds : List ℕ → Y → ℕ → ℕ → Type 0) (ts t t' : List ℕ) (at left n root : ℕ) : Type 0 where
  pub tree : T
  pub span : Span (flat tree) ts t t' at (left + 1) n (root + 1)
  pub shown : root < length t' → (x : X) (lo : ℕ) → before t x lo left → holds t' (grow x tree) lo root

unfoldable pub Parsed : {T : Type 0} → (T → List ℕ → List ℕ) → (List ℕ → T → ℕ → ℕ → Type 0) → List ℕ → List ℕ → List ℕ → ℕ → ℕ → Read → Type 0
Parsed flat holds ts t t' at used (Ok (n, root)) = Made flat holds ts t t' at used n root
Parsed flat holds ts t t' at used (Err k) = length t' ≡ length t

unfoldable pub Extended : {T X Y : Type 0} → (T → List ℕ → List ℕ) → (X → T → Y) → (List ℕ → X → ℕ → ℕ → Type 0) → (List ℕ → Y → ℕ → ℕ → Type 0) → List ℕ → List ℕ → List ℕ → ℕ → ℕ → Read → Type 0
Extended flat grow before holds ts t t' at left (Ok (n, root)) = Grown flat grow before holds ts t t' at left n root
Extended flat grow before holds ts t t' at left (Err k) = length t' ≡ length t

-- the same with a count that goes from c to m
pub record Tally {T : Type 0} (flat : T → List ℕ → List ℕ) (count : T → ℕ) (holds : List ℕ → T → ℕ → ℕ → Type 0) (ts t t' : List ℕ) (at used c n root m : ℕ) : Type 0 where
  pub made : Made flat holds ts t t' at used n root
  pub counted : m ≡ c + count made.tree
  pub rarer : m + at ≤ c + n

unfoldable pub Tallied : {T : Type 0} → (T → List ℕ → List ℕ) → (T → ℕ) → (List ℕ → T → ℕ → ℕ → Type 0) → List ℕ → List ℕ → List ℕ → ℕ → ℕ → ℕ → Counted → Type 0
Tallied flat count holds ts t t' at used c (Ok (n, root, m)) = Tally flat count holds ts t t' at used c n root m
Tallied flat count holds ts t t' at used c (Err k) = length t' ≡ length t
