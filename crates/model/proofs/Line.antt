-- Question 10's token is the one at which the system line is written, and nothing is written after the line: by induction on what a text is written as.
use mathlib.Core.Path.{◌≡◌, refl, sym, ap, ◌∙◌}
use mathlib.Core.List.{List, [], ◌∷◌}
use Prim.Native.Nat.{ℕ, ◌+◌}
use lib.ListN.{drop}
use lib.Seq.{drop-drop}
use Rattle.token.specs.Kind as kind
use Rattle.grammar.specs.Grammar as derived
use Rattle.grammar.specs.Grammar.{Reads, flat_number, flat_body, flat_params, flat_system, flat_definitions, flat_model}
use Rattle.grammar.specs.Syntax
use Rattle.grammar.specs.Syntax.{wide, start_at, system_at, definitions_at, model_at, syntax_of, sums_body}
use Rattle.grammar.proofs.Wide.{wide-number, wide-body, wide-params}
use Rattle.model.specs.Sites.{system_in, system}
use Rattle.model.specs.Opening.{start_token, system_token}
use Rattle.model.proofs.Origins.{past, next-token}

first-of-line : (s : derived.System) (k : ℕ) → system_token (system_at s k) ≡ k
unfolding system_token start_token system_at start_at
first-of-line (derived.last_start (derived.once x)) k = refl
first-of-line (derived.last_start (derived.counted x)) k = refl
first-of-line (derived.next_start (derived.once x) r) k = refl
first-of-line (derived.next_start (derived.counted x) r) k = refl

module _ (ts : List ℕ) where
  pub record Line (s : Syntax.System) (us : List ℕ) : Type 0 where
    pub line : derived.System
    pub place : ℕ
    pub text : drop place ts ≡ flat_system line us
    pub tree : s ≡ system_at line place

  lines : (d : derived.Definitions) (k n : ℕ) (us : List ℕ) → drop k ts ≡ flat_definitions d us → Line (system_in (definitions_at d k n)) us
  unfolding system_in definitions_at flat_definitions
  lines (derived.last_definition p b s) k n us e =
      let e₁ = next-token ts k e in
      let e₂ = next-token ts (k + 1 + wide (flat_params p)) (past ts (k + 1) _ (wide-params p) e₁) in
      let e₃ = next-token ts (k + 1 + wide (flat_params p) + 1 + wide (flat_body b)) (past ts (k + 1 + wide (flat_params p) + 1) _ (wide-body b) e₂) in
      record { line = s; place = k + 1 + wide (flat_params p) + 1 + wide (flat_body b) + 1; text = e₃; tree = refl }
  lines (derived.next_definition p b d) k n us e =
      let e₁ = next-token ts k e in
      let e₂ = next-token ts (k + 1 + wide (flat_params p)) (past ts (k + 1) _ (wide-params p) e₁) in
      let e₃ = next-token ts (k + 1 + wide (flat_params p) + 1 + wide (flat_body b)) (past ts (k + 1 + wide (flat_params p) + 1) _ (wide-body b) e₂) in
      lines d _ (n + sums_body b) us e₃

  in-model : (m : derived.Model) (k : ℕ) (us : List ℕ) → drop k ts ≡ flat_model m us → Line (system (model_at m k)) us
  unfolding system model_at flat_model
  in-model (derived.definitions d) k us e = lines d k 0 us e
  in-model (derived.variable v m) k us e =
      let e₁ : drop (k + 2) ts ≡ flat_number v (kind.semicolon ∷ flat_model m us) = sym (drop-drop 2 k ts) ∙ ap (drop 2) e in
      let e₂ = next-token ts (k + 2 + wide (flat_number v)) (past ts (k + 2) _ (wide-number v) e₁) in
      in-model m (k + 2 + wide (flat_number v) + 1) us e₂

  -- the system line, and nothing after it, is what is written from question 10's token on
  pub line-starts : (m : derived.Model) → Reads ts m → (s : derived.System) × (drop (system_token (system (syntax_of m))) ts ≡ flat_system s [])
  unfolding syntax_of Reads
  line-starts m r = let l = in-model m 0 [] (sym r) in (l.line, ap (λ (j : ℕ). drop j ts) (ap system_token l.tree ∙ first-of-line l.line l.place) ∙ l.text)
