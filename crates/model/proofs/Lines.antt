-- A text that fits has its variables, definitions, parameters and system items where its syntax tree says. By induction on the derivation, from the widths of its parts.
use mathlib.Core.Path.{◌≡◌, refl, sym, ap, subst, ◌∙◌}
use mathlib.Core.List.Memᴰ.{cases_cons as cases}
use mathlib.Core.List.Memᴰ.{eq_of_singleton}
use mathlib.Core.List.Memᴰ.{not-nil as nowhere}
use mathlib.Core.List.{List, [], ◌∷◌, Memᴰ as In}
use mathlib.Core.Logic.{⊎_elim}
use Prim.Native.Nat.{ℕ, suc, ◌+◌}
use native.Mathlib.Omega.{arith}
use lib.ListN.{drop}
use lib.Seq.{drop-drop}
use Rattle.token.specs.Kind as kind
use Rattle.grammar.specs.Grammar as derived
use Rattle.grammar.specs.Grammar.{Reads, flat_number, flat_names, flat_body, flat_params, flat_start, flat_system, flat_definitions, flat_model}
use Rattle.grammar.specs.Syntax
use Rattle.grammar.specs.Syntax.{wide, count_names, names_at, params_at, body_at, sums_body, start_at, system_at, definitions_at, model_at, syntax_of}
use Rattle.grammar.proofs.Wide.{wide-number, wide-body, wide-params, wide-start}
use Rattle.model.specs.Lists.{every_other}
use Rattle.model.specs.Sites.{Variable, Definition, tokens_of, params_of, definitions_in, system_in, starts_in, variables, definitions, system, starts}
use Rattle.model.specs.Lines.{VariableAt, DefinitionAt, NameAt, ItemAt, once, counted, Lines}
use Rattle.model.proofs.Origins.{past, next-token, token-is}

module _ (ts : List ℕ) where
  -- ---- parameters

  names-at : (n : derived.Names) (k : ℕ) (us : List ℕ) → drop k ts ≡ flat_names n us → (j : ℕ) → In j (every_other k (count_names n)) → NameAt ts j
  unfolding flat_names count_names every_other
  names-at derived.last_name k us e j i = subst (NameAt ts) (sym (eq_of_singleton i)) (token-is ts k e)
  names-at (derived.next_name r) k us e j i =
      let z : count_names r + 1 ≡ suc (count_names r) = omega arith in
      ⊎_elim (λ (q : j ≡ k). subst (NameAt ts) (sym q) (token-is ts k e))
      (λ (q : In j (every_other (k + 2) (count_names r))). names-at r (k + 2) us (sym (drop-drop 2 k ts) ∙ ap (drop 2) e) j q) (cases (subst (λ (c : ℕ). In j (every_other k c)) z i))

  params-at : (p : derived.Params) (k : ℕ) (us : List ℕ) → drop k ts ≡ flat_params p us → (j : ℕ) → In j (params_of (params_at p k)) → NameAt ts j
  unfolding flat_params params_at params_of tokens_of names_at
  params-at derived.no_params k us e j i = absurd (nowhere i)
  params-at (derived.params n) k us e j i = names-at n (k + 1) _ (next-token ts k e) j i

  -- ---- items of the system line

  item-at : (i : derived.Start) (k : ℕ) (us : List ℕ) → drop k ts ≡ flat_start i us → ItemAt ts (start_at i k)
  unfolding flat_start start_at
  item-at (derived.once s) k us e = once s us e
  item-at (derived.counted s) k us e = counted s us e

  system-at : (s : derived.System) (k : ℕ) (us : List ℕ) → drop k ts ≡ flat_system s us → (x : Syntax.Start) → In x (starts_in (system_at s k)) → ItemAt ts x
  unfolding flat_system starts_in system_at
  system-at (derived.last_start i) k us e x q = subst (λ (y : Syntax.Start). ItemAt ts y) (sym (eq_of_singleton q)) (item-at i k _ e)
  system-at (derived.next_start i r) k us e x q =
      ⊎_elim (λ (f : x ≡ start_at i k). subst (λ (y : Syntax.Start). ItemAt ts y) (sym f) (item-at i k _ e))
      (λ (j : In x (starts_in (system_at r (k + wide (flat_start i) + 1)))). system-at r (k + wide (flat_start i) + 1) us (next-token ts (k + wide (flat_start i)) (past ts k _ (wide-start i) e)) x j) (cases q)

  -- ---- definitions

  -- a definition with its parameters
  abbrev Both : Definition → Type 0
  Both d = DefinitionAt ts d × ((j : ℕ) → In j d.params → NameAt ts j)

  definition-at : (p : derived.Params) (b : derived.Body) (k n : ℕ) (us : List ℕ) → drop k ts ≡ derived.flat_definition p b us
      → Both (record { name = k; params = params_of (params_at p (k + 1)); sums = body_at b (k + 1 + wide (flat_params p) + 1) n })
  definition-at p b k n us e = (record { params = p; body = b; n = n; more = us; text = e; listed = refl; sums = refl }, params-at p (k + 1) _ (next-token ts k e))

  -- past a definition
  beyond : (p : derived.Params) (b : derived.Body) (k : ℕ) (us : List ℕ) → drop k ts ≡ derived.flat_definition p b us → drop (k + 1 + wide (flat_params p) + 1 + wide (flat_body b) + 1) ts ≡ us
  beyond p b k us e =
      let e₁ = next-token ts k e in
      let e₂ = next-token ts (k + 1 + wide (flat_params p)) (past ts (k + 1) _ (wide-params p) e₁) in
      next-token ts (k + 1 + wide (flat_params p) + 1 + wide (flat_body b)) (past ts (k + 1 + wide (flat_params p) + 1) _ (wide-body b) e₂)

  definitions-at : (d : derived.Definitions) (k n : ℕ) (us : List ℕ) → drop k ts ≡ flat_definitions d us
      → ((x : Definition) → In x (definitions_in (definitions_at d k n)) → Both x) × ((x : Syntax.Start) → In x (starts_in (system_in (definitions_at d k n))) → ItemAt ts x)
  unfolding definitions_in definitions_at system_in flat_definitions
  definitions-at (derived.last_definition p b s) k n us e =
      (λ x i. subst Both (sym (eq_of_singleton i)) (definition-at p b k n _ e), system-at s _ us (beyond p b k _ e))
  definitions-at (derived.next_definition p b d) k n us e =
      let h = definitions-at d (k + 1 + wide (flat_params p) + 1 + wide (flat_body b) + 1) (n + sums_body b) us (beyond p b k _ e) in
      (λ x i. ⊎_elim (λ (q : x ≡ _). subst Both (sym q) (definition-at p b k n _ e)) (λ (j : In x (definitions_in (definitions_at d _ _))). h.0 x j) (cases i), h.1)

  -- ---- variables, and the text

  model-at : (m : derived.Model) (k : ℕ) (us : List ℕ) → drop k ts ≡ flat_model m us → Lines ts (model_at m k)
  unfolding variables definitions starts system model_at flat_model
  model-at (derived.definitions d) k us e =
      let h = definitions-at d k 0 us e in
      record { variable = λ v i. absurd (nowhere i); definition = λ x i. (h.0 x i).0; parameter = λ x i. (h.0 x i).1; item = h.1 }
  model-at (derived.variable v m) k us e =
      let e₁ : drop (k + 2) ts ≡ flat_number v (kind.semicolon ∷ flat_model m us) = sym (drop-drop 2 k ts) ∙ ap (drop 2) e in
      let e₂ = next-token ts (k + 2 + wide (flat_number v)) (past ts (k + 2) _ (wide-number v) e₁) in
      let h = model-at m (k + 2 + wide (flat_number v) + 1) us e₂ in
      record {
        variable = λ x i. ⊎_elim (λ (q : x ≡ _). subst (λ (y : Variable). VariableAt ts y) (sym q) (record { number = v; more = flat_model m us; text = e; tree = refl })) (λ (j : In x (variables (model_at m _))). h.variable x j) (cases i);
        definition = h.definition;
        parameter = h.parameter;
        item = h.item;
      }

  -- variables, definitions, parameters and items of a text that fits stand where its syntax tree says
  pub lines_are : (m : derived.Model) → Reads ts m → Lines ts (syntax_of m)
  unfolding syntax_of Reads
  lines_are m r = model-at m 0 [] (sym r)
