-- Every branch of a text's syntax tree is written in the text from its first token on, and every variable's number at its token. By induction on
-- the derivation, from the widths of its parts.
use mathlib.Core.Path.{◌≡◌, refl, sym, ap, subst, ◌∙◌}
use mathlib.Core.List.Memᴰ.{cases_cons as cases}
use mathlib.Core.List.Memᴰ.{eq_of_singleton}
use mathlib.Core.List.Memᴰ.{not-nil as nowhere}
use mathlib.Core.List.{List, [], ◌∷◌, Memᴰ as In}
use mathlib.Core.Option.{some}
use mathlib.Core.Logic.{⊎_elim}
use Prim.Native.Nat.{ℕ, ◌+◌}
use lib.ListN.{length, drop, get_elem?}
use lib.Seq.{drop-drop, drop-append_seam}
use Rattle.token.specs.Kind as kind
use Rattle.grammar.specs.Grammar as derived
use Rattle.grammar.specs.Grammar.{Reads, flat_number, flat_action, flat_rate, flat_gate, flat_prefix, flat_next, flat_cont, flat_item, flat_items, flat_choices, flat_sums, flat_body, flat_params, flat_definitions, flat_model}
use Rattle.grammar.specs.Syntax
use Rattle.grammar.specs.Syntax.{wide, number_at, branch_at, next_at, cont_at, item_at, conts_at, branches_at, sum_at, sums_at, body_at, definitions_at, model_at, syntax_of, sums_prefix, sums_item, sums_body}
use Rattle.grammar.proofs.Prepends.{Prepends}
use Rattle.grammar.proofs.Wide.{wide-number, wide-action, wide-rate, wide-gate, wide-prefix, wide-item, wide-sum, wide-body, wide-params}
use Rattle.model.specs.Sites.{Scope, Variable, variables, Definition, definitions_in, definitions}
use Rattle.model.specs.Stands.{branches_of, branches_in, items_of, sums_of, Holds, itself, grouped, SumIn, defined, continued, BranchIn}
use Rattle.model.proofs.Members.{got_in}
use Rattle.model.proofs.Located.{at_front}

-- ---- reading on in a list of tokens
module _ (ts : List ℕ) where
  -- past what f writes
  pub past : {f : List ℕ → List ℕ} {n : ℕ} (k : ℕ) (us : List ℕ) → Prepends f n → drop k ts ≡ f us → drop (k + wide f) ts ≡ us
  unfolding wide
  past {f} k us p e = sym (drop-drop (length (f [])) k ts) ∙ ap (drop (length (f []))) (e ∙ p.before us) ∙ drop-append_seam (f []) us

  -- past one token, and the token
  pub next-token : {t : ℕ} {us : List ℕ} (k : ℕ) → drop k ts ≡ t ∷ us → drop (k + 1) ts ≡ us
  next-token k e = sym (drop-drop 1 k ts) ∙ ap (drop 1) e

  pub token-is : {t : ℕ} {us : List ℕ} (k : ℕ) → drop k ts ≡ t ∷ us → get_elem? ts k ≡ some t
  token-is k e = at_front ts k e

  -- ---- a branch that is written in the tokens

  pub record Written (b : Syntax.Branch) : Type 0 where
    pub prefix : derived.Prefix
    pub place : ℕ
    pub number : ℕ
    pub rest : List ℕ
    pub text : drop place ts ≡ flat_prefix prefix rest
    pub tree : b ≡ branch_at prefix place number

  abbrev mutual
    pub SumOf : Syntax.Sum → Type 0
    SumOf (Syntax.sum n b) = BranchesOf b

    pub BranchesOf : Syntax.Branches → Type 0
    BranchesOf (Syntax.last_branch b) = BranchOf b
    BranchesOf (Syntax.next_branch b r) = BranchOf b × BranchesOf r

    pub BranchOf : Syntax.Branch → Type 0
    BranchOf (Syntax.branch k g a r x) = Written (Syntax.branch k g a r x) × NextOf x

    pub NextOf : Syntax.Next → Type 0
    NextOf Syntax.stop = Unit {0}
    NextOf (Syntax.dot c) = ContOf c

    pub ContOf : Syntax.Cont → Type 0
    ContOf (Syntax.proceed s) = SumOf s
    ContOf (Syntax.call k a) = Unit {0}
    ContOf (Syntax.group k c) = ContsOf c

    pub ContsOf : Syntax.Conts → Type 0
    ContsOf (Syntax.last_cont c) = ContOf c
    ContsOf (Syntax.next_cont c r) = ContOf c × ContsOf r

  abbrev SumsOf : Syntax.Sums → Type 0
  SumsOf (Syntax.last_sum s) = SumOf s
  SumsOf (Syntax.next_sum s r) = SumOf s × SumsOf r

  -- ---- what a derivation gives

  mutual
    unfolding branch_at next_at cont_at item_at conts_at branches_at flat_prefix flat_next flat_cont flat_item flat_items flat_choices

    prefix-of : (p : derived.Prefix) (k n : ℕ) (us : List ℕ) → drop k ts ≡ flat_prefix p us → BranchOf (branch_at p k n)
    prefix-of (derived.prefix g a r x) k n us e =
        let e₁ = next-token (k + wide (flat_gate g)) (past k _ (wide-gate g) e) in
        let e₂ = next-token (k + wide (flat_gate g) + 1 + wide (flat_action a)) (past (k + wide (flat_gate g) + 1) _ (wide-action a) e₁) in
        let e₃ = next-token (k + wide (flat_gate g) + 1 + wide (flat_action a) + 1 + wide (flat_rate r)) (past (k + wide (flat_gate g) + 1 + wide (flat_action a) + 1) _ (wide-rate r) e₂) in
        (record { prefix = derived.prefix g a r x; place = k; number = n; rest = us; text = e; tree = refl }, next_of x _ n us e₃)

    next_of : (x : derived.Next) (k n : ℕ) (us : List ℕ) → drop k ts ≡ flat_next x us → NextOf (next_at x k n)
    next_of derived.stop k n us e = tt
    next_of (derived.dot c) k n us e = cont-of c (k + 1) n us (next-token k e)

    cont-of : (c : derived.Cont) (k n : ℕ) (us : List ℕ) → drop k ts ≡ flat_cont c us → ContOf (cont_at c k n)
    cont-of (derived.chain p) k n us e = prefix-of p k (n + 1) us e
    cont-of (derived.call a) k n us e = tt
    cont-of (derived.group i r) k n us e =
        let e₁ = next-token k e in
        items-of r (item_at i (k + 1) n) (k + 1 + wide (flat_item i)) (n + sums_item i) us (item_of i (k + 1) n (flat_items r us) e₁) (past (k + 1) (flat_items r us) (wide-item i) e₁)

    item_of : (i : derived.Item) (k n : ℕ) (us : List ℕ) → drop k ts ≡ flat_item i us → ContOf (item_at i k n)
    item_of (derived.item_sum p r) k n us e = choices-of r (branch_at p k (n + 1)) (k + wide (flat_prefix p)) (n + 1 + sums_prefix p) us (prefix-of p k (n + 1) (flat_choices r us) e) (past k (flat_choices r us) (wide-prefix p) e)
    item_of (derived.item_call a) k n us e = tt
    item_of (derived.item_group i r) k n us e =
        let e₁ = next-token k e in
        items-of r (item_at i (k + 1) n) (k + 1 + wide (flat_item i)) (n + sums_item i) us (item_of i (k + 1) n (flat_items r us) e₁) (past (k + 1) (flat_items r us) (wide-item i) e₁)

    items-of : (r : derived.Items) (c : Syntax.Cont) (k n : ℕ) (us : List ℕ) → ContOf c → drop k ts ≡ flat_items r us → ContsOf (conts_at c r k n)
    items-of derived.close c k n us h e = h
    items-of (derived.also i r) c k n us h e =
        let e₁ = next-token k e in
        (h, items-of r (item_at i (k + 1) n) (k + 1 + wide (flat_item i)) (n + sums_item i) us (item_of i (k + 1) n (flat_items r us) e₁) (past (k + 1) (flat_items r us) (wide-item i) e₁))

    choices-of : (r : derived.Choices) (b : Syntax.Branch) (k n : ℕ) (us : List ℕ) → BranchOf b → drop k ts ≡ flat_choices r us → BranchesOf (branches_at b r k n)
    choices-of derived.no_choices b k n us h e = h
    choices-of (derived.or p r) b k n us h e =
        let e₁ = next-token k e in
        (h, choices-of r (branch_at p (k + 1) n) (k + 1 + wide (flat_prefix p)) (n + sums_prefix p) us (prefix-of p (k + 1) n (flat_choices r us) e₁) (past (k + 1) (flat_choices r us) (wide-prefix p) e₁))

  sum_of : (p : derived.Prefix) (r : derived.Choices) (k n : ℕ) (us : List ℕ) → drop k ts ≡ flat_prefix p (flat_choices r us) → SumOf (sum_at p r k n)
  unfolding sum_at
  sum_of p r k n us e = choices-of r (branch_at p k (n + 1)) (k + wide (flat_prefix p)) (n + 1 + sums_prefix p) us (prefix-of p k (n + 1) (flat_choices r us) e) (past k (flat_choices r us) (wide-prefix p) e)

  sums-of : (r : derived.Sums) (s : Syntax.Sum) (k n : ℕ) (us : List ℕ) → SumOf s → drop k ts ≡ flat_sums r us → SumsOf (sums_at s r k n)
  unfolding sums_at flat_sums
  sums-of derived.no_sums s k n us h e = h
  sums-of (derived.beside p c r) s k n us h e =
      let e₁ = next-token k e in
      (h, sums-of r (sum_at p c (k + 1) n) _ _ us (sum_of p c (k + 1) n (flat_sums r us) e₁) (past (k + 1) (flat_sums r us) (wide-sum p c) e₁))

  body_of : (b : derived.Body) (k n : ℕ) (us : List ℕ) → drop k ts ≡ flat_body b us → SumsOf (body_at b k n)
  unfolding body_at flat_body
  body_of (derived.body p c r) k n us e = sums-of r (sum_at p c k n) _ _ us (sum_of p c k n (flat_sums r us) e) (past k (flat_sums r us) (wide-sum p c) e)

  abbrev DefinitionsOf : List Definition → Type 0
  DefinitionsOf [] = Unit {0}
  DefinitionsOf (d ∷ ds) = SumsOf d.sums × DefinitionsOf ds

  definitions-of : (d : derived.Definitions) (k n : ℕ) (us : List ℕ) → drop k ts ≡ flat_definitions d us → DefinitionsOf (definitions_in (definitions_at d k n))
  unfolding definitions_in definitions_at flat_definitions
  definitions-of (derived.last_definition p b s) k n us e =
      let e₁ = next-token k e in
      let e₂ = next-token (k + 1 + wide (flat_params p)) (past (k + 1) _ (wide-params p) e₁) in
      (body_of b (k + 1 + wide (flat_params p) + 1) n _ e₂, tt)
  definitions-of (derived.next_definition p b d) k n us e =
      let e₁ = next-token k e in
      let e₂ = next-token (k + 1 + wide (flat_params p)) (past (k + 1) _ (wide-params p) e₁) in
      let e₃ = next-token (k + 1 + wide (flat_params p) + 1 + wide (flat_body b)) (past (k + 1 + wide (flat_params p) + 1) _ (wide-body b) e₂) in
      (body_of b (k + 1 + wide (flat_params p) + 1) n _ e₂, definitions-of d _ (n + sums_body b) us e₃)

  -- ---- variables

  -- a number that is written in the tokens
  pub record NumberWritten (v : Syntax.Number) : Type 0 where
    pub number : derived.Number
    pub place : ℕ
    pub rest : List ℕ
    pub text : drop place ts ≡ flat_number number rest
    pub tree : v ≡ number_at number place

  abbrev VariablesOf : List Variable → Type 0
  VariablesOf [] = Unit {0}
  VariablesOf (v ∷ vs) = NumberWritten v.number × VariablesOf vs

  model_of : (m : derived.Model) (k : ℕ) (us : List ℕ) → drop k ts ≡ flat_model m us → DefinitionsOf (definitions (model_at m k)) × VariablesOf (variables (model_at m k))
  unfolding definitions variables model_at flat_model
  model_of (derived.definitions d) k us e = (definitions-of d k 0 us e, tt)
  model_of (derived.variable v m) k us e =
      let e₁ : drop (k + 2) ts ≡ flat_number v (kind.semicolon ∷ flat_model m us) = sym (drop-drop 2 k ts) ∙ ap (drop 2) e in
      let e₂ = next-token (k + 2 + wide (flat_number v)) (past (k + 2) _ (wide-number v) e₁) in
      let h = model_of m (k + 2 + wide (flat_number v) + 1) us e₂ in
      (h.0, (record { number = v; place = k + 2; rest = kind.semicolon ∷ flat_model m us; text = e₁; tree = refl }, h.1))

  -- ---- at every place

  in-branches : {x : Syntax.Branch} (b : Syntax.Branches) → In x (branches_of b) → BranchesOf b → BranchOf x
  unfolding branches_of
  in-branches (Syntax.last_branch b) i h = subst (λ (y : Syntax.Branch). BranchOf y) (sym (eq_of_singleton i)) h
  in-branches {x} (Syntax.next_branch b r) i h =
      ⊎_elim (λ (e : x ≡ b). subst (λ (y : Syntax.Branch). BranchOf y) (sym e) h.0) (λ (j : In x (branches_of r)). in-branches r j h.1) (cases i)

  in_sum : {x : Syntax.Branch} (s : Syntax.Sum) → In x (branches_in s) → SumOf s → BranchOf x
  unfolding branches_in
  in_sum (Syntax.sum n b) i h = in-branches b i h

  in-conts : {x : Syntax.Cont} (c : Syntax.Conts) → In x (items_of c) → ContsOf c → ContOf x
  unfolding items_of
  in-conts (Syntax.last_cont c) i h = subst (λ (y : Syntax.Cont). ContOf y) (sym (eq_of_singleton i)) h
  in-conts {x} (Syntax.next_cont c r) i h =
      ⊎_elim (λ (e : x ≡ c). subst (λ (y : Syntax.Cont). ContOf y) (sym e) h.0) (λ (j : In x (items_of r)). in-conts r j h.1) (cases i)

  in-cont : {x c : Syntax.Cont} → Holds x c → ContOf c → ContOf x
  in-cont (itself e) h = subst (λ (y : Syntax.Cont). ContOf y) e h
  in-cont (grouped {cs = g} i k) h = in-cont k (in-conts g i h)

  in-sums : {x : Syntax.Sum} (s : Syntax.Sums) → In x (sums_of s) → SumsOf s → SumOf x
  unfolding sums_of
  in-sums (Syntax.last_sum s) i h = subst (λ (y : Syntax.Sum). SumOf y) (sym (eq_of_singleton i)) h
  in-sums {x} (Syntax.next_sum s r) i h =
      ⊎_elim (λ (e : x ≡ s). subst (λ (y : Syntax.Sum). SumOf y) (sym e) h.0) (λ (j : In x (sums_of r)). in-sums r j h.1) (cases i)

  in-definitions : {d : Definition} (ds : List Definition) → In d ds → DefinitionsOf ds → SumsOf d.sums
  in-definitions [] i h = absurd (nowhere i)
  in-definitions {d} (e ∷ ds) i h =
      ⊎_elim (λ (q : d ≡ e). subst (λ (y : Definition). SumsOf y.sums) (sym q) h.0) (λ (j : In d ds). in-definitions ds j h.1) (cases i)

  in-variables : {v : Variable} (vs : List Variable) → In v vs → VariablesOf vs → NumberWritten v.number
  in-variables [] i h = absurd (nowhere i)
  in-variables {v} (u ∷ vs) i h =
      ⊎_elim (λ (q : v ≡ u). subst (λ (y : Variable). NumberWritten y.number) (sym q) h.0) (λ (j : In v vs). in-variables vs j h.1) (cases i)

  module _ (d : derived.Model) (r : Reads ts d) where
    whole : drop 0 ts ≡ flat_model d []
    unfolding Reads
    whole = sym r

    sum-written : {sc : Scope} {s : Syntax.Sum} → SumIn (syntax_of d) sc s → SumOf s
    unfolding syntax_of
    sum-written (defined {d = x} i j) = in-sums x.sums j (in-definitions _ i (model_of d 0 [] whole).0)
    sum-written (continued {s = s} h i k) = in-cont k (in_sum s i (sum-written h)).1

    branch-own : (b : Syntax.Branch) → BranchOf b → Written b
    branch-own (Syntax.branch k g a q x) h = h.0

    -- a branch is written in the text from its first token on
    pub written : {sc : Scope} {i : ℕ} {b : Syntax.Branch} → BranchIn (syntax_of d) sc i b → Written b
    written {sc} {i} {b} h = branch-own b (in_sum h.sum (got_in (branches_in h.sum) i h.place) (sum-written h.stands))

    -- a variable's number is written in the text at its token
    pub number-written : {v : Variable} → In v (variables (syntax_of d)) → NumberWritten v.number
    unfolding syntax_of
    number-written i = in-variables _ i (model_of d 0 [] whole).1
