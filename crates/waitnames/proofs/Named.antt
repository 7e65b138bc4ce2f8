-- A wait's token is a name: the token at its place in the text is of that kind. By induction on the derivation, from the widths of its parts.
use mathlib.Core.Path.{◌≡◌, refl, sym, ap, subst, ◌∙◌}
use mathlib.Core.List.Memᴰ.{append_cases}
use mathlib.Core.List.Memᴰ.{eq_of_singleton}
use mathlib.Core.List.Memᴰ.{not-nil as nowhere}
use mathlib.Core.List.{List, [], ◌∷◌, ◌++◌, append_assoc, Memᴰ as In}
use mathlib.Core.Logic.{⊎_elim}
use Prim.Native.Nat.{ℕ, zero, suc, ◌+◌}
use native.Mathlib.Omega.{arith}
use lib.ListN.{length, get_or, drop}
use Rattle.token.specs.Kind as kind
use Rattle.grammar.specs.Grammar as derived
use Rattle.grammar.specs.Grammar.{flat_gate, flat_action, flat_rate, flat_prefix, flat_next, flat_cont, flat_item, flat_items, flat_choices, flat_sums, flat_body, flat_params, flat_system, flat_definitions, flat_number, flat_model}
use Rattle.grammar.specs.Syntax
use Rattle.grammar.specs.Syntax.{wide, action_at, gate_at, rate_at, branch_at, next_at, cont_at, item_at, conts_at, branches_at, sum_at, sums_at, body_at, definitions_at, model_at, syntax_of, sums_prefix, sums_choices, sums_item, sums_body}
use Rattle.grammar.proofs.Prepends.{Prepends}
use Rattle.grammar.proofs.Wide.{wide-number, wide-action, wide-gate, wide-rate, wide-prefix, wide-item, wide-sum, wide-body, wide-params}
use Rattle.model.specs.Lists.{each}
use Rattle.model.specs.Sites.{Scope, bindings, Variable, Definition, definitions, definitions_in, params_of}
use Rattle.model.specs.Resolved
use Rattle.model.specs.Resolved.{resolve_action, resolve_branch, resolve_branches, sum_tree, branches_tree, branch_tree, next_tree, cont_tree, conts_tree, sums_tree, all_sums, resolved}
use Rattle.waitnames.specs.Names.{wait_token, branch_waits, sum_waits, all_waits}

pub each_append : {A B : Type 0} (f : A → List B) (xs ys : List A) → each f (xs ++ ys) ≡ each f xs ++ each f ys
unfolding each
each_append f [] ys = refl
each_append f (x ∷ xs) ys = ap (λ l. f x ++ l) (each_append f xs ys) ∙ sym (append_assoc (f x) (each f xs) (each f ys))

-- ---- places in a list

drop-none : (n : ℕ) → drop {A = ℕ} n [] ≡ []
drop-none zero = refl
drop-none (suc n) = refl

drop_more : (l : List ℕ) (k n : ℕ) → drop (k + n) l ≡ drop n (drop k l)
drop_more l zero n = let e : 0 + n ≡ n = omega arith in ap (λ (i : ℕ). drop i l) e
drop_more [] (suc k) n = drop-none (suc k + n) ∙ sym (drop-none n)
drop_more (x ∷ l) (suc k) n = let e : suc k + n ≡ suc (k + n) = omega arith in ap (λ (i : ℕ). drop i (x ∷ l)) e ∙ drop_more l k n

drop-first : (l us : List ℕ) → drop (length l) (l ++ us) ≡ us
drop-first [] us = refl
drop-first (x ∷ l) us = drop-first l us

get_drop : (l : List ℕ) (k : ℕ) → get_or l k 0 ≡ get_or (drop k l) 0 0
get_drop [] zero = refl
get_drop [] (suc k) = refl
get_drop (x ∷ l) zero = refl
get_drop (x ∷ l) (suc k) = get_drop l k

module _ (ts : List ℕ) where
  -- from place k on stand these tokens
  record From (k : ℕ) (l : List ℕ) : Type 0 where
    is : drop k ts ≡ l

  here : (k x : ℕ) (l : List ℕ) → From k (x ∷ l) → get_or ts k 0 ≡ x
  here k x l e = get_drop ts k ∙ ap (λ (r : List ℕ). get_or r 0 0) e.is

  next : (k x : ℕ) (l : List ℕ) → From k (x ∷ l) → From (k + 1) l
  next k x l e = record { is = drop_more ts k 1 ∙ ap (drop 1) e.is }

  past : {f : List ℕ → List ℕ} {n : ℕ} → Prepends f n → (k : ℕ) (us : List ℕ) → From k (f us) → From (k + wide f) us
  unfolding wide
  past {f} p k us e = record { is = drop_more ts k (length (f [])) ∙ ap (drop (length (f []))) (e.is ∙ p.before us) ∙ drop-first (f []) us }

  -- each of these tokens is a name
  abbrev AllNames : List ℕ → Type 0
  AllNames ks = (j : ℕ) → In j ks → get_or ts j 0 ≡ kind.name

  none : AllNames []
  none j i = absurd (nowhere i)

  one : (k : ℕ) → get_or ts k 0 ≡ kind.name → AllNames (k ∷ [])
  one k h j i = ap (λ (n : ℕ). get_or ts n 0) (eq_of_singleton i) ∙ h

  both : (xs ys : List ℕ) → AllNames xs → AllNames ys → AllNames (xs ++ ys)
  both xs ys h g j i = ⊎_elim (λ (m : In j xs). h j m) (λ (m : In j ys). g j m) (append_cases xs i)

  -- ---- sums and branches

  abbrev Sums : List Resolved.Sum → Type 0
  Sums ss = AllNames (each sum_waits ss)

  abbrev Branches : List Resolved.Branch → Type 0
  Branches bs = AllNames (each branch_waits bs)

  no-sums : Sums []
  unfolding each
  no-sums = none

  two-sums : (xs ys : List Resolved.Sum) → Sums xs → Sums ys → Sums (xs ++ ys)
  two-sums xs ys h g = subst AllNames (sym (each_append sum_waits xs ys)) (both (each sum_waits xs) (each sum_waits ys) h g)

  sum_then : (s : Resolved.Sum) (ss : List Resolved.Sum) → Branches s.branches → Sums ss → Sums (s ∷ ss)
  unfolding each sum_waits
  sum_then s ss h g = both (each branch_waits s.branches) (each sum_waits ss) h g

  branch-then : (b : Resolved.Branch) (bs : List Resolved.Branch) → AllNames (wait_token b.action) → Branches bs → Branches (b ∷ bs)
  unfolding each branch_waits
  branch-then b bs h g = both (wait_token b.action) (each branch_waits bs) h g

  module _ (w : ℕ → List ℕ) (vs : List Variable) (ds : List Definition) (cs : List ℕ) where
    an-action : (sc : Scope) (a : derived.Action) (k : ℕ) (us : List ℕ) → From k (flat_action a us) → AllNames (wait_token (resolve_action w vs ds cs sc (action_at a k)))
    unfolding wait_token resolve_action action_at flat_action
    an-action sc derived.wait k us e = one k (here k kind.name us e)
    an-action sc (derived.launch c v) k us e = none
    an-action sc (derived.kill c v) k us e = none
    an-action sc (derived.receive c s) k us e = none
    an-action sc (derived.bind c s n) k us e = none
    an-action sc (derived.check c s) k us e = none
    an-action sc (derived.hand_send c v) k us e = none
    an-action sc (derived.hand_receive c s) k us e = none
    an-action sc (derived.hand_bind c s n) k us e = none

    -- a branch, with the sums in its continuation
    abbrev BranchN : ℕ → Scope → Syntax.Branch → Type 0
    BranchN d sc b = AllNames (wait_token (resolve_branch w vs ds cs sc b).action) × Sums (branch_tree w vs ds cs d sc b)

    abbrev RestN : ℕ → Scope → Syntax.Branches → Type 0
    RestN d sc b = Branches (resolve_branches w vs ds cs sc b) × Sums (branches_tree w vs ds cs d sc b)

    no-branches : Branches []
    unfolding each
    no-branches = none

    last-branch : (d : ℕ) (sc : Scope) (b : Syntax.Branch) → BranchN d sc b → RestN d sc (Syntax.last_branch b)
    unfolding resolve_branches branches_tree
    last-branch d sc b h = (branch-then (resolve_branch w vs ds cs sc b) [] h.0 no-branches, h.1)

    next-branch : (d : ℕ) (sc : Scope) (b : Syntax.Branch) (r : Syntax.Branches) → BranchN d sc b → RestN d sc r → RestN d sc (Syntax.next_branch b r)
    unfolding resolve_branches branches_tree
    next-branch d sc b r h g =
        (branch-then (resolve_branch w vs ds cs sc b) (resolve_branches w vs ds cs sc r) h.0 g.0, two-sums (branch_tree w vs ds cs d sc b) (branches_tree w vs ds cs d sc r) h.1 g.1)

    a_sum : (d : ℕ) (sc : Scope) (n : ℕ) (b : Syntax.Branches) → RestN d sc b → Sums (sum_tree w vs ds cs d sc (Syntax.sum n b))
    unfolding sum_tree
    a_sum d sc n b h = sum_then (record { locals = length sc; definition = d; branches = resolve_branches w vs ds cs sc b }) (branches_tree w vs ds cs d sc b) h.0 h.1

    mutual
      unfolding branch_at next_at cont_at item_at conts_at branches_at branch_tree next_tree cont_tree conts_tree resolve_branch flat_prefix flat_next flat_cont flat_item flat_items flat_choices

      a-prefix : (d : ℕ) (sc : Scope) (p : derived.Prefix) (k n : ℕ) (us : List ℕ) → From k (flat_prefix p us) → BranchN d sc (branch_at p k n)
      a-prefix d sc (derived.prefix g a r x) k n us e =
          let b = k + wide (flat_gate g) + 1 in
          let c = b + wide (flat_action a) + 1 in
          let f1 = next _ _ _ (past (wide-gate g) k _ e) in
          let f2 = next _ _ _ (past (wide-action a) b _ f1) in
          let f3 = next _ _ _ (past (wide-rate r) c _ f2) in
          (an-action sc a b _ f1, a-next d (sc ++ bindings (action_at a b)) x (c + wide (flat_rate r) + 1) n us f3)

      a-next : (d : ℕ) (sc : Scope) (x : derived.Next) (k n : ℕ) (us : List ℕ) → From k (flat_next x us) → Sums (next_tree w vs ds cs d sc (next_at x k n))
      a-next d sc derived.stop k n us e = no-sums
      a-next d sc (derived.dot c) k n us e = a-cont d sc c (k + 1) n us (next _ _ _ e)

      a-cont : (d : ℕ) (sc : Scope) (c : derived.Cont) (k n : ℕ) (us : List ℕ) → From k (flat_cont c us) → Sums (cont_tree w vs ds cs d sc (cont_at c k n))
      a-cont d sc (derived.chain p) k n us e = a_sum d sc n (Syntax.last_branch (branch_at p k (n + 1))) (last-branch d sc (branch_at p k (n + 1)) (a-prefix d sc p k (n + 1) us e))
      a-cont d sc (derived.call a) k n us e = no-sums
      a-cont d sc (derived.group i r) k n us e =
          let f = next _ _ _ e in
          the_items d sc (item_at i (k + 1) n) r (k + 1 + wide (flat_item i)) (n + sums_item i) us (an_item d sc i (k + 1) n _ f) (past (wide-item i) (k + 1) _ f)

      an_item : (d : ℕ) (sc : Scope) (i : derived.Item) (k n : ℕ) (us : List ℕ) → From k (flat_item i us) → Sums (cont_tree w vs ds cs d sc (item_at i k n))
      an_item d sc (derived.item_sum p r) k n us e =
          let b = branch_at p k (n + 1) in
          a_sum d sc n (branches_at b r (k + wide (flat_prefix p)) (n + 1 + sums_prefix p))
          (the-choices d sc b r (k + wide (flat_prefix p)) (n + 1 + sums_prefix p) us (a-prefix d sc p k (n + 1) _ e) (past (wide-prefix p) k _ e))
      an_item d sc (derived.item_call a) k n us e = no-sums
      an_item d sc (derived.item_group i r) k n us e =
          let f = next _ _ _ e in
          the_items d sc (item_at i (k + 1) n) r (k + 1 + wide (flat_item i)) (n + sums_item i) us (an_item d sc i (k + 1) n _ f) (past (wide-item i) (k + 1) _ f)

      the_items : (d : ℕ) (sc : Scope) (c : Syntax.Cont) (r : derived.Items) (k n : ℕ) (us : List ℕ) → Sums (cont_tree w vs ds cs d sc c) → From k (flat_items r us) → Sums (conts_tree w vs ds cs d sc (conts_at c r k n))
      the_items d sc c derived.close k n us h e = h
      the_items d sc c (derived.also i r) k n us h e =
          let f = next _ _ _ e in
          let x = item_at i (k + 1) n in
          two-sums (cont_tree w vs ds cs d sc c) (conts_tree w vs ds cs d sc (conts_at x r (k + 1 + wide (flat_item i)) (n + sums_item i))) h
          (the_items d sc x r (k + 1 + wide (flat_item i)) (n + sums_item i) us (an_item d sc i (k + 1) n _ f) (past (wide-item i) (k + 1) _ f))

      the-choices : (d : ℕ) (sc : Scope) (b : Syntax.Branch) (r : derived.Choices) (k n : ℕ) (us : List ℕ) → BranchN d sc b → From k (flat_choices r us) → RestN d sc (branches_at b r k n)
      the-choices d sc b derived.no_choices k n us h e = last-branch d sc b h
      the-choices d sc b (derived.or p r) k n us h e =
          let f = next _ _ _ e in
          let x = branch_at p (k + 1) n in
          next-branch d sc b (branches_at x r (k + 1 + wide (flat_prefix p)) (n + sums_prefix p)) h
          (the-choices d sc x r (k + 1 + wide (flat_prefix p)) (n + sums_prefix p) us (a-prefix d sc p (k + 1) n _ f) (past (wide-prefix p) (k + 1) _ f))

    one-sum : (d : ℕ) (sc : Scope) (p : derived.Prefix) (r : derived.Choices) (k n : ℕ) (us : List ℕ) → From k (flat_prefix p (flat_choices r us)) → Sums (sum_tree w vs ds cs d sc (sum_at p r k n))
    unfolding sum_at
    one-sum d sc p r k n us e =
        let b = branch_at p k (n + 1) in
        a_sum d sc n (branches_at b r (k + wide (flat_prefix p)) (n + 1 + sums_prefix p))
        (the-choices d sc b r (k + wide (flat_prefix p)) (n + 1 + sums_prefix p) us (a-prefix d sc p k (n + 1) _ e) (past (wide-prefix p) k _ e))

    the-sums : (d : ℕ) (sc : Scope) (s : Syntax.Sum) (r : derived.Sums) (k n : ℕ) (us : List ℕ) → Sums (sum_tree w vs ds cs d sc s) → From k (flat_sums r us) → Sums (sums_tree w vs ds cs d sc (sums_at s r k n))
    unfolding sums_at sums_tree flat_sums
    the-sums d sc s derived.no_sums k n us h e = h
    the-sums d sc s (derived.beside p c r) k n us h e =
        let f = next _ _ _ e in
        let x = sum_at p c (k + 1) n in
        let k' = k + 1 + wide (λ ts. flat_prefix p (flat_choices c ts)) in
        let n' = n + 1 + sums_prefix p + sums_choices c in
        two-sums (sum_tree w vs ds cs d sc s) (sums_tree w vs ds cs d sc (sums_at x r k' n')) h
        (the-sums d sc x r k' n' us (one-sum d sc p c (k + 1) n _ f) (past (wide-sum p c) (k + 1) _ f))

    a_body : (d : ℕ) (sc : Scope) (b : derived.Body) (k n : ℕ) (us : List ℕ) → From k (flat_body b us) → Sums (sums_tree w vs ds cs d sc (body_at b k n))
    unfolding body_at flat_body
    a_body d sc (derived.body p c r) k n us e =
        the-sums d sc (sum_at p c k n) r (k + wide (λ ts. flat_prefix p (flat_choices c ts))) (n + 1 + sums_prefix p + sums_choices c) us (one-sum d sc p c k n _ e) (past (wide-sum p c) k _ e)

    the-definitions : (i : ℕ) (d : derived.Definitions) (k n : ℕ) (us : List ℕ) → From k (flat_definitions d us) → Sums (all_sums w vs ds cs i (definitions_in (definitions_at d k n)))
    unfolding all_sums definitions_in definitions_at flat_definitions
    the-definitions i (derived.last_definition p b s) k n us e =
        let c = k + 1 + wide (flat_params p) + 1 in
        let sc = params_of (Syntax.params_at p (k + 1)) in
        let f = next _ _ _ (past (wide-params p) (k + 1) _ (next _ _ _ e)) in
        two-sums (sums_tree w vs ds cs i sc (body_at b c n)) [] (a_body i sc b c n _ f) no-sums
    the-definitions i (derived.next_definition p b r) k n us e =
        let c = k + 1 + wide (flat_params p) + 1 in
        let sc = params_of (Syntax.params_at p (k + 1)) in
        let f = next _ _ _ (past (wide-params p) (k + 1) _ (next _ _ _ e)) in
        let k' = c + wide (flat_body b) + 1 in
        let n' = n + sums_body b in
        two-sums (sums_tree w vs ds cs i sc (body_at b c n)) (all_sums w vs ds cs (suc i) (definitions_in (definitions_at r k' n'))) (a_body i sc b c n _ f)
        (the-definitions (suc i) r k' n' us (next _ _ _ (past (wide-body b) c _ f)))

    the-model : (m : derived.Model) (k : ℕ) (us : List ℕ) → From k (flat_model m us) → Sums (all_sums w vs ds cs 0 (definitions (model_at m k)))
    unfolding definitions model_at flat_model
    the-model (derived.definitions d) k us e = the-definitions 0 d k 0 us e
    the-model (derived.variable v m) k us e =
        let q : k + 1 + 1 ≡ k + 2 = omega arith in
        let f : From (k + 2) (flat_number v (kind.semicolon ∷ flat_model m us)) = subst (λ (j : ℕ). From j (flat_number v (kind.semicolon ∷ flat_model m us))) q (next _ _ _ (next _ _ _ e)) in
        the-model m (k + 2 + wide (flat_number v) + 1) us (next _ _ _ (past (wide-number v) (k + 2) _ f))

-- the kinds of a text's tokens, and the tokens of the waits that it is read to have
pub waits-named : (w : ℕ → List ℕ) (m : derived.Model) (j : ℕ) → In j (all_waits (resolved w (syntax_of m))) → get_or (flat_model m []) j 0 ≡ kind.name
unfolding all_waits resolved syntax_of
waits-named w m = the-model (flat_model m []) w _ _ _ m 0 [] (record { is = refl })
