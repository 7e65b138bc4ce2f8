-- A channel that is one name in the syntax tree is told to be lone exactly where its derivation is just a name, and not a name in brackets
-- (01, Actions). From where branches are written, and the bytes of `)`.
use mathlib.Core.Path.{◌≡◌, refl, sym, ap, ◌∙◌}
use mathlib.Core.List.{List, [], ◌∷◌}
use mathlib.Core.Bool.{Bool, true, false}
use mathlib.Core.Option.{some}
use mathlib.Core.Logic.{◌↔◌}
use Prim.Native.Nat.{ℕ, zero, suc, ◌+◌}
use native.Mathlib.Omega.{arith}
use lib.ListN.{drop, get_elem?}
use borrow.Author.Tests.{not-true}
use Rattle.token.specs.Kind as kind
use Rattle.token.specs.Token.{same_bytes, Mark, tokens, kinds_of}
use Rattle.token.proofs.Words.{same-is, is_same_lem}
use Rattle.grammar.specs.Grammar as derived
use Rattle.grammar.specs.Grammar.{Reads, flat_expr, flat_terms, flat_term, flat_factors, flat_atom, flat_channel, flat_action, flat_gate, flat_prefix}
use Rattle.grammar.specs.Syntax
use Rattle.grammar.specs.Syntax.{wide, literal_at, expr_at, terms_at, term_at, factors_at, atom_at, channel_at, action_at, branch_at, syntax_of}
use Rattle.grammar.proofs.Wide.{wide-expr, wide-gate}
use Rattle.model.specs.Sites.{Scope, is_lone}
use Rattle.model.specs.Words.{word_of}
use Rattle.model.specs.Stands.{BranchIn}
use Rattle.model.proofs.Members.{never, not-both, false-not}
use Rattle.model.proofs.Tokens.{lexeme-at, word_at, close-bytes, bytes-close}
use Rattle.model.proofs.Origins.{past, next-token, token-is, written}
use Rattle.model.proofs.Decimals.{kind-mark}

-- ---- an expression whose tree is a name

-- just a name
abbrev pub a_name : derived.Expr
a_name = derived.sum (derived.product derived.name derived.no_factors) derived.no_terms

-- something in brackets
abbrev pub in_brackets : derived.Expr → derived.Expr
in_brackets e = derived.sum (derived.product (derived.bracketed e) derived.no_factors) derived.no_terms

pub two-parts : {A : Type 0} {o : Syntax.Op} {x y : Syntax.Expr} {j : ℕ} → Syntax.binary o x y ≡ Syntax.named j → A
two-parts e = absurd (let z : ◌≡◌ {A = ℕ} 0 1 = cc in omega arith)

-- what is added or multiplied leaves two parts
terms-parts : {A : Type 0} {j : ℕ} (r : derived.Terms) (o : Syntax.Op) (x y : Syntax.Expr) (k : ℕ) → terms_at (Syntax.binary o x y) r k ≡ Syntax.named j → A
unfolding terms_at
terms-parts derived.no_terms o x y k e = two-parts e
terms-parts (derived.plus t r) o x y k e = terms-parts r _ _ _ _ e
terms-parts (derived.minus t r) o x y k e = terms-parts r _ _ _ _ e

factors-parts : {A : Type 0} {j : ℕ} (r : derived.Factors) (o : Syntax.Op) (x y : Syntax.Expr) (k : ℕ) → factors_at (Syntax.binary o x y) r k ≡ Syntax.named j → A
unfolding factors_at
factors-parts derived.no_factors o x y k e = two-parts e
factors-parts (derived.times t r) o x y k e = factors-parts r _ _ _ _ e
factors-parts (derived.divide t r) o x y k e = factors-parts r _ _ _ _ e

-- a derivation whose tree is a name: a name, or one in brackets whose tree is that name
data Naming (j k : ℕ) : derived.Expr → Type 0 where
  lone : k ≡ j → Naming j k a_name
  bracket : {e : derived.Expr} → expr_at e (k + 1) ≡ Syntax.named j → Naming j k (in_brackets e)

pub literal-no : {A : Type 0} {j : ℕ} (w : derived.Whole) (k : ℕ) → literal_at w k ≡ Syntax.named j → A
unfolding literal_at
literal-no derived.whole k e = absurd (let z : ◌≡◌ {A = ℕ} 0 1 = cc in omega arith)
literal-no derived.negative k e = absurd (let z : ◌≡◌ {A = ℕ} 0 1 = cc in omega arith)

naming-atom : {j : ℕ} (a : derived.Atom) (k : ℕ) → atom_at a k ≡ Syntax.named j → Naming j k (derived.sum (derived.product a derived.no_factors) derived.no_terms)
unfolding atom_at
naming-atom (derived.number w) k e = literal-no w k e
naming-atom derived.name k e = lone (cc)
naming-atom (derived.absolute x) k e = absurd (let z : ◌≡◌ {A = ℕ} 0 1 = cc in omega arith)
naming-atom (derived.maximum x y) k e = two-parts e
naming-atom (derived.minimum x y) k e = two-parts e
naming-atom (derived.bracketed x) k e = bracket e

naming : {j : ℕ} (e : derived.Expr) (k : ℕ) → expr_at e k ≡ Syntax.named j → Naming j k e
unfolding expr_at terms_at term_at factors_at
naming (derived.sum (derived.product a derived.no_factors) derived.no_terms) k e = naming-atom a k e
naming (derived.sum (derived.product a (derived.times b f)) derived.no_terms) k e = factors-parts f _ _ _ _ e
naming (derived.sum (derived.product a (derived.divide b f)) derived.no_terms) k e = factors-parts f _ _ _ _ e
naming (derived.sum (derived.product a derived.no_factors) (derived.plus t r)) k e = terms-parts r _ _ _ _ e
naming (derived.sum (derived.product a (derived.times b f)) (derived.plus t r)) k e = terms-parts r _ _ _ _ e
naming (derived.sum (derived.product a (derived.divide b f)) (derived.plus t r)) k e = terms-parts r _ _ _ _ e
naming (derived.sum (derived.product a derived.no_factors) (derived.minus t r)) k e = terms-parts r _ _ _ _ e
naming (derived.sum (derived.product a (derived.times b f)) (derived.minus t r)) k e = terms-parts r _ _ _ _ e
naming (derived.sum (derived.product a (derived.divide b f)) (derived.minus t r)) k e = terms-parts r _ _ _ _ e

pub terms-none : {j : ℕ} (x : Syntax.Expr) (r : derived.Terms) (k : ℕ) → terms_at x r k ≡ Syntax.named j → (r ≡ derived.no_terms) × (x ≡ Syntax.named j)
unfolding terms_at
terms-none x derived.no_terms k e = (refl, e)
terms-none x (derived.plus t r) k e = terms-parts r _ _ _ _ e
terms-none x (derived.minus t r) k e = terms-parts r _ _ _ _ e

pub factors-none : {j : ℕ} (x : Syntax.Expr) (r : derived.Factors) (k : ℕ) → factors_at x r k ≡ Syntax.named j → (r ≡ derived.no_factors) × (x ≡ Syntax.named j)
unfolding factors_at
factors-none x derived.no_factors k e = (refl, e)
factors-none x (derived.times t r) k e = factors-parts r _ _ _ _ e
factors-none x (derived.divide t r) k e = factors-parts r _ _ _ _ e

module _ (ts : List ℕ) where
  -- ---- a name in brackets has `)` after it

  mutual
    unfolding flat_expr flat_terms flat_term flat_factors flat_atom expr_at terms_at term_at factors_at atom_at

    close-expr : (e : derived.Expr) (k j : ℕ) (us : List ℕ) → drop k ts ≡ flat_expr e (kind.close_round ∷ us) → expr_at e k ≡ Syntax.named j → get_elem? ts (j + 1) ≡ some kind.close_round
    close-expr (derived.sum t r) k j us d e =
        let n = terms-none _ r _ e in
        close-term t k j us (d ∙ ap (λ (x : derived.Terms). flat_term t (flat_terms x (kind.close_round ∷ us))) n.0) n.1

    close-term : (t : derived.Term) (k j : ℕ) (us : List ℕ) → drop k ts ≡ flat_term t (kind.close_round ∷ us) → term_at t k ≡ Syntax.named j → get_elem? ts (j + 1) ≡ some kind.close_round
    close-term (derived.product a f) k j us d e =
        let n = factors-none _ f _ e in
        close-atom a k j us (d ∙ ap (λ (x : derived.Factors). flat_atom a (flat_factors x (kind.close_round ∷ us))) n.0) n.1

    close-atom : (a : derived.Atom) (k j : ℕ) (us : List ℕ) → drop k ts ≡ flat_atom a (kind.close_round ∷ us) → atom_at a k ≡ Syntax.named j → get_elem? ts (j + 1) ≡ some kind.close_round
    close-atom (derived.number w) k j us d e = literal-no w k e
    close-atom derived.name k j us d e = let q : k ≡ j = cc in rw (← q) (token-is ts (k + 1) (next-token ts k d))
    close-atom (derived.absolute x) k j us d e = absurd (let z : ◌≡◌ {A = ℕ} 0 1 = cc in omega arith)
    close-atom (derived.maximum x y) k j us d e = two-parts e
    close-atom (derived.minimum x y) k j us d e = two-parts e
    close-atom (derived.bracketed x) k j us d e = close-expr x (k + 1) j (kind.close_round ∷ us) (next-token ts k d) e

-- ---- channels

-- the items of a channel, in the tree and in the derivation
abbrev pub items_in : Syntax.Channel → List Syntax.Expr
items_in (Syntax.one_item e) = e ∷ []
items_in (Syntax.two_items e f) = e ∷ f ∷ []
items_in (Syntax.three_items e f g) = e ∷ f ∷ g ∷ []

abbrev pub items_of : derived.Channel → List derived.Expr
items_of (derived.one_item e) = e ∷ []
items_of (derived.two_items e f) = e ∷ f ∷ []
items_of (derived.three_items e f g) = e ∷ f ∷ g ∷ []

-- those of an action's
abbrev pub channel_in : Syntax.Action → List Syntax.Expr
channel_in (Syntax.wait k) = []
channel_in (Syntax.launch c v) = items_in c
channel_in (Syntax.kill c v) = items_in c
channel_in (Syntax.receive c s) = items_in c
channel_in (Syntax.bind c s n) = items_in c
channel_in (Syntax.check c s) = items_in c
channel_in (Syntax.hand_send c v) = items_in c
channel_in (Syntax.hand_receive c s) = items_in c
channel_in (Syntax.hand_bind c s n) = items_in c

abbrev pub channel_of : derived.Action → List derived.Expr
channel_of derived.wait = []
channel_of (derived.launch c v) = items_of c
channel_of (derived.kill c v) = items_of c
channel_of (derived.receive c s) = items_of c
channel_of (derived.bind c s n) = items_of c
channel_of (derived.check c s) = items_of c
channel_of (derived.hand_send c v) = items_of c
channel_of (derived.hand_receive c s) = items_of c
channel_of (derived.hand_bind c s n) = items_of c

abbrev pub action_of : derived.Prefix → derived.Action
action_of (derived.prefix g a r x) = a

abbrev pub action_in : Syntax.Branch → Syntax.Action
action_in (Syntax.branch k g a r n) = a

-- ---- the test

module _ (text : List ℕ) where
  abbrev kinds : List ℕ
  kinds = kinds_of (tokens text)

  -- a token of another kind than `)` is not written so
  open-word : (k t : ℕ) → get_elem? kinds k ≡ some t → (t ≡ kind.close_round → ⊥) → same_bytes (word_of text k) (kind.close_round ∷ []) ≡ false
  open-word k t g h = by (same_bytes (word_of text k) (kind.close_round ∷ [])) refl
    where
      m : (x : Mark) × (get_elem? (tokens text) k ≡ some x) × (x.kind ≡ t)
      m = kind-mark (tokens text) k g

      by : (b : Bool) → same_bytes (word_of text k) (kind.close_round ∷ []) ≡ b → b ≡ false
      by true e = absurd (h (sym m.2 ∙ bytes-close (sym (word_at text k m.0 m.1) ∙ same-is (word_of text k) (kind.close_round ∷ []) e) (lexeme-at text k m.0 m.1)))
      by false e = refl

  -- a token of that kind is
  close-word : (k : ℕ) → get_elem? kinds k ≡ some kind.close_round → same_bytes (word_of text k) (kind.close_round ∷ []) ≡ true
  close-word k g =
      let m = kind-mark (tokens text) k g in
      let e = word_at text k m.0 m.1 ∙ close-bytes (rw m.2 at (lexeme-at text k m.0 m.1)) in
      rw e (is_same_lem (kind.close_round ∷ []))

  -- a channel c that is written from token k on, with the token t after it
  module _ (c : derived.Expr) (k j t : ℕ) (us : List ℕ) (d : drop k kinds ≡ flat_expr c (t ∷ us)) (other : t ≡ kind.close_round → ⊥) (tree : expr_at c k ≡ Syntax.named j) where
    lone-name : (e : derived.Expr) → Naming j k e → drop k kinds ≡ flat_expr e (t ∷ us) → (is_lone (word_of text) j ≡ true) ↔ (e ≡ a_name)
    unfolding is_lone flat_expr flat_terms flat_term flat_factors flat_atom
    lone-name e (lone q) d =
        let g : get_elem? kinds (j + 1) ≡ some t = rw (← q) (token-is kinds (k + 1) (next-token kinds k d)) in
        (λ x. refl, λ x. false-not _ (open-word (j + 1) t g other))
    lone-name e (bracket {e = x} q) d =
        let g = close-expr kinds x (k + 1) j (t ∷ us) (next-token kinds k d) q in
        (λ y. not-both (close-word (j + 1) g) (not-true _ y), λ y. absurd (no_name y))
      where
        no_name : in_brackets x ≡ a_name → ⊥
        no_name y = let z : ◌≡◌ {A = ℕ} 0 1 = cc in omega arith

    -- is told to be lone exactly where it is just a name
    pub lone-so : (is_lone (word_of text) j ≡ true) ↔ (c ≡ a_name)
    lone-so = lone-name c (naming c k tree) d

  -- ---- every channel of the text

  by-item : (c : derived.Expr) (k j t : ℕ) (us : List ℕ) → drop k kinds ≡ flat_expr c (t ∷ us) → (t ≡ kind.close_round → ⊥) → some (expr_at c k) ≡ some (Syntax.named j) → (is_lone (word_of text) j ≡ true) ↔ (some c ≡ some a_name)
  by-item c k j t us d o e =
      let q : expr_at c k ≡ Syntax.named j = cc in
      let l = lone-so c k j t us d o q in
      (λ x. ap (λ (y : derived.Expr). some y) (l.0 x), λ x. let z : c ≡ a_name = cc in l.1 z)

  by-channel : (c : derived.Channel) (k j i t : ℕ) (us : List ℕ) → drop k kinds ≡ flat_channel c (t ∷ us) → (t ≡ kind.close_round → ⊥) → get_elem? (items_in (channel_at c k)) i ≡ some (Syntax.named j) → (is_lone (word_of text) j ≡ true) ↔ (get_elem? (items_of c) i ≡ some a_name)
  unfolding flat_channel channel_at
  by-channel (derived.one_item e) k j zero t us d o q = by-item e k j t us d o q
  by-channel (derived.one_item e) k j (suc i) t us d o q = never q
  by-channel (derived.two_items e f) k j zero t us d o q = by-item e k j kind.comma _ d (λ x. omega arith) q
  by-channel (derived.two_items e f) k j (suc zero) t us d o q = by-item f (k + wide (flat_expr e) + 1) j t us (next-token kinds (k + wide (flat_expr e)) (past kinds k _ (wide-expr e) d)) o q
  by-channel (derived.two_items e f) k j (suc (suc i)) t us d o q = never q
  by-channel (derived.three_items e f g) k j zero t us d o q = by-item e k j kind.comma _ d (λ x. omega arith) q
  by-channel (derived.three_items e f g) k j (suc zero) t us d o q = by-item f (k + wide (flat_expr e) + 1) j kind.comma _ (next-token kinds (k + wide (flat_expr e)) (past kinds k _ (wide-expr e) d)) (λ x. omega arith) q
  by-channel (derived.three_items e f g) k j (suc (suc zero)) t us d o q =
      let m = k + wide (flat_expr e) + 1 in
      by-item g (m + wide (flat_expr f) + 1) j t us (next-token kinds (m + wide (flat_expr f)) (past kinds m _ (wide-expr f) (next-token kinds (k + wide (flat_expr e)) (past kinds k _ (wide-expr e) d)))) o q
  by-channel (derived.three_items e f g) k j (suc (suc (suc i))) t us d o q = never q

  by-action : (a : derived.Action) (k j i : ℕ) (us : List ℕ) → drop k kinds ≡ flat_action a us → get_elem? (channel_in (action_at a k)) i ≡ some (Syntax.named j) → (is_lone (word_of text) j ≡ true) ↔ (get_elem? (channel_of a) i ≡ some a_name)
  unfolding flat_action action_at
  by-action derived.wait k j i us d e = never e
  by-action (derived.launch c v) k j i us d e = by-channel c k j i kind.bang _ d (λ x. omega arith) e
  by-action (derived.kill c v) k j i us d e = by-channel c k j i kind.hash _ d (λ x. omega arith) e
  by-action (derived.receive c s) k j i us d e = by-channel c k j i kind.query _ d (λ x. omega arith) e
  by-action (derived.bind c s n) k j i us d e = by-channel c k j i kind.query _ d (λ x. omega arith) e
  by-action (derived.check c s) k j i us d e = by-channel c (k + 1) j i kind.query _ (next-token kinds k d) (λ x. omega arith) e
  by-action (derived.hand_send c v) k j i us d e = by-channel c (k + 1) j i kind.bang _ (next-token kinds k d) (λ x. omega arith) e
  by-action (derived.hand_receive c s) k j i us d e = by-channel c (k + 1) j i kind.query _ (next-token kinds k d) (λ x. omega arith) e
  by-action (derived.hand_bind c s n) k j i us d e = by-channel c (k + 1) j i kind.query _ (next-token kinds k d) (λ x. omega arith) e

  by-prefix : (p : derived.Prefix) (k n j i : ℕ) (us : List ℕ) → drop k kinds ≡ flat_prefix p us → get_elem? (channel_in (action_in (branch_at p k n))) i ≡ some (Syntax.named j) → (is_lone (word_of text) j ≡ true) ↔ (get_elem? (channel_of (action_of p)) i ≡ some a_name)
  unfolding flat_prefix branch_at
  by-prefix (derived.prefix g a r x) k n j i us d e =
      let d₁ = next-token kinds (k + wide (flat_gate g)) (past kinds k _ (wide-gate g) d) in
      by-action a (k + wide (flat_gate g) + 1) j i _ d₁ e

  module _ (m : derived.Model) (r : Reads kinds m) where
    -- in a text that reads as m, an item of a channel in the syntax tree that is one name is told to be lone exactly where its derivation is just a name
    pub channels-told : {sc : Scope} {b k : ℕ} {g : Syntax.Gate} {a : Syntax.Action} {q : Syntax.Rate} {n : Syntax.Next} (j i : ℕ) (h : BranchIn (syntax_of m) sc b (Syntax.branch k g a q n)) → get_elem? (channel_in a) i ≡ some (Syntax.named j)
        → (is_lone (word_of text) j ≡ true) ↔ (get_elem? (channel_of (action_of (written kinds m r h).prefix)) i ≡ some a_name)
    channels-told j i h e =
        let b = written kinds m r h in
        by-prefix b.prefix b.place b.number j i b.rest b.text (ap (λ (x : Syntax.Branch). get_elem? (channel_in (action_in x)) i) (sym b.tree) ∙ e)
