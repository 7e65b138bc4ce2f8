-- Every kind of token that a tree is written as is a sign's, a name's, a number's or a word's, and so the kind of some token; a stray byte's is none of them. By
-- induction on the trees, a clause for each alternative.
use mathlib.Core.Path.{◌≡◌, refl, sym, ap, ap₂, ◌∙◌}
use mathlib.Core.List.Memᴰ.{cases_cons as cases}
use mathlib.Core.List.Memᴰ.{not-nil as nowhere}
use mathlib.Core.List.{List, [], ◌∷◌, ◌++◌, Memᴰ as In}
use mathlib.Core.Bool.{Bool, true, false, ◌&&◌, ◌||◌}
use mathlib.Core.Logic.{⊎_elim}
use Prim.Native.Nat.{ℕ, ◌+◌}
use native.Mathlib.Omega.{arith}
use lib.Dec.{eqb}
use borrow.Author.Tests.{eqb-true}
use Rattle.token.specs.Kind as kind
use Rattle.token.specs.Bytes.{within, is_blank, is_letter, is_digit, is_sign, sort_of, belongs}
use Rattle.token.specs.Token.{same_bytes, pairs, abs_bytes, max_bytes, min_bytes, union_bytes, inter_bytes, word_kind}
use Rattle.token.specs.Tiling.Lexeme.{named, whole, decimal, single, double}
use Rattle.grammar.specs.Grammar
use Rattle.grammar.specs.Grammar.{Whole, Number, Expr, Terms, Term, Factors, Atom, Exprs, Args, Part, Parts, Set, Relation, Test, Ands, Ors, Cond, Scale, Rate, Values, Sets, Names, Channel, Action, Gate, Prefix, Next, Cont, Item, Items, Choices, Sums, Body, Params, Wholes, Starts, Start, System, Definitions, Model, Reads, Viable}
use Rattle.grammar.specs.Grammar.{relation_kind, flat_whole, flat_number, flat_expr, flat_terms, flat_term, flat_factors, flat_atom, flat_exprs, flat_args, flat_part, flat_parts, flat_set, flat_test, flat_ands, flat_ors, flat_cond, flat_scale, flat_rate, flat_values, flat_sets, flat_names, flat_channel, flat_action, flat_gate, flat_prefix, flat_next, flat_cont, flat_item, flat_items, flat_choices, flat_sums, flat_body, flat_params, flat_wholes, flat_starts, flat_start, flat_system, flat_definitions, flat_model}
use Rattle.grammar.proofs.Spelled.{Spelt, kinds}

-- ---- a token of each kind that a tree is written with

abbrev sign : (a : ℕ) → sort_of a ≡ 3 → Spelt
sign a e = record { kind = a; bytes = a ∷ []; made = single a e refl refl }

abbrev joined : (a b : ℕ) → pairs a b ≡ true → Spelt
joined a b e = record { kind = a + kind.pair; bytes = a ∷ b ∷ []; made = double a b e refl refl }

abbrev pub every : List Spelt
unfolding sort_of is_blank is_letter is_digit is_sign within belongs pairs word_kind same_bytes
every =
    record { kind = kind.name; bytes = 97 ∷ []; made = named refl (refl, tt) refl }
    ∷ record { kind = kind.whole; bytes = 48 ∷ []; made = whole (omega arith) (refl, tt) refl }
    ∷ record { kind = kind.decimal; bytes = 48 ∷ kind.point ∷ 48 ∷ []; made = decimal (48 ∷ []) (48 ∷ []) (omega arith) (refl, tt) (omega arith) (refl, tt) refl refl }
    ∷ record { kind = kind.absolute; bytes = abs_bytes; made = named refl (refl, (refl, (refl, tt))) refl }
    ∷ record { kind = kind.maximum; bytes = max_bytes; made = named refl (refl, (refl, (refl, tt))) refl }
    ∷ record { kind = kind.minimum; bytes = min_bytes; made = named refl (refl, (refl, (refl, tt))) refl }
    ∷ record { kind = kind.union; bytes = union_bytes; made = named refl (refl, (refl, (refl, (refl, (refl, tt))))) refl }
    ∷ record { kind = kind.intersection; bytes = inter_bytes; made = named refl (refl, (refl, (refl, (refl, (refl, tt))))) refl }
    ∷ sign kind.bang refl ∷ sign kind.hash refl ∷ sign kind.ampersand refl ∷ sign kind.open_round refl ∷ sign kind.close_round refl ∷ sign kind.times refl ∷ sign kind.plus refl ∷ sign kind.comma refl
    ∷ sign kind.minus refl ∷ sign kind.point refl ∷ sign kind.divide refl ∷ sign kind.semicolon refl ∷ sign kind.less refl ∷ sign kind.equals refl ∷ sign kind.greater refl ∷ sign kind.query refl
    ∷ sign kind.at refl ∷ sign kind.open_square refl ∷ sign kind.backslash refl ∷ sign kind.close_square refl ∷ sign kind.open_curly refl ∷ sign kind.bar refl ∷ sign kind.close_curly refl ∷ sign kind.tilde refl
    ∷ joined kind.bang kind.equals refl ∷ joined kind.minus kind.greater refl ∷ joined kind.point kind.point refl ∷ joined kind.less kind.equals refl ∷ joined kind.equals kind.equals refl ∷ joined kind.greater kind.equals refl
    ∷ joined kind.bar kind.bar refl ∷ []

abbrev among : ℕ → List Spelt → Bool
among k [] = false
among k (x ∷ xs) = eqb k x.kind || among k xs

-- a kind that some tree is written with
abbrev pub is_used : ℕ → Bool
is_used k = among k every

abbrev pub are_used : List ℕ → Bool
are_used [] = true
are_used (k ∷ ts) = is_used k && are_used ts

-- ---- the trees

used-whole : (w : Whole) (ts : List ℕ) → are_used (flat_whole w ts) ≡ are_used ts
unfolding flat_whole every
used-whole Grammar.whole ts = refl
used-whole Grammar.negative ts = refl

used-number : (n : Number) (ts : List ℕ) → are_used (flat_number n ts) ≡ are_used ts
unfolding flat_number every
used-number (Grammar.integer w) ts = used-whole w ts
used-number Grammar.decimal ts = refl
used-number Grammar.negative_decimal ts = refl

mutual
  unfolding flat_expr flat_terms flat_term flat_factors flat_atom every

  used-expr : (e : Expr) (ts : List ℕ) → are_used (flat_expr e ts) ≡ are_used ts
  used-expr (Grammar.sum t r) ts = used-term t _ ∙ used-terms r ts

  used-terms : (r : Terms) (ts : List ℕ) → are_used (flat_terms r ts) ≡ are_used ts
  used-terms Grammar.no_terms ts = refl
  used-terms (Grammar.plus t r) ts = used-term t _ ∙ used-terms r ts
  used-terms (Grammar.minus t r) ts = used-term t _ ∙ used-terms r ts

  used-term : (t : Term) (ts : List ℕ) → are_used (flat_term t ts) ≡ are_used ts
  used-term (Grammar.product a r) ts = used-atom a _ ∙ used-factors r ts

  used-factors : (r : Factors) (ts : List ℕ) → are_used (flat_factors r ts) ≡ are_used ts
  used-factors Grammar.no_factors ts = refl
  used-factors (Grammar.times a r) ts = used-atom a _ ∙ used-factors r ts
  used-factors (Grammar.divide a r) ts = used-atom a _ ∙ used-factors r ts

  used-atom : (a : Atom) (ts : List ℕ) → are_used (flat_atom a ts) ≡ are_used ts
  used-atom (Grammar.number w) ts = used-whole w ts
  used-atom Grammar.name ts = refl
  used-atom (Grammar.absolute e) ts = used-expr e _
  used-atom (Grammar.maximum e f) ts = used-expr e _ ∙ used-expr f _
  used-atom (Grammar.minimum e f) ts = used-expr e _ ∙ used-expr f _
  used-atom (Grammar.bracketed e) ts = used-expr e _

used-exprs : (r : Exprs) (ts : List ℕ) → are_used (flat_exprs r ts) ≡ are_used ts
unfolding flat_exprs every
used-exprs (Grammar.last_expr e) ts = used-expr e ts
used-exprs (Grammar.next_expr e r) ts = used-expr e _ ∙ used-exprs r ts

used-args : (a : Args) (ts : List ℕ) → are_used (flat_args a ts) ≡ are_used ts
unfolding flat_args every
used-args Grammar.no_args ts = refl
used-args (Grammar.args r) ts = used-exprs r _

used-part : (p : Part) (ts : List ℕ) → are_used (flat_part p ts) ≡ are_used ts
unfolding flat_part every
used-part (Grammar.single e) ts = used-expr e ts
used-part (Grammar.range e f) ts = used-expr e _ ∙ used-expr f ts

used-parts : (r : Parts) (ts : List ℕ) → are_used (flat_parts r ts) ≡ are_used ts
unfolding flat_parts every
used-parts Grammar.no_parts ts = refl
used-parts (Grammar.without p r) ts = used-part p _ ∙ used-parts r ts
used-parts (Grammar.union p r) ts = used-part p _ ∙ used-parts r ts
used-parts (Grammar.inter p r) ts = used-part p _ ∙ used-parts r ts

used-set : (s : Set) (ts : List ℕ) → are_used (flat_set s ts) ≡ are_used ts
unfolding flat_set every
used-set (Grammar.set p r) ts = used-part p _ ∙ used-parts r ts

used-relation : (r : Relation) (ts : List ℕ) → are_used (relation_kind r ∷ ts) ≡ are_used ts
unfolding relation_kind every
used-relation Grammar.less ts = refl
used-relation Grammar.at_most ts = refl
used-relation Grammar.greater ts = refl
used-relation Grammar.at_least ts = refl
used-relation Grammar.same ts = refl
used-relation Grammar.differs ts = refl

used-test : (t : Test) (ts : List ℕ) → are_used (flat_test t ts) ≡ are_used ts
unfolding flat_test every
used-test (Grammar.holds e r f) ts = used-expr e _ ∙ used-relation r (flat_expr f ts) ∙ used-expr f ts
used-test (Grammar.fails e r f) ts = used-expr e _ ∙ used-relation r (flat_expr f ts) ∙ used-expr f ts

used-ands : (r : Ands) (ts : List ℕ) → are_used (flat_ands r ts) ≡ are_used ts
unfolding flat_ands every
used-ands Grammar.no_ands ts = refl
used-ands (Grammar.both t r) ts = used-test t _ ∙ used-ands r ts

used-ors : (r : Ors) (ts : List ℕ) → are_used (flat_ors r ts) ≡ are_used ts
unfolding flat_ors every
used-ors Grammar.no_ors ts = refl
used-ors (Grammar.either t a r) ts = used-test t _ ∙ used-ands a _ ∙ used-ors r ts

used-cond : (c : Cond) (ts : List ℕ) → are_used (flat_cond c ts) ≡ are_used ts
unfolding flat_cond every
used-cond (Grammar.cond t a r) ts = used-test t _ ∙ used-ands a _ ∙ used-ors r ts

used-scale : (s : Scale) (ts : List ℕ) → are_used (flat_scale s ts) ≡ are_used ts
unfolding flat_scale every
used-scale (Grammar.fixed n) ts = used-number n ts
used-scale Grammar.named ts = refl

used-rate : (r : Rate) (ts : List ℕ) → are_used (flat_rate r ts) ≡ are_used ts
unfolding flat_rate every
used-rate (Grammar.plain s) ts = used-scale s ts
used-rate (Grammar.scaled s a) ts = used-scale s _ ∙ used-atom a ts

used-values : (v : Values) (ts : List ℕ) → are_used (flat_values v ts) ≡ are_used ts
unfolding flat_values every
used-values (Grammar.one_value e) ts = used-expr e _
used-values (Grammar.two_values e f) ts = used-expr e _ ∙ used-expr f _

used-sets : (s : Sets) (ts : List ℕ) → are_used (flat_sets s ts) ≡ are_used ts
unfolding flat_sets every
used-sets (Grammar.one_set s) ts = used-set s _
used-sets (Grammar.two_sets s r) ts = used-set s _ ∙ used-set r _

used-names : (n : Names) (ts : List ℕ) → are_used (flat_names n ts) ≡ are_used ts
unfolding flat_names every
used-names Grammar.last_name ts = refl
used-names (Grammar.next_name r) ts = used-names r ts

used-channel : (c : Channel) (ts : List ℕ) → are_used (flat_channel c ts) ≡ are_used ts
unfolding flat_channel every
used-channel (Grammar.one_item e) ts = used-expr e ts
used-channel (Grammar.two_items e f) ts = used-expr e _ ∙ used-expr f ts
used-channel (Grammar.three_items e f g) ts = used-expr e _ ∙ used-expr f _ ∙ used-expr g ts

used-action : (a : Action) (ts : List ℕ) → are_used (flat_action a ts) ≡ are_used ts
unfolding flat_action every
used-action Grammar.wait ts = refl
used-action (Grammar.launch c v) ts = used-channel c _ ∙ used-values v ts
used-action (Grammar.kill c v) ts = used-channel c _ ∙ used-values v ts
used-action (Grammar.receive c s) ts = used-channel c _ ∙ used-sets s ts
used-action (Grammar.bind c s n) ts = used-channel c _ ∙ used-sets s _ ∙ used-names n _
used-action (Grammar.check c s) ts = used-channel c _ ∙ used-sets s ts
used-action (Grammar.hand_send c v) ts = used-channel c _ ∙ used-values v ts
used-action (Grammar.hand_receive c s) ts = used-channel c _ ∙ used-sets s ts
used-action (Grammar.hand_bind c s n) ts = used-channel c _ ∙ used-sets s _ ∙ used-names n _

used-gate : (g : Gate) (ts : List ℕ) → are_used (flat_gate g ts) ≡ are_used ts
unfolding flat_gate every
used-gate Grammar.no_gate ts = refl
used-gate (Grammar.gate c) ts = used-cond c _

mutual
  unfolding flat_prefix flat_next flat_cont flat_item flat_items flat_choices every

  used-prefix : (p : Prefix) (ts : List ℕ) → are_used (flat_prefix p ts) ≡ are_used ts
  used-prefix (Grammar.prefix g a r n) ts = used-gate g _ ∙ used-action a _ ∙ used-rate r _ ∙ used-next n ts

  used-next : (n : Next) (ts : List ℕ) → are_used (flat_next n ts) ≡ are_used ts
  used-next Grammar.stop ts = refl
  used-next (Grammar.dot c) ts = used-cont c ts

  used-cont : (c : Cont) (ts : List ℕ) → are_used (flat_cont c ts) ≡ are_used ts
  used-cont (Grammar.chain p) ts = used-prefix p ts
  used-cont (Grammar.call a) ts = used-args a ts
  used-cont (Grammar.group i r) ts = used-item i _ ∙ used-items r ts

  used-item : (i : Item) (ts : List ℕ) → are_used (flat_item i ts) ≡ are_used ts
  used-item (Grammar.item_sum p r) ts = used-prefix p _ ∙ used-choices r ts
  used-item (Grammar.item_call a) ts = used-args a ts
  used-item (Grammar.item_group i r) ts = used-item i _ ∙ used-items r ts

  used-items : (r : Items) (ts : List ℕ) → are_used (flat_items r ts) ≡ are_used ts
  used-items Grammar.close ts = refl
  used-items (Grammar.also i r) ts = used-item i _ ∙ used-items r ts

  used-choices : (r : Choices) (ts : List ℕ) → are_used (flat_choices r ts) ≡ are_used ts
  used-choices Grammar.no_choices ts = refl
  used-choices (Grammar.or p r) ts = used-prefix p _ ∙ used-choices r ts

used-sums : (r : Sums) (ts : List ℕ) → are_used (flat_sums r ts) ≡ are_used ts
unfolding flat_sums every
used-sums Grammar.no_sums ts = refl
used-sums (Grammar.beside p c r) ts = used-prefix p _ ∙ used-choices c _ ∙ used-sums r ts

used-body : (b : Body) (ts : List ℕ) → are_used (flat_body b ts) ≡ are_used ts
unfolding flat_body every
used-body (Grammar.body p c r) ts = used-prefix p _ ∙ used-choices c _ ∙ used-sums r ts

used-params : (p : Params) (ts : List ℕ) → are_used (flat_params p ts) ≡ are_used ts
unfolding flat_params every
used-params Grammar.no_params ts = refl
used-params (Grammar.params n) ts = used-names n _

used-wholes : (r : Wholes) (ts : List ℕ) → are_used (flat_wholes r ts) ≡ are_used ts
unfolding flat_wholes every
used-wholes (Grammar.last_whole w) ts = used-whole w ts
used-wholes (Grammar.next_whole w r) ts = used-whole w _ ∙ used-wholes r ts

used-starts : (s : Starts) (ts : List ℕ) → are_used (flat_starts s ts) ≡ are_used ts
unfolding flat_starts every
used-starts Grammar.no_starts ts = refl
used-starts (Grammar.starts w) ts = used-wholes w _

used_start : (s : Start) (ts : List ℕ) → are_used (flat_start s ts) ≡ are_used ts
unfolding flat_start every
used_start (Grammar.once s) ts = used-starts s ts
used_start (Grammar.counted s) ts = used-starts s ts

used-system : (s : System) (ts : List ℕ) → are_used (flat_system s ts) ≡ are_used ts
unfolding flat_system every
used-system (Grammar.last_start i) ts = used_start i _
used-system (Grammar.next_start i r) ts = used_start i _ ∙ used-system r ts

used-definitions : (d : Definitions) (ts : List ℕ) → are_used (flat_definitions d ts) ≡ are_used ts
unfolding flat_definitions every
used-definitions (Grammar.last_definition p b s) ts = used-params p _ ∙ used-body b _ ∙ used-system s ts
used-definitions (Grammar.next_definition p b d) ts = used-params p _ ∙ used-body b _ ∙ used-definitions d ts

used-model : (m : Model) (ts : List ℕ) → are_used (flat_model m ts) ≡ are_used ts
unfolding flat_model every
used-model (Grammar.definitions d) ts = used-definitions d ts
used-model (Grammar.variable n m) ts = used-number n _ ∙ used-model m ts

-- ---- a text that fits

pub fits-used : (ts : List ℕ) (m : Model) → Reads ts m → are_used ts ≡ true
unfolding Reads
fits-used ts m r = sym (ap are_used r) ∙ used-model m []

both-parts : (a b : Bool) → a && b ≡ true → (a ≡ true) × (b ≡ true)
both-parts true b e = (refl, e)
both-parts false b e = absurd (let z : ◌≡◌ {A = ℕ} 0 1 = cc in omega arith)

pub used-front : (us vs : List ℕ) → are_used (us ++ vs) ≡ true → are_used us ≡ true
used-front [] vs e = refl
used-front (k ∷ us) vs e = let p = both-parts (is_used k) (are_used (us ++ vs)) e in ap (λ (b : Bool). b && are_used us) p.0 ∙ used-front us vs p.1

pub used-back : (us vs : List ℕ) → are_used (us ++ vs) ≡ true → are_used vs ≡ true
used-back [] vs e = e
used-back (k ∷ us) vs e = used-back us vs (both-parts (is_used k) (are_used (us ++ vs)) e).1

used-in : (ts : List ℕ) (k : ℕ) → are_used ts ≡ true → In k ts → is_used k ≡ true
used-in [] k e i = absurd (nowhere i)
used-in (j ∷ ts) k e i =
    let p = both-parts (is_used j) (are_used ts) e in
    ⊎_elim (λ (q : k ≡ j). ap is_used q ∙ p.0) (λ (q : In k ts). used-in ts k p.1 q) (cases i)

not-stray : (ts : List ℕ) → are_used ts ≡ true → In kind.other ts → ⊥
unfolding every
not-stray ts e i = let q = used-in ts kind.other e i in let z : ◌≡◌ {A = ℕ} 0 1 = cc in omega arith

-- 01, Model text: any other byte is a token that fits nowhere: no text with it fits, and no fitting text begins with tokens among which it is
pub stray-fits-nowhere : (ts : List ℕ) (m : Model) → Reads ts m → In kind.other ts → ⊥
stray-fits-nowhere ts m r i = not-stray ts (fits-used ts m r) i

pub stray-begins-nothing : (us : List ℕ) → Viable us → In kind.other us → ⊥
unfolding Viable
stray-begins-nothing us b i = not-stray us (used-front us b.1 (fits-used _ b.0 b.2)) i

-- ---- tokens of such kinds

found : (k : ℕ) (xs : List Spelt) → among k xs ≡ true → (x : Spelt) × (x.kind ≡ k)
found k [] e = absurd (let z : ◌≡◌ {A = ℕ} 0 1 = cc in omega arith)
found k (x ∷ xs) e = by (eqb k x.kind) refl (λ f. found k xs (sym (ap (λ (b : Bool). b || among k xs) f) ∙ e))
  where
    by : (b : Bool) → eqb k x.kind ≡ b → (eqb k x.kind ≡ false → (y : Spelt) × (y.kind ≡ k)) → (y : Spelt) × (y.kind ≡ k)
    by true f more = (x, sym (eqb-true k x.kind f))
    by false f more = more f

-- tokens of these kinds
pub spelt-as : (ts : List ℕ) → are_used ts ≡ true → (xs : List Spelt) × (kinds xs ≡ ts)
spelt-as [] e = ([], refl)
spelt-as (k ∷ ts) e =
    let p = both-parts (is_used k) (are_used ts) e in
    let f = found k every p.0 in
    let r = spelt-as ts p.1 in
    (f.0 ∷ r.0, ap₂ (λ (j : ℕ) (l : List ℕ). j ∷ l) f.1 r.1)
